-- `inputs::standing_by`: the line feed is looked for among the last bytes only. Assumes nothing.
use Rattle.std.proofs.Common.{◌+◌, ◌-◌, ◌≡◌, ℕ, Bool, true, false, List, take, drop, ap, sym, ◌∙◌, arith}
use borrow.Author.Tests.{ne_eqb}
use Rattle.game.specs.Lists.{has}
use Rattle.inputs.specs.Beginnings.{line_ends}
use Rattle.inputs.proofs.Standings.{enough_last}
use Rattle.inputs.proofs.standing_by.Goals as goal

-- what was looked for, where a line is asked for
looked : (line : Bool) (held : List ℕ) (count more : ℕ) → line ≡ true → line_ends line (take more (drop count held)) ≡ has 10 (take (count + more - count) (drop count held))
looked line held count more e =
    let last : count + more - count ≡ more = omega arith in
    ap (λ (b : Bool). line_ends b (take more (drop count held))) e
    ∙ ap (λ (n : ℕ). has 10 (take n (drop count held))) (sym last)

pub returns-then-has_end : goal.returns-then-has_end
returns-then-has_end c =
    let a = c.args in
    enough_last a.line a.held.now a.count c.requires.held_value a.more c.requires.more_in_bounds false true (ne_eqb _ _ c.if-total-held.false)
    (looked a.line a.held.now a.count a.more c.if-not-line.false ∙ sym c.has_end.ensures ∙ c.if-has_end.true)

pub returns : goal.returns
returns c =
    let a = c.args in
    enough_last a.line a.held.now a.count c.requires.held_value a.more c.requires.more_in_bounds false false (ne_eqb _ _ c.if-total-held.false)
    (looked a.line a.held.now a.count a.more c.if-not-line.false ∙ sym c.has_end.ensures ∙ c.if-has_end.false)
