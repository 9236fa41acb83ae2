-- What a block comes to, line by line: each line is kept over the one before, and those that ended are answered. Assumes nothing.
use Prim.Native.Nat.{ℕ, suc, ◌*◌, ◌≤◌}
use native.Mathlib.Omega.{arith}
use mathlib.Core.Path.{◌≡◌, refl, ap, sym, ◌∙◌}
use mathlib.Core.Bool.{Bool, false, true}
use mathlib.Core.List.{List, [], ◌∷◌, ◌++◌}
use lib.Dec.{eqb, ltb}
use lib.ListN.{drop, length, length-append, length-set, length-take, set, take, take-append-drop}
use lib.Seq.{drop-set-lt, length-take-le}
use borrow.Author.Tests.{ltb-false, ltb-true}
use Rattle.game.specs.Lists.{concat_map}
use Rattle.line_price.specs.Prices.{answer_line}
use Rattle.line_prices.specs.Blocks.{Cut, Desk, cut_from, desk_after, held_after, kept_over, last_line}
use Rattle.line_prices.specs.Bytes.{Room, block_read, byte_read, desk_of}
use Rattle.line_prices.proofs.Bytes.{own_line}
use Rattle.line_prices.proofs.Desks.{Keeps, Told, block_answers, fed, more_kept, next_line, no_more_kept, past_later}
use Rattle.line_price.proofs.Kept.{answer_long}

-- ---- what is kept

-- a line that is kept already leaves what is kept, wherever the rest is from
kept_there : (line held held₀ : List ℕ) (count : ℕ) → Keeps line held count → drop count held₀ ≡ drop count held → kept_over held₀ line ≡ held
kept_there line held held₀ count k e =
    ap (λ (n : ℕ). take 517 line ++ drop n held₀) (sym k.counted) ∙ ap (λ (l : List ℕ). take 517 line ++ l) e
    ∙ ap (λ (l : List ℕ). l ++ drop count held) (sym k.kept) ∙ take-append-drop count held

-- what is kept after a cut
abbrev pub held_by : List ℕ → Cut → List ℕ
held_by held cut = held_after held cut.ended cut.goes-on

-- what reading the rest of a block keeps
abbrev Rest : List ℕ → Type 0
Rest bs = (line held₀ : List ℕ) (d : Desk) → Keeps line d.held d.count → 517 ≤ length d.held → drop d.count held₀ ≡ drop d.count d.held
    → (block_read d bs).held ≡ held_by held₀ (cut_from line bs)

-- a byte that is no line feed, and the rest
plain_held : (b : ℕ) (bs line held₀ : List ℕ) (d : Desk) → Keeps line d.held d.count → 517 ≤ length d.held → drop d.count held₀ ≡ drop d.count d.held → Rest bs
    → (t : Bool) → ltb d.count 517 ≡ t
    → (block_read (elim t [ true ↦ record { held = set d.held d.count b; count = suc d.count; out = d.out; written = d.written } | false ↦ d ]) bs).held
    ≡ held_by held₀ (cut_from (line ++ b ∷ []) bs)
plain_held b bs line held₀ d k h e rest true c =
    rest (line ++ b ∷ []) held₀ (record { held = set d.held d.count b; count = suc d.count; out = d.out; written = d.written })
    (more_kept line d.held d.count b k h (ltb-true d.count 517 c)) (omega (arith, length-set d.held d.count b))
    (past_later d.count (suc d.count) held₀ d.held (omega arith) e ∙ sym (drop-set-lt (suc d.count) d.held d.count b (omega arith)))
plain_held b bs line held₀ d k h e rest false c =
    rest (line ++ b ∷ []) held₀ d (no_more_kept line d.held d.count b k (ltb-false d.count 517 c)) h e

held-after : (block : List ℕ) → Rest block
held-after [] line held₀ d k h e = sym (kept_there line d.held held₀ d.count k e)
held-after (b ∷ bs) line held₀ d k h e = go (eqb b 10) (held-after bs)
  where
    go : (t : Bool) → Rest bs
        → (block_read
        (elim t [
          | true ↦ fed d
          | false ↦
              elim (ltb d.count 517) [
                | true ↦ record { held = set d.held d.count b; count = suc d.count; out = d.out; written = d.written }
                | false ↦ d
              ]
        ])
        bs).held
        ≡ held_by held₀ (elim t [
          | true ↦ record { ended = line ∷ (cut_from [] bs).ended; goes-on = (cut_from [] bs).goes-on }
          | false ↦ cut_from (line ++ b ∷ []) bs
        ])
    go true rest =
        rest [] d.held (fed d) (next_line d.held) h refl
        ∙ ap (λ (x : List ℕ). held_by x (cut_from [] bs)) (sym (kept_there line d.held held₀ d.count k e))
    go false rest = plain_held b bs line held₀ d k h e rest (ltb d.count 517) refl

-- what a block leaves is what it leaves after the whole line that is kept of
pub held_reads : (block line held₀ held : List ℕ) (count : ℕ) → Keeps line held count → 517 ≤ length held → drop count held₀ ≡ drop count held
    → held_by held (cut_from (take count held) block) ≡ held_by held₀ (cut_from line block)
held_reads block line held₀ held count k h e =
    sym (held-after block (take count held) held (desk_of held count []) (own_line held count h (omega (arith, k.counted, length-take 517 line))) h refl)
    ∙ held-after block line held₀ (desk_of held count []) k h e

-- ---- a block, and the end of input

-- fifteen bytes for each line
answers_long : (lines : List (List ℕ)) → length (concat_map answer_line lines) ≡ 15 * length lines
answers_long [] = refl
answers_long (line ∷ lines) = omega (arith, length-append (answer_line line) (concat_map answer_line lines), answer_long line, answers_long lines)

pub block-desk : (block held : List ℕ) (count : ℕ) (out : List ℕ) → Room (desk_of held count out) (length block)
    → block_read (desk_of held count out) block ≡ desk_after (cut_from (take count held) block) held out
block-desk block held count out r = λ i. record { held = kept i; count = t.keeps.counted i; out = printed i; written = long i }
  where
    own : Keeps (take count held) held count
    own = own_line held count r.held_room r.few

    cut : Cut
    cut = cut_from (take count held) block

    after : Desk
    after = block_read (desk_of held count out) block

    t : Told cut (desk_of held count out) after
    t = block_answers block (take count held) (desk_of held count out) own r.held_room (omega (arith, r.out_room))

    kept : after.held ≡ held_by held cut
    kept = held-after block (take count held) held (desk_of held count out) own r.held_room refl

    long : after.written ≡ length (concat_map answer_line cut.ended)
    long = omega (arith, t.fifteen_each, answers_long cut.ended)

    printed : after.out ≡ concat_map answer_line cut.ended ++ drop (length (concat_map answer_line cut.ended)) out
    printed =
        sym (take-append-drop after.written after.out) ∙ ap (λ (l : List ℕ). l ++ drop after.written after.out) t.says
        ∙ ap (λ (l : List ℕ). concat_map answer_line cut.ended ++ l) t.stands ∙ ap (λ (n : ℕ). concat_map answer_line cut.ended ++ drop n out) long

-- the last line, if anything is kept of it
pub end-desk : (held : List ℕ) (count : ℕ) (out : List ℕ) → Room (desk_of held count out) 1 → (count ≡ 0 → ⊥)
    → byte_read (desk_of held count out) 10 ≡ desk_after (record { ended = last_line (take count held); goes-on = [] }) held out
end-desk held count out r some-kept =
    block-desk (10 ∷ []) held count out r
    ∙ ap (λ (lines : List (List ℕ)). desk_after (record { ended = lines; goes-on = [] }) held out)
    (one_line (take count held) (omega (arith, some-kept, length-take-le count held (omega (arith, r.held_room, r.few)))))
  where
    one_line : (line : List ℕ) → 1 ≤ length line → line ∷ [] ≡ last_line line
    one_line [] h = absurd (omega arith)
    one_line (b ∷ bs) h = refl

-- else there is none
pub end_none : (held out : List ℕ) → desk_of held 0 out ≡ desk_after (record { ended = last_line (take 0 held); goes-on = [] }) held out
end_none held out = refl
