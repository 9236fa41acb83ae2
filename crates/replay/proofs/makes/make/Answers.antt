-- `replay::makes::make`: the kind says which move the word is; once the game is over, past the grid, and of another kind, it is refused. Assumes nothing.
use Prim.Native.Nat.{◌%◌}
use mathlib.Core.Path.{◌∙◌, ◌≡◌, ap, sym}
use Rattle.std.specs.Prelude.{None, Some}
use Rattle.std.specs.ControlFlow.{continue_value}
use Rattle.std.specs.Result.{result_ok}
use Rattle.game.specs.Moves.{chord, flag, left, unflag}
use Rattle.kinds.specs.declared.Kind.TheVariants.{Chord, Flag, Left, Unflag}
use Rattle.replay.proofs.Endings.{goes-on, is-over}
use Rattle.replay.proofs.Words.{as_read, other_kind, over, past, read_kind, read_none}
use Rattle.replay.proofs.makes.make.Goals as goal

pub returns-then-ne : goal.returns-then-ne
returns-then-ne c = let a = c.args in
    let e = c.ending_of in
    λ g s old t f x y. over a.rows a.columns g s old a.work.now a.word t a.left e.result x y e.ensures (is-over e.result c.ne.result c.ne.ensures c.if-ne.true)

pub returns-then-index-rows : goal.returns-then-index-rows
returns-then-index-rows c = let a = c.args in
    λ g s old t f x y. past a.rows a.columns g s old a.work.now a.word t c.if-index-rows.true

pub returns-in_err-ok : goal.returns-in_err-ok
returns-in_err-ok c = let a = c.args in
    let k : result_ok c.try_from.result ≡ None = sym c.ok.ensures.value ∙ c.branch-ok.ensures ∙ ap continue_value c.in_err-ok.is in
    let z : c.from_residual.result ≡ None = search in
    λ g s old t f x y. rw z (other_kind a.rows a.columns g s old a.work.now a.word t (read_none a.word c.try_from.result c.try_from.ensures k))

pub returns-in-Left : goal.returns-in-Left
returns-in-Left c = let a = c.args in
    let e = c.ending_of in
    let q = c.make_left in
    let k : result_ok c.try_from.result ≡ Some Left = sym c.ok.ensures.value ∙ c.branch-ok.ensures ∙ ap continue_value c.in_ok-ok.is ∙ ap Some c.in-Left.is in
    λ g s old t f x y. as_read a.rows a.columns g s old a.work.now a.word t (left (a.word % 65536)) a.left e.result q.result q.new.work
    (read_kind a.word c.try_from.result Left c.try_from.ensures k) x y e.ensures (goes-on e.result c.ne.result c.ne.ensures c.if-ne.false)
    c.if-index-rows.false (q.ensures g s old t (record { closed_are = x; lost_is = y }))

pub returns-in-Flag : goal.returns-in-Flag
returns-in-Flag c = let a = c.args in
    let e = c.ending_of in
    let q = c.make_flag in
    let k : result_ok c.try_from.result ≡ Some Flag = sym c.ok.ensures.value ∙ c.branch-ok.ensures ∙ ap continue_value c.in_ok-ok.is ∙ ap Some c.in-Flag.is in
    λ g s old t f x y. as_read a.rows a.columns g s old a.work.now a.word t (flag (a.word % 65536)) a.left e.result q.result q.new.work
    (read_kind a.word c.try_from.result Flag c.try_from.ensures k) x y e.ensures (goes-on e.result c.ne.result c.ne.ensures c.if-ne.false)
    c.if-index-rows.false (q.ensures g s old t (record { closed_are = x; lost_is = y }))

pub returns-in-Chord : goal.returns-in-Chord
returns-in-Chord c = let a = c.args in
    let e = c.ending_of in
    let q = c.make_chord in
    let k : result_ok c.try_from.result ≡ Some Chord = sym c.ok.ensures.value ∙ c.branch-ok.ensures ∙ ap continue_value c.in_ok-ok.is ∙ ap Some c.in-Chord.is in
    λ g s old t f x y. as_read a.rows a.columns g s old a.work.now a.word t (chord (a.word % 65536)) a.left e.result q.result q.new.work
    (read_kind a.word c.try_from.result Chord c.try_from.ensures k) x y e.ensures (goes-on e.result c.ne.result c.ne.ensures c.if-ne.false)
    c.if-index-rows.false (q.ensures g s old t f (record { closed_are = x; lost_is = y }))

pub returns-in-Unflag : goal.returns-in-Unflag
returns-in-Unflag c = let a = c.args in
    let e = c.ending_of in
    let q = c.make_unflag in
    let k : result_ok c.try_from.result ≡ Some Unflag = sym c.ok.ensures.value ∙ c.branch-ok.ensures ∙ ap continue_value c.in_ok-ok.is ∙ ap Some c.in-Unflag.is in
    λ g s old t f x y. as_read a.rows a.columns g s old a.work.now a.word t (unflag (a.word % 65536)) a.left e.result q.result q.new.work
    (read_kind a.word c.try_from.result Unflag c.try_from.ensures k) x y e.ensures (goes-on e.result c.ne.result c.ne.ensures c.if-ne.false)
    c.if-index-rows.false (q.ensures g s old t (record { closed_are = x; lost_is = y }))
