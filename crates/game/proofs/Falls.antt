-- No step closes a cell again, and none has more moves than it takes units. Assumes nothing.
use Prim.Native.Nat.{◌+◌, ◌≤◌}
use native.Mathlib.Omega.{arith}
use mathlib.Core.Path.{◌≡◌, subst, sym}
use mathlib.Core.List.{List, [], ◌∷◌}
use lib.Dec.{T}
use lib.ListN.{length}
use Rattle.game.specs.Grid.{Grid, cells, size, square}
use Rattle.game.specs.Moves.{Move, after, chord, flag, left, play, unflag}
use Rattle.game.specs.Openings.{openings, three_bv, unlabelled}
use Rattle.game.specs.Position.{Position, Tidy, cell_unit, closed_units, opening_closed, unopened}
use Rattle.game.specs.Rounds.{Step, after_step}
use Rattle.game.proofs.Counts.{count_le, count_mono}
use Rattle.game.proofs.Narrow.{AllNarrow, Narrow, by_chord, by_flag, by_left, narrow, narrow→, play_chord, play_flag, play_left, play_tidy}
use Rattle.game.proofs.Reveal.{Fewer, fold_fewer, reveal_fewer, set_fewer}
use Rattle.game.proofs.Runs.{Fits, chosen_numbered, fit_narrow, moves_cost, pays, unit, unit_takes}
use Rattle.game.proofs.Truth.{and_left}
use Rattle.game.proofs.Units.{units_moves}

-- ---- what is closed was closed before

play_fewer : (g : Grid) (s : Position) (m : Move) → T (narrow g s m) → length s ≡ size g → Fewer s (play g s m)
play_fewer g s m t l = go m (narrow→ g s m t)
  where
    go : (m : Move) → Narrow g s m → Fewer s (play g s m)
    go (left i) (by_left h a c) = subst (Fewer s) (sym (play_left g s i a)) (reveal_fewer g s i l)
    go (flag i) (by_flag h a c) = subst (Fewer s) (sym (play_flag g s i)) (set_fewer s i 2 c)
    go (chord i) (by_chord h o a) = subst (Fewer s) (sym (play_chord g s i l a)) (fold_fewer g (square g i) s l)
    go (unflag _) w = elim w [ ]

after_fewer : (g : Grid) (ms : List Move) (s : Position) → AllNarrow g s ms → Tidy g s → Fewer s (after g s ms)
after_fewer g [] s h f j t = t
after_fewer g (m ∷ ms) s h f j t =
    play_fewer g s m h.1 f.long j (after_fewer g ms (play g s m) h.2 (play_tidy g s m h.1 f) j t)

-- a step closes nothing again
pub step_fewer : (g : Grid) (s : Position) (t : Step) → Tidy g s → Fits g s t → Fewer s (after_step g s t)
step_fewer g s t f p = after_fewer g t.moves s (fit_narrow g s t f p) f

-- ---- clicks

-- a step has at most as many moves as it takes units
pub step_pays : (g : Grid) (s : Position) (t : Step) → Tidy g s → Fits g s t → length t.moves + closed_units g (after_step g s t) ≤ closed_units g s
step_pays g s t f (pays i h k c) = omega (arith, moves_cost g s i f h k, units_moves g s i f h k (chosen_numbered g s i f h c))
step_pays g s t f (unit i u) = omega (arith, unit_takes g s i f u)

-- no more units are closed than there are
pub units_most : (g : Grid) (s : Position) → closed_units g s ≤ three_bv g
unfolding closed_units three_bv
units_most g s =
    let a = count_le (opening_closed s) (openings g) in
    let b = count_mono (cell_unit g s) (unlabelled g) (cells g) (λ i t. and_left (unlabelled g i) (unopened s i) t) in
    omega arith
