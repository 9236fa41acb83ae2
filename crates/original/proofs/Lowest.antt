-- cal_zini and cal_hzini: from the position before any move, hitopenings and the loop take the defined steps. Assumes nothing.
use Prim.Native.Nat.{ℕ, ◌*◌, ◌+◌, ◌≤◌}
use native.Mathlib.Omega.{arith}
use native.Mathlib.Nat.{mul_comm, zero-add}
use mathlib.Core.Path.{◌∙◌, ◌≡◌, ap, ap₂, refl, subst, sym}
use mathlib.Core.Bool.{Bool, ◌&&◌, false, not, true}
use mathlib.Core.List.{List, [], ◌∷◌}
use lib.Dec.{eqb}
use lib.ListN.{length, length-append}
use Rattle.game.specs.Grid.{Grid, cells, mine, safe}
use Rattle.game.specs.Lists.{bit, count, fold, range}
use Rattle.game.specs.Moves.{after}
use Rattle.game.specs.Openings.{three_bv}
use Rattle.game.specs.Position.{Position, Tidy, closed_safe, closed_units, flagged, opened, premium, unopened, untouched}
use Rattle.game.specs.Rounds.{Step, first_clicks, greedy_steps, moves_of, opening_clicks, openings_first_steps, steps_from}
use Rattle.original.specs.Cells.{Zcell, at}
use Rattle.original.specs.Entries.{cal_hzini, cal_zini, prepared}
use Rattle.original.specs.Play.{State, hitopenings}
use Rattle.original.specs.Rounds.{begin, mines_of, zini_loop, zinialg}
use Rattle.game.proofs.Counts.{count_ext}
use Rattle.game.proofs.Tidy.{untouched_tidy}
use Rattle.game.proofs.Rounds.{clicks_run}
use Rattle.game.proofs.Runs.{Run, moves_append, run_falls, run_tidy}
use Rattle.game.proofs.Squares.{cells→, length_cells}
use Rattle.game.proofs.Truth.{and_true}
use Rattle.game.proofs.Units.{units_at_most_cells, units_untouched}
use Rattle.game.proofs.Untouched.{unopened_untouched, untouched_at}
use Rattle.original.proofs.Loops.{loop-clicks}
use Rattle.original.proofs.Positions.{Models, board_ext}
use Rattle.original.proofs.Ready.{prepared_table}
use Rattle.original.proofs.Hits.{hit_stands, hit_turn}

-- ---- before any move

count_not : (p : ℕ → Bool) (xs : List ℕ) → count (λ i. not (p i)) xs + count p xs ≡ length xs
count_not p [] = refl
count_not p (x ∷ xs) = omega (arith, count_not p xs, one (p x))
  where
    one : (b : Bool) → bit (not b) + bit b ≡ 1
    one true = refl
    one false = refl

pub begin_stands : (g : Grid) → Models g (untouched g) 0 (begin (prepared g) g.columns g.rows)
unfolding closed_safe
begin_stands g =
    record {
      kept = premium g (untouched g);
      board = board_ext g (λ i. false) (opened (untouched g)) (λ i. false) (flagged (untouched g)) (premium g (untouched g)) (premium g (untouched g)) (prepared g)
          (λ i h. sym (ap (λ (x : ℕ). eqb x 1) (untouched_at g i h))) (λ i h. sym (ap (λ (x : ℕ). eqb x 2) (untouched_at g i h))) (λ i h. refl) (prepared_table g);
      exact = λ i h t. refl;
      clicks = refl;
      left = omega (
        arith,
        mul_comm g.columns g.rows,
        count_not (mine g) (cells g),
        length_cells g,
        count_ext (λ i. safe g i && unopened (untouched g) i) (safe g) (cells g) (λ i t. ap (λ (b : Bool). safe g i && b) (unopened_untouched g i (cells→ g i t)) ∙ sym (and_true (safe g i))),
      );
    }

pub mines_counted : (g : Grid) → mines_of (prepared g) ≡ count (mine g) (cells g)
mines_counted g =
    ap (λ (l : ℕ). count (λ i. (at (prepared g) i).mine) (range 0 l)) (prepared_table g).long
    ∙ count_ext (λ i. (at (prepared g) i).mine) (mine g) (cells g) (λ i t. ap (λ (z : Zcell). z.mine) ((prepared_table g).reads i (cells→ g i t)))

-- as many turns as there are cells are enough
pub enough_turns : (g : Grid) → closed_units g (untouched g) ≤ g.columns * g.rows
enough_turns g = omega (arith, units_untouched g, units_at_most_cells g, mul_comm g.columns g.rows)

-- ---- cal_zini

pub greedy_equal : (g : Grid) → cal_zini g ≡ length (moves_of (greedy_steps g))
unfolding cal_zini zinialg greedy_steps
greedy_equal g =
    ap (λ (m : ℕ). (zini_loop (g.columns * g.rows) g.rows false m (begin (prepared g) g.columns g.rows)).zini) (mines_counted g)
    ∙ loop-clicks (g.columns * g.rows) (three_bv g) false g (untouched g) 0 (begin (prepared g) g.columns g.rows) (begin_stands g) (untouched_tidy g) (enough_turns g) (omega (arith, units_untouched g))
    ∙ zero-add (length (moves_of (steps_from (three_bv g) false g (untouched g))))

-- ---- cal_hzini

pub openings_first_equal : (g : Grid) → cal_hzini g ≡ length (moves_of (openings_first_steps g))
unfolding cal_hzini zinialg hitopenings openings_first_steps first_clicks
openings_first_equal g =
    ap₂ (λ m l. (zini_loop (g.columns * g.rows) g.rows true m (fold (hit_turn g) st (range 0 l))).zini) (mines_counted g) (prepared_table g).long
    ∙ loop-clicks (g.columns * g.rows) (three_bv g) true g hit (length (moves_of first)) (fold (hit_turn g) st (cells g)) stands played (omega (arith, fewer, enough_turns g)) (omega (arith, fewer, units_untouched g))
    ∙ sym (ap length (moves_append first (steps_from (three_bv g) true g hit)) ∙ length-append (moves_of first) (moves_of (steps_from (three_bv g) true g hit)))
  where
    st : State
    st = begin (prepared g) g.columns g.rows

    first : List Step
    first = opening_clicks g (untouched g) (cells g)

    hit : Position
    hit = after g (untouched g) (moves_of first)

    runs : Run g (untouched g) first
    runs = clicks_run g (cells g) (untouched g) (cells→ g) (untouched_tidy g)

    played : Tidy g hit
    played = run_tidy g (untouched g) first (untouched_tidy g) runs

    fewer : closed_units g hit ≤ closed_units g (untouched g)
    fewer = run_falls g (untouched g) first (untouched_tidy g) runs

    stands : Models g hit (length (moves_of first)) (fold (hit_turn g) st (cells g))
    stands =
        subst (λ (m : ℕ). Models g hit m (fold (hit_turn g) st (cells g))) (zero-add (length (moves_of first)))
        (hit_stands g (cells g) (untouched g) 0 st (cells→ g) (untouched_tidy g) (begin_stands g))
