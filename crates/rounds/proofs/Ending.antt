-- From a position on: the first steps, then those by premium. A whole round has at most as many moves as cells, so its list is written in order. Assumes nothing.
use Prim.Native.Nat.{ℕ, ◌*◌, ◌≤◌}
use native.Mathlib.Omega.{arith}
use native.Mathlib.Nat.{zero-add}
use mathlib.Core.Path.{◌∙◌, ◌≡◌, ap, ap₂, sym}
use mathlib.Core.Bool.{Bool, false, true}
use mathlib.Core.List.{List, ◌++◌, map}
use lib.IntN.{ℤ}
use lib.ListN.{drop, length, length-map}
use lib.Seq.{sets, sets-eq}
use Rattle.moves.specs.declared.State.{State}
use Rattle.area.specs.Stages.{Stands}
use Rattle.game.specs.Area.{list_of}
use Rattle.game.specs.Demands.{Sound}
use Rattle.game.specs.Grid.{Grid}
use Rattle.game.specs.Moves.{Move, after, word}
use Rattle.game.specs.Openings.{three_bv}
use Rattle.game.specs.Position.{Position, Tidy, closed_units, untouched}
use Rattle.game.specs.Rounds.{first_steps, moves_of, round_steps, steps_from, steps_on}
use Rattle.moves.specs.Promises.{Made}
use Rattle.rounds.specs.Promises.{Fresh, Going, RoundPlayed}
use Rattle.game.proofs.Onwards.{first_falls, round_on}
use Rattle.game.proofs.Rounds.{greedy_sound, openings_first_sound}
use Rattle.game.proofs.Runs.{moves_append}
use Rattle.game.proofs.Tidy.{untouched_tidy}
use Rattle.game.proofs.Units.{units_untouched}
use Rattle.moves.proofs.Joins.{made_both}

-- ---- from a position on

pub went_on : (rows columns : ℕ) (g : Grid) (s : Position) (old : List ℤ) (first : Bool) (list : List ℕ) (t : State) (v : List ℤ) (l : List ℕ) (u : State) (w' : List ℤ) (list' : List ℕ) (t' : State)
    → Tidy g s → Made rows columns g s old (moves_of (first_steps first g s)) list t v l u
    → ((p : Position) (n : ℕ) → Stands rows columns g p old v → Tidy g p → u.units ≡ closed_units g p → closed_units g p ≤ n → Made rows columns g p old (moves_of (steps_from n first g p)) l u w' list' t')
    → Made rows columns g s old (moves_of (steps_on first g s)) list t w' list' t'
unfolding steps_on
went_on rows columns g s old first list t v l u w' list' t' f a ends =
    let hit = after g s (moves_of (first_steps first g s)) in
    let rest = steps_from (closed_units g s) first g hit in
    rw (moves_append (first_steps first g s) rest)
    (made_both rows columns g s old (moves_of (first_steps first g s)) (moves_of rest) list t v l u w' list' t' a
    (ends hit (closed_units g s) a.stands a.tidy a.left_units (first_falls first g s f)))

-- ---- the round

round_sound : (first : Bool) (g : Grid) → Sound g (round_steps first g)
round_sound false g = greedy_sound g
round_sound true g = openings_first_sound g

-- moves noted from the first place on
pub listed_moves : (ms : List Move) (list : List ℕ) → length ms ≤ length list → sets list 0 (map word ms) ≡ list_of ms list
unfolding list_of
listed_moves ms list h =
    sets-eq (map word ms) list 0 (omega (arith, length-map ms word)) ∙ ap (λ (k : ℕ). map word ms ++ drop k list) (zero-add (length (map word ms)))

-- the untouched position is one to go on from
pub fresh_going : (rows columns : ℕ) (w : List ℤ) (t : State) → Fresh rows columns w t.units → Going rows columns w t
fresh_going rows columns w t f =
    record { grid = f.grid; position = untouched f.grid; old = f.old; stands = f.stands; tidy = untouched_tidy f.grid; counts = f.counts ∙ sym (units_untouched f.grid) }

pub rounded : (rows columns : ℕ) (g : Grid) (old w : List ℤ) (first : Bool) (list : List ℕ) (t : State) (w' : List ℤ) (list' : List ℕ) (t' : State)
    → Stands rows columns g (untouched g) old w → t.units ≡ three_bv g → rows * columns ≤ length list
    → (Tidy g (untouched g) → t.units ≡ closed_units g (untouched g)
    → Made rows columns g (untouched g) old (moves_of (steps_on first g (untouched g))) list t w' list' t')
    → t.moves ≡ 0 → RoundPlayed rows columns g old (moves_of (round_steps first g)) list t'.moves w' list'
rounded rows columns g old w first list t w' list' t' st units room goes none =
    let ms = moves_of (round_steps first g) in
    let m : Made rows columns g (untouched g) old ms list t w' list' t' =
    rw (round_on first g) (goes (untouched_tidy g) (units ∙ sym (units_untouched g))) in
    let d = round_sound first g in
    record {
      clicks = omega (arith, m.clicks);
      stands = m.stands;
      none_left = d.finished;
      listed = m.noted ∙ ap (λ (k : ℕ). sets list k (map word ms)) none ∙ listed_moves ms list (omega (arith, d.at_most_units, d.units_at_most, ap₂ ◌*◌ st.rows_are st.columns_are));
    }
