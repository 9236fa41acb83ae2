-- What is kept of the columns stays right: those that moves may change are marked, the others are as they were. Assumes nothing.
use Prim.Native.Nat.{ℕ, ◌*◌, ◌+◌, ◌<◌, ◌≤◌}
use native.Mathlib.Omega.{arith}
use mathlib.Core.Path.{◌∙◌, ◌≡◌, ap, ap₂, refl, subst, sym}
use mathlib.Core.Logic.{inl, inr}
use mathlib.Core.Bool.{Bool, false, true}
use lib.Dec.{T}
use mathlib.Core.List.{List, [], ◌∷◌}
use lib.IntN.{ℤ}
use lib.ListN.{get_or, get_or-replicate, length, length-replicate, replicate}
use Rattle.area.specs.Stages.{Stands}
use Rattle.choices.specs.Tops.{TopsKnown, UnitsKnown, column_top, column_units}
use Rattle.mark_columns.specs.Columns.{MarkedOr}
use Rattle.marks.specs.Marks.{Beside, Clicked, Marked, Quiet}
use Rattle.game.specs.Grid.{Grid, safe, size, zero_cell}
use Rattle.game.specs.Moves.{left}
use Rattle.game.specs.Position.{Position, closed}
use Rattle.game.specs.Rounds.{choice, moves_at, step_of, top_cells}
use Rattle.moves.specs.Promises.{Made}
use Rattle.rounds.specs.Promises.{MadeKnown, StepKnown, column_after}
use Rattle.moves.specs.declared.State.{State}
use Rattle.rounds.specs.declared.Stepped.{Stepped}
use Rattle.rounds.proofs.Clicks.{click_low, click_units}
use Rattle.rounds.proofs.Quiet.{click-at, moves-at, quiet_column, quiet_units}

-- nothing is kept before a round: every column is marked
pub none_kept : (openedOnly : Bool) (w : List ℤ) (rows columns n : ℕ) → columns ≤ n → TopsKnown openedOnly w rows columns (replicate n 0)
none_kept openedOnly w rows columns n h =
    record { room = omega (arith, length-replicate {A = ℕ} n 0); right = λ c b f. absurd (f (get_or-replicate {A = ℕ} n c 0 0 (omega arith))) }

-- no unit has been counted either
pub no_units_kept : (w : List ℤ) (rows columns n : ℕ) (marks : List ℕ) → columns ≤ n → UnitsKnown w rows columns marks (replicate n 0)
no_units_kept w rows columns n marks h =
    record { room = omega (arith, length-replicate {A = ℕ} n 0); right = λ c b m f. absurd (f (get_or-replicate {A = ℕ} n c 0 0 (omega arith))) }

-- columns that are not marked and have what they had keep what is kept of them
module _ (P : ℕ → Type 0) (w w' : List ℤ) (rows columns : ℕ) (tops tops' : List ℕ) (long : length tops' ≡ length tops) (marks : (c : ℕ) → MarkedOr (P c) tops tops' c) where
  tops_kept : (openedOnly : Bool) → ((c : ℕ) → c < columns → P c → column_top openedOnly w' rows c ≡ column_top openedOnly w rows c)
      → TopsKnown openedOnly w rows columns tops → TopsKnown openedOnly w' rows columns tops'
  tops_kept openedOnly same k = record { room = omega (arith, k.room, long); right = λ c b n. go c b n (marks c) }
    where
      go : (c : ℕ) → c < columns → (get_or tops' c 0 ≡ 0 → ⊥) → MarkedOr (P c) tops tops' c → get_or tops' c 0 ≡ column_top openedOnly w' rows c + 1
      go c b n (inl z) = absurd (n z)
      go c b n (inr (e, p)) = e ∙ k.right c b (λ z. n (e ∙ z)) ∙ ap (λ (x : ℕ). x + 1) (sym (same c b p))

  units_still : ((c : ℕ) → c < columns → P c → column_units w' rows c ≡ column_units w rows c)
      → (units : List ℕ) → UnitsKnown w rows columns units units → UnitsKnown w' rows columns tops' units
  units_still same units k = record { room = k.room; right = λ c b n m. go c b n m (marks c) }
    where
      go : (c : ℕ) → c < columns → (get_or tops' c 0 ≡ 0 → ⊥) → (get_or units c 0 ≡ 0 → ⊥) → MarkedOr (P c) tops tops' c → get_or units c 0 ≡ column_units w' rows c + 1
      go c b n m (inl z) = absurd (n z)
      go c b n m (inr (e, p)) = k.right c b m m ∙ ap (λ (x : ℕ). x + 1) (sym (same c b p))

module _ (rows columns : ℕ) (g : Grid) (s : Position) (old w w' : List ℤ) (i : ℕ) (h : i < rows * columns) (st : Stands rows columns g s old w) (tops tops' : List ℕ)
    (list : List ℕ) (t : State) (list' : List ℕ) (t' : State) (openedOnly : Bool) where
  inside : i < size g
  inside = omega (arith, ap₂ ◌*◌ st.rows_are st.columns_are)

  -- the moves at a chosen cell
  pub act_kept : Marked g s i tops tops' → Made rows columns g s old (moves_at g s i) list t w' list' t'
      → MadeKnown openedOnly rows columns g s old (moves_at g s i) list w tops t w' list' tops' t'
  act_kept f m =
      record {
        made = m;
        kept = tops_kept (Quiet g s i) w w' rows columns tops tops' f.long f.marks openedOnly
            (quiet_column g s i inside (moves_at g s i) (moves-at g s i) rows columns old w w' st m.stands openedOnly);
        units_kept = units_still (Quiet g s i) w w' rows columns tops tops' f.long f.marks
            (quiet_units g s i inside (moves_at g s i) (moves-at g s i) rows columns old w w' st m.stands);
      }

  -- one L, where no premium reaches 0
  pub click_kept : Clicked g s i tops tops' → T (safe g i) → T (closed s i) → top_cells openedOnly g s ≡ [] → Made rows columns g s old (left i ∷ []) list t w' list' t'
      → MadeKnown openedOnly rows columns g s old (left i ∷ []) list w tops t w' list' tops' t'
  click_kept f is_safe shut none m =
      record {
        made = m;
        kept = tops_kept (Beside g s i) w w' rows columns tops tops' f.long f.marks openedOnly (λ c b q. top c b q (zero_cell g i) refl);
        units_kept = units_still (Beside g s i) w w' rows columns tops tops' f.long f.marks (λ c b q. units c b q (zero_cell g i) refl);
      }
    where
      numbered : zero_cell g i ≡ false → T (zero_cell g i) → ⊥
      numbered e z = subst T e z

      top : (c : ℕ) → c < columns → Beside g s i c → (z : Bool) → zero_cell g i ≡ z → column_top openedOnly w' rows c ≡ column_top openedOnly w rows c
      top c b q true e = quiet_column g s i inside (left i ∷ []) (click-at g i) rows columns old w w' st m.stands openedOnly c b (q.quiet (subst T (sym e) tt))
      top c b q false e = click_low g s i is_safe shut (numbered e) rows columns old w w' st m.stands c b q.other openedOnly none

      units : (c : ℕ) → c < columns → Beside g s i c → (z : Bool) → zero_cell g i ≡ z → column_units w' rows c ≡ column_units w rows c
      units c b q true e = quiet_units g s i inside (left i ∷ []) (click-at g i) rows columns old w w' st m.stands c b (q.quiet (subst T (sym e) tt))
      units c b q false e = click_units g s i is_safe shut (numbered e) rows columns old w w' st m.stands c b q.other

-- a step whose moves were made, and the column that it hands on
pub step_kept : (openedOnly : Bool) (rows columns : ℕ) (g : Grid) (s : Position) (old : List ℤ) (list : List ℕ) (w : List ℤ) (tops : List ℕ) (t : State) (from : ℕ) (w' : List ℤ) (list' tops' : List ℕ) (r : Stepped)
    → MadeKnown openedOnly rows columns g s old (step_of g s (choice openedOnly g s) 0).moves list w tops t w' list' tops' r.state × (r.from ≡ column_after g (choice openedOnly g s) from)
    → TopsKnown openedOnly w rows columns tops → StepKnown openedOnly rows columns g s old list t from w' list' tops' r
step_kept openedOnly rows columns g s old list w tops t from w' list' tops' r m k = record { made = m.0.made; kept = m.0.kept k; column = m.1 }
