-- The position before any move, from the passes one after the other. Assumes nothing.
use Prim.Native.Nat.{ℕ, ◌*◌, ◌+◌, ◌<◌, ◌≤◌}
use native.Mathlib.Omega.{arith}
use mathlib.Core.Path.{◌∙◌, ◌≡◌, ap, refl, sym}
use mathlib.Core.Bool.{Bool, ◌&&◌, not}
use mathlib.Core.List.{List}
use lib.Dec.{eqb}
use lib.IntN.{ℤ}
use lib.ListN.{get_or, length}
use Rattle.area.specs.Numbers.{HasCells, first_at}
use Rattle.area.specs.Stages.{Shape, Stands, held, content, labelled_five, moving_five}
use Rattle.game.specs.Area.{laid}
use Rattle.game.specs.Grid.{Grid, cells, safe, size}
use Rattle.game.specs.Lists.{count, fold, range}
use Rattle.game.specs.Openings.{first_label, openings, second_label, three_bv, unlabelled}
use Rattle.game.specs.Position.{Position, closed_safe, unopened, untouched}
use Rattle.premiums.specs.Laying.{lay_cell, raise_near, safe_at, unlabelled_at}
use Rattle.start.specs.Setting.{SetOut, Setting}
use Rattle.game.proofs.Counts.{count_ext}
use Rattle.game.proofs.Labels.{first-label}
use Rattle.game.proofs.Squares.{cells→}
use Rattle.game.proofs.Tidy.{untouched_tidy}
use Rattle.game.proofs.Truth.{and_true}
use Rattle.game.proofs.Units.{units_at_most_cells}
use Rattle.game.proofs.Untouched.{unopened_untouched, untouched_at}
use Rattle.area.proofs.CellByCell.{Cell, cell_area, read_first, read_content, same_area}
use Rattle.area.proofs.Held.{held_cells, held_cell, content_mine}
use Rattle.premiums.proofs.Raising.{laid_alone, raised_all}

-- a labelled cell
abbrev labelled_cell : Grid → ℕ → Cell
labelled_cell g x = record { first = first_label g x; second = second_label g x; premium = 0; state = 0; content = content g x }

labelled_cells : (g : Grid) (old : List ℤ) → laid (labelled_five g) (size g) old ≡ cell_area (labelled_cell g) (size g) old
unfolding labelled_five
labelled_cells g old = refl

-- a cell before the moves of a replay
abbrev moving_cell : Grid → ℕ → Cell
moving_cell g x =
    record { first = first_label g x; second = second_label g x; premium = 0; state = get_or (untouched g) x 0; content = content g x }

module _ (g : Grid) (old : List ℤ) (room : HasCells old (size g)) where
  abbrev w : List ℤ
  w = cell_area (labelled_cell g) (size g) old

  safe_there : (i : ℕ) → i < size g → safe_at w i ≡ safe g i
  safe_there i h = ap (λ (k : ℕ). not (eqb k 0)) (read_content (size g) old room (labelled_cell g) i h) ∙ ap not (content_mine g i)

  unlabelled_there : (i : ℕ) → i < size g → unlabelled_at w i ≡ unlabelled g i
  unlabelled_there i h =
      ap (λ (b : Bool). b && eqb (first_at w i) 0) (safe_there i h)
      ∙ ap (λ (k : ℕ). safe g i && eqb k 0) (read_first (size g) old room (labelled_cell g) i h) ∙ sym (first-label g i)

  -- what is counted in a labelled area: the units
  units_counted : length (openings g) + count (unlabelled_at w) (cells g) ≡ three_bv g
  unfolding three_bv
  units_counted =
      ap (λ (n : ℕ). length (openings g) + n) (count_ext (unlabelled_at w) (unlabelled g) (cells g) (λ i t. unlabelled_there i (cells→ g i t)))

  -- for a replay the safe cells
  safe_counted : count (safe_at w) (cells g) ≡ closed_safe g (untouched g)
  unfolding closed_safe
  safe_counted =
      count_ext (safe_at w) (λ i. safe g i && unopened (untouched g) i) (cells g) (λ i t.
      safe_there i (cells→ g i t) ∙ and_true (safe g i) ∙ ap (λ (b : Bool). safe g i && b) (sym (unopened_untouched g i (cells→ g i t))))

  -- a labelled area is set out for a replay
  pub set_out : (w₁ : List ℤ) (s : ℕ) → Shape g.rows g.columns → w₁ ≡ laid (labelled_five g) (size g) old → s ≡ count (safe_at w₁) (cells g)
      → SetOut g.rows g.columns g old s w₁
  unfolding moving_five
  set_out w₁ s h e k =
      let q = e ∙ labelled_cells g old in
      record {
        safe = k ∙ ap (λ (v : List ℤ). count (safe_at v) (cells g)) q ∙ safe_counted;
        moving = record {
          rows_are = refl;
          columns_are = refl;
          shape = h;
          room = room;
          long = (untouched_tidy g).long;
          holds_it = q ∙ same_area (size g) old room (labelled_cell g) (moving_cell g) (λ i l. rw (untouched_at g i l));
        };
      }

  -- laid and raised, from labels and contents
  begun : (C : ℕ → Cell) → ((i : ℕ) → (C i).first ≡ first_label g i) → ((i : ℕ) → (C i).second ≡ second_label g i) → ((i : ℕ) → (C i).content ≡ content g i)
      → (w₁ w₂ w₃ : List ℤ) → w₁ ≡ cell_area C (size g) old → w₂ ≡ fold lay_cell w₁ (cells g) → w₃ ≡ fold (raise_near g.rows g.columns) w₂ (cells g)
      → w₃ ≡ held g (untouched g) old
  begun C firsts seconds contents w₁ w₂ w₃ e₁ e₂ e₃ =
      e₃ ∙ ap (λ (w : List ℤ). fold (raise_near g.rows g.columns) w (cells g))
      (e₂ ∙ ap (λ (w : List ℤ). fold lay_cell w (cells g)) e₁ ∙ laid_alone g old room C firsts seconds contents) ∙ raised_all g old room

  -- the passes one after the other
  pub begun_setting : (w₂ w₃ w₄ : List ℤ) (r b : ℕ) → (r ≡ length (openings g)) × (w₂ ≡ laid (labelled_five g) (size g) old)
      → b ≡ count (unlabelled_at w₂) (cells g) → w₃ ≡ fold lay_cell w₂ (cells g)
      → w₄ ≡ fold (raise_near g.rows g.columns) w₃ (cells g) → Setting g old (r + b) w₄
  begun_setting w₂ w₃ w₄ r b l eb e₃ e₄ =
      let e = l.1 ∙ labelled_cells g old in
      let b_is : b ≡ count (unlabelled_at w) (cells g) = eb ∙ ap (λ (v : List ℤ). count (unlabelled_at v) (cells g)) e in
      record {
        units = omega (arith, l.0, units_counted, b_is);
        work = begun (labelled_cell g) (λ i. refl) (λ i. refl) (λ i. refl) w₂ w₃ w₄ e e₃ e₄;
      }

  -- the position before any move again
  begun_again : (s : Position) (w₀ w₁ w₂ : List ℤ) → w₀ ≡ held g s old → w₁ ≡ fold lay_cell w₀ (cells g)
      → w₂ ≡ fold (raise_near g.rows g.columns) w₁ (cells g) → w₂ ≡ held g (untouched g) old
  begun_again s w₀ w₁ w₂ e₀ e₁ e₂ =
      begun (held_cell g s) (λ i. refl) (λ i. refl) (λ i. refl) w₀ w₁ w₂ (e₀ ∙ held_cells g s old) e₁ e₂

-- the units fit
pub few_openings : (g : Grid) → length (openings g) ≤ size g
unfolding three_bv
few_openings g = omega (arith, units_at_most_cells g)

-- the same, by rows and columns
pub begun_again_by : (rows columns : ℕ) (g : Grid) (s : Position) (old w₀ w₁ w₂ : List ℤ) → Stands rows columns g s old w₀ → w₁ ≡ fold lay_cell w₀ (range 0 (rows * columns))
    → w₂ ≡ fold (raise_near rows columns) w₁ (range 0 (rows * columns)) → w₂ ≡ held g (untouched g) old
begun_again_by rows columns g s old w₀ w₁ w₂ t e₁ e₂ =
    begun_again g old t.room s w₀ w₁ w₂ t.holds_it (e₁ ∙ λ i. fold lay_cell w₀ (range 0 (r i * c i)))
    (e₂ ∙ λ i. fold (raise_near (r i) (c i)) w₁ (range 0 (r i * c i)))
  where
    r : rows ≡ g.rows
    r = sym t.rows_are

    c : columns ≡ g.columns
    c = sym t.columns_are

-- the work area that stands for the untouched grid
pub fresh : (rows columns : ℕ) (g : Grid) (old w : List ℤ) → g.rows ≡ rows → g.columns ≡ columns → Shape rows columns → 5 * size g ≤ length old
    → w ≡ held g (untouched g) old → Stands rows columns g (untouched g) old w
fresh rows columns g old w er ec h room e =
    record { rows_are = er; columns_are = ec; shape = h; room = room; long = (untouched_tidy g).long; holds_it = e }
