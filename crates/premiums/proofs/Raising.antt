-- Laid cell by cell, then raised square by square, the work area has the raised premiums before any move: each unlabelled cell adds 1 where counting would find it. Assumes nothing.
use Prim.Native.Nat.{ℕ, ◌%◌, ◌+◌, ◌<◌}
use native.Mathlib.Omega.{arith}
use mathlib.Core.Path.{◌∙◌, ◌≡◌, ap, refl}
use mathlib.Core.Bool.{cond, not}
use mathlib.Core.List.{List}
use lib.Dec.{eqb}
use lib.IntN.{ℤ}
use lib.ListN.{length}
use Rattle.area.specs.Numbers.{HasCells, first_at, content_at, natural, number_at, premium_place, put_premium, put_state, state_place}
use Rattle.area.specs.Squares.{shifted, square_of}
use Rattle.area.specs.Stages.{held, content, raised}
use Rattle.game.specs.Grid.{Grid, cells, size}
use Rattle.game.specs.Lists.{bit, count, fold, has, range}
use Rattle.game.specs.Openings.{first_label, second_label, unlabelled}
use Rattle.game.specs.Position.{untouched}
use Rattle.premiums.specs.Laying.{alone_premium, labels_at, lay_cell, raise_near, unlabelled_at}
use Rattle.game.proofs.Labels.{first-label}
use Rattle.game.proofs.Members.{fold_inv, range_has}
use Rattle.game.proofs.Squares.{cells→, once_cells}
use Rattle.game.proofs.Truth.{T→true}
use Rattle.game.proofs.Untouched.{untouched_at}
use Rattle.area.proofs.CellByCell.{Cell, at, cell_area, fold_acts, made, priced, put-premium, put_state_again, read_first, read_content, read_second, same_area}
use Rattle.area.proofs.Held.{content_mine}
use Rattle.area.proofs.Puts.{put_length, put_there}
use Rattle.premiums.proofs.Priced.{alone, raised_parts}
use Rattle.premiums.proofs.Risen.{length_raised, raise_cells, raises, risen_held, risen_cell, same-risen}

-- ---- laid

pub length_lay : (w : List ℤ) (i : ℕ) → length (lay_cell w i) ≡ length w
length_lay w i =
    put_length (put_premium w i (alone_premium (labels_at w i) (content_at w i))) (state_place i) 0
    ∙ put_length w (premium_place i) (alone_premium (labels_at w i) (content_at w i))

-- labels and contents stay
lay_there : (w : List ℤ) (i k : ℕ) → (k ≡ state_place i → ⊥) → (k ≡ premium_place i → ⊥) → number_at (lay_cell w i) k ≡ number_at w k
lay_there w i k f h =
    ap natural (put_there (put_premium w i (alone_premium (labels_at w i) (content_at w i))) (state_place i) 0 k f
    ∙ put_there w (premium_place i) (alone_premium (labels_at w i) (content_at w i)) k h)

lay_contents : (w : List ℤ) (i n : ℕ) → content_at (fold lay_cell w (range 0 n)) i ≡ content_at w i
lay_contents w i n =
    fold_inv (λ v. content_at v i ≡ content_at w i) lay_cell (range 0 n) (λ v x t e. lay_there v x _ (λ q. omega arith) (λ q. omega arith) ∙ e) w refl

lay_firsts : (w : List ℤ) (i n : ℕ) → first_at (fold lay_cell w (range 0 n)) i ≡ first_at w i
lay_firsts w i n =
    fold_inv (λ v. first_at v i ≡ first_at w i) lay_cell (range 0 n) (λ v x t e. lay_there v x _ (λ q. omega arith) (λ q. omega arith) ∙ e) w refl

-- whether a cell that the pass comes to is unlabelled is as it was
pub lay_unlabelled : (w₀ w : List ℤ) (i n : ℕ) → w ≡ fold lay_cell w₀ (range 0 n) → unlabelled_at w i ≡ unlabelled_at w₀ i
lay_unlabelled w₀ w i n e =
    rw e (rw (lay_contents w₀ i n, lay_firsts w₀ i n) refl)

-- a cell laid
abbrev laid_cell : Cell → Cell
laid_cell c =
    record {
      first = c.first;
      second = c.second;
      premium = alone_premium (bit (not (eqb c.first 0)) + bit (not (eqb c.second 0))) c.content % 2147483648;
      state = 0;
      content = c.content;
    }

module _ (g : Grid) (old : List ℤ) (room : HasCells old (size g)) where
  abbrev n : ℕ
  n = size g

  lay_acts : (C : ℕ → Cell) (i : ℕ) → i < n → lay_cell (cell_area C n old) i ≡ cell_area (at C i (laid_cell (C i))) n old
  lay_acts C i h =
      rw (read_content n old room C i h, read_first n old room C i h, read_second n old room C i h)
      (let v = alone_premium (bit (not (eqb (C i).first 0)) + bit (not (eqb (C i).second 0))) (C i).content in
      ap (λ (w : List ℤ). put_state w i 0) (put-premium n old room C i v h)
      ∙ put_state_again n old room C i 0 (priced v (C i)) h)

  -- from any work area of labels and contents
  pub laid_alone : (C : ℕ → Cell) → ((i : ℕ) → (C i).first ≡ first_label g i) → ((i : ℕ) → (C i).second ≡ second_label g i) → ((i : ℕ) → (C i).content ≡ content g i)
      → fold lay_cell (cell_area C n old) (cells g) ≡ cell_area (risen_cell g (untouched g) (alone g)) n old
  unfolding alone
  laid_alone C firsts seconds contents =
      fold_acts n old room lay_cell laid_cell lay_acts (cells g) C (once_cells g) (cells→ g)
      ∙ same_area n old room (made laid_cell (cells g) C) (risen_cell g (untouched g) (alone g))
      (λ x h. rw (T→true (has x (range 0 n)) (range_has 0 n x (omega arith) h), firsts x, seconds x, contents x, untouched_at g x h))

  -- ---- raised

  -- the squares that the pass raises are those of the unlabelled cells
  near_acts : (p : ℕ → ℕ) (i : ℕ) → i < n → raise_near g.rows g.columns (cell_area (risen_cell g (untouched g) p) n old) i
      ≡ cond (unlabelled g i) (fold (shifted 1 0) (cell_area (risen_cell g (untouched g) p) n old) (square_of g.rows g.columns i)) (cell_area (risen_cell g (untouched g) p) n old)
  near_acts p i h =
      rw (read_content n old room (risen_cell g (untouched g) p) i h, read_first n old room (risen_cell g (untouched g) p) i h, content_mine g i, first-label g i)

  pub raised_all : fold (raise_near g.rows g.columns) (cell_area (risen_cell g (untouched g) (alone g)) n old) (cells g) ≡ held g (untouched g) old
  raised_all =
      raise_cells g (untouched g) old room (raise_near g.rows g.columns) (unlabelled g) near_acts (cells g) (alone g) (cells→ g)
      ∙ same-risen g (untouched g) old room (λ x. alone g x + count (raises g (unlabelled g) x) (cells g)) (raised g (untouched g)) (raised_parts g)
      ∙ risen_held g (untouched g) old room

pub length_near : (rows columns : ℕ) (w : List ℤ) (i : ℕ) → length (raise_near rows columns w i) ≡ length w
length_near rows columns w i = length_raised (unlabelled_at w i) rows columns w i
