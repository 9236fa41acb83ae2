-- A glance at the first 32 columns of a grid: if no 0-cell of the last of them has a label, what a walk over cells of those before it counts is counted in the grid. Assumes nothing.
use Prim.Native.Nat.{ℕ, ◌*◌, ◌+◌, ◌<◌, ◌≤◌}
use native.Mathlib.Omega.{arith}
use native.Mathlib.Decide.{ℕ_discrete}
use native.Mathlib.Nat.{mod-lt, mul-le-mul_left}
use mathlib.Core.Path.{◌≡◌, ap, refl, subst}
use mathlib.Core.Logic.{inr}
use mathlib.Core.Bool.{false, not}
use mathlib.Core.List.{List}
use borrow.Author.Tests.{eq-eqb, ne_eqb}
use lib.Dec.{T, eqb}
use lib.IntN.{ℤ}
use Rattle.area.specs.Numbers.{HasCells, content_at, first_at}
use Rattle.area.specs.Stages.{loaded_five}
use Rattle.game.specs.Area.{laid}
use Rattle.game.specs.Grid.{Grid, column_of, row_of, size}
use Rattle.game.specs.Lists.{range, some_of}
use Rattle.game.proofs.Members.{range_has, some_yes}
use Rattle.game.proofs.Squares.{index_of}
use Rattle.game.proofs.Truth.{and_both}
use Rattle.early.specs.Walks.{Beyond, Glanced, Walked, labelled_zero}
use Rattle.early.specs.declared.walks.Stop.{Stop}
use Rattle.early.proofs.Looked.{nothing_counted}
use Rattle.early.proofs.Unchanged.{beyond_loaded, beyond_more, beyond_then}

-- nothing is decided
pub undecided : (g : Grid) (units : ℕ) (old w : List ℤ) → Beyond (size g) old w → Glanced g units old (record { cell = 0; lacking = units }) w
undecided g units old w b = record { inside = omega arith; beyond = b; tells = λ e. nothing_counted g units }

-- the cells of a column
column_cells : (g : Grid) (column i : ℕ) → 1 ≤ g.rows → column_of g i ≡ column → (column * g.rows ≤ i) × (i < column * g.rows + g.rows)
column_cells g column i h e =
    let k = ap (λ (m : ℕ). m * g.rows + row_of g i) e in
    let l = mod-lt i h in
    (omega (arith, index_of g i), omega (arith, index_of g i))

module _ (g : Grid) (units limit : ℕ) (old w₁ w₂ : List ℤ) (r : Stop) (some : 1 ≤ g.rows) (wide : 64 ≤ g.columns) (room : HasCells old (size g))
    (is : w₁ ≡ laid (loaded_five g) (g.rows * 32) old) (walked : Walked g.rows 32 (size g) limit units w₁ r w₂) where
  columns_few : g.rows * 32 ≤ size g
  columns_few = mul-le-mul_left g.rows (omega arith)

  pub glance_beyond : Beyond (size g) old w₂
  glance_beyond =
      beyond_more (g.rows * 32) (size g) old w₂ columns_few
      (beyond_then (g.rows * 32) old w₁ w₂ (beyond_loaded g (g.rows * 32) old w₁ (omega (arith, columns_few)) is) walked.beyond)

  module _ (few : limit + g.rows ≤ g.rows * 32) (none : some_of (labelled_zero w₂) (range (31 * g.rows) (31 * g.rows + g.rows)) ≡ false) where
    spared : (i : ℕ) → column_of g i + 1 ≡ 32 → content_at w₂ i ≡ 1 → first_at w₂ i ≡ 0
    spared i e z =
        let k = column_cells g 31 i some (omega arith) in
        elim (ℕ_discrete (first_at w₂ i) 0) [
          | yes q ↦ q
          | no n ↦ absurd (subst T none (some_yes (labelled_zero w₂) i (range (31 * g.rows) (31 * g.rows + g.rows)) (range_has (31 * g.rows) (31 * g.rows + g.rows) i k.0 k.1)
              (and_both (eqb (content_at w₂ i) 1) (not (eqb (first_at w₂ i) 0)) (rw (eq-eqb (content_at w₂ i) 1 z) tt) (rw (ne_eqb (first_at w₂ i) 0 n) tt))))
        ]

    pub glanced : Glanced g units old r w₂
    glanced =
        record {
          inside = omega (arith, walked.inside, columns_few);
          beyond = glance_beyond;
          tells = λ e. walked.tells g old refl refl (inr (omega arith, few)) (omega (arith, columns_few)) is (inr (omega arith, spared));
        }
