-- Tests of one cell in a work area that stands for a position. Assumes nothing.
use Rattle.std.specs.Prelude.{ℕ, ◌<◌, Bool, not, ◌&&◌, ◌||◌, List, T, eqb, ℤ}
use Rattle.area.specs.Numbers.{first_at, content_at, premium_at, state_at}

-- a step may look at the cell: it is opened, unless closed cells count too
abbrev pub looked_at : Bool → List ℤ → ℕ → Bool
looked_at openedOnly w i = not openedOnly || eqb (state_at w i) 1

-- such a cell that has that raised premium
abbrev pub top_at : Bool → ℕ → List ℤ → ℕ → Bool
top_at openedOnly top w i = looked_at openedOnly w i && eqb (premium_at w i) top

-- a closed safe cell of number 0 or without label
abbrev pub unit_at : List ℤ → ℕ → Bool
unit_at w i =
    eqb (state_at w i) 0 && not (eqb (content_at w i) 0) && (eqb (content_at w i) 1 || eqb (first_at w i) 0)

-- no closed unit has an index below k
pub record NoUnitBelow (w : List ℤ) (k : ℕ) : Type 0 where
  pub none : (j : ℕ) → j < k → T (unit_at w j) → ⊥
