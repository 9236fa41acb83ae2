-- Where it is certain, a count stops: there, no unit lacks, or more than there are cells ahead. Assumes nothing.
use Prim.Native.Nat.{ℕ, ◌-◌, ◌<◌, ◌≤◌}
use native.Mathlib.Omega.{arith}
use native.Mathlib.Decide.{ℕ_discrete}
use mathlib.Core.Path.{◌∙◌, ◌≡◌, refl, subst, sym}
use mathlib.Core.Logic.{◌⊎◌, inl, inr, ⊎_elim}
use mathlib.Core.Bool.{Bool, ◌||◌, false, true}
use mathlib.Core.List.{List}
use borrow.Author.Tests.{eqb-false, ltb-false}
use lib.Dec.{T, eqb, eqb→eq, ltb, ltb→lt}
use lib.IntN.{ℤ}
use Rattle.area.specs.Numbers.{HasCells}
use Rattle.area.specs.Stages.{loaded_five}
use Rattle.game.specs.Area.{laid}
use Rattle.game.specs.Grid.{Grid, size}
use Rattle.game.proofs.Early.{lacks_more, lacks_none}
use Rattle.game.proofs.Truth.{or_cases, or_no}
use Rattle.early.specs.Walks.{Beyond, Counting, Glanced, Stopped, Walked}
use Rattle.early.specs.declared.walks.Stop.{Stop}
use Rattle.early.proofs.Looked.{nothing_counted}
use Rattle.early.proofs.Unchanged.{beyond_loaded, beyond_same, beyond_then}

-- no unit lacks, or more than there are cells left
abbrev Ended : ℕ → ℕ → Type 0
Ended lacking left = (lacking ≡ 0) ⊎ (left < lacking)

ended : (lacking left : ℕ) (r : Bool) → r ≡ (eqb lacking 0 || ltb left lacking) → r ≡ true → Ended lacking left
ended lacking left r e t =
    ⊎_elim (λ u. inl (eqb→eq lacking 0 u)) (λ u. inr (ltb→lt left lacking u)) (or_cases (eqb lacking 0) (ltb left lacking) (subst T (sym t ∙ e) tt))

-- where it is not certain, units lack, but not more than there are cells left
pub goes_on : (lacking left : ℕ) (r : Bool) → r ≡ (eqb lacking 0 || ltb left lacking) → r ≡ false → (1 ≤ lacking) × (lacking ≤ left)
goes_on lacking left r e f =
    let n = or_no (eqb lacking 0) (ltb left lacking) (sym e ∙ f) in
    let some = eqb-false lacking 0 n.0 in
    let few = ltb-false left lacking n.1 in
    (omega arith, omega arith)

module _ (g : Grid) (units : ℕ) (old : List ℤ) where
  stopped : (r : Stop) (w : List ℤ) → Counting g units r.cell r.lacking → Ended r.lacking (size g - r.cell) → Beyond (size g) old w → Stopped g units old r w
  stopped r w c e b =
      record {
        stops = record {
          is_certain = ⊎_elim (lacks_none g units r.cell r.lacking c.counts) (lacks_more g units r.cell r.lacking c.counts) e;
          none_before = c.open_before;
        };
        counts = c.counts;
        beyond = b;
      }

  -- before the first cell
  pub stopped_at_once : (t : Bool) → t ≡ (eqb units 0 || ltb (size g - 0) units) → t ≡ true → Stopped g units old (record { cell = 0; lacking = units }) old
  stopped_at_once t e q = stopped (record { cell = 0; lacking = units }) old (nothing_counted g units) (ended units (size g - 0) t e q) (beyond_same (size g) old)

  module _ (r : Stop) (w : List ℤ) (glance : Glanced g units old r w) where
    -- by a walk over all cells after it
    pub stopped_walked : (w₁ w₂ : List ℤ) (s : Stop) → HasCells w (size g) → w₁ ≡ laid (loaded_five g) (size g) w → Walked g.rows g.columns (size g) (size g) units w₁ s w₂
        → Stopped g units old s w₂
    stopped_walked w₁ w₂ s room is v =
        stopped s w₂ (v.tells g w refl refl (inl refl) room is (inl refl))
        (⊎_elim (λ e. elim (ℕ_discrete s.lacking 0) [ yes z ↦ inl z | no n ↦ inr (omega arith) ]) (λ d. d) v.ends)
        (beyond_then (size g) old w w₂ glance.beyond (beyond_then (size g) w w₁ w₂ (beyond_loaded g (size g) w w₁ room is) v.beyond))
