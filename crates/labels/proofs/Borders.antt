-- A border label put at a cell, a cell that labelling leaves as it is, and a call ready after another. Assumes nothing.
use Prim.Native.Nat.{ℕ, ◌*◌, ◌<◌, ◌≤◌}
use native.Mathlib.Omega.{arith}
use native.Mathlib.Decide.{ℕ_discrete}
use mathlib.Core.Path.{◌≡◌, ap, refl, subst}
use mathlib.Core.Bool.{Bool, ◌&&◌, cond, false, not, true}
use mathlib.Core.List.{List}
use borrow.Author.Tests.{eqb-false, eqb-true, ltb-false, ltb-true}
use lib.Dec.{T, eqb, ltb}
use lib.IntN.{pos, ℤ}
use lib.ListN.{get_or, length}
use Rattle.area.specs.Numbers.{HasCells, first_at, first_place, content_at, natural, waiting_place}
use Rattle.game.specs.Grid.{Grid, size, square}
use Rattle.game.specs.Lists.{has}
use Rattle.labels.specs.Labels.{Fresh, Ready, bordered, put_label}
use Rattle.labels.specs.Spread.{Change, Edge, OpeningLabelled, Reach}
use Rattle.labels.proofs.Changes.{label_change, refl_change}
use Rattle.labels.proofs.Edges.{labelled_first, labelled_other, labelled_second}

-- what putting a border label at a cell comes to
pub record Bordering (g : Grid) (k : ℕ → ℕ) (op from at : ℕ) (w w1 : List ℤ) : Type 0 where
  pub change : Change g k op from w w1
  pub quiet : (x : ℕ) → k x ≡ 1 → first_at w1 x ≡ first_at w x
  pub edge : at < size g → (k at ≡ 1 → ⊥) → Edge op w w1 at
  pub waits : (x : ℕ) → get_or w1 (waiting_place x) (pos 0) ≡ get_or w (waiting_place x) (pos 0)

pub bordering : (g : Grid) (op : ℕ) → 1 ≤ op → (from source at : ℕ) (w w1 : List ℤ) → HasCells w (size g) → Reach g (content_at w) from source
    → (at < size g → T (has at (square g source))) → w1 ≡ bordered (size g) w at op → Bordering g (content_at w) op from at w w1
bordering g op o from source at w w1 room r t q = rw q (go (ltb at (size g)) refl (eqb (content_at w at) 1) refl)
  where
    go : (a : Bool) → ltb at (size g) ≡ a → (b : Bool) → eqb (content_at w at) 1 ≡ b → Bordering g (content_at w) op from at w (cond (a && not b) (put_label w at op) w)
    go true p true e =
        record { change = refl_change g (content_at w) op o from w; quiet = λ x h. refl; edge = λ h f. absurd (f (eqb-true (content_at w at) 1 e)); waits = λ x. refl }
    go false p b e =
        record { change = refl_change g (content_at w) op o from w; quiet = λ x h. refl; edge = λ h f. absurd (let l = ltb-false at (size g) p in omega arith); waits = λ x. refl }
    go true p false e =
        let h = ltb-true at (size g) p in
        let f = eqb-false (content_at w at) 1 e in
        record {
          change = label_change g (content_at w) op o from source w at h room (λ z. absurd (f z)) r (t h);
          quiet = λ x z. ap natural (labelled_other w at op (first_place x) (λ q. f (subst (λ (y : ℕ). content_at w y ≡ 1) (same x q) z)) (λ q. omega arith));
          edge = λ _ _. record { one = labelled_first w at op (omega arith); two = labelled_second w at op (omega arith) };
          waits = λ x. labelled_other w at op (waiting_place x) (λ q. omega arith) (λ q. omega arith);
        }
      where
        same : (x : ℕ) → 5 * x ≡ 5 * at → x ≡ at
        same x q = omega arith

module _ (g : Grid) (op : ℕ) (o : 1 ≤ op) where
  -- nothing to do
  pub opened_not : (w : List ℤ) (i : ℕ) → (Fresh (size g) w i → ⊥) → OpeningLabelled g (content_at w) op i w w
  opened_not w i f =
      record {
        change = refl_change g (content_at w) op o i w;
        closed = λ x h e a b. absurd (omega arith);
        self = λ h e. elim (ℕ_discrete (first_at w i) 0) [
          | yes q ↦ absurd (f (record { inside = h; zero-cell = e; unlabelled = q }))
          | no n ↦ omega arith
        ];
        clear = λ c. c;
      }

-- a call is ready after another that keeps the length
pub ready_again : {rows columns op : ℕ} (w w1 : List ℤ) → Ready rows columns op w → length w1 ≡ length w → Ready rows columns op w1
ready_again w w1 r e = record { shape = r.shape; room = omega (arith, r.room, e); some_label = r.some_label; fits = r.fits }
