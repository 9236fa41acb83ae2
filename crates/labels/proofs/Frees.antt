-- The 0-cells without label: no change makes more of them, and labelling one leaves one less. Assumes nothing.
use Prim.Native.Nat.{ℕ, ◌+◌, ◌-◌, ◌≤◌}
use native.Mathlib.Omega.{arith}
use native.Mathlib.Decide.{ℕ_discrete, dec_le}
use mathlib.Core.Path.{◌∙◌, ◌≡◌, ap, sym}
use mathlib.Core.Bool.{◌&&◌, false, true}
use mathlib.Core.List.{List}
use borrow.Author.Tests.{eq-eqb, ne_eqb}
use lib.Dec.{T, eqb, eqb→eq}
use lib.IntN.{ℤ}
use Rattle.area.specs.Numbers.{HasCells, first_at, first_place, content_at, content_place, natural}
use Rattle.game.specs.Grid.{Grid, size}
use Rattle.game.specs.Lists.{bit, has, range}
use Rattle.labels.specs.Labels.{Fresh, edge_first, free_of, fresh_of, put_label}
use Rattle.labels.specs.Spread.{Change}
use Rattle.game.proofs.Counts.{bit_yes, count_drop, count_le, count_mono}
use Rattle.game.proofs.Members.{length_from, range_has}
use Rattle.game.proofs.Orders.{once_range}
use Rattle.game.proofs.Truth.{and_both, and_left, and_no, and_right}
use Rattle.labels.proofs.Changes.{content_stays, stays}
use Rattle.labels.proofs.Edges.{first_some, labelled_first, labelled_other}

-- a 0-cell without label, by the test
pub fresh_yes? : (w : List ℤ) (i : ℕ) → T (fresh_of w i) → (content_at w i ≡ 1) × (first_at w i ≡ 0)
fresh_yes? w i t = (
  eqb→eq (content_at w i) 1 (and_left (eqb (content_at w i) 1) (eqb (first_at w i) 0) t),
  eqb→eq (first_at w i) 0 (and_right (eqb (content_at w i) 1) (eqb (first_at w i) 0) t),
)

pub fresh_test : (w : List ℤ) (i : ℕ) → content_at w i ≡ 1 → first_at w i ≡ 0 → fresh_of w i ≡ true
fresh_test w i p q = simp (eq-eqb (content_at w i) 1 p, eq-eqb (first_at w i) 0 q)

module _ (g : Grid) (k : ℕ → ℕ) (op : ℕ) (o : 1 ≤ op) where
  -- a cell without label had none before
  pub unlabelled_before : (from : ℕ) (w w1 : List ℤ) → Change g k op from w w1 → (i : ℕ) → first_at w1 i ≡ 0 → first_at w i ≡ 0
  unlabelled_before from w w1 c i e =
      elim (dec_le (size g) i) [
        | yes h ↦ sym (ap natural (c.past (first_place i) (omega arith))) ∙ e
        | no h ↦ elim (ℕ_discrete (first_at w i) 0) [
          | yes q ↦ q
          | no n ↦ absurd (let s = stays g k op o from w w1 c i (omega arith) (omega arith) in omega arith)
        ]
      ]

  pub free_le : (from : ℕ) (w w1 : List ℤ) → Change g k op from w w1 → free_of (size g) w1 ≤ free_of (size g) w
  unfolding free_of
  free_le from w w1 c =
      count_mono (fresh_of w1) (fresh_of w) (range 0 (size g)) (λ i t.
      let f = fresh_yes? w1 i t in
      rw (fresh_test w i (sym (content_stays g k op o from w w1 c i) ∙ f.0) (unlabelled_before from w w1 c i f.1)) tt)

pub free_labelled : (n op : ℕ) → 1 ≤ op → (w : List ℤ) (i : ℕ) → HasCells w n → Fresh n w i → free_of n (put_label w i op) + 1 ≡ free_of n w
unfolding free_of
free_labelled n op o w i room f =
    let d = count_drop (fresh_of w) (fresh_of (put_label w i op)) i (range 0 n) (once_range 0 n) other gone in
    let one : bit (has i (range 0 n) && fresh_of w i) ≡ 1 =
    bit_yes (has i (range 0 n) && fresh_of w i) (and_both (has i (range 0 n)) (fresh_of w i) (range_has 0 n i (omega arith) f.inside) (rw (fresh_test w i f.zero-cell f.unlabelled) tt)) in
    omega arith
  where
    other : (x : ℕ) → (x ≡ i → ⊥) → fresh_of w x ≡ fresh_of (put_label w i op) x
    other x n =
        let a : content_at (put_label w i op) x ≡ content_at w x = ap natural (labelled_other w i op (content_place x) (λ e. omega arith) (λ e. omega arith)) in
        let b : first_at (put_label w i op) x ≡ first_at w x = ap natural (labelled_other w i op (first_place x) (λ e. n (omega arith)) (λ e. omega arith)) in
        simp (a, b)

    gone : fresh_of (put_label w i op) i ≡ false
    gone =
        let b : first_at (put_label w i op) i ≡ edge_first op (first_at w i) = ap natural (labelled_first w i op (omega (arith, f.inside))) in
        let s = first_some op o (first_at w i) in
        and_no (eqb (content_at (put_label w i op) i) 1) (eqb (first_at (put_label w i op) i) 0) (ne_eqb (first_at (put_label w i op) i) 0 (λ e. omega arith))

pub free_few : (n : ℕ) (w : List ℤ) → free_of n w ≤ n
unfolding free_of
free_few n w = omega (arith, count_le (fresh_of w) (range 0 n), length_from (n - 0) 0)
