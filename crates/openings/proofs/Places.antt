-- Labels as places of the openings so far: a new opening adds its number to the cells that it holds. Assumes nothing.
use Prim.Native.Nat.{ℕ, ◌+◌, ◌<◌, ◌≤◌, suc}
use native.Mathlib.Omega.{arith}
use native.Mathlib.Nat.{add_comm}
use mathlib.Core.Path.{◌∙◌, ◌≡◌, ap, refl}
use mathlib.Core.Bool.{Bool, ◌||◌, cond, false, not, true}
use mathlib.Core.List.{List, [], ◌++◌, ◌∷◌, append-nil}
use borrow.Author.Tests.{ne_eqb}
use lib.Dec.{T, eqb, eqb-suc-zero}
use lib.ListN.{get_or, length}
use Rattle.game.specs.Grid.{Grid}
use Rattle.game.specs.Lists.{Each, has, some_of}
use Rattle.game.specs.Openings.{holds, places}
use Rattle.labels.specs.Labels.{edge_first, edge_second}
use Rattle.game.proofs.Labels.{holds_zero, places_from, places_snoc}
use Rattle.game.proofs.Members.{first_of, rest_of}
use Rattle.game.proofs.Openings.{Full}
use Rattle.game.proofs.Zeros.{Zero}

-- ---- a number put after the labels so far

module _ (op : ℕ) where
  -- the labels so far: each from 1 on, and below op
  abbrev Earlier : List ℕ → Type 0
  Earlier ls = (x : ℕ) → T (has x ls) → (1 ≤ x) × (x < op)

  pub first_after : (ls : List ℕ) → Earlier ls → edge_first op (get_or ls 0 0) ≡ get_or (ls ++ (op ∷ [])) 0 0
  unfolding edge_first
  first_after [] f = refl
  first_after (a ∷ ls) f = let h = first_of a ls f in simp (ne_eqb a 0 (λ e. omega arith))

  pub second_after : (ls : List ℕ) → Earlier ls → edge_second op (get_or ls 0 0) (get_or ls 1 0) ≡ get_or (ls ++ (op ∷ [])) 1 0
  unfolding edge_second
  second_after [] f = refl
  second_after (a ∷ []) f = let h = first_of a [] f in simp (ne_eqb a 0 (λ e. omega arith), ne_eqb a op (λ e. omega arith))
  second_after (a ∷ b ∷ ls) f =
      let h = first_of a (b ∷ ls) f in
      let l = first_of b ls (rest_of a (b ∷ ls) f) in
      simp (ne_eqb a 0 (λ e. omega arith), ne_eqb a op (λ e. omega arith), ne_eqb b 0 (λ e. omega arith))

-- ---- the places of the openings that hold a cell

module _ (g : Grid) (j : ℕ) where
  pub earlier : (os : List (List ℕ)) → Earlier (length os + 1) (places g j 1 os)
  earlier os x t = let h = places_from g j 1 os x t in omega arith

  pub places_held : (os : List (List ℕ)) (o : List ℕ) → holds g j o ≡ true → places g j 1 (os ++ (o ∷ [])) ≡ places g j 1 os ++ ((length os + 1) ∷ [])
  places_held os o e = rw (add_comm (length os) 1) (places_snoc g j 1 os o ∙ ap (λ (b : Bool). places g j 1 os ++ cond b ((1 + length os) ∷ []) []) e)

  pub places_not : (os : List (List ℕ)) (o : List ℕ) → holds g j o ≡ false → places g j 1 (os ++ (o ∷ [])) ≡ places g j 1 os
  places_not os o e = places_snoc g j 1 os o ∙ ap (λ (b : Bool). places g j 1 os ++ cond b ((1 + length os) ∷ []) []) e ∙ append-nil (places g j 1 os)

-- ---- a 0-cell has a label exactly when it is in one of the openings so far

pub zero_labelled : (g : Grid) (a k : ℕ) (os : List (List ℕ)) → Zero g a → Each (Full g) os → eqb (get_or (places g a (suc k) os) 0 0) 0 ≡ not (some_of (has a) os)
zero_labelled g a k [] z e = refl
zero_labelled g a k (o ∷ os) z e =
    ap (λ (b : Bool). eqb (get_or {A = ℕ} (elim b [ true ↦ suc k ∷ places g a (suc (suc k)) os | false ↦ places g a (suc (suc k)) os ]) 0 0) 0) (holds_zero g a o z e.0)
    ∙ go (has a o) (zero_labelled g a (suc k) os z e.1)
  where
    go : (b : Bool) → eqb (get_or (places g a (suc (suc k)) os) 0 0) 0 ≡ not (some_of (has a) os)
        → eqb (get_or {A = ℕ} (elim b [ true ↦ suc k ∷ places g a (suc (suc k)) os | false ↦ places g a (suc (suc k)) os ]) 0 0) 0 ≡ not (b || some_of (has a) os)
    go true q = eqb-suc-zero k
    go false q = q
