-- The one opening that has a 0-cell: counts over the openings that turn on it. Assumes nothing.
use Prim.Native.Nat.{ℕ}
use native.Mathlib.Omega.{arith}
use mathlib.Core.Path.{◌≡◌, ap, refl}
use mathlib.Core.Bool.{Bool, ◌&&◌, ◌||◌, false, true}
use mathlib.Core.List.{List, [], ◌∷◌}
use lib.Dec.{T, eqb→eq}
use lib.ListN.{get_or}
use Rattle.game.specs.Grid.{Grid, square}
use Rattle.game.specs.Lists.{Each, bit, count, has, some_of}
use Rattle.game.specs.Openings.{holds, itself, joined_to, openings}
use Rattle.game.specs.Position.{Position, closed, opening_closed, unopened}
use Rattle.game.proofs.Members.{some_same, some_yes}
use Rattle.game.proofs.Openings.{Apart, Full, In, covered, good, joined_to→, →joinedTo}
use Rattle.game.proofs.Truth.{T→true, iff, no→false, or_left, or_right}
use Rattle.game.proofs.Zeros.{Zero}

-- no opening has the cell: none is counted
pub count_off : (c : ℕ) (f : List ℕ → Bool) (os : List (List ℕ)) → (In c os → ⊥) → count (λ o. has c o && f o) os ≡ 0
count_off c f [] n = refl
count_off c f (o ∷ os) n =
    let a = ap (λ (b : Bool). bit (b && f o)) (no→false (has c o) (λ t. n (or_left (has c o) (some_of (has c) os) t))) in
    let b = count_off c f os (λ t. n (or_right (has c o) (some_of (has c) os) t)) in
    omega arith

-- the one set that has the cell
pub record Owner (g : Grid) (c : ℕ) (os : List (List ℕ)) : Type 0 where
  pub opening : List ℕ
  pub full : Full g opening
  pub has_it : T (has c opening)
  pub only : (f : List ℕ → Bool) → count (λ o. has c o && f o) os ≡ bit (f opening)

owner_in : (g : Grid) (c : ℕ) (os : List (List ℕ)) → Zero g c → Apart g os → Each (Full g) os → In c os → Owner g c os
owner_in g c [] z a e t = absurd t
owner_in g c (o ∷ os) z a e t = go (λ u. owner_in g c os z a.1 e.1 u) (has c o) refl t
  where
    go : (In c os → Owner g c os) → (b : Bool) → has c o ≡ b → T (b || some_of (has c) os) → Owner g c (o ∷ os)
    go more true q u =
        let h : T (has c o) = rw q tt in
        record {
          opening = o;
          full = e.0;
          has_it = h;
          only = λ f.
              let x = ap (λ (b : Bool). bit (b && f o)) q in
              let y = count_off c f os (λ v. a.0 c c h v (itself z.inside z.none)) in
              omega arith;
        }
    go more false q u =
        let r = more u in
        record {
          opening = r.opening;
          full = r.full;
          has_it = r.has_it;
          only = λ f.
              let x = ap (λ (b : Bool). bit (b && f o)) q in
              let y = r.only f in
              omega arith;
        }

pub owner : (g : Grid) (c : ℕ) → Zero g c → Owner g c (openings g)
owner g c z = owner_in g c (openings g) z (good g).apart (good g).full (covered g c z)

-- it holds what the cells joined to c hold
pub same-holds : (g : Grid) (c x : ℕ) (o : List ℕ) → Zero g c → Full g o → T (has c o) → holds g x o ≡ holds g x (joined_to g c)
same-holds g c x o z f t =
    some_same (λ j. has j o) (λ j. has j (joined_to g c)) (square g x) (λ j m. iff (has j o) (has j (joined_to g c))
    (λ u. →joinedTo g c j (f.linked c j t u)) (λ u. f.joined_in c j t (joined_to→ g c j z u)))

-- a closed cell is not opened
pub closed_unopened : (s : Position) (i : ℕ) → T (closed s i) → T (unopened s i)
closed_unopened s i t = rw (eqb→eq (get_or s i 0) 0 t) tt

-- the opening of a closed 0-cell is closed
pub opening_shut : (s : Position) (o : List ℕ) (c : ℕ) → T (has c o) → T (closed s c) → opening_closed s o ≡ true
opening_shut s o c t u = T→true (opening_closed s o) (some_yes (unopened s) c o t (closed_unopened s c u))
