-- What reveals open of the units, from a tidy position on: the unlabelled cells that are revealed, and the openings that have a revealed cell. Assumes nothing.
use Prim.Native.Nat.{ℕ, ◌<◌}
use native.Mathlib.Decide.{ℕ_discrete}
use mathlib.Core.Path.{◌∙◌, ◌≡◌, ap, refl, subst, sym}
use mathlib.Core.Bool.{Bool, ◌&&◌, false, not, true}
use mathlib.Core.List.{List, [], ◌∷◌}
use lib.Dec.{T, eqb}
use Rattle.game.specs.Grid.{Grid, safe, size}
use Rattle.game.specs.Lists.{fold, has, some_of}
use Rattle.game.specs.Moves.{reveal}
use Rattle.game.specs.Position.{Position, Tidy, opening_closed, unopened}
use Rattle.game.proofs.Chains.{joined_sym}
use Rattle.game.proofs.Members.{first_of, rest_of}
use Rattle.game.proofs.Openings.{Full}
use Rattle.game.proofs.Reveal.{Unlabelled, held_joined, reveal_same, reveal_self, unlabelled_off, unlabelled_safe, zero_safe}
use Rattle.game.proofs.Tidy.{reveal_tidy, tidy_opening, tidy_unopened}
use Rattle.game.proofs.Truth.{and_false, and_true, not_or}
use borrow.Author.Tests.{eq-eqb, ne_eqb}

-- a revealed safe cell is open
reveal_open : (g : Grid) (s : Position) (c : ℕ) → c < size g → Tidy g s → T (safe g c) → unopened (reveal g s c) c ≡ false
reveal_open g s c h f t = tidy_unopened g (reveal g s c) c (reveal_tidy g s c h f) h t ∙ reveal_self g s c h f.long t

-- of the unlabelled cells a reveal opens the revealed one
pub reveal_unlabelled : (g : Grid) (s : Position) (c j : ℕ) → c < size g → Tidy g s → Unlabelled g j → unopened (reveal g s c) j ≡ (unopened s j && not (eqb j c))
reveal_unlabelled g s c j h f k =
    elim (ℕ_discrete j c) [
      | yes e ↦ ap (unopened (reveal g s c)) e ∙ reveal_open g s c h f (subst (λ (x : ℕ). T (safe g x)) e (unlabelled_safe g j k.bare))
          ∙ and_false (unopened s j) ∙ ap (λ (b : Bool). unopened s j && not b) (sym (eq-eqb j c e))
      | no n ↦ ap (λ (x : ℕ). not (eqb x 1)) (reveal_same g s c j h k.inside n (λ z t. unlabelled_off g j c k.bare (record { inside = h; none = z }) t))
          ∙ and_true (unopened s j) ∙ ap (λ (b : Bool). unopened s j && not b) (sym (ne_eqb j c n))
    ]

-- of the openings a reveal opens the one that has the revealed cell
pub reveal_opening : (g : Grid) (s : Position) (c : ℕ) (o : List ℕ) → c < size g → Tidy g s → Full g o → opening_closed (reveal g s c) o ≡ (opening_closed s o && not (has c o))
reveal_opening g s c o h f k = go (has c o) refl
  where
    go : (b : Bool) → has c o ≡ b → opening_closed (reveal g s c) o ≡ (opening_closed s o && not b)
    go true e =
        let t : T (has c o) = rw e tt in
        tidy_opening g (reveal g s c) o c (reveal_tidy g s c h f) k t ∙ reveal_self g s c h f.long (zero_safe g c (k.zero-cell c t)) ∙ and_false (opening_closed s o)
    go false e =
        let n : T (has c o) → ⊥ = λ u. subst T e u in
        let a = k.begun in
        let z = k.zero-cell a.0 a.1 in
        tidy_opening g (reveal g s c) o a.0 (reveal_tidy g s c h f) k a.1
        ∙ ap (λ (x : ℕ). eqb x 0) (reveal_same g s c a.0 h z.inside (λ q. n (rw q at a.1))
        (λ zc u. n (k.joined_in a.0 c a.1 (joined_sym g c a.0 (held_joined g c a.0 (record { inside = h; none = zc }) z u)))))
        ∙ sym (tidy_opening g s o a.0 f k a.1) ∙ and_true (opening_closed s o)

-- ---- a list of cells is revealed one after the other

pub fold_unlabelled : (g : Grid) (xs : List ℕ) (s : Position) (j : ℕ) → ((x : ℕ) → T (has x xs) → x < size g) → Tidy g s → Unlabelled g j
    → unopened (fold (reveal g) s xs) j ≡ (unopened s j && not (has j xs))
fold_unlabelled g [] s j h f k = and_true (unopened s j)
fold_unlabelled g (x ∷ xs) s j h f k =
    fold_unlabelled g xs (reveal g s x) j (rest_of x xs h) (reveal_tidy g s x (first_of x xs h) f) k
    ∙ ap (λ (b : Bool). b && not (has j xs)) (reveal_unlabelled g s x j (first_of x xs h) f k)
    ∙ not_or (unopened s j) (eqb j x) (has j xs)

pub fold_opening : (g : Grid) (xs : List ℕ) (s : Position) (o : List ℕ) → ((x : ℕ) → T (has x xs) → x < size g) → Tidy g s → Full g o
    → opening_closed (fold (reveal g) s xs) o ≡ (opening_closed s o && not (some_of (λ j. has j o) xs))
fold_opening g [] s o h f k = and_true (opening_closed s o)
fold_opening g (x ∷ xs) s o h f k =
    fold_opening g xs (reveal g s x) o (rest_of x xs h) (reveal_tidy g s x (first_of x xs h) f) k
    ∙ ap (λ (b : Bool). b && not (some_of (λ j. has j o) xs)) (reveal_opening g s x o (first_of x xs h) f k)
    ∙ not_or (opening_closed s o) (has x o) (some_of (λ j. has j o) xs)
