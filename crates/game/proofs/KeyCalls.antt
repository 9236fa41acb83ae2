-- The keyed calls, and their strict forms: one that isn't refused is the call by as many of the key's bytes as it used, and answers the key after so many words, which is taken again; the old mode never runs dry. Assumes nothing.
use Prim.Native.Nat.{ℕ, ◌/◌}
use native.Mathlib.Omega.{arith}
use mathlib.Core.Path.{◌≡◌, ap₂, refl, sym}
use mathlib.Core.List.{List, [], ◌++◌, ◌∷◌}
use mathlib.Core.Option.{Option, none-ne-some, none, some}
use lib.Dec.{eqb, ltb}
use lib.IntN.{ℤ}
use lib.ListN.{get_or, length}
use Rattle.game.specs.Calls.{Check, Refusal, decided, draws, drawn_round, drawn_search, first_given, grid_checks, handing, handing_listed, kept, kept_listed, key_check, keyed_round_call, keyed_rounds_check, keyed_search_call, list_check, most_rounds, number_of, random_round_call, random_search_call, refuses, round_by, rounds_check, search_by, strict_checks, strict_keyed_round_call, strict_keyed_search_call, strict_random_round_call, strict_random_search_call, unless, unless_listed, with_key}
use Rattle.game.specs.Draws.{Mode, old}
use Rattle.game.specs.Grid.{Grid}
use Rattle.game.specs.Keys.{Key, key_after, key_bytes, key_numbers, keyed}
use Rattle.game.specs.Rounds.{Round, Searched, moves_of, random_round, random_search}
use Rattle.game.proofs.Checks.{Fails, NotDraws, each_fails, given_each, no_draws, none_given, numbered}
use Rattle.game.proofs.Draws.{IfSome}
use Rattle.game.proofs.KeyDraws.{never_blank}
use Rattle.game.proofs.KeyRounds.{keyed_round_lent, keyed_search_lent, old_round, old_search}
use Rattle.game.proofs.Truth.{or_no}

-- ---- the checks

-- the checks of a keyed call: the grid's, the call's own and the key's
abbrev keyed_checks : Grid → List ℤ → Check → Key → List Check
keyed_checks g ws c k = grid_checks g ws ++ c ∷ key_check k ∷ []

-- they give no DRAWS, unless the call's own does
none_dry : (g : Grid) (ws : List ℤ) (c : Check) (k : Key) → NotDraws c.refusal → IfSome NotDraws (first_given (keyed_checks g ws c k))
none_dry g ws c k h =
    given_each NotDraws (keyed_checks g ws c k) ((λ e. omega arith), ((λ e. omega arith), ((λ e. omega arith), (h, ((λ e. omega arith), tt)))))

-- a refusal isn't success
not_taken : (f : Refusal) → number_of f ≡ 0 → ⊥
not_taken f z = omega (arith, numbered f)

-- where none is given, none is without the key, with a check in place of the call's own that fails with it
passes : (g : Grid) (ws : List ℤ) (c d : Check) (k : Key) → (Fails c → Fails d) → first_given (keyed_checks g ws c k) ≡ none → first_given (grid_checks g ws ++ d ∷ []) ≡ none
passes g ws c d k f e =
    let h = each_fails (keyed_checks g ws c k) e in
    none_given (grid_checks g ws ++ d ∷ []) (h.0, (h.1.0, (h.1.1.0, (f h.1.1.1.0, tt))))

-- ---- a call by the key's bytes

-- a keyed round that isn't refused is the round by as many of the key's bytes as it used, with the key after them
pub keyed_round_is_lent : (mode : Mode) (g : Grid) (ws : List ℤ) (ms : List ℕ) (k : Key) → (keyed_round_call mode g ws ms k).answer.number ≡ 0
    → keyed_round_call mode g ws ms k ≡ handing_listed k (random_round_call mode g ws ms (key_bytes k (get_or (keyed_round_call mode g ws ms k).answer.values 1 0)))
unfolding keyed_round_call random_round_call
keyed_round_is_lent mode g ws ms k = go (first_given (keyed_checks g ws (list_check g ms) k)) refl (random_round g (keyed mode k) 0) refl
  where
    go : (f : Option Refusal) → first_given (keyed_checks g ws (list_check g ms) k) ≡ f → (o : Option Round) → random_round g (keyed mode k) 0 ≡ o
        → (unless_listed f ws ms (handing_listed k (drawn_round g o ws ms))).answer.number ≡ 0
        → unless_listed f ws ms (handing_listed k (drawn_round g o ws ms)) ≡ handing_listed k (random_round_call mode g ws ms (key_bytes k (get_or (unless_listed f ws ms (handing_listed k (drawn_round g o ws ms))).answer.values 1 0)))
    go (some f) q o e z = absurd (not_taken f z)
    go none q none e z = absurd (not_taken draws z)
    go none q (some r) e z =
        ap₂ (λ (f : Option Refusal) (o : Option Round). handing_listed k (unless_listed f ws ms (drawn_round g o ws ms)))
        (sym (passes g ws (list_check g ms) (list_check g ms) k (λ h. h) q)) (sym (keyed_round_lent mode k g r e))

-- and so is a keyed search
pub keyed_search_is_lent : (mode : Mode) (g : Grid) (ws : List ℤ) (k : Key) (n : ℕ) → (keyed_search_call mode g ws k n).answer.number ≡ 0
    → keyed_search_call mode g ws k n ≡ handing k (random_search_call mode g ws (key_bytes k (get_or (keyed_search_call mode g ws k n).answer.values 1 0)) n)
unfolding keyed_search_call random_search_call
keyed_search_is_lent mode g ws k n = go (first_given (keyed_checks g ws (keyed_rounds_check n) k)) refl (random_search g (keyed mode k) n) refl
  where
    go : (f : Option Refusal) → first_given (keyed_checks g ws (keyed_rounds_check n) k) ≡ f → (o : Option Searched) → random_search g (keyed mode k) n ≡ o
        → (unless f ws (handing k (drawn_search g o ws))).answer.number ≡ 0
        → unless f ws (handing k (drawn_search g o ws)) ≡ handing k (random_search_call mode g ws (key_bytes k (get_or (unless f ws (handing k (drawn_search g o ws))).answer.values 1 0)) n)
    go (some f) q o e z = absurd (not_taken f z)
    go none q none e z = absurd (not_taken draws z)
    go none q (some r) e z =
        ap₂ (λ (f : Option Refusal) (o : Option Searched). handing k (unless f ws (drawn_search g o ws)))
        (sym (passes g ws (keyed_rounds_check n) (rounds_check n) k (λ h. (or_no (eqb n 0) (ltb most_rounds n) h).0) q)) (sym (keyed_search_lent mode k g n r e))

-- ---- the key after a call

-- the values of a random call, with a key
handed : (k : Key) (clicks used : ℕ) → with_key k (clicks ∷ used ∷ []) ≡ clicks ∷ used ∷ key_numbers (key_after k (used / 4))
handed k clicks used = refl

-- a keyed round that isn't refused answers clicks, bytes used and the key after so many words
pub keyed_round_hands : (mode : Mode) (g : Grid) (ws : List ℤ) (ms : List ℕ) (k : Key) → (keyed_round_call mode g ws ms k).answer.number ≡ 0
    → (clicks : ℕ) × (used : ℕ) × ((keyed_round_call mode g ws ms k).answer.values ≡ clicks ∷ used ∷ key_numbers (key_after k (used / 4)))
unfolding keyed_round_call
keyed_round_hands mode g ws ms k = go (first_given (keyed_checks g ws (list_check g ms) k)) (random_round g (keyed mode k) 0)
  where
    go : (f : Option Refusal) (o : Option Round) → (unless_listed f ws ms (handing_listed k (drawn_round g o ws ms))).answer.number ≡ 0
        → (clicks : ℕ) × (used : ℕ) × ((unless_listed f ws ms (handing_listed k (drawn_round g o ws ms))).answer.values ≡ clicks ∷ used ∷ key_numbers (key_after k (used / 4)))
    go (some f) o z = absurd (not_taken f z)
    go none none z = absurd (not_taken draws z)
    go none (some r) z = (length (moves_of r.steps), r.next, handed k (length (moves_of r.steps)) r.next)

-- and so does a keyed search
pub keyed_search_hands : (mode : Mode) (g : Grid) (ws : List ℤ) (k : Key) (n : ℕ) → (keyed_search_call mode g ws k n).answer.number ≡ 0
    → (clicks : ℕ) × (used : ℕ) × ((keyed_search_call mode g ws k n).answer.values ≡ clicks ∷ used ∷ key_numbers (key_after k (used / 4)))
unfolding keyed_search_call
keyed_search_hands mode g ws k n = go (first_given (keyed_checks g ws (keyed_rounds_check n) k)) (random_search g (keyed mode k) n)
  where
    go : (f : Option Refusal) (o : Option Searched) → (unless f ws (handing k (drawn_search g o ws))).answer.number ≡ 0
        → (clicks : ℕ) × (used : ℕ) × ((unless f ws (handing k (drawn_search g o ws))).answer.values ≡ clicks ∷ used ∷ key_numbers (key_after k (used / 4)))
    go (some f) o z = absurd (not_taken f z)
    go none none z = absurd (not_taken draws z)
    go none (some r) z = (r.least, r.next, handed k r.least r.next)

-- where the checks refuse nothing the key isn't blank, nor is any after it
key_taken : (g : Grid) (ws : List ℤ) (c : Check) (k : Key) → first_given (keyed_checks g ws c k) ≡ none → (m : ℕ) → Fails (key_check (key_after k m))
key_taken g ws c k e m = never_blank k m (each_fails (keyed_checks g ws c k) e).1.1.1.1.0

-- so the key that a keyed round hands back is taken by the next call
pub keyed_round_taken : (mode : Mode) (g : Grid) (ws : List ℤ) (ms : List ℕ) (k : Key) → (keyed_round_call mode g ws ms k).answer.number ≡ 0 → (m : ℕ) → Fails (key_check (key_after k m))
unfolding keyed_round_call
keyed_round_taken mode g ws ms k z m = go (first_given (keyed_checks g ws (list_check g ms) k)) refl z
  where
    go : (f : Option Refusal) → first_given (keyed_checks g ws (list_check g ms) k) ≡ f → (unless_listed f ws ms (handing_listed k (round_by (keyed mode k) g ws ms))).answer.number ≡ 0 → Fails (key_check (key_after k m))
    go (some f) q z = absurd (not_taken f z)
    go none q z = key_taken g ws (list_check g ms) k q m

-- and so is the one that a keyed search hands back
pub keyed_search_taken : (mode : Mode) (g : Grid) (ws : List ℤ) (k : Key) (n : ℕ) → (keyed_search_call mode g ws k n).answer.number ≡ 0 → (m : ℕ) → Fails (key_check (key_after k m))
unfolding keyed_search_call
keyed_search_taken mode g ws k n z m = go (first_given (keyed_checks g ws (keyed_rounds_check n) k)) refl z
  where
    go : (f : Option Refusal) → first_given (keyed_checks g ws (keyed_rounds_check n) k) ≡ f → (unless f ws (handing k (search_by (keyed mode k) n g ws))).answer.number ≡ 0 → Fails (key_check (key_after k m))
    go (some f) q z = absurd (not_taken f z)
    go none q z = key_taken g ws (keyed_rounds_check n) k q m

-- a keyed round that is refused answers as a refusal does, without a key
pub keyed_round_refused : (mode : Mode) (g : Grid) (ws : List ℤ) (ms : List ℕ) (k : Key) → ((keyed_round_call mode g ws ms k).answer.number ≡ 0 → ⊥) → (f : Refusal) × ((keyed_round_call mode g ws ms k).answer ≡ refuses f)
unfolding keyed_round_call
keyed_round_refused mode g ws ms k = go (first_given (keyed_checks g ws (list_check g ms) k)) (random_round g (keyed mode k) 0)
  where
    go : (f : Option Refusal) (o : Option Round) → ((unless_listed f ws ms (handing_listed k (drawn_round g o ws ms))).answer.number ≡ 0 → ⊥) → (r : Refusal) × ((unless_listed f ws ms (handing_listed k (drawn_round g o ws ms))).answer ≡ refuses r)
    go (some f) o n = (f, refl)
    go none none n = (draws, refl)
    go none (some r) n = absurd (n refl)

-- and so does a keyed search
pub keyed_search_refused : (mode : Mode) (g : Grid) (ws : List ℤ) (k : Key) (n : ℕ) → ((keyed_search_call mode g ws k n).answer.number ≡ 0 → ⊥) → (f : Refusal) × ((keyed_search_call mode g ws k n).answer ≡ refuses f)
unfolding keyed_search_call
keyed_search_refused mode g ws k n = go (first_given (keyed_checks g ws (keyed_rounds_check n) k)) (random_search g (keyed mode k) n)
  where
    go : (f : Option Refusal) (o : Option Searched) → ((unless f ws (handing k (drawn_search g o ws))).answer.number ≡ 0 → ⊥) → (r : Refusal) × ((unless f ws (handing k (drawn_search g o ws))).answer ≡ refuses r)
    go (some f) o z = (f, refl)
    go none none z = (draws, refl)
    go none (some r) z = absurd (z refl)

-- ---- the old mode

-- a keyed round in the old mode never answers DRAWS
pub keyed_round_not_dry : (g : Grid) (ws : List ℤ) (ms : List ℕ) (k : Key) → (keyed_round_call old g ws ms k).answer ≡ refuses draws → ⊥
unfolding keyed_round_call
keyed_round_not_dry g ws ms k =
    let r = old_round k g 0 in
    go (first_given (keyed_checks g ws (list_check g ms) k)) (none_dry g ws (list_check g ms) k (λ e. omega arith)) (random_round g (keyed old k) 0) r.0 r.1
  where
    go : (f : Option Refusal) → IfSome NotDraws f → (o : Option Round) (r : Round) → o ≡ some r → (unless_listed f ws ms (handing_listed k (drawn_round g o ws ms))).answer ≡ refuses draws → ⊥
    go (some f) l o r q = no_draws (refuses f) l
    go none l none r q = absurd (none-ne-some r q)
    go none l (some x) r q = no_draws (handing_listed k (drawn_round g (some x) ws ms)).answer (λ e. omega arith)

-- nor does a keyed search
pub keyed_search_not_dry : (g : Grid) (ws : List ℤ) (k : Key) (n : ℕ) → (keyed_search_call old g ws k n).answer ≡ refuses draws → ⊥
unfolding keyed_search_call
keyed_search_not_dry g ws k n =
    let r = old_search k g n in
    go (first_given (keyed_checks g ws (keyed_rounds_check n) k)) (none_dry g ws (keyed_rounds_check n) k (λ e. omega arith)) (random_search g (keyed old k) n) r.0 r.1
  where
    go : (f : Option Refusal) → IfSome NotDraws f → (o : Option Searched) (r : Searched) → o ≡ some r → (unless f ws (handing k (drawn_search g o ws))).answer ≡ refuses draws → ⊥
    go (some f) l o r q = no_draws (refuses f) l
    go none l none r q = absurd (none-ne-some r q)
    go none l (some x) r q = no_draws (handing k (drawn_search g (some x) ws)).answer (λ e. omega arith)

-- ---- the strict forms

-- a strict keyed round that isn't refused is the strict round by as many of the key's bytes as it used, with the key after them
pub strict_keyed_round_is_lent : (mode : Mode) (g : Grid) (ws : List ℤ) (ms : List ℕ) (k : Key) → (strict_keyed_round_call mode g ws ms k).answer.number ≡ 0
    → strict_keyed_round_call mode g ws ms k ≡ handing_listed k (strict_random_round_call mode g ws ms (key_bytes k (get_or (strict_keyed_round_call mode g ws ms k).answer.values 1 0)))
strict_keyed_round_is_lent mode g ws ms k = go (first_given (strict_checks g))
  where
    go : (f : Option Refusal) → (decided f (kept_listed ws ms) (keyed_round_call mode g ws ms k)).answer.number ≡ 0
        → decided f (kept_listed ws ms) (keyed_round_call mode g ws ms k)
        ≡ handing_listed k (decided f (kept_listed ws ms) (random_round_call mode g ws ms (key_bytes k (get_or (decided f (kept_listed ws ms) (keyed_round_call mode g ws ms k)).answer.values 1 0))))
    go (some f) z = absurd (not_taken f z)
    go none z = keyed_round_is_lent mode g ws ms k z

-- and so is a strict keyed search
pub strict_keyed_search_is_lent : (mode : Mode) (g : Grid) (ws : List ℤ) (k : Key) (n : ℕ) → (strict_keyed_search_call mode g ws k n).answer.number ≡ 0
    → strict_keyed_search_call mode g ws k n ≡ handing k (strict_random_search_call mode g ws (key_bytes k (get_or (strict_keyed_search_call mode g ws k n).answer.values 1 0)) n)
strict_keyed_search_is_lent mode g ws k n = go (first_given (strict_checks g))
  where
    go : (f : Option Refusal) → (decided f (kept ws) (keyed_search_call mode g ws k n)).answer.number ≡ 0
        → decided f (kept ws) (keyed_search_call mode g ws k n)
        ≡ handing k (decided f (kept ws) (random_search_call mode g ws (key_bytes k (get_or (decided f (kept ws) (keyed_search_call mode g ws k n)).answer.values 1 0)) n))
    go (some f) z = absurd (not_taken f z)
    go none z = keyed_search_is_lent mode g ws k n z
