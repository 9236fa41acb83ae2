-- Lists with computed tests: what the other definitions are written with. Assumes nothing.
use Rattle.std.specs.Prelude.{ℕ, zero, suc, ◌+◌, ◌-◌, Bool, true, false, ◌&&◌, ◌||◌, List, [], ◌∷◌, ◌++◌, eqb}

-- the n numbers from a on
abbrev pub from : ℕ → ℕ → List ℕ
from a zero = []
from a (suc n) = a ∷ from (suc a) n

-- the numbers from a on that are below b
abbrev pub range : ℕ → ℕ → List ℕ
range a b = from a (b - a)

-- those that pass the test, in their order
abbrev pub keep {ℓ} : {A : Type ℓ} → (A → Bool) → List A → List A
keep f [] = []
keep f (x ∷ xs) = elim (f x) [ true ↦ x ∷ keep f xs | false ↦ keep f xs ]

-- 1 for a test that passes, 0 for one that fails
abbrev pub bit : Bool → ℕ
bit true = 1
bit false = 0

-- how many pass the test
abbrev pub count {ℓ} : {A : Type ℓ} → (A → Bool) → List A → ℕ
count f [] = 0
count f (x ∷ xs) = bit (f x) + count f xs

-- one of them passes the test
abbrev pub some_of {ℓ} : {A : Type ℓ} → (A → Bool) → List A → Bool
some_of f [] = false
some_of f (x ∷ xs) = f x || some_of f xs

-- each of them passes the test
abbrev pub all_of {ℓ} : {A : Type ℓ} → (A → Bool) → List A → Bool
all_of f [] = true
all_of f (x ∷ xs) = f x && all_of f xs

-- x is one of xs
abbrev pub has : ℕ → List ℕ → Bool
has x xs = some_of (eqb x) xs

-- what f gives for each of them, one after the other
abbrev pub concat_map {ℓ κ} : {A : Type ℓ} {B : Type κ} → (A → List B) → List A → List B
concat_map f [] = []
concat_map f (x ∷ xs) = f x ++ concat_map f xs

-- f done with each of them in turn, from s on
abbrev pub fold {ℓ} : {S : Type ℓ} → (S → ℕ → S) → S → List ℕ → S
fold f s [] = s
fold f s (x ∷ xs) = fold f (f s x) xs

-- f done n times
abbrev pub again {ℓ} : {S : Type ℓ} → (S → S) → ℕ → S → S
again f zero s = s
again f (suc n) s = f (again f n s)

-- something holds of each of them
abbrev pub Each {ℓ} : {A : Type ℓ} → (A → Type 0) → List A → Type 0
Each P [] = Unit {0}
Each P (x ∷ xs) = P x × Each P xs
