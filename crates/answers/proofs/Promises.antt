-- A call keeps its promise: refused as the checks say, else by what it comes to. Assumes nothing.
use Prim.Native.Nat.{ℕ}
use mathlib.Core.Path.{◌≡◌, ap, sym, ◌∙◌}
use mathlib.Core.List.{List}
use mathlib.Core.Option.{Option, none, some}
use lib.IntN.{ℤ}
use Rattle.game.specs.Calls.{Answer, ListOutcome, Outcome, Refusal, handing, handing_listed, hands_key, refuses, unless, unless_listed}
use Rattle.game.specs.Keys.{Key}
use Rattle.answers.specs.Answers.{Keeps, KeepsList}

-- ---- calls without a list

pub keeps_refused : (o : Option Refusal) (f : Refusal) (w : List ℤ) (x : Outcome) → some f ≡ o → Keeps (unless o w x) (refuses f) w
keeps_refused o f w x e =
    record { answers = ap (λ (v : Option Refusal). (unless v w x).answer) e; leaves = ap (λ (v : Option Refusal). (unless v w x).work) e }

pub keeps_else : (o : Option Refusal) (a : Answer) (w w' : List ℤ) (x : Outcome) → none ≡ o → Keeps x a w' → Keeps (unless o w x) a w'
keeps_else o a w w' x e k =
    record {
      answers = k.answers ∙ ap (λ (v : Option Refusal). (unless v w x).answer) e;
      leaves = k.leaves ∙ ap (λ (v : Option Refusal). (unless v w x).work) e;
    }

-- told by another answer that is the same
pub keeps_as : (x : Outcome) (a b : Answer) (w : List ℤ) → b ≡ a → Keeps x a w → Keeps x b w
keeps_as x a b w e k = record { answers = e ∙ k.answers; leaves = k.leaves }

-- with the key after it
pub keeps_handed : (k : Key) (x : Outcome) (a b : Answer) (w : List ℤ) → b ≡ hands_key k a → Keeps x a w → Keeps (handing k x) b w
keeps_handed k x a b w e h = record { answers = e ∙ ap (hands_key k) h.answers; leaves = h.leaves }

-- ---- calls with a list

pub list_refused : (o : Option Refusal) (f : Refusal) (w : List ℤ) (l : List ℕ) (x : ListOutcome) → some f ≡ o → KeepsList (unless_listed o w l x) (refuses f) w l
list_refused o f w l x e =
    record {
      answers = ap (λ (v : Option Refusal). (unless_listed v w l x).answer) e;
      leaves = ap (λ (v : Option Refusal). (unless_listed v w l x).work) e;
      lists = ap (λ (v : Option Refusal). (unless_listed v w l x).list) e;
    }

pub list_else : (o : Option Refusal) (a : Answer) (w w' : List ℤ) (l l' : List ℕ) (x : ListOutcome) → none ≡ o → KeepsList x a w' l' → KeepsList (unless_listed o w l x) a w' l'
list_else o a w w' l l' x e k =
    record {
      answers = k.answers ∙ ap (λ (v : Option Refusal). (unless_listed v w l x).answer) e;
      leaves = k.leaves ∙ ap (λ (v : Option Refusal). (unless_listed v w l x).work) e;
      lists = k.lists ∙ ap (λ (v : Option Refusal). (unless_listed v w l x).list) e;
    }

-- told by another answer that is the same
pub list_as : (x : ListOutcome) (a b : Answer) (w : List ℤ) (l : List ℕ) → b ≡ a → KeepsList x a w l → KeepsList x b w l
list_as x a b w l e k = record { answers = e ∙ k.answers; leaves = k.leaves; lists = k.lists }

-- with the key after it
pub list_handed : (k : Key) (x : ListOutcome) (a b : Answer) (w : List ℤ) (l : List ℕ) → b ≡ hands_key k a → KeepsList x a w l → KeepsList (handing_listed k x) b w l
list_handed k x a b w l e h = record { answers = e ∙ ap (hands_key k) h.answers; leaves = h.leaves; lists = h.lists }

-- ---- there is only one such answer

pub keeps_once : (x : Outcome) (a a' : Answer) (w w' : List ℤ) → Keeps x a w → Keeps x a' w' → (a ≡ a') × (w ≡ w')
keeps_once x a a' w w' k k' = (k.answers ∙ sym k'.answers, k.leaves ∙ sym k'.leaves)

pub list_once : (x : ListOutcome) (a a' : Answer) (w w' : List ℤ) (l l' : List ℕ) → KeepsList x a w l → KeepsList x a' w' l' → (a ≡ a') × (w ≡ w') × (l ≡ l')
list_once x a a' w w' l l' k k' = (k.answers ∙ sym k'.answers, k.leaves ∙ sym k'.leaves, k.lists ∙ sym k'.lists)
