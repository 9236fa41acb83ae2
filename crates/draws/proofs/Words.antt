-- Words one after another: while each was spent, the draw is that of the words left; one below the bound is taken. Assumes nothing.
use Prim.Native.Nat.{ℕ, ◌%◌, ◌*◌, ◌+◌, ◌-◌, ◌<◌, ◌≤◌}
use native.Mathlib.Numerals.{unary_clauses}
use native.Mathlib.Omega.{arith}
use mathlib.Core.Path.{◌≡◌, ap, sym, ◌∙◌}
use mathlib.Core.Bool.{false, true}
use mathlib.Core.List.{List}
use mathlib.Core.Option.{none, some}
use borrow.Author.Tests.{le-ltb, lt-ltb}
use Rattle.game.specs.Draws.{Mode, all_words, first_taken, four_bytes, taken}
use Rattle.game.proofs.Draws.{taken_turn}
use Rattle.draws.specs.Answers.{Bounds}

-- after k words, each spent: those left decide
pub record Midway (bytes : List ℕ) (n bound at words k : ℕ) : Type 0 where
  pub rest : (mode : Mode) → Bounds mode n bound → first_taken (four_bytes bytes) mode n (words - k) (at + 4 * k) ≡ first_taken (four_bytes bytes) mode n words at

-- before the first word
pub all_left : (bytes : List ℕ) (n bound at words : ℕ) → Midway bytes n bound at words 0
all_left bytes n bound at words = record { rest = λ mode b. simp unary_clauses }

module _ (bytes : List ℕ) (n bound at words k : ℕ) (m : Midway bytes n bound at words k) where
  -- no word is left
  pub words_over : words ≤ k → (mode : Mode) → Bounds mode n bound → none ≡ first_taken (four_bytes bytes) mode n words at
  words_over h mode b = let none_left : 0 ≡ words - k = omega arith in ap (λ (left : ℕ). first_taken (four_bytes bytes) mode n left (at + 4 * k)) none_left ∙ m.rest mode b

  module _ (word : ℕ) (h : k < words) (e : word ≡ four_bytes bytes (at + 4 * k)) (small : word < all_words) where
    -- a word below the bound is taken
    pub word_taken : word < bound → (mode : Mode) → Bounds mode n bound → some (record { place = word % n; next = at + 4 * k + 4 }) ≡ first_taken (four_bytes bytes) mode n words at
    word_taken l mode b =
        ap (λ (w : ℕ). some (record { place = w % n; next = at + 4 * k + 4 })) e
        ∙ sym (taken_turn (four_bytes bytes) mode n (words - k) (at + 4 * k) true (omega arith) (ap (taken mode n) (sym e) ∙ sym (b.tells word small) ∙ lt-ltb word bound l)) ∙ m.rest mode b

    -- another is spent, and those after it are left
    pub word_spent : bound ≤ word → Midway bytes n bound at words (k + 1)
    word_spent l =
        let one_less : words - (k + 1) ≡ words - k - 1 = omega arith in
        let further : at + 4 * (k + 1) ≡ at + 4 * k + 4 = omega arith in
        record {
          rest = λ mode b.
              ap (λ (left : ℕ). first_taken (four_bytes bytes) mode n left (at + 4 * (k + 1))) one_less
              ∙ ap (first_taken (four_bytes bytes) mode n (words - k - 1)) further
              ∙ sym (taken_turn (four_bytes bytes) mode n (words - k) (at + 4 * k) false (omega arith) (ap (taken mode n) (sym e) ∙ sym (b.tells word small) ∙ le-ltb word bound l)) ∙ m.rest mode b;
        }
