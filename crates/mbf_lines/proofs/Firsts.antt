-- The first line of an input: a line feed ends it, and any other byte goes on with it. Assumes nothing.
use Prim.Native.Nat.{ℕ, ◌+◌, ◌<◌, suc}
use native.Mathlib.Decide.{ℕ_discrete}
use native.Mathlib.Numerals.{add-one}
use mathlib.Core.Path.{◌≡◌, ap, refl, subst, sym, ◌∙◌}
use mathlib.Core.Bool.{Bool, false, true}
use mathlib.Core.List.{List, [], ◌∷◌, ◌++◌, append-nil}
use lib.Dec.{T, eqb}
use lib.ListN.{drop, get_or, length, take}
use lib.Seq.{append_snoc, drop-cons, take-suc}
use borrow.Author.Tests.{eq-eqb, ne_eqb}
use Rattle.game.specs.Lists.{has, some_of}
use Rattle.game.proofs.Members.{has_cases, has_head, has_tail, some_yes}
use Rattle.hex_digits.specs.Hex.{is_wrong}
use Rattle.lines.specs.BoardLine.{line_grid, line_refusal}
use Rattle.mbf_lines.specs.Conversions.{file_unless, first_line, line_file}

-- what is written for a first line
abbrev pub file_of_line : List ℕ → List ℕ
file_of_line line = file_unless (line_refusal line) (line_grid line)

pub by_first_line : (input line : List ℕ) → line ≡ first_line input → file_of_line line ≡ line_file input
unfolding line_file
by_first_line input line e = ap file_of_line e

-- ---- one byte

ends : (b : ℕ) (bs : List ℕ) → eqb b 10 ≡ true → first_line (b ∷ bs) ≡ []
ends b bs e = ap (λ (t : Bool). elim t [ true ↦ [] | false ↦ b ∷ first_line bs ]) e

goes-on : (b : ℕ) (bs : List ℕ) → eqb b 10 ≡ false → first_line (b ∷ bs) ≡ b ∷ first_line bs
goes-on b bs e = ap (λ (t : Bool). elim t [ true ↦ [] | false ↦ b ∷ first_line bs ]) e

-- ---- byte by byte

module _ (input : List ℕ) (k : ℕ) (passed : take k input ++ first_line (drop k input) ≡ first_line input) where
  -- nothing of the line is left
  line_found : first_line (drop k input) ≡ [] → take k input ≡ first_line input
  line_found e = sym (append-nil (take k input)) ∙ ap (λ (l : List ℕ). take k input ++ l) (sym e) ∙ passed

  pub input_over : drop k input ≡ [] → take k input ≡ first_line input
  input_over e = line_found (ap first_line e)

  module _ (h : k < length input) where
    pub line_ended : eqb (get_or input k 0) 10 ≡ true → take k input ≡ first_line input
    line_ended e = line_found (ap first_line (drop-cons input k 0 h) ∙ ends (get_or input k 0) (drop (suc k) input) e)

    pub line_more : eqb (get_or input k 0) 10 ≡ false → take (k + 1) input ++ first_line (drop (k + 1) input) ≡ first_line input
    line_more e =
        let b = get_or input k 0 in
        ap (λ (n : ℕ). take n input ++ first_line (drop n input)) (add-one k)
        ∙ ap (λ (l : List ℕ). l ++ first_line (drop (suc k) input)) (take-suc input k 0 h)
        ∙ append_snoc (take k input) b (first_line (drop (suc k) input))
        ∙ ap (λ (l : List ℕ). take k input ++ l) (sym (ap first_line (drop-cons input k 0 h) ∙ goes-on b (drop (suc k) input) e))
        ∙ passed

-- ---- an input and more

-- past a line feed nothing belongs to the first line
pub feed_there : (input rest : List ℕ) → T (has 10 input) → first_line (input ++ rest) ≡ first_line input
feed_there [] rest t = absurd t
feed_there (b ∷ bs) rest t =
    elim (ℕ_discrete b 10) [
      | yes e ↦ ends b (bs ++ rest) (eq-eqb b 10 e) ∙ sym (ends b bs (eq-eqb b 10 e))
      | no n ↦
          goes-on b (bs ++ rest) (ne_eqb b 10 n)
          ∙ ap (λ (l : List ℕ). b ∷ l) (feed_there bs rest (has_cases 10 b bs (λ e. absurd (n (sym e))) (λ u. u) t))
          ∙ sym (goes-on b bs (ne_eqb b 10 n))
    ]

-- without one all of it belongs to the first line
pub no_feed : (line rest : List ℕ) → (T (has 10 line) → ⊥) → first_line (line ++ rest) ≡ line ++ first_line rest
no_feed [] rest n = refl
no_feed (b ∷ bs) rest n =
    goes-on b (bs ++ rest) (ne_eqb b 10 (λ e. n (has_head 10 b bs (sym e))))
    ∙ ap (λ (l : List ℕ). b ∷ l) (no_feed bs rest (λ t. n (has_tail 10 b bs t)))

-- there is none among right digits
pub clean_line : (line rest : List ℕ) → some_of is_wrong line ≡ false → first_line (line ++ rest) ≡ line ++ first_line rest
clean_line line rest e = no_feed line rest (λ t. subst T e (some_yes is_wrong 10 line t tt))
