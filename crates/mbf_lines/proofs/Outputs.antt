-- Bytes put one after the other at the start of a lent run: a refusal, or the line of a file. Assumes nothing.
use Prim.Native.Nat.{ℕ, ◌+◌, ◌*◌, ◌<◌, ◌≤◌}
use native.Mathlib.Omega.{arith}
use native.Mathlib.Numerals.{add-one}
use mathlib.Core.Path.{◌≡◌, ap, refl, sym, ◌∙◌}
use mathlib.Core.List.{List, [], ◌∷◌, ◌++◌}
use lib.ListN.{get_or, length, length-append, set, take}
use lib.Seq.{length-take-le, sets, take-suc}
use Rattle.game.specs.Lists.{concat_map}
use Rattle.game.specs.Calls.{Refusal, number_of}
use Rattle.game.proofs.Members.{concat_map_append}
use Rattle.hex_digits.specs.Hex.{byte_digits}
use Rattle.hex_digits.proofs.Back.{length_digits}
use Rattle.hex_digits.proofs.Bytes.{sets_begun, sets_more}
use Rattle.lines.specs.BoardLine.{bit_bytes, board_line}
use Rattle.lines.proofs.Written.{length_board_line}
use Rattle.mbf_form.specs.Form.{file_columns, file_grid, file_rows, mine_places}
use Rattle.mbf_checks.specs.Marks.{BitsOf}
use Rattle.mbf_lines.specs.Conversions.{Printed, refusal_line}
use Rattle.mbf_lines.proofs.Verdict.{SmallFile}
use Rattle.mbf_lines.proofs.Places.{mine-bytes}

-- ---- a refusal

pub refusal_there : (f : Refusal) (number : ℕ) (old new : List ℕ) → 3 ≤ length old → number ≡ number_of f → new ≡ sets old 0 (byte_digits number) → Printed (refusal_line f) 3 old (set new 2 10)
refusal_there f number old new h e q =
    record {
      counts = refl;
      leaves = (λ i. set (q i) 2 10) ∙ ap (λ (n : ℕ). sets old 0 (byte_digits n ++ 10 ∷ [])) e ∙ sets_begun (refusal_line f) old h;
    }

-- ---- bytes as digits

-- the digits of one byte more
pub digits_more : (bytes old now new : List ℕ) (k : ℕ) → k < length bytes → now ≡ sets old 4 (concat_map byte_digits (take k bytes)) → new ≡ sets now (2 * k + 4) (byte_digits (get_or bytes k 0))
    → new ≡ sets old 4 (concat_map byte_digits (take (k + 1) bytes))
digits_more bytes old now new k h e f =
    f
    ∙ ap (λ (l : List ℕ). sets l (2 * k + 4) (byte_digits (get_or bytes k 0))) e
    ∙ sets_more old 4 (2 * k + 4) (concat_map byte_digits (take k bytes)) (byte_digits (get_or bytes k 0)) (omega (arith, length_digits (take k bytes), length-take-le k bytes (omega arith)))
    ∙ ap (sets old 4) (sym one_more)
  where
    one_more : concat_map byte_digits (take (k + 1) bytes) ≡ concat_map byte_digits (take k bytes) ++ byte_digits (get_or bytes k 0)
    one_more =
        ap (concat_map byte_digits) (ap (λ (n : ℕ). take n bytes) (add-one k) ∙ take-suc bytes k 0 h)
        ∙ concat_map_append byte_digits (take k bytes) (get_or bytes k 0 ∷ [])

-- ---- the line of a file

module _ (file bits : List ℕ) (f : SmallFile file) (of : BitsOf (mine_places file) bits) (small : (k : ℕ) → get_or bits k 0 < 256) where
  abbrev count : ℕ
  count = bit_bytes (file_rows file * file_columns file)

  line_is : concat_map byte_digits (file_rows file ∷ file_columns file ∷ take count bits) ≡ board_line (file_grid file)
  unfolding board_line
  line_is = ap (λ (bs : List ℕ). concat_map byte_digits (file_rows file ∷ file_columns file ∷ bs)) (mine-bytes file bits f of small)

  pub line_there : (old a b c : List ℕ) (rows columns n : ℕ) → 517 ≤ length old → rows ≡ file_rows file → columns ≡ file_columns file → n ≡ bit_bytes (rows * columns)
      → a ≡ sets old 0 (byte_digits rows) → b ≡ sets a 2 (byte_digits columns) → c ≡ sets b 4 (concat_map byte_digits (take n bits))
      → Printed (board_line (file_grid file) ++ 10 ∷ []) (2 * n + 5) old (set c (2 * n + 4) 10)
  line_there old a b c rows columns n h r k m d e g =
      let digits = concat_map byte_digits (take n bits) in
      let counted : n ≡ count = m ∙ (λ i. bit_bytes (r i * k i)) in
      let taken = length-take-le n bits (omega (arith, f.few, of.long)) in
      let line = board_line (file_grid file) in
      let long = length-append line (10 ∷ []) ∙ ap (λ (l : ℕ). l + 1) (length_board_line (file_grid file)) in
      record {
        counts = omega arith;
        leaves =
            ap (λ (l : List ℕ). set l (2 * n + 4) 10) (g ∙ ap (λ (l : List ℕ). sets l 4 digits) (e ∙ ap (λ (l : List ℕ). sets l 2 (byte_digits columns)) d) ∙ sets_more old 0 4 (byte_digits rows ++ byte_digits columns) digits refl)
            ∙ sets_more old 0 (2 * n + 4) (concat_map byte_digits (rows ∷ columns ∷ take n bits)) (10 ∷ []) (omega (arith, length_digits (take n bits)))
            ∙ (λ i. sets old 0 (concat_map byte_digits (r i ∷ k i ∷ take (counted i) bits) ++ 10 ∷ []))
            ∙ ap (λ (l : List ℕ). sets old 0 (l ++ 10 ∷ [])) line_is
            ∙ sets_begun (line ++ 10 ∷ []) old (omega (arith, f.few));
      }
