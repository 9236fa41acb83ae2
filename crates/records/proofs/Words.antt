-- Records and words are equal: each is made of the other. Assumes nothing.
use mathlib.Core.Path.{◌≡◌, ap, ◌∙◌}
use Prim.Native.Nat.{ℕ, ◌+◌, ◌*◌, ◌/◌, ◌%◌, ◌<◌, ◌≤◌}
use native.Mathlib.Nat.{div-add-mod', div-lt_iff_lt-mul, mod-lt}
use borrow.Author.Tests.{le-leb, lt-ltb}
use Rattle.records.specs.Records.{record_of, word_of, move_word}
use Rattle.records.specs.declared.MoveRecord.{MoveRecord}
use lib.Arith.{digits_div, digits_mod}

-- a word is the word of its record
pub word_record : (rows word : ℕ) → word_of rows (record_of rows word) ≡ word
word_record rows word = ap (λ (index : ℕ). word / 65536 * 65536 + index) (div-add-mod' (word % 65536) rows) ∙ div-add-mod' word 65536

-- a record is the record of its word, where its row is one of the rows and its index below 65536
pub record_word : (rows : ℕ) (m : MoveRecord) → m.row < rows → m.column * rows + m.row < 65536 → record_of rows (word_of rows m) ≡ m
record_word rows m h k =
    ap (λ (kind : ℕ). record { kind = kind; row = word_of rows m % 65536 % rows; column = word_of rows m % 65536 / rows }) (digits_div m.kind k)
    ∙ (ap (λ (index : ℕ). record { kind = m.kind; row = index % rows; column = index / rows }) (digits_mod m.kind k)
    ∙ (ap (λ (row : ℕ). record { kind = m.kind; row = row; column = (m.column * rows + m.row) / rows }) (digits_mod m.column h)
    ∙ ap (λ (column : ℕ). record { kind = m.kind; row = m.row; column = column }) (digits_div m.column h)))

-- the word that is replayed of a word's record is that word, where its index is of a grid with so many rows and at most 255 columns
pub move-word : (rows word : ℕ) → 0 < rows → rows ≤ 255 → word % 65536 < 255 * rows → word / 65536 < 65536 → move_word rows (record_of rows word) ≡ word
move-word rows word h k inside kind =
    simp (le-leb rows 255 k, lt-ltb (word % 65536 % rows) rows (mod-lt (word % 65536) h), lt-ltb (word % 65536 / rows) 255 ((div-lt_iff_lt-mul h).1 inside), lt-ltb (word / 65536) 65536 kind, word_record rows word)
