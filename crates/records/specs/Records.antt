-- Move records (RULES 6.4), and the flat moves that they stand for: a word is kind x 65536 + index, an index column x rows + row. Assumes nothing.
use Rattle.std.specs.Prelude.{ℕ, ◌+◌, ◌*◌, ◌/◌, ◌%◌, Bool, ◌&&◌, cond, List, [], ◌∷◌, leb, ltb}
use Rattle.records.specs.declared.MoveRecord.{MoveRecord}

-- the record of zeros, which is no move
abbrev pub no_move : MoveRecord
no_move = record { kind = 0; row = 0; column = 0 }

-- the record of a word, on a grid of so many rows
abbrev pub record_of : ℕ → ℕ → MoveRecord
record_of rows word = record { kind = word / 65536; row = word % 65536 % rows; column = word % 65536 / rows }

-- the word of a record
abbrev pub word_of : ℕ → MoveRecord → ℕ
word_of rows m = m.kind * 65536 + (m.column * rows + m.row)

-- a record can be of a cell: at most 255 rows, the row one of them, the column below 255, and a kind that a word has room for
abbrev pub placed : ℕ → MoveRecord → Bool
placed rows m = leb rows 255 && (ltb m.row rows && (ltb m.column 255 && ltb m.kind 65536))

-- the word that is replayed: 0, which is no move, where the record is of no cell
abbrev pub move_word : ℕ → MoveRecord → ℕ
move_word rows m = cond (placed rows m) (word_of rows m) 0

-- a run with new entries written from its start, as far as it goes: the rest is unchanged
abbrev pub over {ℓ} : {A : Type ℓ} → List A → List A → List A
over [] run = run
over (x ∷ xs) [] = []
over (x ∷ xs) (y ∷ run) = x ∷ over xs run
