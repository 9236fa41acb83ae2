-- The whole case of RULES 11.5: six lines and what is printed for them. Assumes nothing.
use Rattle.std.specs.Prelude.{ℕ, List, [], ◌∷◌}
use Prim.Native.Char.{code}
use Prim.Native.String.{String, [] as none_left, ◌∷◌ as ◌then◌}

-- the bytes of a text of plain characters
abbrev pub bytes_of_text : String → List ℕ
bytes_of_text none_left = []
bytes_of_text (c then s) = code c ∷ bytes_of_text s

-- the left column, a line feed after each line
unfoldable pub whole_input : List ℕ
whole_input = bytes_of_text "010100\n03030800\n03032200\n020201\n0003\nFFFF\n"

-- the right column
unfoldable pub whole_output : List ℕ
whole_output = bytes_of_text "00000100010001\n00000800050006\n00000200020002\n08000000000000\n01000000000000\n09000000000000\n"
