-- The calls of the reader one after the other: the input handed over block by block, and then its end. Assumes nothing.
use Rattle.std.specs.Prelude.{ℕ, ◌*◌, ◌≤◌, ◌≡◌, List, [], ◌∷◌, get_or, length, take}
use Rattle.game.specs.Lists.{Each, concat_map}
use Rattle.line_prices.specs.Blocks.{DeskOutcome, block_call, cut_from, desk_after, end_call, printed}

-- the input that blocks come to
abbrev pub joined : List (List ℕ) → List ℕ
joined blocks = concat_map (λ b. b) blocks

-- what the calls come to, each handed what the one before it left
abbrev pub calls : List (List ℕ) → List ℕ → ℕ → List ℕ → List DeskOutcome
calls [] held count out = end_call held count out ∷ []
calls (b ∷ bs) held count out = let o = block_call b held count out in o ∷ calls bs o.held (get_or o.answer.values 0 0) o.out

-- the bytes that a call says are to be printed
abbrev pub to_print : DeskOutcome → List ℕ
to_print o = take (get_or o.answer.values 1 0) o.out

-- room for as many answers as a block has bytes
abbrev pub Fits : List ℕ → List ℕ → Type 0
Fits out block = 15 * length block ≤ length out

-- the reader as a whole: no call is refused, and what they print, in order, are the answers to the input's lines
pub record AllAnswered (input : List ℕ) (outcomes : List DeskOutcome) : Type 0 where
  pub none_refused : Each (λ (o : DeskOutcome). o.answer.number ≡ 0) outcomes
  pub prints : concat_map to_print outcomes ≡ printed input

-- what is kept of the line that goes on, once an input has been read, in a run that held other bytes before
pub record KeptOf (input before held : List ℕ) (count : ℕ) : Type 0 where
  pub held_is : held ≡ (desk_after (cut_from [] input) before []).held
  pub count_is : count ≡ (desk_after (cut_from [] input) before []).count
