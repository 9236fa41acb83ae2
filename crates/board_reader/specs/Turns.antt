-- The turns of the board reader's program: what is kept from block to block, and what is handed to the write. Assumes nothing.
use Rattle.std.specs.Prelude.{ℕ, ◌≡◌, Bool, cond, false, true, List, [], ◌++◌, ℤ, length, replicate, take}
use Rattle.game.specs.Lists.{concat_map}
use Rattle.line_price.specs.Prices.{answer_line}
use Rattle.line_prices.specs.Blocks.{Cut, cut_from, desk_after, last_line}
use Rattle.line_prices.specs.Sessions.{KeptOf, joined}
use Rattle.inputs.specs.Reads.{got_of}
use Rattle.inputs.specs.declared.Got.{Got}
use Rattle.inputs.specs.declared.Got.TheVariants as Reads
use Rattle.board_reader.specs.declared.PartLine.{PartLine}
use Rattle.board_reader.specs.declared.Turn.{Turn}
use Rattle.board_reader.specs.declared.Went.{Went}
use Rattle.board_reader.specs.declared.Went.TheVariants as Ways

-- bytes cut into lines, read on from what is kept
abbrev pub cut_on : PartLine → List ℕ → Cut
cut_on kept block = cut_from (take kept.count kept.bytes) block

-- the lines to be answered: those that ended and, at the end of input, the one that goes on
abbrev pub due : Bool → Cut → List (List ℕ)
due false cut = cut.ended
due true cut = cut.ended ++ last_line cut.goes-on

-- the answers that are handed to the write: to the lines that are due, read on from what is kept
abbrev pub answers_to : PartLine → List ℕ → Bool → List ℕ
answers_to kept block ends = concat_map answer_line (due ends (cut_on kept block))

-- what is kept once a block has been read
abbrev pub kept_after : PartLine → List ℕ → PartLine
kept_after kept block = let d = desk_after (cut_on kept block) kept.bytes [] in record { bytes = d.held; count = d.count }

-- what is kept before anything has been read
abbrev pub nothing_kept : PartLine
nothing_kept = record { bytes = replicate 517 0; count = 0 }

-- there are blocks such that what is kept is what they come to
pub record Sofar (kept : PartLine) : Type 0 where
  pub blocks : List (List ℕ)
  pub keeps : KeptOf (joined blocks) nothing_kept.bytes kept.bytes kept.count

-- how it goes after answers: by whether the write took them, and whether the input ends
abbrev pub went_by : Bool → Bool → Went
went_by written ends = cond written (cond ends Ways.Ended Ways.On) Ways.Unwritten

-- the input goes on
abbrev pub goes_on : Went → Bool
goes_on Ways.On = true
goes_on Ways.Ended = false
goes_on Ways.Unread = false
goes_on Ways.Unwritten = false

-- answers handed to the write; whether it took them is the system's doing
pub record Handed (ends : Bool) (went : Went) : Type 0 where
  pub written : Bool
  pub comes : went ≡ went_by written ends

-- a block has been answered: what is kept then, and how it went
abbrev pub answered_turn : PartLine → List ℕ → Bool → Turn
answered_turn kept block written = record { kept = kept_after kept block; went = went_by written false }

-- a turn, by what a read came to, what stands in the block then, and whether the write took the answers
abbrev pub turn_of : PartLine → Got → List ℕ → Bool → Turn
turn_of kept (Reads.Bytes n) block written = answered_turn kept (take n block) written
turn_of kept Reads.End block written = record { kept = kept; went = Ways.Ended }
turn_of kept Reads.Interrupted block written = record { kept = kept; went = Ways.On }
turn_of kept Reads.Failed block written = record { kept = kept; went = Ways.Unread }

-- a block answered; whether the write took the answers is the system's doing
pub record AnsweredBlock (kept : PartLine) (block : List ℕ) (turn : Turn) : Type 0 where
  pub written : Bool
  pub comes : turn ≡ answered_turn kept block written

-- a turn; what the read answered, errno, and whether the write took the answers are the system's doing
pub record Turns (kept : PartLine) (block : List ℕ) (turn : Turn) : Type 0 where
  pub got : ℤ
  pub error : ℤ
  pub written : Bool
  pub comes : turn ≡ turn_of kept (got_of got error (length block)) block written
