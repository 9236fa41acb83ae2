-- How bytes become lines, what is printed for them, and what a block of input comes to (RULES 8.3, 9.1). Assumes nothing.
use Rattle.std.specs.Prelude.{ℕ, ◌*◌, ◌||◌, false, true, List, [], ◌∷◌, ◌++◌, eqb, ltb, length, take}
use Rattle.std.proofs.Math.Option.{Option, none, some}
use Rattle.game.specs.Area.{begun}
use Rattle.game.specs.Lists.{concat_map}
use Rattle.game.specs.Calls.{Answer, Check, Refusal, first_given, gives, refuses, trace, work}
use Rattle.line_price.specs.Prices.{answer_line}

-- lines that have ended, and the line that goes on
pub record Cut : Type 0 where
  pub ended : List (List ℕ)
  pub goes-on : List ℕ

-- bytes read on from the beginning of a line: a line feed ends it
abbrev pub cut_from : List ℕ → List ℕ → Cut
cut_from line [] = record { ended = []; goes-on = line }
cut_from line (b ∷ bs) =
    elim (eqb b 10) [
      | true ↦ record { ended = line ∷ (cut_from [] bs).ended; goes-on = (cut_from [] bs).goes-on }
      | false ↦ cut_from (line ++ b ∷ []) bs
    ]

-- the last line feed may be missing; nothing after it is no line
abbrev pub last_line : List ℕ → List (List ℕ)
last_line [] = []
last_line (b ∷ bs) = (b ∷ bs) ∷ []

-- the lines of an input
abbrev pub lines_of : List ℕ → List (List ℕ)
lines_of input = (cut_from [] input).ended ++ last_line (cut_from [] input).goes-on

-- what the board reader prints for an input
unfoldable pub printed : List ℕ → List ℕ
printed input = concat_map answer_line (lines_of input)

-- what is kept of the line that goes on, and what is to be printed
pub record Desk : Type 0 where
  pub held : List ℕ
  pub count : ℕ
  pub out : List ℕ
  pub written : ℕ

-- of a line's bytes the first 517 are kept, over what was kept before
abbrev pub kept_over : List ℕ → List ℕ → List ℕ
kept_over held line = begun (take 517 line) held

-- what is kept once lines have ended and another goes on
abbrev pub held_after : List ℕ → List (List ℕ) → List ℕ → List ℕ
held_after held [] goes-on = kept_over held goes-on
held_after held (line ∷ lines) goes-on = held_after (kept_over held line) lines goes-on

-- what bytes come to: each line that ended is answered, at the start of what is to be printed, and the line that goes on is kept
abbrev pub desk_after : Cut → List ℕ → List ℕ → Desk
desk_after cut held out =
    record {
      held = held_after held cut.ended cut.goes-on;
      count = length (take 517 cut.goes-on);
      out = begun (concat_map answer_line cut.ended) out;
      written = length (concat_map answer_line cut.ended);
    }

-- what a call of the reader comes to: the answer, what is kept of the line that goes on, and what is to be printed
pub record DeskOutcome : Type 0 where
  pub answer : Answer
  pub held : List ℕ
  pub out : List ℕ

-- WORK: room for fewer than 517 bytes of a line, or more said to be kept
abbrev pub held_check : List ℕ → ℕ → Check
held_check held count = record { given = ltb (length held) 517 || ltb 517 count; refusal = work }

-- TRACE: room for fewer than n lines to be printed
abbrev pub out_check : List ℕ → ℕ → Check
out_check out n = record { given = ltb (length out) (15 * n); refusal = trace }

-- a refusal changes nothing lent; otherwise what is kept and how much is to be printed
abbrev pub unless_desk : Option Refusal → List ℕ → List ℕ → Desk → DeskOutcome
unless_desk (some f) held out d = record { answer = refuses f; held = held; out = out }
unless_desk none held out d = record { answer = gives (d.count ∷ d.written ∷ []); held = d.held; out = d.out }

-- a block of input answered, read on from the bytes that are kept
unfoldable pub block_call : List ℕ → List ℕ → ℕ → List ℕ → DeskOutcome
block_call block held count out =
    unless_desk (first_given (held_check held count ∷ out_check out (length block) ∷ [])) held out
    (desk_after (cut_from (take count held) block) held out)

-- the end of input answered: a line that goes on ends, as if its line feed were there
unfoldable pub end_call : List ℕ → ℕ → List ℕ → DeskOutcome
end_call held count out =
    unless_desk (first_given (held_check held count ∷ out_check out 1 ∷ [])) held out
    (desk_after (record { ended = last_line (take count held); goes-on = [] }) held out)
