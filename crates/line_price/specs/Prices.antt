-- What the board reader prints for one line (RULES 9.3). Assumes nothing.
use Rattle.std.specs.Prelude.{ℕ, List, [], ◌∷◌, ◌++◌, length}
use Rattle.std.proofs.Math.Option.{Option, none, some}
use Rattle.game.specs.Grid.{Grid}
use Rattle.game.specs.Openings.{three_bv}
use Rattle.game.specs.Rounds.{greedy_steps, moves_of, openings_first_steps}
use Rattle.game.specs.Calls.{Refusal, number_of}
use Rattle.lines.specs.BoardLine.{line_grid, line_refusal}
use Rattle.lines.specs.PriceLine.{Price, price_digits}

-- a board's figures; zeros after a refusal
abbrev pub price_or : Option Refusal → Grid → Price
price_or (some f) g = record { number = number_of f; units = 0; greedy = 0; openings-first = 0 }
price_or none g =
    record {
      number = 0;
      units = three_bv g;
      greedy = length (moves_of (greedy_steps g));
      openings-first = length (moves_of (openings_first_steps g));
    }

-- what a board line is priced at
unfoldable pub price_of : List ℕ → Price
price_of line = price_or (line_refusal line) (line_grid line)

-- the line that is printed for a line: fourteen digits and a line feed
unfoldable pub answer_line : List ℕ → List ℕ
answer_line line = price_digits (price_of line) ++ 10 ∷ []
