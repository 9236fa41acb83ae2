-- The whole case of RULES 11.5: the definitions, computed, print its right column for its left. Assumes nothing.
use mathlib.Core.Path.{◌≡◌, refl}
use Rattle.game.specs.Grid.{mine, number, square}
use Rattle.game.specs.Moves.{blow, play, reveal, sweep}
use Rattle.game.specs.Openings.{chained_to, grow, openings, three_bv}
use Rattle.game.specs.Position.{closed_safe, cost, gain, premium}
use Rattle.game.specs.Rounds.{choice, first_clicks, greedy_steps, moves_at, openings_first_steps, top_cells, unit_cells}
use Rattle.hex_digits.specs.Hex.{hex_digit, hex_value}
use Rattle.lines.specs.BoardLine.{bit_at, bit_between, grid_of_bytes, line_refusal}
use Rattle.lines.specs.PriceLine.{price_digits}
use Rattle.line_price.specs.Prices.{answer_line, price_of}
use Rattle.line_prices.specs.Blocks.{printed}
use Rattle.line_prices.specs.WholeCase.{whole_input, whole_output}

pub whole_case : printed whole_input ≡ whole_output
unfolding mine square number grow chained_to openings three_bv gain cost premium sweep reveal blow play closed_safe top_cells unit_cells moves_at choice greedy_steps first_clicks openings_first_steps hex_digit hex_value bit_at bit_between grid_of_bytes line_refusal price_digits answer_line price_of printed whole_input whole_output
whole_case = refl
