-- P1 to P12: the definitions, computed, give what the table says of each board. Assumes nothing.
use mathlib.Core.Path.{◌≡◌, refl}
use mathlib.Core.List.{map}
use Rattle.game.specs.Boards.{priced, twelve}
use Rattle.game.specs.Grid.{mine, number, square}
use Rattle.game.specs.Moves.{blow, play, reveal, sweep}
use Rattle.game.specs.Openings.{chained_to, grow, openings, three_bv}
use Rattle.game.specs.Position.{closed_safe, cost, gain, premium}
use Rattle.game.specs.Rounds.{choice, first_clicks, greedy_steps, moves_at, openings_first_steps, top_cells, unit_cells}

pub twelve_right : map (λ b. priced b.grid) twelve ≡ twelve
unfolding mine square number grow chained_to openings three_bv gain cost premium sweep reveal blow play closed_safe top_cells unit_cells moves_at choice greedy_steps first_clicks openings_first_steps twelve
twelve_right = refl
