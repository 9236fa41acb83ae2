-- `random_round_call::roll`: set up, played, handed back. Assumes nothing.
use mathlib.Core.Path.{refl}
use Rattle.game.specs.Rounds.{random_round}
use Rattle.area.specs.Numbers.{grid_of}
use Rattle.draws.specs.Answers.{mode_of}
use Rattle.supplies.specs.Origins.{source_of}
use Rattle.random.proofs.Supplies.{origin_places}
use Rattle.start.proofs.Begun.{fresh}
use Rattle.random_round_call.proofs.Rolling.{round_hands}
use borrow.Author.Rules.{rules}
use Rattle.random_round_call.proofs.roll.Goals as goal

pub round-finish-requires : goal.round-finish-requires
round-finish-requires c =
    let a = c.args in
    record { shape = c.requires.shape; has_cells = search rules; fresh = record { grid = grid_of a.rows a.columns a.grid.now; old = a.work.now; stands = fresh a.rows a.columns (grid_of a.rows a.columns a.grid.now) a.work.now _ refl refl c.requires.shape c.requires.grid_len.1 c.set_up-units.ensures.work; counts = c.set_up-units.ensures.units }; key_room = c.requires.key_room }

pub returns : goal.returns
returns c =
    let a = c.args in
    let g = grid_of a.rows a.columns a.grid.now in
    λ origin d.
    let source = source_of (mode_of a.mode) a.draws.now origin in
    let p = c.round-finish.ensures.rolling g a.work.now origin 0 (fresh a.rows a.columns (grid_of a.rows a.columns a.grid.now) a.work.now _ refl refl c.requires.shape c.requires.grid_len.1 c.set_up-units.ensures.work) c.set_up-units.ensures.units d in (
      round_hands a.rows a.columns g origin a.work.now _ c.round-finish.result (random_round g source 0) a.list.now _ p,
      c.end_round.ensures g source origin a.work.now a.list.now (origin_places (mode_of a.mode) a.draws.now origin) refl c.requires.grid_len.1 c.requires.grid_len.2 p,
    )
