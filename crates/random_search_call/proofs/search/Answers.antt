-- `random_search_call::search`: set up, played, handed back. Assumes nothing.
use mathlib.Core.Path.{refl}
use Rattle.game.specs.Rounds.{random_search}
use Rattle.area.specs.Numbers.{grid_of}
use Rattle.draws.specs.Answers.{mode_of}
use Rattle.supplies.specs.Origins.{source_of}
use Rattle.start.proofs.Begun.{fresh}
use Rattle.random_search_call.proofs.Searching.{search_hands}
use borrow.Author.Rules.{rules}
use Rattle.random_search_call.proofs.search.Goals as goal

pub search-finish-requires : goal.search-finish-requires
search-finish-requires c =
    let a = c.args in
    record { shape = c.requires.shape; has_cells = (search rules, c.requires.grid_len.2); fresh = record { grid = grid_of a.rows a.columns a.grid.now; old = a.work.now; stands = fresh a.rows a.columns (grid_of a.rows a.columns a.grid.now) a.work.now _ refl refl c.requires.shape c.requires.grid_len.1 c.set_up-units.ensures.work; counts = c.set_up-units.ensures.units }; key_room = c.requires.key_room }

pub returns : goal.returns
returns c =
    let a = c.args in
    let g = grid_of a.rows a.columns a.grid.now in
    λ origin d.
    let o = random_search g (source_of (mode_of a.mode) a.draws.now origin) a.rounds in
    let p = c.search-finish.ensures g a.work.now origin (fresh a.rows a.columns (grid_of a.rows a.columns a.grid.now) a.work.now _ refl refl c.requires.shape c.requires.grid_len.1 c.set_up-units.ensures.work) c.set_up-units.ensures.units d in
    (search_hands a.rows a.columns g origin a.work.now _ c.search-finish.result o p, c.end_search.ensures g origin o a.work.now refl c.requires.grid_len.1 p)
