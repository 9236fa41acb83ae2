-- `price_calls::prices::price_checked`: set up, played, settled. Assumes nothing.
use mathlib.Core.Path.{ap, refl}
use mathlib.Core.List.{[], ◌∷◌}
use Prim.Native.Nat.{ℕ}
use Rattle.game.specs.Position.{untouched}
use Rattle.game.specs.Moves.{after}
use Rattle.game.specs.Rounds.{moves_of, round_steps}
use Rattle.game.specs.Calls.{gives}
use Rattle.area.specs.Numbers.{grid_of}
use Rattle.start.proofs.Begun.{fresh}
use borrow.Author.Rules.{rules}
use Rattle.price_calls.proofs.prices.price_checked.Goals as goal

pub round-clicks-requires : goal.round-clicks-requires
round-clicks-requires c =
    let a = c.args in
    record { shape = c.requires.shape; has_cells = search rules; fresh = record { grid = grid_of a.rows a.columns a.grid.now; old = a.work.now; stands = fresh a.rows a.columns (grid_of a.rows a.columns a.grid.now) a.work.now _ refl refl c.requires.shape c.requires.grid_len.1 c.set_up-units.ensures.work; counts = c.set_up-units.ensures.units } }

pub returns : goal.returns
returns c =
    let a = c.args in
    let g = grid_of a.rows a.columns a.grid.now in
    let played = moves_of (round_steps a.openings_first g) in
    let k = c.round-clicks.ensures g a.work.now (fresh a.rows a.columns (grid_of a.rows a.columns a.grid.now) a.work.now _ refl refl c.requires.shape c.requires.grid_len.1 c.set_up-units.ensures.work) c.set_up-units.ensures.units c.requires.grid_len.2 in
    record {
      answers = ap (λ (n : ℕ). gives (n ∷ [])) k.clicks;
      leaves = c.settle.ensures g (after g (untouched g) played) a.work.now refl c.requires.grid_len.1 k.stands.holds_it;
      lists = k.listed;
    }
