-- What a draw's mode and its answer stand for (RULES 5.1, 5.5). Assumes nothing.
use Rattle.std.specs.Prelude.{ℕ, ◌<◌, ◌≡◌, None, Option, Some, ltb}
use Rattle.std.proofs.Math.Option as Rules
use Rattle.game.specs.Draws as Game
use Rattle.draws.specs.declared.Drawn.{Drawn}
use Rattle.draws.specs.declared.Mode.{Mode}
use Rattle.draws.specs.declared.Mode.TheVariants.{Fair, Old}

-- the old mode, or the fair one
abbrev pub mode_of : Mode → Game.Mode
mode_of Old = Game.old
mode_of Fair = Game.fair

-- the place and where the next draw reads on, or none where the bytes are short
abbrev pub drawn_of : Option Drawn → Rules.Option Game.Drawn
drawn_of (Some d) = Rules.some (record { place = d.place; next = d.next })
drawn_of None = Rules.none

-- a bound tells the words that are taken among n
pub record Bounds (mode : Game.Mode) (n bound : ℕ) : Type 0 where
  pub tells : (word : ℕ) → word < Game.all_words → ltb word bound ≡ Game.taken mode n word
