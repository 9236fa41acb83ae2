-- `draws::four`: each byte at its place, low byte first. Assumes nothing.
use borrow.Author.Rules.{rules}
use Rattle.game.specs.Draws.{four_bytes}
use Rattle.draws.proofs.four.Goals as goal

pub returns : goal.returns
unfolding four_bytes
returns c = search rules
