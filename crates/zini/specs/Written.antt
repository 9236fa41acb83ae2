-- Demand 3 carried to the calls: what stands in a list after a round, and what a search answered. Assumes nothing.
use Rattle.std.specs.Prelude.{ℕ, ◌≡◌, List, [], ◌∷◌, map, ℤ, length, take}
use Rattle.std.proofs.Math.Option.{some}
use Rattle.game.specs.Calls.{gives, replayed_list}
use Rattle.game.specs.Draws.{Source}
use Rattle.game.specs.Grid.{Grid}
use Rattle.game.specs.Position.{untouched}
use Rattle.game.specs.Moves.{replay_from, whole, word}
use Rattle.game.specs.Rounds.{Searched, Step, moves_of, random_search}
use Rattle.game.specs.Demands.{Sound, SoundSearch, standing}

-- the first n words of a list are the moves of a round that meets demand 3: legal, as many as the clicks, replayed to its end, which is won
pub record Written (g : Grid) (n : ℕ) (list : List ℕ) : Type 0 where
  pub steps : List Step
  pub sound : Sound g steps
  pub clicks : n ≡ length (moves_of steps)
  pub words : take n list ≡ map word (moves_of steps)
  pub replays : replay_from g 0 (untouched g) (take n list) ≡ whole (standing g steps)
  -- a replay of them answers that all were made, that no safe cell is closed, and that the game is won
  pub wins : (ws : List ℤ) → (replayed_list g ws list n).answer ≡ gives (n ∷ 0 ∷ 1 ∷ [])

-- a search of so many rounds that draw from a source answered clicks and bytes used: the least and the last byte of rounds that each meet demand 3
pub record Told (source : Source) (g : Grid) (rounds clicks used : ℕ) : Type 0 where
  pub came_to : Searched
  pub searched : random_search g source rounds ≡ some came_to
  pub clicks_are : clicks ≡ came_to.least
  pub used_are : used ≡ came_to.next
  pub sound : SoundSearch g source rounds came_to
