-- Random steps, rounds and searches on a work area that stands for a position. Assumes nothing.
use Rattle.std.specs.Prelude.{ℕ, ◌^◌, ◌≤◌, ◌≡◌, None, Some, cond, false, List, [], ◌∷◌, map, ltb, ℤ, get_or, length}
use Rattle.std.specs.Prelude as Code
use Rattle.std.proofs.Math.Option.{Option, none, some}
use Rattle.std.proofs.lemmas.List.Edits.{sets}
use Rattle.game.specs.Grid.{Grid, size}
use Rattle.game.specs.Lists.{keep, range}
use Rattle.game.specs.Openings.{three_bv}
use Rattle.game.specs.Position.{Position, closed_units, untouched}
use Rattle.game.specs.Moves.{Move, after, left, word}
use Rattle.game.specs.Calls.{Answer, draws, gives, refuses}
use Rattle.game.specs.Draws.{Drawn}
use Rattle.game.specs.Keys.{Key, key_numbers}
use Rattle.game.specs.Rounds.{Round, Searched, choice, moves_at, moves_of, step_of}
use Rattle.area.specs.Stages.{Stands}
use Rattle.ties.specs.Candidates.{candidate_at, candidates_of, for_click}
use Rattle.keys.specs.Stands.{key_of}
use Rattle.keys.specs.declared.Key as Keys
use Rattle.supplies.specs.Origins.{GrownBy, Origin, Reads}
use Rattle.supplies.specs.declared.Supply.{Supply}
use Rattle.moves.specs.Promises.{Made}
use Rattle.moves.specs.declared.State.{State}
use Rattle.random.specs.declared.Onward.{Onward}
use Rattle.random.specs.declared.Finish.{Finish}

-- the moves of a step at the cell that it took: one L where the highest raised premium is below 10
abbrev pub taken_moves : Grid → Position → ℕ → ℕ → List Move
taken_moves g s top i = cond (ltb top 10) (left i ∷ []) (moves_at g s i)

-- so high a raised premium tells the cells of a choice from the others, and whether it is for one L
pub record Tells (g : Grid) (s : Position) (w : List ℤ) (cells top : ℕ) : Type 0 where
  pub one_click : ltb top 10 ≡ for_click (choice false g s)
  pub candidates : keep (candidate_at top w) (range 0 cells) ≡ candidates_of (choice false g s)

-- a step was drawn and made; the state after it, and the supply that the next draw reads on from, are handed on
pub record Went (rows columns : ℕ) (g : Grid) (s : Position) (old : List ℤ) (origin : Origin) (ms : List Move) (next : ℕ) (list : List ℕ) (t : State) (w' : List ℤ) (list' : List ℕ) (r : Code.Option Onward) : Type 0 where
  pub state : State
  pub supply : Supply
  pub answer : r ≡ Some (record { state = state; supply = supply })
  pub reads : Reads origin next supply
  pub made : Made rows columns g s old ms list t w' list' state

-- the draws ran dry, and nothing changed
pub record Dried (r : Code.Option Onward) (w w' : List ℤ) (list list' : List ℕ) : Type 0 where
  pub answer : r ≡ None
  pub same-work : w' ≡ w
  pub same-list : list' ≡ list

-- what a random step comes to, by its draw
abbrev pub Stepping : (rows columns : ℕ) → Grid → Position → List ℤ → Origin → Option Drawn → List ℕ → State → List ℤ → List ℤ → List ℕ → Code.Option Onward → Type 0
Stepping rows columns g s old origin none list t w w' list' r = Dried r w w' list list'
Stepping rows columns g s old origin (some d) list t w w' list' r =
    Went rows columns g s old origin (step_of g s (choice false g s) d.place).moves d.next list t w' list' r

-- a round was played to its end, where no unit is left closed
pub record Ended (rows columns : ℕ) (g : Grid) (old : List ℤ) (origin : Origin) (o : Round) (list : List ℕ) (w' : List ℤ) (list' : List ℕ) (r : Code.Option Finish) : Type 0 where
  pub supply : Supply
  pub answer : r ≡ Some (record { clicks = length (moves_of o.steps); supply = supply })
  pub reads : Reads origin o.next supply
  pub stands : Stands rows columns g (after g (untouched g) (moves_of o.steps)) old w'
  pub none_left : closed_units g (after g (untouched g) (moves_of o.steps)) ≡ 0
  pub noted : list' ≡ sets list 0 (map word (moves_of o.steps))

-- the draws ran dry in a round: the area stands for some position, and the list is unchanged past the cells
pub record Broken (rows columns : ℕ) (g : Grid) (old : List ℤ) (list : List ℕ) (w' : List ℤ) (list' : List ℕ) (r : Code.Option Finish) : Type 0 where
  pub answer : r ≡ None
  pub position : Position
  pub stands : Stands rows columns g position old w'
  pub long : length list' ≡ length list
  pub past : (k : ℕ) → size g ≤ k → get_or list' k 0 ≡ get_or list k 0

-- what a random round comes to
abbrev pub Rolling : (rows columns : ℕ) → Grid → List ℤ → Origin → Option Round → List ℕ → List ℤ → List ℕ → Code.Option Finish → Type 0
Rolling rows columns g old origin none list w' list' r = Broken rows columns g old list w' list' r
Rolling rows columns g old origin (some o) list w' list' r = Ended rows columns g old origin o list w' list' r

-- the area stands for a position of a grid of so many units
pub record CountsUnits (rows columns : ℕ) (w : List ℤ) (units : ℕ) : Type 0 where
  pub grid : Grid
  pub old : List ℤ
  pub moves : List Move
  pub stands : Stands rows columns grid (after grid (untouched grid) moves) old w
  pub counts : units ≡ three_bv grid

-- a round as a search of one
abbrev pub once : Option Round → Option Searched
once none = none
once (some e) = some (record { least = length (moves_of e.steps); next = e.next; moves = moves_of e.steps })

-- a search was played to its end: the least clicks, the supply after it, the last round left
pub record SearchEnded (rows columns : ℕ) (g : Grid) (old : List ℤ) (origin : Origin) (o : Searched) (w' : List ℤ) (r : Code.Option Finish) : Type 0 where
  pub supply : Supply
  pub answer : r ≡ Some (record { clicks = o.least; supply = supply })
  pub reads : Reads origin o.next supply
  pub stands : Stands rows columns g (after g (untouched g) o.moves) old w'

-- the draws ran dry in a search: the area stands for some position
pub record SearchBroken (rows columns : ℕ) (g : Grid) (old : List ℤ) (w' : List ℤ) (r : Code.Option Finish) : Type 0 where
  pub answer : r ≡ None
  pub position : Position
  pub stands : Stands rows columns g position old w'

-- what a random search comes to
abbrev pub Searching : (rows columns : ℕ) → Grid → List ℤ → Origin → Option Searched → List ℤ → Code.Option Finish → Type 0
Searching rows columns g old origin none w' r = SearchBroken rows columns g old w' r
Searching rows columns g old origin (some o) w' r = SearchEnded rows columns g old origin o w' r

-- ---- how much of a key is used

-- by a step that went: at most 64 words
pub record StepGrows (s : Supply) (r : Code.Option Onward) : Type 0 where
  pub went : (o : Onward) → r ≡ Some o → GrownBy 256 s o.supply

-- by a round that ended: at most 64 words a step, and fewer than 65,536 steps
pub record RoundGrows (s : Supply) (r : Code.Option Finish) : Type 0 where
  pub ended : (finish : Finish) → r ≡ Some finish → GrownBy (2 ^ 24) s finish.supply

-- ---- what a round or a search answers

-- clicks and bytes used, or DRAWS
abbrev pub finish_answer : Code.Option Finish → Answer
finish_answer (Some f) = gives (f.clicks ∷ f.supply.used ∷ [])
finish_answer None = refuses draws

-- the key of a supply: lent bytes leave the one that stood beside them
abbrev pub key_left : Code.Option Keys.Key → Key → Key
key_left (Some key) beside = key_of key
key_left None beside = beside

-- by a key: the six numbers of the supply's key too
abbrev pub key_finish_answer : Code.Option Finish → Key → Answer
key_finish_answer (Some f) beside = gives (f.clicks ∷ f.supply.used ∷ key_numbers (key_left f.supply.key beside))
key_finish_answer None beside = refuses draws

-- the supply after one that ended stands where its bytes used say
pub record HandsOn (origin : Origin) (r : Code.Option Finish) : Type 0 where
  pub ended : (finish : Finish) → r ≡ Some finish → Reads origin finish.supply.used finish.supply
