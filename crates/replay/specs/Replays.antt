-- What one replayed move and the replay of a list promise. Assumes nothing.
use Rattle.std.specs.Prelude.{ℕ, ◌≡◌, Bool, cond, false, true, List, eqb, ℤ, Option, Some, None, Result, Ok, Err}
use Rattle.std.proofs.Math.Option as Rules
use Rattle.area.specs.Stages.{Moving}
use Rattle.game.specs.Grid.{Grid}
use Rattle.game.specs.Moves.{Move, Replayed, play_read, stopped, whole}
use Rattle.game.specs.Position.{Position, closed_safe, ending, lost}
use Rattle.replay.specs.declared.clicks.Remains.{Remains}
use Rattle.replay.specs.declared.runs.Stopped.{Stopped}
use Rattle.replay.specs.declared.runs.Whole.{Whole}
use Rattle.kinds.specs.Numbers.{ending_number}
use Rattle.kinds.specs.declared.Ending.{Ending}
use Rattle.kinds.specs.declared.Ending.TheVariants.{Lost, Unfinished, Won}

-- a legal move was played: r says what is left, and v has the states of the position after it
pub record Moved (rows columns : ℕ) (g : Grid) (s : Position) (old : List ℤ) (m : Rules.Option Move) (r : Option Remains) (v : List ℤ) : Type 0 where
  pub left : Remains
  pub answer : r ≡ Some left
  pub moving : Moving rows columns g (play_read g s m) old v
  pub closed_are : left.closed ≡ closed_safe g (play_read g s m)
  pub lost_is : left.lost ≡ lost g (play_read g s m)

-- a move that isn't legal was refused, and nothing changed
pub record Refused (r : Option Remains) (w v : List ℤ) : Type 0 where
  pub answer : r ≡ None
  pub unchanged : v ≡ w

-- what a move comes to, by whether it is legal
abbrev pub Making : (rows columns : ℕ) → Grid → Position → List ℤ → Bool → Rules.Option Move → Option Remains → List ℤ → List ℤ → Type 0
Making rows columns g s old true m r w v = Moved rows columns g s old m r v
Making rows columns g s old false m r w v = Refused r w v

-- how a game ends, by the safe cells still closed and whether a mine is open
abbrev pub ending_by : ℕ → Bool → Ending
ending_by closed lost = cond lost Lost (cond (eqb closed 0) Won Unfinished)

-- a list was played whole, to the position t: r says the safe cells still closed and the ending, and v has the states of t
pub record PlayedWhole (rows columns : ℕ) (g : Grid) (old : List ℤ) (t : Position) (r : Result Whole Stopped) (v : List ℤ) : Type 0 where
  pub whole : Whole
  pub answer : r ≡ Ok whole
  pub closed_are : whole.closed ≡ closed_safe g t
  pub ending_is : ending_number whole.ending ≡ ending g t
  pub moving : Moving rows columns g t old v

-- a list was played up to the move at the place k, which isn't legal in the position t: r says the place, and v has the states of t
pub record StoppedAt (rows columns : ℕ) (g : Grid) (old : List ℤ) (k : ℕ) (t : Position) (r : Result Whole Stopped) (v : List ℤ) : Type 0 where
  pub answer : r ≡ Err (record { place = k })
  pub moving : Moving rows columns g t old v

-- what a replay comes to
abbrev pub Replaying : (rows columns : ℕ) → Grid → List ℤ → Replayed → Result Whole Stopped → List ℤ → Type 0
Replaying rows columns g old (whole t) r v = PlayedWhole rows columns g old t r v
Replaying rows columns g old (stopped k t) r v = StoppedAt rows columns g old k t r v
