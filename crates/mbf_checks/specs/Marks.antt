-- A file's mines marked as bits, one after the other: what the functions that check a file promise. Assumes nothing.
use Rattle.std.specs.Prelude.{ℕ, ◌≡◌, Bool, ◌||◌, cond, not, true, List, length, replicate, Result}
use Rattle.std.proofs.Math.Option.{none}
use Rattle.game.specs.Lists.{has, range, some_of}
use Rattle.game.specs.Calls.{first_given}
use Rattle.lines.specs.BoardLine.{bit_at}
use Rattle.mine_bits.specs.Bits.{with_bit}
use Rattle.mbf_form.specs.Form.{mine_count, mine_place, mine_places, past_edge, twice}
use Rattle.mbf_form.specs.Calls.{mine_checks}
use Rattle.refusals.specs.Names.{refusal_of}
use Rattle.refusals.specs.declared.Refusal.{Refusal}

-- as many bits as the largest grid has cells, none of them set
abbrev pub no_bits : List ℕ
no_bits = replicate 8192 0

-- the bits are those of some places: each of them is set, and no other
pub record BitsOf (places bits : List ℕ) : Type 0 where
  pub long : length bits ≡ 8192
  pub set : (p : ℕ) → bit_at bits p ≡ has p places

-- a mine is refused where it is past the edge or its bit is set already; else its bit is set
pub record MarkedOne (file : List ℕ) (k : ℕ) (before : List ℕ) (taken : Bool) (after : List ℕ) : Type 0 where
  pub answers : taken ≡ not (past_edge file k || bit_at before (mine_place file k))
  pub leaves : after ≡ cond taken (with_bit before (mine_place file k)) before

-- all mines marked: none of them is past the edge or listed twice, and their bits are set
pub record MarkedAll (file : List ℕ) (taken : Bool) (bits : List ℕ) : Type 0 where
  pub answers : taken ≡ not (some_of (past_edge file) (range 0 (mine_count file)) || twice (mine_places file))
  pub marks : taken ≡ true → BitsOf (mine_places file) bits

-- the count and the mines checked: the verdict and, where nothing is refused, the mines' bits
pub record CheckedMines (file : List ℕ) (checked : Result Unit Refusal) (bits : List ℕ) : Type 0 where
  pub verdict : refusal_of checked ≡ first_given (mine_checks file)
  pub marks : refusal_of checked ≡ none → BitsOf (mine_places file) bits
