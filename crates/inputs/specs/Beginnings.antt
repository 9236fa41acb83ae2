-- The beginning of an input, read until it decides. Assumes nothing.
use Rattle.std.specs.Prelude.{ℕ, ◌+◌, ◌-◌, ◌≤◌, min, ◌≡◌, Bool, ◌&&◌, ◌||◌, cond, false, List, [], T, eqb, ℤ, length, take, Result, Ok, Err}
use Rattle.game.specs.Lists.{has}
use Rattle.inputs.specs.Reads.{got_of}
use Rattle.inputs.specs.declared.Got.{Got}
use Rattle.inputs.specs.declared.Got.TheVariants as Gots
use Rattle.inputs.specs.declared.Standing.{Standing}
use Rattle.inputs.specs.declared.Standing.TheVariants.{All, More, Unread}
use Rattle.inputs.specs.declared.Unread as Failures

-- a line is asked for, and its line feed is among the bytes
abbrev pub line_ends : Bool → List ℕ → Bool
line_ends line bytes = line && has 10 bytes

-- the bytes read decide: they fill the run or, where a line is asked for, a line feed is among them
abbrev pub enough : Bool → ℕ → List ℕ → Bool
enough line room bytes = eqb (length bytes) room || line_ends line bytes

-- ---- one read

-- how many bytes one read asks for, with so many read of a run of n
abbrev pub room_for : ℕ → ℕ → ℕ
room_for count n = min 512 (n - count)

-- one read behind the bytes that were read before, which stay; its answer and errno are the system's doing
pub record ReadOn (count : ℕ) (before after : List ℕ) (got : Got) : Type 0 where
  pub answer : ℤ
  pub error : ℤ
  pub comes : got ≡ got_of answer error (room_for count (length before))
  pub stays : take count after ≡ take count before

-- how it stands with n bytes read: they are enough, or more are wanted
abbrev pub standing_by : Bool → List ℕ → ℕ → Standing
standing_by line held n = cond (enough line (length held) (take n held)) (All n) (More n)

-- how it stands after a read behind the first so many bytes
abbrev pub standing_of : Bool → List ℕ → ℕ → Got → Standing
standing_of line held count (Gots.Bytes n) = standing_by line held (count + n)
standing_of line held count Gots.End = All count
standing_of line held count Gots.Interrupted = More count
standing_of line held count Gots.Failed = Unread

-- ---- all of them

-- where reading stopped: at the end of the input, which is the system's doing, or with bytes enough; no read came after one that gave the line feed
pub record Stopped (line : Bool) (held : List ℕ) (count : ℕ) : Type 0 where
  pub inside : count ≤ length held
  pub ended : Bool
  pub stops : T (ended || enough line (length held) (take count held))
  pub soon : line_ends line (take (count - 512) held) ≡ false

-- what reading the beginning of an input came to
abbrev pub Begun : Bool → List ℕ → Result ℕ Failures.Unread → Type 0
Begun line held (Ok n) = Stopped line held n
Begun line held (Err _) = Unit {0}

-- the bytes that were read
abbrev pub bytes_read : List ℕ → Result ℕ Failures.Unread → List ℕ
bytes_read held (Ok n) = take n held
bytes_read held (Err _) = []
