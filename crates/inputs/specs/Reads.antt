-- What a read came to, by its answer and errno. Assumes nothing.
use Rattle.std.specs.Prelude.{ℕ, min, Bool, cond, false, eqb, negsuc, pos, ℤ}
use Rattle.inputs.specs.declared.Got.{Got}
use Rattle.inputs.specs.declared.Got.TheVariants.{Bytes, End, Failed, Interrupted}

-- errno says that a call was interrupted: EINTR is 4
abbrev pub interrupted : ℤ → Bool
interrupted (pos n) = eqb n 4
interrupted (negsuc n) = false

-- a read that failed, by errno
abbrev pub failed_by : ℤ → Got
failed_by error = cond (interrupted error) Interrupted Failed

-- what a read into n bytes came to, by its answer and errno: no bytes are the end of input
abbrev pub got_of : ℤ → ℤ → ℕ → Got
got_of (pos k) error n = cond (eqb (min k n) 0) End (Bytes (min k n))
got_of (negsuc k) error n = failed_by error

-- how many bytes came
abbrev pub bytes_in : Got → ℕ
bytes_in (Bytes n) = n
bytes_in End = 0
bytes_in Interrupted = 0
bytes_in Failed = 0
