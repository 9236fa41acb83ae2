-- The bytes that came are bytes of the block. Assumes nothing.
use Rattle.std.proofs.Common.{ℕ, ◌≤◌, min, ℤ, pos, negsuc, Bool, cond, true, false, eqb, arith}
use native.Mathlib.Nat.{min-le_right}
use Rattle.inputs.specs.Reads.{bytes_in, got_of, interrupted}
use Rattle.inputs.specs.declared.Got.TheVariants.{Bytes, End, Failed, Interrupted}

pub bytes_inside : (got error : ℤ) (n : ℕ) → bytes_in (got_of got error n) ≤ n
bytes_inside got error n = go got
  where
    few : (m : ℕ) (b : Bool) → m ≤ n → bytes_in (cond b End (Bytes m)) ≤ n
    few m true h = omega arith
    few m false h = h

    none_came : (b : Bool) → bytes_in (cond b Interrupted Failed) ≤ n
    none_came true = omega arith
    none_came false = omega arith

    go : (v : ℤ) → bytes_in (got_of v error n) ≤ n
    go (pos m) = few (min m n) (eqb (min m n) 0) (min-le_right m n)
    go (negsuc m) = none_came (interrupted error)
