-- One cell of each pass leaves the work area as long as it was. Assumes nothing.
use Prim.Native.Nat.{ℕ, ◌%◌, ◌*◌, ◌+◌, ◌/◌}
use mathlib.Core.Path.{◌≡◌, refl}
use mathlib.Core.Bool.{Bool, cond, false, true}
use mathlib.Core.List.{List}
use lib.IntN.{ℤ}
use lib.ListN.{length}
use Rattle.area.specs.Numbers.{content_at, first_at, premium_at, premium_place, put_premium, second_at, state_at}
use Rattle.area.proofs.Puts.{put_length}
use Rattle.premiums.proofs.Risen.{length_raised}
use Rattle.late_premiums.specs.Passes.{alone_premium, closed_zero_at, halve_cell, keeper_of, lay_cell, mark_cell, mark_of, raise_near, raising_at}

pub length_mark : (n : ℕ) (w : List ℤ) (i : ℕ) → length (mark_cell n w i) ≡ length w
length_mark n w i = go (closed_zero_at w i)
  where
    go : (b : Bool) → length (cond b (put_premium w (keeper_of n (first_at w i)) 1) w) ≡ length w
    go true = put_length w (premium_place (keeper_of n (first_at w i))) 1
    go false = refl

pub length_lay : (n : ℕ) (w : List ℤ) (i : ℕ) → length (lay_cell n w i) ≡ length w
length_lay n w i =
    put_length w (premium_place i) (premium_at w i % 2 + 2 * alone_premium (mark_of n w (first_at w i) + mark_of n w (second_at w i)) (content_at w i) (state_at w i))

pub length_halve : (w : List ℤ) (i : ℕ) → length (halve_cell w i) ≡ length w
length_halve w i = put_length w (premium_place i) (premium_at w i / 2)

pub length_near : (rows columns : ℕ) (w : List ℤ) (i : ℕ) → length (raise_near rows columns w i) ≡ length w
length_near rows columns w i = length_raised (raising_at w i) rows columns w i
