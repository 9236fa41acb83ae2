-- rand_range is the draw of the old mode: four bytes are far below usize::MAX less what is left of it, so its loop never turns twice. Assumes nothing.
use Prim.Native.Nat.{ℕ, ◌%◌, ◌+◌, ◌-◌, ◌<◌, ◌≤◌, suc, zero}
use native.Mathlib.Omega.{arith}
use native.Mathlib.Nat.{mod-lt}
use mathlib.Core.Path.{◌∙◌, ◌≡◌, ap₂, refl, sym}
use mathlib.Core.Bool.{Bool, cond, false, true}
use mathlib.Core.List.{List, [], ◌∷◌}
use mathlib.Core.Option.{Option, none, some}
use lib.Dec.{leb, leb→le, lit<, ltb, lt→ltb, nleb→lt}
use lib.ListN.{get_or, length}
use Rattle.game.specs.Draws.{Drawn, draw, four_bytes, old}
use Rattle.game.specs.Lists.{Each}
use Rattle.original.specs.Rounds.{rand_loop, rand_range, usize_max}
use Rattle.game.proofs.Draws.{old_draw}
use Rattle.game.proofs.Truth.{T→true}

byte_at : (bytes : List ℕ) (i : ℕ) → Each (λ b. b < 256) bytes → get_or bytes i 0 < 256
byte_at [] i h = lit< tt
byte_at (b ∷ bytes) zero h = h.0
byte_at (b ∷ bytes) (suc i) h = byte_at bytes i h.1

four_below : (bytes : List ℕ) (i : ℕ) → Each (λ b. b < 256) bytes → four_bytes bytes i < 4294967296
unfolding four_bytes
four_below bytes i h = omega (arith, byte_at bytes i h, byte_at bytes (i + 1) h, byte_at bytes (i + 2) h, byte_at bytes (i + 3) h)

-- the test of the loop passes
passes : (t limit : ℕ) → t < 4294967296 → 1 ≤ limit → limit ≤ 65025 → ltb t (usize_max - usize_max % limit) ≡ true
passes t limit h k l = T→true (ltb t (usize_max - usize_max % limit)) (lt→ltb t (usize_max - usize_max % limit) (far (usize_max % limit) (mod-lt usize_max k)))
  where
    far : (r : ℕ) → r < limit → t < usize_max - r
    far r q = omega arith

pub rand_draw : (bytes : List ℕ) (i limit : ℕ) → Each (λ b. b < 256) bytes → limit ≤ 65025 → rand_range bytes i limit ≡ draw old bytes i limit
unfolding rand_range
rand_draw bytes i limit h l = go (leb limit 1) refl (length bytes) refl (leb (i + 4) (length bytes)) refl ∙ sym (old_draw bytes i limit)
  where
    go : (b : Bool) → leb limit 1 ≡ b → (n : ℕ) → length bytes ≡ n → (c : Bool) → leb (i + 4) (length bytes) ≡ c
        → ◌≡◌ {A = Option Drawn} (elim b [ true ↦ some (record { place = 0; next = i }) | false ↦ rand_loop n bytes i limit ])
        (cond b (some (record { place = 0; next = i })) (cond c (some (record { place = four_bytes bytes i % limit; next = i + 4 })) none))
    go true e n q c d = refl
    go false e zero q true d = absurd (omega (arith, leb→le (i + 4) (length bytes) (rw d tt)))
    go false e zero q false d = refl
    go false e (suc n) q c d =
        ap₂ {B = Bool} {C = Option Drawn} (λ a b. elim a as (λ x. Option Drawn) [
          | true ↦ elim b [ true ↦ some (record { place = four_bytes bytes i % limit; next = i + 4 }) | false ↦ rand_loop n bytes (i + 4) limit ]
          | false ↦ none
        ]) d (passes (four_bytes bytes i) limit (four_below bytes i h) (omega (arith, nleb→lt limit 1 (rw e tt))) l)
        ∙ last c
      where
        last : (c : Bool) → ◌≡◌ {A = Option Drawn} (elim c [ true ↦ some (record { place = four_bytes bytes i % limit; next = i + 4 }) | false ↦ none ])
            (cond c (some (record { place = four_bytes bytes i % limit; next = i + 4 })) none)
        last true = refl
        last false = refl
