-- A supply that stands at a place stands somewhere; lent bytes need no room, and a key from its first word on has enough. Assumes nothing.
use Prim.Native.Nat.{ℕ, ◌^◌, ◌≤◌}
use native.Mathlib.Omega.{arith}
use mathlib.Core.Path.{◌≡◌, subst, sym}
use mathlib.Core.Bool.{true}
use mathlib.Core.Option as Rules
use Rattle.std.specs.Prelude.{None, Option, Some, is_some}
use Rattle.game.specs.Keys.{Key}
use Rattle.keys.specs.declared.Key as Code
use Rattle.supplies.specs.declared.Supply.{Supply}
use Rattle.supplies.specs.Origins.{KeyRoom, Origin, Reads, Somewhere, bytes_lent, key_drawn, key_given}

-- the place is the bytes used
pub at_used : (origin : Origin) (at : ℕ) (s : Supply) → Reads origin at s → Reads origin s.used s
at_used origin at s r = subst (λ (a : ℕ). Reads origin a s) (sym r.used_is) r

-- so it stands somewhere
pub somewhere : (origin : Origin) (at : ℕ) (s : Supply) → Reads origin at s → Somewhere s
somewhere origin at s r = record { origin = origin; reads = at_used origin at s r }

-- lent bytes are no key
pub bytes_room : (more : ℕ) (s : Supply) → Reads bytes_lent 0 s → KeyRoom more s
bytes_room more s r = record { room = λ t. absurd (no_key s.key r.from t) }
  where
    no_key : (key : Option Code.Key) → key_drawn key ≡ Rules.none → is_some key ≡ true → ⊥
    no_key None e t = cc t
    no_key (Some key) e t = cc e

-- nothing of a key is used yet
pub key_room : (more : ℕ) (k : Key) (s : Supply) → more ≤ 2 ^ 60 → Reads (key_given k) 0 s → KeyRoom more s
key_room more k s h r = record { room = λ t. omega (arith, r.used_is) }
