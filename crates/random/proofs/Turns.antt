-- How many rounds a search can still play: by lent bytes at most one more than a quarter of those that are left, since a round that used none is the last. Assumes nothing.
use Prim.Native.Nat.{ℕ, ◌+◌, ◌-◌, ◌/◌, ◌<◌, suc, zero}
use native.Mathlib.Omega.{arith}
use mathlib.Core.Path.{◌≡◌, refl}
use mathlib.Core.Logic.{inl, inr}
use mathlib.Core.Bool.{cond, false, true}
use mathlib.Core.List.{List}
use mathlib.Core.Option.{none, some}
use lib.IntN.{ℤ}
use lib.ListN.{length}
use Rattle.std.specs.Prelude as Code
use Rattle.std.specs.Prelude.{None, Some, is_some}
use Rattle.game.specs.Draws.{Mode}
use Rattle.game.specs.Grid.{Grid}
use Rattle.game.specs.Keys.{Key}
use Rattle.game.specs.Moves.{after}
use Rattle.game.specs.Openings.{three_bv}
use Rattle.game.specs.Position.{Position, untouched}
use Rattle.game.specs.Rounds.{random_round}
use Rattle.game.proofs.Draws.{Used}
use Rattle.game.proofs.Randoms.{random_uses}
use Rattle.area.specs.Stages.{Stands}
use Rattle.keys.specs.declared.Key as Keys
use Rattle.supplies.specs.declared.Supply.{Supply}
use Rattle.supplies.specs.Origins.{Origin, Reads, Somewhere, bytes_lent, key_drawn, key_given, source_of}
use Rattle.random.specs.declared.Finish.{Finish}
use Rattle.random.specs.Promises.{CountsUnits, Searching, once}
use Rattle.random.proofs.Searches.{Drawn, drawn}

-- by lent bytes none, or one more than a quarter of the bytes that are left
abbrev turns : ℕ → ℕ → ℕ → ℕ
turns bytes at zero = 0
turns bytes at (suc left) = 1 + (bytes - at) / 4

-- by a key as many as are left
abbrev pub turns_of : ℕ → Supply → ℕ → ℕ
turns_of bytes s left = cond (is_some s.key) left (turns bytes s.used left)

lent : (key : Code.Option Keys.Key) → key_drawn key ≡ none → is_some key ≡ false
lent None e = refl
lent (Some k) e = absurd (cc e)

keyed : (key : Code.Option Keys.Key) (k : Key) → key_drawn key ≡ some k → is_some key ≡ true
keyed None k e = absurd (cc e)
keyed (Some x) k e = refl

-- a round that used bytes used four at least
turns_used : (bytes : List ℕ) (at next left : ℕ) → 0 < left → Used bytes at next → (next ≡ at → ⊥) → turns (length bytes) next (left - 1) < turns (length bytes) at left
turns_used bytes at next zero h u z = absurd (omega arith)
turns_used bytes at next (suc left) h u z = go left (suc left - 1) u
  where
    go : (n k : ℕ) → Used bytes at next → turns (length bytes) next k < 1 + (length bytes - at) / 4
    go n zero q = omega arith
    go n (suc k) (inl f) = absurd (z f)
    go n (suc k) (inr f) =
        let h : 1 + (length bytes - next) / 4 < 1 + (length bytes - at) / 4 = omega (arith, f.0, f.1) in h

-- each round played leaves fewer that can still be played
pub turns_fall : (rows columns : ℕ) (mode : Mode) (bytes : List ℕ) (w w' : List ℤ) (rest : Supply) (r : Code.Option Finish) (units : ℕ) → CountsUnits rows columns w units → Somewhere rest
    → ((g : Grid) (s : Position) (old : List ℤ) (origin : Origin) (at : ℕ) → Stands rows columns g s old w → units ≡ three_bv g → Reads origin at rest → Searching rows columns g old origin (once (random_round g (source_of mode bytes origin) at)) w' r)
    → (ended : Finish) (left : ℕ) → r ≡ Some ended → 0 < left → (ended.supply.used ≡ rest.used → ⊥)
    → turns_of (length bytes) ended.supply (left - 1) < turns_of (length bytes) rest left
turns_fall rows columns mode bytes w w' rest r units f i q ended left y h z =
    go i.origin i.reads (λ origin d. drawn rows columns g f.old origin (source_of mode bytes origin) rest.used w' r (q g s f.old origin rest.used f.stands f.counts d) ended y)
  where
    g : Grid
    g = f.grid

    s : Position
    s = after g (untouched g) f.moves

    go : (origin : Origin) → Reads origin rest.used rest
        → ((origin : Origin) → Reads origin rest.used rest → Drawn rows columns g f.old origin (source_of mode bytes origin) rest.used w' ended)
        → turns_of (length bytes) ended.supply (left - 1) < turns_of (length bytes) rest left
    go bytes_lent d c =
        let e = c bytes_lent d in
        let u : Used bytes rest.used ended.supply.used = rw e.reads.used_is (random_uses g mode bytes rest.used e.round e.drew) in
        rw (lent ended.supply.key e.reads.from, lent rest.key d.from) (turns_used bytes rest.used ended.supply.used left h u z)
    go (key_given k) d c =
        let e = c (key_given k) d in
        rw (keyed ended.supply.key _ e.reads.from, keyed rest.key _ d.from) (omega arith)
