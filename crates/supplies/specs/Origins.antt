-- A supply of draws by its origin, lent bytes or a key, and a place there (RULES 5.1, 5.6). Assumes nothing.
use Rattle.std.specs.Prelude.{ℕ, ◌+◌, ◌/◌, ◌^◌, ◌≤◌, ◌≡◌, true, List, None, Option, Some, is_some}
use Rattle.std.proofs.Math.Option as Rules
use Rattle.game.specs.Draws.{Drawn, Mode, Source, lent}
use Rattle.game.specs.Keys.{Key, key_after, keyed}
use Rattle.keys.specs.Stands.{key_of}
use Rattle.keys.specs.declared.Key as Code
use Rattle.supplies.specs.declared.Supply.{Supply}
use Rattle.supplies.specs.declared.Dealt.{Dealt}

-- what draws come from: the lent bytes, or a key
pub data Origin : Type 0 where
  bytes_lent : Origin
  key_given : Key → Origin

-- the source that draws come from, in a mode
abbrev pub source_of : Mode → List ℕ → Origin → Source
source_of mode bytes bytes_lent = lent mode bytes
source_of mode bytes (key_given k) = keyed mode k

-- the key that is drawn from, if any
abbrev pub key_drawn : Option Code.Key → Rules.Option Key
key_drawn None = Rules.none
key_drawn (Some key) = Rules.some (key_of key)

-- a supply that draws from an origin, at a place there; a key has been stepped on to it
abbrev pub From : Origin → ℕ → Supply → Type 0
From bytes_lent at s = key_drawn s.key ≡ Rules.none
From (key_given k) at s = key_drawn s.key ≡ Rules.some (key_after k (at / 4))

-- a supply stands at a place of its origin
pub record Reads (origin : Origin) (at : ℕ) (s : Supply) : Type 0 where
  pub used_is : s.used ≡ at
  pub from : From origin at s

-- a supply stands somewhere
pub record Somewhere (s : Supply) : Type 0 where
  pub origin : Origin
  pub reads : Reads origin s.used s

-- a draw took a place, and the supply after it stands where the next draw reads on
pub record Took (origin : Origin) (d : Drawn) (r : Option Dealt) : Type 0 where
  pub supply : Supply
  pub answer : r ≡ Some (record { place = d.place; supply = supply })
  pub reads : Reads origin d.next supply

-- what a draw deals, by what its source gives
abbrev pub Dealing : Origin → Rules.Option Drawn → Option Dealt → Type 0
Dealing origin Rules.none r = r ≡ None
Dealing origin (Rules.some d) r = Took origin d r

-- ---- how much of a key is used

-- so many bytes more of a key can be counted; lent bytes are as many as they are
pub record KeyRoom (more : ℕ) (s : Supply) : Type 0 where
  pub room : is_some s.key ≡ true → s.used + more ≤ 2 ^ 60

-- at most so many bytes more of a key are used
pub record GrownBy (most : ℕ) (s s' : Supply) : Type 0 where
  pub same_kind : is_some s'.key ≡ is_some s.key
  pub grows : is_some s.key ≡ true → s'.used ≤ s.used + most

-- so by a draw that took a place
pub record DrawGrows (s : Supply) (r : Option Dealt) : Type 0 where
  pub took : (dealt : Dealt) → r ≡ Some dealt → GrownBy 256 s dealt.supply
