-- Supplies of draws: their origin draws among the places; how much of a key steps and rounds leave. Assumes nothing.
use Prim.Native.Nat.{ℕ, ◌*◌, ◌+◌, ◌<◌, ◌^◌, ◌≤◌}
use native.Mathlib.Omega.{arith}
use mathlib.Core.Path.{◌∙◌, ◌≡◌, refl, subst, sym}
use mathlib.Core.Bool.{true}
use mathlib.Core.List.{List}
use Rattle.game.specs.Draws.{Mode, Places}
use Rattle.game.proofs.Draws.{lent_places}
use Rattle.game.proofs.Keys.{keyed_places}
use Rattle.supplies.specs.declared.Supply.{Supply}
use Rattle.supplies.specs.Origins.{GrownBy, KeyRoom, Origin, bytes_lent, key_given, source_of}
use Rattle.random.specs.declared.Finish.{Finish}
use Rattle.std.specs.Prelude.{Some, is_some}
use Rattle.random.specs.Promises.{RoundGrows}

-- either origin draws among the places
pub origin_places : (mode : Mode) (bytes : List ℕ) (origin : Origin) → Places (source_of mode bytes origin)
origin_places mode bytes bytes_lent = lent_places mode bytes
origin_places mode bytes (key_given k) = keyed_places mode k

-- ---- how much of a key is left

-- in a round: at most 64 words for each unit that is taken
pub record Spent (s : Supply) (units : ℕ) (s' : Supply) (closed : ℕ) : Type 0 where
  pub same_kind : is_some s'.key ≡ is_some s.key
  pub most : is_some s.key ≡ true → s'.used + 256 * closed ≤ s.used + 256 * units

-- before any step
pub spent_none : (s : Supply) (units : ℕ) → Spent s units s units
spent_none s units = record { same_kind = refl; most = λ t. omega arith }

module _ (s : Supply) (units : ℕ) (s' : Supply) (closed : ℕ) (p : Spent s units s' closed) where
  -- after a step more
  pub spent_more : (s'' : Supply) (closed' : ℕ) → GrownBy 256 s' s'' → closed' < closed → Spent s units s'' closed'
  spent_more s'' closed' g h =
      record { same_kind = g.same_kind ∙ p.same_kind; most = λ t. omega (arith, p.most t, g.grows (p.same_kind ∙ t)) }

  -- there is room for a step while a unit is closed
  pub step_room : units ≤ 65025 → KeyRoom (2 ^ 24) s → 0 < closed → KeyRoom 256 s'
  step_room f k h = record { room = λ t. let u : is_some s.key ≡ true = sym p.same_kind ∙ t in omega (arith, p.most u, k.room u) }

  -- and at the end
  pub round_grew : units ≤ 65025 → GrownBy (2 ^ 24) s s'
  round_grew f = record { same_kind = p.same_kind; grows = λ t. omega (arith, p.most t) }

-- what the answer of a round tells
pub round_ended : (s : Supply) (finish : Finish) → GrownBy (2 ^ 24) s finish.supply → RoundGrows s (Some finish)
round_ended s finish g = record { ended = λ f e. let q : finish ≡ f = cc e in subst (λ (x : Finish). GrownBy (2 ^ 24) s x.supply) q g }

-- as much room by another name
pub room_kept : (more more' : ℕ) (s : Supply) → more ≡ more' → KeyRoom (2 ^ 24 * more) s → KeyRoom (2 ^ 24 * more') s
room_kept more more' s e k = rw (← e) k

-- in a search there is room for a round while one is left
pub round_room : (left : ℕ) (s : Supply) → KeyRoom (2 ^ 24 * left) s → 0 < left → KeyRoom (2 ^ 24) s
round_room left s k h = record { room = λ t. omega (arith, k.room t) }

-- and, after it, for those that are left then
pub rounds_room : (left left' : ℕ) (s s' : Supply) → KeyRoom (2 ^ 24 * left) s → GrownBy (2 ^ 24) s s' → left' < left → KeyRoom (2 ^ 24 * left') s'
rounds_room left left' s s' k g h =
    record { room = λ t. let u : is_some s.key ≡ true = sym g.same_kind ∙ t in omega (arith, k.room u, g.grows u) }
