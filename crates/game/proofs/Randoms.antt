-- Random rounds from any source that draws among the places: their steps fit, so demand 3 holds, and they read on as the draws do. Assumes nothing.
use Prim.Native.Nat.{ℕ, ◌≤◌, suc, zero}
use native.Mathlib.Omega.{arith}
use mathlib.Core.Path.{◌∙◌, ◌≡◌, ap, refl, subst}
use mathlib.Core.Logic.{inl}
use mathlib.Core.Bool.{false}
use mathlib.Core.List.{List, []}
use mathlib.Core.Option.{Option, none, some}
use lib.ListN.{length}
use Rattle.game.specs.Demands.{Sound}
use Rattle.game.specs.Draws.{Drawn, Mode, Places, Source, lent}
use Rattle.game.specs.Grid.{Grid}
use Rattle.game.specs.Moves.{after}
use Rattle.game.specs.Openings.{three_bv}
use Rattle.game.specs.Position.{Position, Tidy, closed_safe, closed_units, untouched}
use Rattle.game.specs.Rounds.{Round, Step, after_step, before, choice, moves_of, random_from, random_round, step_of, width}
use Rattle.game.proofs.Choices.{never_stuck}
use Rattle.game.proofs.Draws.{IfSome, Used, draw_uses, used_on, used_within}
use Rattle.game.proofs.Rounds.{by_none, by_some, steps_end}
use Rattle.game.proofs.Runs.{Fits, Run, choice_fits, fit_takes, sound, step_tidy}
use Rattle.game.proofs.Tidy.{untouched_tidy}
use Rattle.game.proofs.Narrow.{after_append}
use Rattle.game.proofs.Units.{units_untouched}

-- ---- one draw after another

-- the rest of a round of n steps at most, by its next draw
abbrev pub by_draw : ℕ → Grid → Source → Position → Option Drawn → Option Round
by_draw n g source s o =
    elim o [
      | none ↦ none
      | some d ↦ let t = step_of g s (choice false g s) d.place in before t (random_from n g source (after_step g s t) d.next)
    ]

-- where a safe cell is closed, there is a draw
pub draws_on : (n : ℕ) (g : Grid) (source : Source) (s : Position) (at : ℕ) → 1 ≤ closed_safe g s
    → random_from (suc n) g source s at ≡ by_draw n g source s (source at (width (choice false g s)))
draws_on n g source s at h =
    by_some (some (record { steps = []; next = at })) (by_draw n g source s (source at (width (choice false g s)))) (closed_safe g s) h

-- else there is none
pub draws_none : (n : ℕ) (g : Grid) (source : Source) (s : Position) (at : ℕ) → closed_safe g s ≡ 0 → random_from n g source s at ≡ some (record { steps = []; next = at })
draws_none zero g source s at e = refl
draws_none (suc n) g source s at e =
    by_none (some (record { steps = []; next = at })) (by_draw n g source s (source at (width (choice false g s)))) (closed_safe g s) e

-- what is to be shown of rounds, one draw after another, of so many steps at most from a position and a place on
pub record ByDraws (g : Grid) (source : Source) (P : ℕ → Position → ℕ → Option Round → Type 0) : Type 0 where
  pub no_steps : (s : Position) (at : ℕ) → P zero s at (some (record { steps = []; next = at }))
  pub all_open : (n : ℕ) (s : Position) (at : ℕ) → closed_safe g s ≡ 0 → P (suc n) s at (some (record { steps = []; next = at }))
  pub dry : (n : ℕ) (s : Position) (at : ℕ) → source at (width (choice false g s)) ≡ none → P (suc n) s at none
  pub drawn : (n : ℕ) (s : Position) (at : ℕ) (d : Drawn) (o : Option Round) → 1 ≤ closed_safe g s → source at (width (choice false g s)) ≡ some d
      → P n (after_step g s (step_of g s (choice false g s) d.place)) d.next o → P (suc n) s at (before (step_of g s (choice false g s) d.place) o)

pub by_draws : (g : Grid) (source : Source) (P : ℕ → Position → ℕ → Option Round → Type 0) → ByDraws g source P → (n : ℕ) (s : Position) (at : ℕ) → P n s at (random_from n g source s at)
by_draws g source P c zero s at = c.no_steps s at
by_draws g source P c (suc n) s at = go (λ t k. by_draws g source P c n (after_step g s t) k) (closed_safe g s) refl (source at (width (choice false g s))) refl
  where
    go : ((t : Step) (k : ℕ) → P n (after_step g s t) k (random_from n g source (after_step g s t) k)) → (k : ℕ) → closed_safe g s ≡ k → (o : Option Drawn) → source at (width (choice false g s)) ≡ o
        → P (suc n) s at (elim k [ zero ↦ some (record { steps = []; next = at }) | suc j ↦ by_draw n g source s o ])
    go r zero e o q = c.all_open n s at e
    go r (suc k) e none q = c.dry n s at q
    go r (suc k) e (some d) q =
        let t = step_of g s (choice false g s) d.place in
        c.drawn n s at d (random_from n g source (after_step g s t) d.next) (omega arith) q (r t d.next)

-- ---- demand 3, whatever source draws among the places

-- what a random round is, if its draws suffice
pub record Rounded (g : Grid) (s : Position) (n : ℕ) (r : Round) : Type 0 where
  pub fits : Run g s r.steps
  pub ends : closed_units g s ≤ n → closed_safe g (after g s (moves_of r.steps)) ≡ 0

-- a step at a drawn place
pub drawn_fits : (g : Grid) (source : Source) → Places source → (s : Position) (at : ℕ) (d : Drawn) → Tidy g s → 1 ≤ closed_safe g s → source at (width (choice false g s)) ≡ some d
    → Fits g s (step_of g s (choice false g s) d.place)
drawn_fits g source p s at d f h e = choice_fits false g s d.place (p.inside at (width (choice false g s)) d (never_stuck false g s f h) e)

pub random_rounded : (g : Grid) (source : Source) → Places source → (n : ℕ) (s : Position) (at : ℕ) → Tidy g s → IfSome (Rounded g s n) (random_from n g source s at)
random_rounded g source p =
    by_draws g source (λ n s at o. Tidy g s → IfSome (Rounded g s n) o)
    (record {
      no_steps = λ s at f. record { fits = tt; ends = steps_end 0 false g s f };
      all_open = λ n s at e f. record { fits = tt; ends = λ k. e };
      dry = λ n s at e f. tt;
      drawn = λ n s at d o h e r f.
          let t = step_of g s (choice false g s) d.place in
          let q = drawn_fits g source p s at d f h e in
          more n s t o f q (r (step_tidy g s t f q));
    })
  where
    more : (n : ℕ) (s : Position) (t : Step) (o : Option Round) → Tidy g s → Fits g s t → IfSome (Rounded g (after_step g s t) n) o → IfSome (Rounded g s (suc n)) (before t o)
    more n s t none f q r = tt
    more n s t (some e) f q r =
        record {
          fits = (q, r.fits);
          ends = λ k. ap (closed_safe g) (after_append g t.moves (moves_of e.steps) s) ∙ r.ends (omega (arith, fit_takes g s t f q));
        }

-- a random round whose draws suffice
pub random_sound : (g : Grid) (source : Source) → Places source → (at : ℕ) (r : Round) → random_round g source at ≡ some r → Sound g r.steps
unfolding random_round
random_sound g source p at r e =
    let w = subst (IfSome (Rounded g (untouched g) (three_bv g))) e (random_rounded g source p (three_bv g) (untouched g) at (untouched_tidy g)) in
    sound g r.steps w.fits (w.ends (omega (arith, units_untouched g)))

-- ---- where a round reads on

-- from a place to one where a draw reads on, or where draws one after another do
pub record Reading (source : Source) (R : ℕ → ℕ → Type 0) : Type 0 where
  pub stays : (at : ℕ) → R at at
  pub goes-on : (at mid next : ℕ) → R at mid → R mid next → R at next
  pub draws : (at n : ℕ) (d : Drawn) → source at n ≡ some d → R at d.next

-- a round reads on as its draws do
pub random_reads : (g : Grid) (source : Source) (R : ℕ → ℕ → Type 0) → Reading source R → (at : ℕ) (r : Round) → random_round g source at ≡ some r → R at r.next
unfolding random_round
random_reads g source R c at r e = subst (IfSome (λ (x : Round). R at x.next)) e (by_draws g source (λ n s at o. IfSome (λ (x : Round). R at x.next) o) cases (three_bv g) (untouched g) at)
  where
    more : (t : Step) (at mid : ℕ) (o : Option Round) → R at mid → IfSome (λ (x : Round). R mid x.next) o → IfSome (λ (x : Round). R at x.next) (before t o)
    more t at mid none h k = tt
    more t at mid (some x) h k = c.goes-on at mid x.next h k

    cases : ByDraws g source (λ n s at o. IfSome (λ (x : Round). R at x.next) o)
    cases =
        record {
          no_steps = λ s at. c.stays at;
          all_open = λ n s at e. c.stays at;
          dry = λ n s at e. tt;
          drawn = λ n s at d o h e k. more (step_of g s (choice false g s) d.place) at d.next o (c.draws at (width (choice false g s)) d e) k;
        }

-- with lent bytes it uses none, or four at least
pub lent_reads : (mode : Mode) (bytes : List ℕ) → Reading (lent mode bytes) (Used bytes)
lent_reads mode bytes = record { stays = λ at. inl refl; goes-on = used_on bytes; draws = draw_uses mode bytes }

pub random_uses : (g : Grid) (mode : Mode) (bytes : List ℕ) (at : ℕ) (r : Round) → random_round g (lent mode bytes) at ≡ some r → Used bytes at r.next
random_uses g mode bytes at r e = random_reads g (lent mode bytes) (Used bytes) (lent_reads mode bytes) at r e

-- it reads on in the bytes
pub random-within : (g : Grid) (mode : Mode) (bytes : List ℕ) (at : ℕ) (r : Round) → random_round g (lent mode bytes) at ≡ some r → at ≤ length bytes → (at ≤ r.next) × (r.next ≤ length bytes)
random-within g mode bytes at r e h = used_within bytes at r.next (random_uses g mode bytes at r e) h
