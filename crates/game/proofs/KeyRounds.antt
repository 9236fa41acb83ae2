-- Rounds and searches by a key, as its draws: they use whole words, are the same from as many bytes of the key as they used, and read on from the key after them; in the old mode none is dry. Assumes nothing.
use Prim.Native.Nat.{ℕ, ◌%◌, ◌*◌, ◌+◌, ◌-◌, ◌/◌, ◌≤◌, suc, zero}
use native.Mathlib.Omega.{arith}
use native.Mathlib.Nat.{le_refl}
use mathlib.Core.Path.{◌∙◌, ◌≡◌, ap, refl, subst, sym}
use mathlib.Core.Bool.{false}
use mathlib.Core.List.{[], ◌∷◌}
use mathlib.Core.Option.{Option, map, none-ne-some, bind, none, some}
use Rattle.game.specs.Draws.{Drawn, Mode, Source, lent, old}
use Rattle.game.specs.Grid.{Grid}
use Rattle.game.specs.Keys.{Key, key_after, key_bytes, keyed}
use Rattle.game.specs.Openings.{three_bv}
use Rattle.game.specs.Position.{Position, closed_safe, untouched}
use Rattle.game.specs.Rounds.{Round, Searched, after_step, before, choice, random_from, random_round, random_search, search_from, step_of, width}
use Rattle.game.proofs.Draws.{IfSome, Whole}
use Rattle.game.proofs.KeyDraws.{key_behind, keyed_lent, keyed_whole, old_taken}
use Rattle.game.proofs.Parts.{Behind, joined, round_behind, round-from, search_joins, search_splits}
use Rattle.game.proofs.Randoms.{Reading, by_draw, by_draws, draws_none, draws_on, random_reads}
use Rattle.game.proofs.Searches.{first, goes-on, onward, search_reads}

-- ---- whole words

-- a key's draws read on over whole words
pub keyed_reading : (mode : Mode) (k : Key) → Reading (keyed mode k) Whole
keyed_reading mode k =
    record {
      stays = λ at. record { onward = le_refl at; words = refl };
      goes-on = λ at mid next h l. record { onward = omega arith; words = omega arith };
      draws = keyed_whole mode k;
    }

-- the bytes that a round uses are whole words
pub keyed_round_words : (mode : Mode) (k : Key) (g : Grid) (r : Round) → random_round g (keyed mode k) 0 ≡ some r → r.next % 4 ≡ 0
keyed_round_words mode k g r e = (random_reads g (keyed mode k) Whole (keyed_reading mode k) 0 r e).words

-- and those that a search uses
pub keyed_search_words : (mode : Mode) (k : Key) (g : Grid) (n : ℕ) (r : Searched) → random_search g (keyed mode k) n ≡ some r → r.next % 4 ≡ 0
keyed_search_words mode k g n r e = (search_reads g (keyed mode k) Whole (keyed_reading mode k) n r e).words

-- ---- the same from lent bytes

-- a source whose draws read on over whole words, and another that gives each of them that ends by a place
record Agree (by to : Source) (m : ℕ) : Type 0 where
  reads : Reading by Whole
  same : (at n : ℕ) (d : Drawn) → at % 4 ≡ 0 → by at n ≡ some d → d.next ≤ m → to at n ≡ some d

-- steps to the end of a round, and rounds to the end of a search, that are the same from another source if they end by a place
abbrev StepsTo : Grid → Source → ℕ → ℕ → Position → ℕ → Round → Type 0
StepsTo g to m n s at r = (at ≤ r.next) × (r.next ≤ m → random_from n g to s at ≡ some r)

abbrev RoundsTo : Grid → Source → ℕ → ℕ → Searched → Searched → Type 0
RoundsTo g to m n b r = (b.next ≤ r.next) × (r.next ≤ m → search_from n g to b ≡ some r)

module _ (g : Grid) (by to : Source) (m : ℕ) (c : Agree by to m) where
  from_agree : (n : ℕ) (s : Position) (at : ℕ) → at % 4 ≡ 0 → IfSome (StepsTo g to m n s at) (random_from n g by s at)
  from_agree =
      by_draws g by (λ n s at o. at % 4 ≡ 0 → IfSome (StepsTo g to m n s at) o)
      (record {
        no_steps = λ s at h. (le_refl at, λ l. refl);
        all_open = λ n s at e h. (le_refl at, λ l. draws_none (suc n) g to s at e);
        dry = λ n s at e h. tt;
        drawn = λ n s at d o k e r h. let w = c.reads.draws at (width (choice false g s)) d e in more n s at d o k e h w (r (omega arith));
      })
    where
      more : (n : ℕ) (s : Position) (at : ℕ) (d : Drawn) (o : Option Round) → 1 ≤ closed_safe g s → by at (width (choice false g s)) ≡ some d → at % 4 ≡ 0 → Whole at d.next
          → IfSome (StepsTo g to m n (after_step g s (step_of g s (choice false g s) d.place)) d.next) o
          → IfSome (StepsTo g to m (suc n) s at) (before (step_of g s (choice false g s) d.place) o)
      more n s at d none k e h w r = tt
      more n s at d (some x) k e h w r = (
        omega arith,
        λ l. draws_on n g to s at k ∙ ap (by_draw n g to s) (c.same at (width (choice false g s)) d h e (omega arith)) ∙ ap (before (step_of g s (choice false g s) d.place)) (r.1 l),
      )

  round_agree : (at : ℕ) (r : Round) → at % 4 ≡ 0 → random_round g by at ≡ some r → r.next ≤ m → random_round g to at ≡ some r
  unfolding random_round
  round_agree at r h e = (subst (IfSome (StepsTo g to m (three_bv g) (untouched g) at)) e (from_agree (three_bv g) (untouched g) at h)).1

  later_agree : (n : ℕ) (b : Searched) → b.next % 4 ≡ 0 → IfSome (RoundsTo g to m n b) (search_from n g by b)
  later_agree zero b h = (le_refl b.next, λ l. refl)
  later_agree (suc n) b h = go (λ e. later_agree n (onward b e)) (random_round g by b.next) refl
    where
      more : (e : Round) → Whole b.next e.next → (e.next ≤ m → random_round g to b.next ≡ some e) → (o : Option Searched) → IfSome (RoundsTo g to m n (onward b e)) o → IfSome (RoundsTo g to m (suc n) b) o
      more e w q none r = tt
      more e w q (some x) r = (omega arith, λ l. ap (goes-on n g to (onward b)) (q (omega arith)) ∙ r.1 l)

      go : ((e : Round) → e.next % 4 ≡ 0 → IfSome (RoundsTo g to m n (onward b e)) (search_from n g by (onward b e))) → (o : Option Round) → random_round g by b.next ≡ o
          → IfSome (RoundsTo g to m (suc n) b) (goes-on n g by (onward b) o)
      go r none q = tt
      go r (some e) q =
          let w = random_reads g by Whole c.reads b.next e q in
          more e w (round_agree b.next e h q) (search_from n g by (onward b e)) (r e (omega arith))

  search_agree : (n : ℕ) (r : Searched) → random_search g by n ≡ some r → r.next ≤ m → random_search g to n ≡ some r
  unfolding random_search
  search_agree n r = go (random_round g by 0) refl
    where
      go : (o : Option Round) → random_round g by 0 ≡ o → goes-on (n - 1) g by first o ≡ some r → r.next ≤ m → random_search g to n ≡ some r
      go none q f l = absurd (none-ne-some r f)
      go (some e) q f l =
          let w = random_reads g by Whole c.reads 0 e q in
          let s = subst (IfSome (RoundsTo g to m (n - 1) (first e))) f (later_agree (n - 1) (first e) (omega arith)) in
          ap (goes-on (n - 1) g to first) (round_agree 0 e refl q (omega arith)) ∙ s.1 l

keyed_agree : (mode : Mode) (k : Key) (m : ℕ) → Agree (keyed mode k) (lent mode (key_bytes k m)) m
keyed_agree mode k m = record { reads = keyed_reading mode k; same = keyed_lent mode k m }

-- a round by a key is the round by as many of its bytes as it used
pub keyed_round_lent : (mode : Mode) (k : Key) (g : Grid) (r : Round) → random_round g (keyed mode k) 0 ≡ some r → random_round g (lent mode (key_bytes k r.next)) 0 ≡ some r
keyed_round_lent mode k g r e = round_agree g (keyed mode k) (lent mode (key_bytes k r.next)) r.next (keyed_agree mode k r.next) 0 r refl e (le_refl r.next)

-- and so is a search
pub keyed_search_lent : (mode : Mode) (k : Key) (g : Grid) (n : ℕ) (r : Searched) → random_search g (keyed mode k) n ≡ some r → random_search g (lent mode (key_bytes k r.next)) n ≡ some r
keyed_search_lent mode k g n r e = search_agree g (keyed mode k) (lent mode (key_bytes k r.next)) r.next (keyed_agree mode k r.next) n r e (le_refl r.next)

-- ---- reading on

-- a round by the key after m words is the round that begins m words further on
pub round_reads_on : (mode : Mode) (k : Key) (g : Grid) (m at : ℕ) → random_round g (keyed mode k) (4 * m + at) ≡ map (round-from (4 * m)) (random_round g (keyed mode (key_after k m)) at)
round_reads_on mode k g m at = round_behind g (4 * m) (keyed mode k) (keyed mode (key_after k m)) (key_behind mode k m) at

-- the key after the words that a search used is behind it
search_leaves : (mode : Mode) (k : Key) (g : Grid) (n : ℕ) (r : Searched) → random_search g (keyed mode k) n ≡ some r → Behind r.next (keyed mode k) (keyed mode (key_after k (r.next / 4)))
search_leaves mode k g n r e =
    let whole = keyed_search_words mode k g n r e in
    subst (λ (c : ℕ). Behind c (keyed mode k) (keyed mode (key_after k (r.next / 4)))) (omega arith) (key_behind mode k (r.next / 4))

-- a search of a + b rounds is one of a and then one of b from the key after it
pub search_in_two : (mode : Mode) (k : Key) (g : Grid) (a b : ℕ) → 1 ≤ a → 1 ≤ b
    → random_search g (keyed mode k) (a + b) ≡ bind (random_search g (keyed mode k) a) (λ p. map (joined p) (random_search g (keyed mode (key_after k (p.next / 4))) b))
search_in_two mode k g a b h l = search_splits g (keyed mode k) (λ p. keyed mode (key_after k (p.next / 4))) a b h l (search_leaves mode k g a)

-- two searches, the second from the key after the first, come to one search of all their rounds
pub key_parts : (mode : Mode) (k : Key) (g : Grid) (m n : ℕ) (a b : Searched) → 1 ≤ m → 1 ≤ n → random_search g (keyed mode k) m ≡ some a → random_search g (keyed mode (key_after k (a.next / 4))) n ≡ some b
    → random_search g (keyed mode k) (m + n) ≡ some (joined a b)
key_parts mode k g m n a b h l = search_joins g (keyed mode k) (λ p. keyed mode (key_after k (p.next / 4))) m n a b h l (search_leaves mode k g m)

-- ---- the old mode

-- from a source that is never dry, no round is
module _ (g : Grid) (source : Source) (gives : (at n : ℕ) → (d : Drawn) × (source at n ≡ some d)) where
  from_gives : (n : ℕ) (s : Position) (at : ℕ) → (r : Round) × (random_from n g source s at ≡ some r)
  from_gives =
      by_draws g source (λ n s at o. (r : Round) × (o ≡ some r))
      (record {
        no_steps = λ s at. (record { steps = []; next = at }, refl);
        all_open = λ n s at e. (record { steps = []; next = at }, refl);
        dry = λ n s at e. let d = gives at (width (choice false g s)) in absurd (none-ne-some d.0 (sym e ∙ d.1));
        drawn = λ n s at d o h e r. (record { steps = step_of g s (choice false g s) d.place ∷ r.0.steps; next = r.0.next }, ap (before (step_of g s (choice false g s) d.place)) r.1);
      })

  round_gives : (at : ℕ) → (r : Round) × (random_round g source at ≡ some r)
  unfolding random_round
  round_gives at = from_gives (three_bv g) (untouched g) at

  later_gives : (n : ℕ) (b : Searched) → (r : Searched) × (search_from n g source b ≡ some r)
  later_gives zero b = (b, refl)
  later_gives (suc n) b =
      let e = round_gives b.next in
      let r = later_gives n (onward b e.0) in
      (r.0, ap (goes-on n g source (onward b)) e.1 ∙ r.1)

  -- nor a search
  search_gives : (n : ℕ) → (r : Searched) × (random_search g source n ≡ some r)
  unfolding random_search
  search_gives n =
      let e = round_gives 0 in
      let r = later_gives (n - 1) (first e.0) in
      (r.0, ap (goes-on (n - 1) g source first) e.1 ∙ r.1)

-- in the old mode a round by a key has draws enough
pub old_round : (k : Key) (g : Grid) (at : ℕ) → (r : Round) × (random_round g (keyed old k) at ≡ some r)
old_round k g at = round_gives g (keyed old k) (old_taken k) at

-- and so has a search
pub old_search : (k : Key) (g : Grid) (n : ℕ) → (r : Searched) × (random_search g (keyed old k) n ≡ some r)
old_search k g n = search_gives g (keyed old k) (old_taken k) n
