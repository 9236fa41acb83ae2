-- Searches: each round of one is a random round, so it is sound; after one that stays at its place each is the same; with lent bytes few are played. Assumes nothing.
use Prim.Native.Nat.{ℕ, ◌*◌, ◌+◌, ◌-◌, ◌≤◌, min, suc, zero}
use native.Mathlib.Omega.{arith}
use mathlib.Core.Path.{◌∙◌, ◌≡◌, ap, refl, subst, sym}
use mathlib.Core.Logic.{inl, inr}
use mathlib.Core.Bool.{Bool, cond, false, true}
use mathlib.Core.List.{List, ◌∷◌, []}
use mathlib.Core.Option.{Option, none, some}
use lib.Dec.{T, eqb, eqb→eq}
use lib.ListN.{length}
use borrow.Author.Tests.{eq-eqb}
use Rattle.game.specs.Demands.{InTurn, Sound, SoundSearch, last_of, least_of, played_from}
use Rattle.game.specs.Draws.{Mode, Places, Source, lent}
use Rattle.game.specs.Grid.{Grid}
use Rattle.game.specs.Lists.{Each}
use Rattle.game.specs.Rounds.{Round, Searched, moves_of, random_round, random_search, search_from}
use Rattle.game.proofs.Draws.{IfSome, Used, used_within}
use Rattle.game.proofs.Randoms.{Reading, lent_reads, random_reads, random_sound, random_uses}

-- what a round leaves for those after it
abbrev pub left_by : ℕ → Round → Searched
left_by least e = record { least = least; next = e.next; moves = moves_of e.steps }

-- what the first round leaves, and one after others
abbrev pub first : Round → Searched
first e = left_by (length (moves_of e.steps)) e

abbrev pub onward : Searched → Round → Searched
onward b e = left_by (min b.least (length (moves_of e.steps))) e

-- so many rounds more after one, by what it leaves
abbrev pub goes-on : ℕ → Grid → Source → (Round → Searched) → Option Round → Option Searched
goes-on n g source leaves o = elim o [ none ↦ none | some e ↦ search_from n g source (leaves e) ]

-- ---- each round is sound

-- the rounds played after those that came to a result
record Later (g : Grid) (source : Source) (n : ℕ) (before r : Searched) : Type 0 where
  rounds : List Round
  as_many : length rounds ≡ n
  in-turn : InTurn g source before.next rounds r.next
  each_sound : Each (λ (e : Round). Sound g e.steps) rounds
  least_clicks : r.least ≡ least_of before.least rounds
  last_left : r.moves ≡ last_of before.moves rounds

later : (n : ℕ) (g : Grid) (source : Source) → Places source → (b : Searched) → IfSome (Later g source n b) (search_from n g source b)
later zero g source p b =
    record { rounds = []; as_many = refl; in-turn = refl; each_sound = tt; least_clicks = refl; last_left = refl }
later (suc n) g source p b = go (λ e. later n g source p (onward b e)) (random_round g source b.next) refl
  where
    more : (e : Round) → random_round g source b.next ≡ some e → (o : Option Searched) → IfSome (Later g source n (onward b e)) o → IfSome (Later g source (suc n) b) o
    more e q none l = tt
    more e q (some r) l =
        record {
          rounds = e ∷ l.rounds;
          as_many = ap suc l.as_many;
          in-turn = (q, l.in-turn);
          each_sound = (random_sound g source p b.next e q, l.each_sound);
          least_clicks = l.least_clicks;
          last_left = l.last_left;
        }

    go : ((e : Round) → IfSome (Later g source n (onward b e)) (search_from n g source (onward b e))) → (o : Option Round) → random_round g source b.next ≡ o
        → IfSome (Later g source (suc n) b) (goes-on n g source (onward b) o)
    go l none q = tt
    go l (some e) q = more e q (search_from n g source (onward b e)) (l e)

pub search_sound : (g : Grid) (source : Source) → Places source → (n : ℕ) (r : Searched) → 1 ≤ n → random_search g source n ≡ some r → SoundSearch g source n r
unfolding random_search
search_sound g source p n r h e = subst (IfSome (SoundSearch g source n)) e (go (random_round g source 0) refl)
  where
    all : (e : Round) → random_round g source 0 ≡ some e → (o : Option Searched) → IfSome (Later g source (n - 1) (first e)) o → IfSome (SoundSearch g source n) o
    all e q none l = tt
    all e q (some s) l =
        record {
          first = e;
          later = l.rounds;
          as_many = omega (arith, l.as_many);
          in-turn = (q, l.in-turn);
          each_sound = (random_sound g source p 0 e q, l.each_sound);
          least_clicks = l.least_clicks;
          last_left = l.last_left;
        }

    go : (o : Option Round) → random_round g source 0 ≡ o
        → IfSome (SoundSearch g source n) (goes-on (n - 1) g source first o)
    go none q = tt
    go (some e) q = all e q (search_from (n - 1) g source (first e)) (later (n - 1) g source p (first e))

-- ---- the same round again

same-again : (n : ℕ) (g : Grid) (source : Source) (e : Round) (least : ℕ) → random_round g source e.next ≡ some e → least ≤ length (moves_of e.steps)
    → search_from n g source (left_by least e) ≡ some (left_by least e)
same-again zero g source e least q h = refl
same-again (suc n) g source e least q h =
    let k : min least (length (moves_of e.steps)) ≡ least = omega arith in
    ap (goes-on n g source (onward (left_by least e))) q ∙ ap (λ (m : ℕ). search_from n g source (left_by m e)) k ∙ same-again n g source e least q h

-- no more rounds need be played after one that stayed at its place
pub still_same : (n left at : ℕ) (g : Grid) (source : Source) (e : Round) (least : ℕ) → random_round g source at ≡ some e → least ≤ length (moves_of e.steps) → left ≡ cond (eqb e.next at) 0 n
    → search_from n g source (left_by least e) ≡ search_from left g source (left_by least e)
still_same n left at g source e least q h z = go (eqb e.next at) refl z
  where
    go : (b : Bool) → eqb e.next at ≡ b → left ≡ cond b 0 n → search_from n g source (left_by least e) ≡ search_from left g source (left_by least e)
    go true y k =
        same-again n g source e least (ap (random_round g source) (eqb→eq e.next at (rw y tt)) ∙ q) h
        ∙ ap (λ (m : ℕ). search_from m g source (left_by least e)) (sym k)
    go false y k = ap (λ (m : ℕ). search_from m g source (left_by least e)) (sym k)

-- ---- where a search reads on

later_reads : (n : ℕ) (g : Grid) (source : Source) (R : ℕ → ℕ → Type 0) → Reading source R → (at : ℕ) (b : Searched) → R at b.next → IfSome (λ (r : Searched). R at r.next) (search_from n g source b)
later_reads zero g source R c at b h = h
later_reads (suc n) g source R c at b h = go (λ e k. later_reads n g source R c at (onward b e) k) (random_round g source b.next) refl
  where
    go : ((e : Round) → R at e.next → IfSome (λ (r : Searched). R at r.next) (search_from n g source (onward b e))) → (o : Option Round) → random_round g source b.next ≡ o
        → IfSome (λ (r : Searched). R at r.next) (goes-on n g source (onward b) o)
    go l none q = tt
    go l (some e) q = l e (c.goes-on at b.next e.next h (random_reads g source R c b.next e q))

-- a search reads on as its draws do
pub search_reads : (g : Grid) (source : Source) (R : ℕ → ℕ → Type 0) → Reading source R → (n : ℕ) (r : Searched) → random_search g source n ≡ some r → R 0 r.next
unfolding random_search
search_reads g source R c n r e = subst (IfSome (λ (x : Searched). R 0 x.next)) e (go (random_round g source 0) refl)
  where
    go : (o : Option Round) → random_round g source 0 ≡ o → IfSome (λ (x : Searched). R 0 x.next) (goes-on (n - 1) g source first o)
    go none q = tt
    go (some e) q = later_reads (n - 1) g source R c 0 (first e) (random_reads g source R c 0 e q)

-- with lent bytes it reads on in them
pub search_within : (g : Grid) (mode : Mode) (bytes : List ℕ) (n : ℕ) (r : Searched) → random_search g (lent mode bytes) n ≡ some r → r.next ≤ length bytes
search_within g mode bytes n r e = (used_within bytes 0 r.next (search_reads g (lent mode bytes) (Used bytes) (lent_reads mode bytes) n r e) (omega arith)).1

-- ---- few rounds are played

-- at most one round more than a quarter of the bytes that are left
played_few : (n : ℕ) (g : Grid) (mode : Mode) (bytes : List ℕ) (at : ℕ) → 4 * played_from n g (lent mode bytes) at ≤ (length bytes - at) + 4
played_few zero g mode bytes at = omega arith
played_few (suc n) g mode bytes at = go (λ k. played_few n g mode bytes k) (random_round g (lent mode bytes) at) refl
  where
    after : (e : Round) → Used bytes at e.next → 4 * played_from n g (lent mode bytes) e.next ≤ (length bytes - e.next) + 4 → (b : Bool) → eqb e.next at ≡ b
        → 4 * suc (cond b 0 (played_from n g (lent mode bytes) e.next)) ≤ (length bytes - at) + 4
    after e u k true q = omega arith
    after e (inl s) k false q = absurd (subst T (sym (eq-eqb e.next at s) ∙ q) tt)
    after e (inr s) k false q = omega (arith, s.0, s.1, k)

    go : ((k : ℕ) → 4 * played_from n g (lent mode bytes) k ≤ (length bytes - k) + 4) → (o : Option Round) → random_round g (lent mode bytes) at ≡ o
        → 4 * elim o [ none ↦ 1 | some e ↦ suc (cond (eqb e.next at) 0 (played_from n g (lent mode bytes) e.next)) ] ≤ (length bytes - at) + 4
    go f none q = omega arith
    go f (some e) q = after e (random_uses g mode bytes at e q) (f e.next) (eqb e.next at) refl

-- a search of any number of rounds plays at most one round more than a quarter of the draw bytes
pub search_few : (g : Grid) (mode : Mode) (bytes : List ℕ) (n : ℕ) → 4 * played_from n g (lent mode bytes) 0 ≤ length bytes + 4
search_few g mode bytes n = omega (arith, played_few n g mode bytes 0)
