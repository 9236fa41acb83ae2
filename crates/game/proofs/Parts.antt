-- A long search in parts: a draw further on in a source is the draw of what is behind that place, so a search goes on with what is left; of lent bytes, with those that are left. Assumes nothing.
use Prim.Native.Nat.{ℕ, ◌+◌, ◌-◌, ◌/◌, ◌≤◌, min, suc, zero}
use native.Mathlib.Omega.{arith}
use native.Mathlib.Nat.{add_assoc, add-zero, suc-add, zero-add}
use mathlib.Core.Path.{◌∙◌, ◌≡◌, ap, refl, sym}
use mathlib.Core.Bool.{false}
use mathlib.Core.List.{List, []}
use mathlib.Core.Option.{Option, map, bind, none, some}
use lib.ListN.{drop, length, length-drop}
use lib.Seq.{get_or-drop}
use Rattle.game.specs.Draws.{Drawn, Mode, Source, draw, drawn_by, four_bytes, lent, words_left}
use Rattle.game.specs.Grid.{Grid}
use Rattle.game.specs.Openings.{three_bv}
use Rattle.game.specs.Position.{Position, closed_safe, untouched}
use Rattle.game.specs.Rounds.{Round, Searched, Step, after_step, before, choice, random_from, random_round, random_search, search_from, step_of, width}
use Rattle.game.proofs.Draws.{drawn_behind, drawn_from}
use Rattle.game.proofs.Randoms.{by_draw}
use Rattle.game.proofs.Searches.{first, goes-on, onward}

-- ---- a draw

-- a source behind so many places of another: its draws are the other's from there on
pub record Behind (k : ℕ) (source rest : Source) : Type 0 where
  pub draws : (at n : ℕ) → source (k + at) n ≡ map (drawn_from k) (rest at n)

-- the four bytes that a draw reads
four_dropped : (bytes : List ℕ) (k at : ℕ) → four_bytes bytes (k + at) ≡ four_bytes (drop k bytes) at
unfolding four_bytes
four_dropped bytes k at = simp (get_or-drop, add_assoc) refl

-- how many words are left
left_dropped : (bytes : List ℕ) (k at : ℕ) → words_left bytes (k + at) ≡ words_left (drop k bytes) at
left_dropped bytes k at = ap (λ (m : ℕ). m / 4) (as_many (length bytes) (length (drop k bytes)) (length-drop k bytes))
  where
    as_many : (long left : ℕ) → left ≡ long - k → long - (k + at) ≡ left - at
    as_many long left e = omega arith

-- the bytes from a place on are behind it
lent_behind : (mode : Mode) (bytes : List ℕ) (k : ℕ) → Behind k (lent mode bytes) (lent mode (drop k bytes))
unfolding draw
lent_behind mode bytes k =
    record {
      draws = λ at n.
          ap (λ (words : ℕ). drawn_by (four_bytes bytes) mode n words (k + at)) (left_dropped bytes k at)
          ∙ drawn_behind (four_bytes (drop k bytes)) (four_bytes bytes) mode n k (four_dropped bytes k) (words_left (drop k bytes) at) at;
    }

-- ---- a round

-- a round that is so many places further on
abbrev pub round-from : ℕ → Round → Round
round-from k r = record { steps = r.steps; next = k + r.next }

-- so many steps from there on
from_behind : (n : ℕ) (g : Grid) (k : ℕ) (source rest : Source) → Behind k source rest → (s : Position) (at : ℕ) → random_from n g source s (k + at) ≡ map (round-from k) (random_from n g rest s at)
from_behind zero g k source rest b s at = refl
from_behind (suc n) g k source rest b s at =
    ap (by source (k + at) (closed_safe g s)) (b.draws at (width (choice false g s)))
    ∙ go (λ t a. from_behind n g k source rest b (after_step g s t) a) (closed_safe g s) (rest at (width (choice false g s)))
  where
    by : Source → ℕ → ℕ → Option Drawn → Option Round
    by source at closed o = elim closed [ zero ↦ some (record { steps = []; next = at }) | suc j ↦ by_draw n g source s o ]

    first_too : (t : Step) (o : Option Round) → before t (map (round-from k) o) ≡ map (round-from k) (before t o)
    first_too t none = refl
    first_too t (some r) = refl

    go : ((t : Step) (a : ℕ) → random_from n g source (after_step g s t) (k + a) ≡ map (round-from k) (random_from n g rest (after_step g s t) a))
        → (closed : ℕ) (o : Option Drawn) → by source (k + at) closed (map (drawn_from k) o) ≡ map (round-from k) (by rest at closed o)
    go r zero o = refl
    go r (suc j) none = refl
    go r (suc j) (some d) =
        let t = step_of g s (choice false g s) d.place in
        ap (before t) (r t d.next) ∙ first_too t (random_from n g rest (after_step g s t) d.next)

-- a round from a place on is the round of what is behind it
pub round_behind : (g : Grid) (k : ℕ) (source rest : Source) → Behind k source rest → (at : ℕ) → random_round g source (k + at) ≡ map (round-from k) (random_round g rest at)
unfolding random_round
round_behind g k source rest b at = from_behind (three_bv g) g k source rest b (untouched g) at

-- ---- a search

-- what two searches come to, the second with the draws that the first left
abbrev pub joined : Searched → Searched → Searched
joined a b = record { least = min a.least b.least; next = a.next + b.next; moves = b.moves }

-- rounds after others with the draws that are left
later_behind : (n : ℕ) (g : Grid) (a : Searched) (source rest : Source) → Behind a.next source rest → (b : Searched) → search_from n g source (joined a b) ≡ map (joined a) (search_from n g rest b)
later_behind zero g a source rest h b = refl
later_behind (suc n) g a source rest h b =
    ap (goes-on n g source (onward (joined a b))) (round_behind g a.next source rest h b.next)
    ∙ go (λ e. later_behind n g a source rest h (onward b e)) (random_round g rest b.next)
  where
    same : (e : Round) → onward (joined a b) (round-from a.next e) ≡ joined a (onward b e)
    same e = ap (λ (m : ℕ). record { least = m; next = a.next + e.next; moves = (onward b e).moves }) (omega arith)

    go : ((e : Round) → search_from n g source (joined a (onward b e)) ≡ map (joined a) (search_from n g rest (onward b e))) → (o : Option Round)
        → goes-on n g source (onward (joined a b)) (map (round-from a.next) o) ≡ map (joined a) (goes-on n g rest (onward b) o)
    go l none = refl
    go l (some e) = ap (search_from n g source) (same e) ∙ l e

-- a search after rounds that came to a
search_behind : (n : ℕ) (g : Grid) (a : Searched) (source rest : Source) → Behind a.next source rest → 1 ≤ n → search_from n g source a ≡ map (joined a) (random_search g rest n)
unfolding random_search
search_behind n g a source rest b h =
    let one_first : n ≡ suc (n - 1) = omega arith in
    ap (λ (k : ℕ). search_from k g source a) one_first
    ∙ ap (goes-on (n - 1) g source (onward a)) (ap (random_round g source) (sym (add-zero a.next)) ∙ round_behind g a.next source rest b 0)
    ∙ go (random_round g rest 0)
  where
    go : (o : Option Round) → goes-on (n - 1) g source (onward a) (map (round-from a.next) o) ≡ map (joined a) (goes-on (n - 1) g rest first o)
    go none = refl
    go (some e) = later_behind (n - 1) g a source rest b (first e)

-- rounds and then more rounds
later_parts : (m n : ℕ) (g : Grid) (source : Source) (b : Searched) → search_from (m + n) g source b ≡ bind (search_from m g source b) (search_from n g source)
unfolding bind
later_parts zero n g source b = ap (λ (k : ℕ). search_from k g source b) (zero-add n)
later_parts (suc m) n g source b = ap (λ (k : ℕ). search_from k g source b) (suc-add m n) ∙ go (λ e. later_parts m n g source (onward b e)) (random_round g source b.next)
  where
    go : ((e : Round) → search_from (m + n) g source (onward b e) ≡ bind (search_from m g source (onward b e)) (search_from n g source)) → (o : Option Round)
        → goes-on (m + n) g source (onward b) o ≡ bind (goes-on m g source (onward b) o) (search_from n g source)
    go l none = refl
    go l (some e) = l e

-- a search is one of its first rounds, and then one of the others with what is left
pub search_splits : (g : Grid) (source : Source) (rest : Searched → Source) (m n : ℕ) → 1 ≤ m → 1 ≤ n → ((a : Searched) → random_search g source m ≡ some a → Behind a.next source (rest a))
    → random_search g source (m + n) ≡ bind (random_search g source m) (λ a. map (joined a) (random_search g (rest a) n))
unfolding random_search bind
search_splits g source rest m n h k behind = go (random_round g source 0) ∙ more (random_search g source m) refl
  where
    go : (o : Option Round) → goes-on (m + n - 1) g source first o ≡ bind (goes-on (m - 1) g source first o) (search_from n g source)
    go none = refl
    go (some e) =
        let as_many : m + n - 1 ≡ m - 1 + n = omega arith in
        ap (λ (j : ℕ). search_from j g source (first e)) as_many ∙ later_parts (m - 1) n g source (first e)

    more : (o : Option Searched) → random_search g source m ≡ o → bind o (search_from n g source) ≡ bind o (λ a. map (joined a) (random_search g (rest a) n))
    more none e = refl
    more (some a) e = search_behind n g a source (rest a) (behind a e) k

-- two searches, the second with what the first left, come to one search of all their rounds
pub search_joins : (g : Grid) (source : Source) (rest : Searched → Source) (m n : ℕ) (a b : Searched) → 1 ≤ m → 1 ≤ n → ((a : Searched) → random_search g source m ≡ some a → Behind a.next source (rest a))
    → random_search g source m ≡ some a → random_search g (rest a) n ≡ some b → random_search g source (m + n) ≡ some (joined a b)
unfolding bind
search_joins g source rest m n a b h k behind e q =
    search_splits g source rest m n h k behind ∙ ap (λ (o : Option Searched). bind o (λ a. map (joined a) (random_search g (rest a) n))) e ∙ ap (map (joined a)) q

-- so of lent bytes
pub search_parts : (g : Grid) (mode : Mode) (bytes : List ℕ) (m n : ℕ) (a b : Searched) → 1 ≤ m → 1 ≤ n → random_search g (lent mode bytes) m ≡ some a → random_search g (lent mode (drop a.next bytes)) n ≡ some b
    → random_search g (lent mode bytes) (m + n) ≡ some (joined a b)
search_parts g mode bytes m n a b h k = search_joins g (lent mode bytes) (λ a. lent mode (drop a.next bytes)) m n a b h k (λ a e. lent_behind mode bytes a.next)
