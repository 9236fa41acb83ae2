-- The mines of a file marked one after the other: after k of them the bits are theirs, none is past the edge and none is listed twice. Assumes nothing.
use Prim.Native.Nat.{ℕ, ◌+◌, ◌-◌, ◌*◌, ◌/◌, ◌%◌, ◌^◌, ◌<◌, ◌≤◌}
use native.Mathlib.Omega.{arith}
use native.Mathlib.Decide.{dec_lt}
use native.Mathlib.Nat.{mul-le-mul_left, zero-div}
use mathlib.Core.Path.{◌≡◌, ap, refl, subst, sym, ◌∙◌}
use mathlib.Core.Logic.{⊎_elim}
use mathlib.Core.Bool.{Bool, true, false, true≢false, not, ◌||◌, cond}
use mathlib.Core.List.{List, [], ◌∷◌, ◌++◌, append_assoc, map, map-append}
use lib.Dec.{T, eqb, eqb→eq, leb}
use lib.ListN.{get_or-eq_default, get_or, get_or-replicate, length, length-replicate, length-set}
use borrow.Author.Tests.{eqb-false, le-leb, lt-leb, ne_eqb}
use Rattle.game.specs.Lists.{has, range, some_of}
use Rattle.game.proofs.Members.{has_append_right, has_head, range_has, range_more, range_split, some_append, some_yes}
use Rattle.game.proofs.Truth.{T→true, or_cases, or_left, or_no, or_right}
use Rattle.lines.specs.BoardLine.{bit_at}
use Rattle.mine_bits.specs.Bits.{SetNew, with_bit}
use Rattle.mine_bits.proofs.Bits.{bit_set}
use Rattle.mbf_form.specs.Form.{file_columns, file_rows, mine_column, mine_row, mine_place, mine_places, mine_count, past_edge, twice}
use Rattle.mbf_checks.specs.Marks.{BitsOf, MarkedAll, MarkedOne, no_bits}

-- ---- lists

-- one that is there already is there twice
twice_new : (xs : List ℕ) (x : ℕ) (ys : List ℕ) → T (has x xs) → T (twice (xs ++ x ∷ ys))
twice_new [] x ys t = elim t [ ]
twice_new (z ∷ xs) x ys t =
    ⊎_elim
    (λ u. or_left (has z (xs ++ x ∷ ys)) (twice (xs ++ x ∷ ys)) (has_append_right z xs (x ∷ ys) (has_head z x ys (sym (eqb→eq x z u)))))
    (λ u. or_right (has z (xs ++ x ∷ ys)) (twice (xs ++ x ∷ ys)) (twice_new xs x ys u))
    (or_cases (eqb x z) (has x xs) t)

-- one that is not there yet is not there twice
twice_not : (xs : List ℕ) (x : ℕ) → twice xs ≡ false → has x xs ≡ false → twice (xs ++ x ∷ []) ≡ false
twice_not [] x e f = refl
twice_not (z ∷ xs) x e f =
    let p = or_no (has z xs) (twice xs) e in
    let q = or_no (eqb x z) (has x xs) f in
    (λ i. (some_append (eqb z) xs (x ∷ []) ∙ other q.0 ∙ p.0) i || twice_not xs x p.1 q.1 i)
  where
    other : eqb x z ≡ false → (has z xs || (eqb z x || false)) ≡ has z xs
    other f = ap (λ (b : Bool). has z xs || (b || false)) (ne_eqb z x (λ e. eqb-false x z f (sym e))) ∙ or_false (has z xs)
      where
        or_false : (b : Bool) → (b || false) ≡ b
        or_false true = refl
        or_false false = refl

-- ---- the places of the first mines

-- the places of the first k mines
abbrev pub places_to : List ℕ → ℕ → List ℕ
places_to file k = map (mine_place file) (range 0 k)

places_more : (file : List ℕ) (k : ℕ) → places_to file (k + 1) ≡ places_to file k ++ (mine_place file k ∷ [])
places_more file k = ap (map (mine_place file)) (range_more 0 k (omega arith)) ∙ map-append (mine_place file) (range 0 k) (k ∷ [])

places_split : (file : List ℕ) (k n : ℕ) → k < n → places_to file n ≡ places_to file k ++ mine_place file k ∷ map (mine_place file) (range (k + 1) n)
places_split file k n h =
    ap (map (mine_place file)) (range_split 0 (k + 1) n (omega arith) (omega arith)) ∙ map-append (mine_place file) (range 0 (k + 1)) (range (k + 1) n)
    ∙ ap (λ (l : List ℕ). l ++ map (mine_place file) (range (k + 1) n)) (places_more file k)
    ∙ append_assoc (places_to file k) (mine_place file k ∷ []) (map (mine_place file) (range (k + 1) n))

-- ---- after k mines

pub record Midway (file : List ℕ) (k : ℕ) (bits : List ℕ) : Type 0 where
  pub inside : some_of (past_edge file) (range 0 k) ≡ false
  pub once : twice (places_to file k) ≡ false
  pub bits_of : BitsOf (places_to file k) bits

no_bit : (p : ℕ) → bit_at no_bits p ≡ false
unfolding bit_at
no_bit p = ap (λ (b : ℕ). eqb (b / 2 ^ (7 - p % 8) % 2) 1) (nothing (p / 8)) ∙ zero_bit (2 ^ (7 - p % 8))
  where
    nothing : (k : ℕ) → get_or no_bits k 0 ≡ 0
    nothing k =
        elim (dec_lt k 8192) [
          | yes h ↦ get_or-replicate 8192 k 0 0 h
          | no h ↦ get_or-eq_default no_bits 0 {n = k} (omega (arith, length-replicate {A = ℕ} 8192 0))
        ]

    zero_bit : (w : ℕ) → eqb (0 / w % 2) 1 ≡ false
    zero_bit w = ap (λ (b : ℕ). eqb (b % 2) 1) (zero-div w)

-- before any
pub none_marked : (file : List ℕ) → Midway file 0 no_bits
none_marked file = record { inside = refl; once = refl; bits_of = record { long = length-replicate {A = ℕ} 8192 0; set = no_bit } }

-- a mine that is taken is not past the edge, and its bit is not set
neither : (a b : Bool) → true ≡ not (a || b) → (a ≡ false) × (b ≡ false)
neither true b e = absurd (true≢false e)
neither false true e = absurd (true≢false e)
neither false false e = (refl, refl)

-- one that is refused is past the edge, or its bit is set
either : (c : Bool) → false ≡ not c → T c
either true e = tt
either false e = absurd (true≢false (sym e))

module _ (file : List ℕ) (k : ℕ) (bits new : List ℕ) (m : Midway file k bits) (one : MarkedOne file k bits true new) (small : get_or bits (mine_place file k / 8) 0 < 256) (room : mine_place file k < 65536) where
  abbrev place : ℕ
  place = mine_place file k

  bits_more : (p : ℕ) → bit_at new p ≡ has p (places_to file (k + 1))
  bits_more p =
      ap (λ (l : List ℕ). bit_at l p) one.leaves
      ∙ bit_set bits place p (omega (arith, m.bits_of.long)) small (neither (past_edge file k) (bit_at bits place) one.answers).1
      ∙ ap (λ (b : Bool). eqb p place || b) (m.bits_of.set p)
      ∙ swapped (eqb p place) (has p (places_to file k))
      ∙ sym (ap (has p) (places_more file k) ∙ some_append (eqb p) (places_to file k) (place ∷ []))
    where
      swapped : (a b : Bool) → (a || b) ≡ (b || (a || false))
      swapped true true = refl
      swapped true false = refl
      swapped false true = refl
      swapped false false = refl

  -- one mine more
  pub one_more : Midway file (k + 1) new
  unfolding with_bit
  one_more =
      let free = neither (past_edge file k) (bit_at bits place) one.answers in
      record {
        inside = ap (some_of (past_edge file)) (range_more 0 k (omega arith)) ∙ some_append (past_edge file) (range 0 k) (k ∷ []) ∙ (λ i. m.inside i || (free.0 i || false));
        once = ap twice (places_more file k) ∙ twice_not (places_to file k) place m.once (sym (m.bits_of.set place) ∙ free.1);
        bits_of = record { long = ap length one.leaves ∙ length-set bits (place / 8) _ ∙ m.bits_of.long; set = bits_more };
      }

module _ (file : List ℕ) (k : ℕ) (bits new : List ℕ) (m : Midway file k bits) (one : MarkedOne file k bits false new) (some_left : k < mine_count file) where
  wrong : T (some_of (past_edge file) (range 0 (mine_count file)) || twice (mine_places file))
  unfolding mine_places
  wrong =
      let edge = some_of (past_edge file) (range 0 (mine_count file)) in
      ⊎_elim
      (λ t. or_left edge (twice (mine_places file)) (some_yes (past_edge file) k (range 0 (mine_count file)) (range_has 0 (mine_count file) k (omega arith) some_left) t))
      (λ t. or_right edge (twice (mine_places file))
      (subst (λ (l : List ℕ). T (twice l)) (sym (places_split file k (mine_count file) some_left))
      (twice_new (places_to file k) (mine_place file k) _ (subst T (m.bits_of.set (mine_place file k)) t))))
      (or_cases (past_edge file k) (bit_at bits (mine_place file k)) (either (past_edge file k || bit_at bits (mine_place file k)) one.answers))

  -- a mine that is refused
  pub refused_here : MarkedAll file false new
  refused_here = record { answers = ap not (sym (T→true (some_of (past_edge file) (range 0 (mine_count file)) || twice (mine_places file)) wrong)); marks = λ e. absurd (true≢false (sym e)) }

-- all mines
pub all_marked : (file bits : List ℕ) → Midway file (mine_count file) bits → MarkedAll file true bits
unfolding mine_places
all_marked file bits m = record { answers = λ i. not (sym m.inside i || sym m.once i); marks = λ e. m.bits_of }

-- ---- one mine

-- the place of a mine within the edge is one of 65,536
pub place_small : (columns column row : ℕ) → columns < 256 → row < 256 → column < 256 → row * columns + column < 65536
place_small columns column row a b c = omega (arith, mul-le-mul_left {m = columns} {n = 255} row (omega arith))

-- the bits stay as many
pub marked_long : (file : List ℕ) (k : ℕ) (bits : List ℕ) (t : Bool) (new : List ℕ) → MarkedOne file k bits t new → length new ≡ length bits
unfolding with_bit
marked_long file k bits t new one = ap length one.leaves ∙ go t
  where
    go : (t : Bool) → length (cond t (with_bit bits (mine_place file k)) bits) ≡ length bits
    go true = length-set bits (mine_place file k / 8) _
    go false = refl

module _ (file : List ℕ) (k : ℕ) (bits : List ℕ) where
  -- the answer by the tests: the column, the row, the bit
  by : (a b c : Bool) → leb (file_columns file) (mine_column file k) ≡ a → leb (file_rows file) (mine_row file k) ≡ b → bit_at bits (mine_place file k) ≡ c
      → not ((a || b) || c) ≡ not (past_edge file k || bit_at bits (mine_place file k))
  unfolding past_edge
  by a b c e f g = sym (λ i. not ((e i || f i) || g i))

  pub past_column : file_columns file ≤ mine_column file k → MarkedOne file k bits false bits
  past_column h = record { answers = by true _ _ (le-leb (file_columns file) (mine_column file k) h) refl refl; leaves = refl }

  module _ (column : mine_column file k < file_columns file) where
    pub past_row : file_rows file ≤ mine_row file k → MarkedOne file k bits false bits
    past_row h = record { answers = by false true _ (lt-leb (file_columns file) (mine_column file k) column) (le-leb (file_rows file) (mine_row file k) h) refl; leaves = refl }

    module _ (row : mine_row file k < file_rows file) where
      pub set_or_not : (new : Bool) (after : List ℕ) → SetNew bits (mine_place file k) new after → MarkedOne file k bits new after
      set_or_not new after s =
          record {
            answers = s.answers ∙ by false false _ (lt-leb (file_columns file) (mine_column file k) column) (lt-leb (file_rows file) (mine_row file k) row) refl;
            leaves = s.leaves;
          }
