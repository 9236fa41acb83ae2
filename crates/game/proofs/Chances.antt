-- The chances of a place: of n words in a row each place has one, so of m words it has m / n, and each of the first m mod n places one more. Assumes nothing.
use Prim.Native.Nat.{ℕ, ◌%◌, ◌*◌, ◌+◌, ◌-◌, ◌/◌, ◌<◌, ◌≤◌, min, suc, zero}
use native.Mathlib.Omega.{arith}
use native.Mathlib.Decide.{ℕ_discrete, dec_lt}
use native.Mathlib.Nat.{div-add-mod, div-eq_of_lt, div_self, mod-eq_of_lt, mod-lt, mod_self, mul-add-div, mul-div_cancel_left, mul-mod_right, sub-zero, suc-mod, suc-mul, zero-div, zero-mod}
use native.Mathlib.Numerals.{add-one}
use mathlib.Core.Path.{◌∙◌, ◌≡◌, ap, refl, sym}
use mathlib.Core.Bool.{Bool, ◌&&◌, false, true}
use mathlib.Core.List.{List, [], ◌∷◌}
use mathlib.Core.Option.{some-injective, some}
use lib.Dec.{T, eqb, eqb_refl, eqb→eq, lt→ltb, ltb, ltb→lt}
use lib.ListN.{length}
use Rattle.game.specs.Lists.{bit, count, has, range}
use Rattle.game.specs.Draws.{Drawn, Mode, all_words, draw, fair, fair_bound, four_bytes, old, taken}
use Rattle.game.specs.Chances.{chances, chances_below, taken_for, together}
use Rattle.game.proofs.Counts.{count_append, count_ext, count_more, count_none}
use Rattle.game.proofs.Draws.{draw_on, draw_spent, draw_taken}
use Rattle.game.proofs.Members.{first_of, has_range, length_from, range_split, rest_of}
use Rattle.game.proofs.Truth.{T→true, and_both, and_left, and_right}
use borrow.Author.Tests.{eq-eqb, le-ltb, lt-ltb, ne_eqb}

-- ---- tests of order as numbers

bit_below : (a b : ℕ) → a < b → bit (ltb a b) ≡ 1
bit_below a b h = ap bit (lt-ltb a b h)

bit_above : (a b : ℕ) → b ≤ a → bit (ltb a b) ≡ 0
bit_above a b h = ap bit (le-ltb a b h)

-- below the next number: below this one, or this one
below_next : (p r : ℕ) → bit (ltb p (suc r)) ≡ bit (ltb p r) + bit (eqb r p)
below_next p r =
    elim (ℕ_discrete r p) [
      | yes e ↦ omega (arith, bit_below p (suc r) (omega arith), bit_above p r (omega arith), ap bit (eq-eqb r p e))
      | no n ↦
          let z = ap bit (ne_eqb r p n) in
          elim (dec_lt p r) [
            | yes h ↦ omega (arith, z, bit_below p (suc r) (omega arith), bit_below p r h)
            | no k ↦ omega (arith, z, bit_above p (suc r) (omega arith), bit_above p r (omega arith))
          ]
    ]

-- ---- counts over the numbers below m

-- one number more
count_next : (f : ℕ → Bool) (m : ℕ) → count f (range 0 (suc m)) ≡ count f (range 0 m) + bit (f m)
count_next f m = ap (λ (k : ℕ). count f (range 0 k)) (sym (add-one m)) ∙ count_more f 0 m (omega arith)

-- those below r
count_below : (r n : ℕ) → count (λ p. ltb p r) (range 0 n) ≡ min n r
count_below r zero = omega arith
count_below r (suc n) = omega (arith, count_next (λ p. ltb p r) n, count_below r n, one)
  where
    one : min (suc n) r ≡ min n r + bit (ltb n r)
    one =
        elim (dec_lt n r) [
          | yes h ↦ omega (arith, bit_below n r h)
          | no k ↦ omega (arith, bit_above n r (omega arith))
        ]

-- those below b that pass a test
count_bounded : (f : ℕ → Bool) (b m : ℕ) → b ≤ m → count (λ w. ltb w b && f w) (range 0 m) ≡ count f (range 0 b)
count_bounded f b m h =
    let parts = ap (count g) (range_split 0 b m (omega arith) h) ∙ count_append g (range 0 b) (range b m) in
    let inside = count_ext g f (range 0 b) (λ w t. ap (λ (c : Bool). c && f w) (lt-ltb w b (has_range 0 b w t).1)) in
    let outside = count_none g (range b m)
    (λ w t u. absurd (omega (arith, (has_range b m w t).0, ltb→lt w b (and_left (ltb w b) (f w) u)))) in
    omega arith
  where
    g : ℕ → Bool
    g w = ltb w b && f w

-- one number more: the quotient goes up where the remainder was the last one
div_next : (n m : ℕ) → 1 ≤ n → suc m / n ≡ m / n + suc (m % n) / n
div_next n m h = ap (λ (k : ℕ). k / n) (omega (arith, div-add-mod m n)) ∙ mul-add-div h (m / n) (suc (m % n))

-- and then all places have had their turn again
remainder_next : (n p r : ℕ) → p < n → r < n → bit (ltb p r) + bit (eqb r p) ≡ suc r / n + bit (ltb p (suc r % n))
remainder_next n p r h k =
    elim (dec_lt (suc r) n) [
      | yes l ↦ omega (arith, below_next p r, div-eq_of_lt l, ap (λ (x : ℕ). bit (ltb p x)) (mod-eq_of_lt l))
      | no l ↦
          let e : suc r ≡ n = omega arith in
          let q : suc r / n ≡ 1 = ap (λ (x : ℕ). x / n) e ∙ div_self (omega arith) in
          let z : suc r % n ≡ 0 = ap (λ (x : ℕ). x % n) e ∙ mod_self n in
          omega (arith, below_next p r, bit_below p (suc r) (omega arith), bit_above p (suc r % n) (omega arith))
    ]

-- those of remainder p
count_remainder : (n p m : ℕ) → p < n → count (λ w. eqb (w % n) p) (range 0 m) ≡ m / n + bit (ltb p (m % n))
count_remainder n p zero h =
    omega (arith, zero-div n, bit_above p (0 % n) (omega (arith, zero-mod n)))
count_remainder n p (suc m) h =
    omega (
      arith,
      count_next (λ w. eqb (w % n) p) m,
      count_remainder n p m h,
      div_next n m (omega arith),
      remainder_next n p (m % n) h (mod-lt m (omega arith)),
      ap (λ (x : ℕ). bit (ltb p x)) (suc-mod m n),
    )

-- ---- a bound without a remainder

whole : (n m : ℕ) → m - m % n ≡ n * (m / n)
whole n m = omega (arith, div-add-mod m n)

whole_div : (n m : ℕ) → 1 ≤ n → (m - m % n) / n ≡ m / n
whole_div n m h = ap (λ (k : ℕ). k / n) (whole n m) ∙ mul-div_cancel_left (m / n) h

whole_mod : (n m : ℕ) → (m - m % n) % n ≡ 0
whole_mod n m = ap (λ (k : ℕ). k % n) (whole n m) ∙ mul-mod_right n (m / n)

-- ---- the chances of a place

-- of the words below m, where each is taken
old_below : (m n place : ℕ) → place < n → chances_below m old n place ≡ m / n + bit (ltb place (m % n))
unfolding chances_below
old_below m n place h = count_remainder n place m h

-- and where those below the bound are
fair_below : (m n place : ℕ) → place < n → fair_bound n ≤ m → chances_below m fair n place ≡ fair_bound n / n + bit (ltb place (fair_bound n % n))
unfolding chances_below
fair_below m n place h k = count_bounded (λ w. eqb (w % n) place) (fair_bound n) m k ∙ count_remainder n place (fair_bound n) h

-- in the old mode the first (4,294,967,296 mod n) places have one word more than the others
pub old_chances : (n place : ℕ) → place < n → chances old n place ≡ all_words / n + bit (ltb place (all_words % n))
old_chances n place h = old_below all_words n place h

-- one of the first has one word more than one of the others
pub old_more : (n p q : ℕ) → p < all_words % n → all_words % n ≤ q → q < n → chances old n p ≡ suc (chances old n q)
old_more n p q h k l =
    omega (
      arith,
      old_chances n p (omega (arith, mod-lt all_words {m = n} (omega arith))),
      old_chances n q l,
      bit_below p (all_words % n) h,
      bit_above q (all_words % n) k,
    )

-- among three the first place has one word more than each of the others
pub three_chances : (chances old 3 0 ≡ suc (chances old 3 1)) × (chances old 3 2 ≡ chances old 3 1)
three_chances =
    (old_more 3 0 1 (omega arith) (omega arith) (omega arith), old_chances 3 2 (omega arith) ∙ sym (old_chances 3 1 (omega arith)))

-- in the fair mode the places share the words below the bound
fair_bounded : (n place : ℕ) → place < n → chances fair n place ≡ fair_bound n / n + bit (ltb place (fair_bound n % n))
fair_bounded n place h = fair_below all_words n place h (omega arith)

-- in the fair mode each place among n has as many words as any other: 4,294,967,296 / n
pub fair_chances : (n place : ℕ) → place < n → chances fair n place ≡ all_words / n
fair_chances n place h =
    omega (
      arith,
      fair_bounded n place h,
      whole_div n all_words (omega arith),
      bit_above place (fair_bound n % n) (omega (arith, whole_mod n all_words)),
    )

-- so any two places have even chances
pub even_chances : (n p q : ℕ) → p < n → q < n → chances fair n p ≡ chances fair n q
even_chances n p q h k = fair_chances n p h ∙ sym (fair_chances n q k)

-- ---- the words of the places

-- each word below the bound is taken for a place
pub fair_place : (n word : ℕ) → 1 ≤ n → word < fair_bound n → (word % n < n) × T (taken_for fair n (word % n) word)
fair_place n word h k =
    (mod-lt word h, and_both (ltb word (fair_bound n)) (eqb (word % n) (word % n)) (lt→ltb word (fair_bound n) k) (eqb_refl (word % n)))

-- and for no other; a word from the bound on for none
pub fair_only : (n place word : ℕ) → T (taken_for fair n place word) → (word < fair_bound n) × (word % n ≡ place)
fair_only n place word t = (
  ltb→lt word (fair_bound n) (and_left (ltb word (fair_bound n)) (eqb (word % n) place) t),
  eqb→eq (word % n) place (and_right (ltb word (fair_bound n)) (eqb (word % n) place) t),
)

-- ---- all places together

-- k words for each place, and one more for those that pass a test
sum : (mode : Mode) (n k : ℕ) (f : ℕ → Bool) (places : List ℕ) → ((p : ℕ) → T (has p places) → chances mode n p ≡ k + bit (f p)) → together mode n places ≡ length places * k + count f places
sum mode n k f [] h = omega arith
sum mode n k f (p ∷ places) h =
    omega (arith, first_of p places h, sum mode n k f places (rest_of p places h), suc-mul (length places) k)

-- where the chances are those of the words below b, they are b together
sum_below : (mode : Mode) (n b : ℕ) → 1 ≤ n → ((p : ℕ) → p < n → chances mode n p ≡ b / n + bit (ltb p (b % n))) → together mode n (range 0 n) ≡ b
sum_below mode n b h e =
    let s = sum mode n (b / n) (λ p. ltb p (b % n)) (range 0 n) (λ p t. e p (has_range 0 n p t).1) in
    let l : length (range 0 n) * (b / n) ≡ n * (b / n) = ap (λ (x : ℕ). x * (b / n)) (length_from (n - 0) 0 ∙ sub-zero n) in
    omega (arith, count_below (b % n) n, mod-lt b h, div-add-mod b n)

-- in the fair mode they are all words below the bound: as many
pub fair_together : (n : ℕ) → 1 ≤ n → together fair n (range 0 n) ≡ fair_bound n
fair_together n h = sum_below fair n (fair_bound n) h (fair_bounded n)

-- in the old mode all words
pub old_together : (n : ℕ) → 1 ≤ n → together old n (range 0 n) ≡ all_words
old_together n h = sum_below old n all_words h (old_chances n)

-- ---- the words and the draws

-- a draw among two or more takes a place by its first word where that is one of the place's words
pub word_draws : (mode : Mode) (bytes : List ℕ) (at n place : ℕ) → 2 ≤ n → at + 4 ≤ length bytes → T (taken_for mode n place (four_bytes bytes at))
    → draw mode bytes at n ≡ some (record { place = place; next = at + 4 })
word_draws mode bytes at n place h l t =
    let word = four_bytes bytes at in
    draw_taken mode bytes at n h l (T→true (taken mode n word) (and_left (taken mode n word) (eqb (word % n) place) t))
    ∙ ap (λ (p : ℕ). some (record { place = p; next = at + 4 })) (eqb→eq (word % n) place (and_right (taken mode n word) (eqb (word % n) place) t))

-- and nowhere else
pub draws_word : (mode : Mode) (bytes : List ℕ) (at n place : ℕ) → 2 ≤ n → at + 4 ≤ length bytes → draw mode bytes at n ≡ some (record { place = place; next = at + 4 })
    → T (taken_for mode n place (four_bytes bytes at))
draws_word mode bytes at n place h l e = go (taken mode n (four_bytes bytes at)) refl
  where
    go : (b : Bool) → taken mode n (four_bytes bytes at) ≡ b → T (taken_for mode n place (four_bytes bytes at))
    go true q =
        let same = some-injective _ _ (sym (draw_taken mode bytes at n h l q) ∙ e) in
        and_both (taken mode n (four_bytes bytes at)) (eqb (four_bytes bytes at % n) place) (rw q tt) (rw (eq-eqb (four_bytes bytes at % n) place (ap (λ (d : Drawn). d.place) same)) tt)
    go false q = let late = draw_on mode bytes (at + 4) n _ h (sym (draw_spent mode bytes at n h l q).0 ∙ e) in absurd (omega arith)
