-- The first word that is taken, of any words, in either mode. Lent bytes as a source: a draw takes one of its places, and uses no bytes, or the words that it spent and the one that it took. Assumes nothing.
use Prim.Native.Nat.{ℕ, ◌%◌, ◌*◌, ◌+◌, ◌-◌, ◌/◌, ◌<◌, ◌≤◌, suc, zero}
use native.Mathlib.Omega.{arith}
use native.Mathlib.Nat.{add_assoc, mod-lt, mul-div-le}
use mathlib.Core.Path.{◌∙◌, ◌≡◌, ap, refl, subst, sym}
use mathlib.Core.Logic.{◌⊎◌, inl, inr}
use mathlib.Core.Bool.{Bool, cond, false, true}
use mathlib.Core.List.{List}
use mathlib.Core.Option.{Option, map, some-ne-none, none, some}
use lib.Dec.{T, leb, leb→le, nleb→lt}
use lib.ListN.{length}
use borrow.Author.Tests.{le-leb, lt-leb}
use Rattle.game.specs.Draws.{Drawn, Mode, Places, draw, drawn_by, fair, first_taken, four_bytes, lent, old, taken, words_left}

-- something holds of what is there, if anything is
abbrev pub IfSome {ℓ} : {A : Type ℓ} → (A → Type 0) → Option A → Type 0
IfSome P none = Unit {0}
IfSome P (some x) = P x

-- ---- words one after another

-- what a word at a place gives, where it is taken
abbrev pub taking : (ℕ → ℕ) → ℕ → ℕ → Drawn
taking word n a = record { place = word a % n; next = a + 4 }

-- a word that is taken, or else what the next one gives
abbrev pub or_next : Bool → Drawn → Option Drawn → Option Drawn
or_next b d next = elim b [ true ↦ some d | false ↦ next ]

-- from a place on, over whole words
pub record Whole (at next : ℕ) : Type 0 where
  pub onward : at ≤ next
  pub words : next % 4 ≡ at % 4

-- something holds of the first word that is taken, if it holds of each that is
pub by_taken : (P : Drawn → Type 0) (word : ℕ → ℕ) (mode : Mode) (n k at : ℕ) → ((a : ℕ) → Whole at a → a + 4 ≤ at + 4 * k → T (taken mode n (word a)) → P (taking word n a))
    → IfSome P (first_taken word mode n k at)
by_taken P word mode n zero at h = tt
by_taken P word mode n (suc k) at h =
    go (taken mode n (word at)) refl (by_taken P word mode n k (at + 4) (λ a l m t. h a (record { onward = omega arith; words = omega arith }) (omega arith) t))
  where
    go : (b : Bool) → taken mode n (word at) ≡ b → IfSome P (first_taken word mode n k (at + 4)) → IfSome P (or_next b (taking word n at) (first_taken word mode n k (at + 4)))
    go true e r = h at (record { onward = omega arith; words = refl }) (omega arith) (rw e tt)
    go false e r = r

-- among one, or none, a draw takes the first place and no word
pub drawn_one : (word : ℕ → ℕ) (mode : Mode) (n k at : ℕ) → n ≤ 1 → drawn_by word mode n k at ≡ some (record { place = 0; next = at })
drawn_one word mode n k at h = ap (λ (b : Bool). cond b (some (record { place = 0; next = at })) (first_taken word mode n k at)) (le-leb n 1 h)

-- among more the first word that is taken
pub drawn_more : (word : ℕ → ℕ) (mode : Mode) (n k at : ℕ) → 1 < n → drawn_by word mode n k at ≡ first_taken word mode n k at
drawn_more word mode n k at h = ap (λ (b : Bool). cond b (some (record { place = 0; next = at })) (first_taken word mode n k at)) (lt-leb n 1 h)

-- something holds of a draw: of the one without a word, and of each word that is taken
pub by_drawn : (P : Drawn → Type 0) (word : ℕ → ℕ) (mode : Mode) (n k at : ℕ) → P (record { place = 0; next = at })
    → ((a : ℕ) → Whole at a → a + 4 ≤ at + 4 * k → T (taken mode n (word a)) → P (taking word n a)) → IfSome P (drawn_by word mode n k at)
by_drawn P word mode n k at h l = go (leb n 1)
  where
    go : (b : Bool) → IfSome P (cond b (some (record { place = 0; next = at })) (first_taken word mode n k at))
    go true = h
    go false = by_taken P word mode n k at l

-- of k words, one or more, the first is taken, or else those after it decide
pub taken_turn : (word : ℕ → ℕ) (mode : Mode) (n k at : ℕ) (b : Bool) → 1 ≤ k → taken mode n (word at) ≡ b
    → first_taken word mode n k at ≡ or_next b (taking word n at) (first_taken word mode n (k - 1) (at + 4))
taken_turn word mode n zero at b h e = absurd (omega arith)
taken_turn word mode n (suc k) at b h e =
    ap (λ (x : Bool). or_next x (taking word n at) (first_taken word mode n k (at + 4))) e
    ∙ ap (λ (j : ℕ). or_next b (taking word n at) (first_taken word mode n j (at + 4))) one_less
  where
    one_less : k ≡ suc k - 1
    one_less = omega arith

-- a draw that is so many places further on
abbrev pub drawn_from : ℕ → Drawn → Drawn
drawn_from c d = record { place = d.place; next = c + d.next }

-- words so many places further on: the first that is taken is the same there
module _ (word to : ℕ → ℕ) (mode : Mode) (n c : ℕ) (same : (a : ℕ) → to (c + a) ≡ word a) where
  taken_behind : (k at : ℕ) → first_taken to mode n k (c + at) ≡ map (drawn_from c) (first_taken word mode n k at)
  taken_behind zero at = refl
  taken_behind (suc k) at =
      ap (λ (w : ℕ). or_next (taken mode n w) (record { place = w % n; next = c + at + 4 }) (first_taken to mode n k (c + at + 4))) (same at)
      ∙ go (taken mode n (word at)) (taken_behind k (at + 4))
    where
      go : (b : Bool) → first_taken to mode n k (c + (at + 4)) ≡ map (drawn_from c) (first_taken word mode n k (at + 4))
          → or_next b (record { place = word at % n; next = c + at + 4 }) (first_taken to mode n k (c + at + 4)) ≡ map (drawn_from c) (or_next b (taking word n at) (first_taken word mode n k (at + 4)))
      go true r = ap (λ (m : ℕ). some (record { place = word at % n; next = m })) (add_assoc c at 4)
      go false r = ap (first_taken to mode n k) (add_assoc c at 4) ∙ r

  -- and so is what is drawn by them
  pub drawn_behind : (k at : ℕ) → drawn_by to mode n k (c + at) ≡ map (drawn_from c) (drawn_by word mode n k at)
  drawn_behind k at = go (leb n 1)
    where
      go : (b : Bool) → cond b (some (record { place = 0; next = c + at })) (first_taken to mode n k (c + at)) ≡ map (drawn_from c) (cond b (some (record { place = 0; next = at })) (first_taken word mode n k at))
      go true = refl
      go false = taken_behind k at

-- none of k words is taken: each is spent
pub all_spent : (word : ℕ → ℕ) (mode : Mode) (n k at : ℕ) → first_taken word mode n k at ≡ none → (i : ℕ) → i < k → taken mode n (word (at + 4 * i)) ≡ false
all_spent word mode n zero at e i h = absurd (omega arith)
all_spent word mode n (suc k) at e i h = go (taken mode n (word at)) refl (λ q j l. all_spent word mode n k (at + 4) q j l) e i h
  where
    go : (b : Bool) → taken mode n (word at) ≡ b → (first_taken word mode n k (at + 4) ≡ none → (j : ℕ) → j < k → taken mode n (word (at + 4 + 4 * j)) ≡ false)
        → or_next b (taking word n at) (first_taken word mode n k (at + 4)) ≡ none → (i : ℕ) → i < suc k → taken mode n (word (at + 4 * i)) ≡ false
    go true q r e i h = absurd (some-ne-none _ e)
    go false q r e zero h = ap (λ (a : ℕ). taken mode n (word a)) (omega arith) ∙ q
    go false q r e (suc i) h = ap (λ (a : ℕ). taken mode n (word a)) (omega arith) ∙ r e i (omega arith)

-- each is spent: none is taken
pub spent_dry : (word : ℕ → ℕ) (mode : Mode) (n k at : ℕ) → ((i : ℕ) → i < k → taken mode n (word (at + 4 * i)) ≡ false) → first_taken word mode n k at ≡ none
spent_dry word mode n zero at h = refl
spent_dry word mode n (suc k) at h =
    let here : taken mode n (word at) ≡ false = ap (λ (a : ℕ). taken mode n (word a)) (omega arith) ∙ h 0 (omega arith) in
    ap (λ (b : Bool). or_next b (taking word n at) (first_taken word mode n k (at + 4))) here
    ∙ spent_dry word mode n k (at + 4) (λ i l. ap (λ (a : ℕ). taken mode n (word a)) (omega arith) ∙ h (suc i) (omega arith))

-- ---- a draw from lent bytes

-- the words that are left are in the bytes
pub words_within : (bytes : List ℕ) (at a : ℕ) → Whole at a → a + 4 ≤ at + 4 * words_left bytes at → a + 4 ≤ length bytes
words_within bytes at a l m = omega (arith, mul-div-le (length bytes - at) 4)

-- something holds of a draw: of the one without bytes, and of each word in the bytes that is taken
pub by_draw_taken : (P : Drawn → Type 0) (mode : Mode) (bytes : List ℕ) (at n : ℕ) → P (record { place = 0; next = at })
    → ((a : ℕ) → at ≤ a → a + 4 ≤ length bytes → T (taken mode n (four_bytes bytes a)) → P (taking (four_bytes bytes) n a)) → IfSome P (draw mode bytes at n)
unfolding draw
by_draw_taken P mode bytes at n h k = by_drawn P (four_bytes bytes) mode n (words_left bytes at) at h (λ a l m t. k a l.onward (words_within bytes at a l m) t)

-- lent bytes draw among the places
pub lent_places : (mode : Mode) (bytes : List ℕ) → Places (lent mode bytes)
lent_places mode bytes =
    record {
      inside = λ at n d h e. subst (IfSome (λ (x : Drawn). x.place < n)) e
          (by_draw_taken (λ (x : Drawn). x.place < n) mode bytes at n h (λ a l m t. mod-lt (four_bytes bytes a) h));
    }

-- no bytes were used, or four at least, up to a place in the bytes
abbrev pub Used : List ℕ → ℕ → ℕ → Type 0
Used bytes at next = (next ≡ at) ⊎ ((at + 4 ≤ next) × (next ≤ length bytes))

pub used_on : (bytes : List ℕ) (at mid next : ℕ) → Used bytes at mid → Used bytes mid next → Used bytes at next
used_on bytes at mid next (inl e) (inl f) = inl (f ∙ e)
used_on bytes at mid next (inl e) (inr k) = inr (omega (arith, k.0), k.1)
used_on bytes at mid next (inr h) (inl f) = inr (omega (arith, h.0), omega (arith, h.1))
used_on bytes at mid next (inr h) (inr k) = inr (omega (arith, h.0, k.0), k.1)

pub used_within : (bytes : List ℕ) (at next : ℕ) → Used bytes at next → at ≤ length bytes → (at ≤ next) × (next ≤ length bytes)
used_within bytes at next (inl e) h = (omega arith, omega arith)
used_within bytes at next (inr k) h = (omega (arith, k.0), k.1)

-- so of a draw
pub draw_uses : (mode : Mode) (bytes : List ℕ) (at n : ℕ) (d : Drawn) → draw mode bytes at n ≡ some d → Used bytes at d.next
draw_uses mode bytes at n d e =
    subst (IfSome (λ (x : Drawn). Used bytes at x.next)) e
    (by_draw_taken (λ (x : Drawn). Used bytes at x.next) mode bytes at n (inl refl) (λ a l m t. inr (omega arith, m)))

-- ---- a draw by its first word

-- among two or more a draw is the first word left that is taken
pub draw_words : (mode : Mode) (bytes : List ℕ) (at n : ℕ) → 2 ≤ n → draw mode bytes at n ≡ first_taken (four_bytes bytes) mode n (words_left bytes at) at
unfolding draw
draw_words mode bytes at n h =
    drawn_more (four_bytes bytes) mode n (words_left bytes at) at h

-- then it uses a word at least
pub draw_on : (mode : Mode) (bytes : List ℕ) (at n : ℕ) (d : Drawn) → 2 ≤ n → draw mode bytes at n ≡ some d → at + 4 ≤ d.next
draw_on mode bytes at n d h e =
    subst (IfSome (λ (x : Drawn). at + 4 ≤ x.next)) (sym (draw_words mode bytes at n h) ∙ e)
    (by_taken (λ (x : Drawn). at + 4 ≤ x.next) (four_bytes bytes) mode n (words_left bytes at) at (λ a l m t. omega arith))

-- among one it takes the first place and uses no bytes
pub draw_one : (mode : Mode) (bytes : List ℕ) (at : ℕ) → draw mode bytes at 1 ≡ some (record { place = 0; next = at })
unfolding draw
draw_one mode bytes at = refl

-- where four bytes are left, one word more is left than from the next on
word_left : (len at : ℕ) → at + 4 ≤ len → (len - at) / 4 ≡ suc ((len - (at + 4)) / 4)
word_left len at l = omega arith

-- with fewer than four bytes left it is dry
pub draw_short : (mode : Mode) (bytes : List ℕ) (at n : ℕ) → 2 ≤ n → length bytes < at + 4 → draw mode bytes at n ≡ none
draw_short mode bytes at n h l = draw_words mode bytes at n h ∙ ap (λ (k : ℕ). first_taken (four_bytes bytes) mode n k at) (none_left (length bytes) at l)
  where
    none_left : (len at : ℕ) → len < at + 4 → (len - at) / 4 ≡ 0
    none_left len at l = omega arith

-- otherwise its first word is taken or spent
draw_turn : (mode : Mode) (bytes : List ℕ) (at n : ℕ) → 2 ≤ n → at + 4 ≤ length bytes
    → draw mode bytes at n ≡ or_next (taken mode n (four_bytes bytes at)) (taking (four_bytes bytes) n at) (draw mode bytes (at + 4) n)
draw_turn mode bytes at n h l =
    draw_words mode bytes at n h ∙ ap (λ (k : ℕ). first_taken (four_bytes bytes) mode n k at) (word_left (length bytes) at l)
    ∙ ap (or_next (taken mode n (four_bytes bytes at)) (taking (four_bytes bytes) n at)) (sym (draw_words mode bytes (at + 4) n h))

-- taken: the word's place mod n, four bytes on
pub draw_taken : (mode : Mode) (bytes : List ℕ) (at n : ℕ) → 2 ≤ n → at + 4 ≤ length bytes → taken mode n (four_bytes bytes at) ≡ true
    → draw mode bytes at n ≡ some (taking (four_bytes bytes) n at)
draw_taken mode bytes at n h l e =
    draw_turn mode bytes at n h l ∙ ap (λ (b : Bool). or_next b (taking (four_bytes bytes) n at) (draw mode bytes (at + 4) n)) e

-- spent: the draw four bytes on, with a word fewer left, so a draw ends
pub draw_spent : (mode : Mode) (bytes : List ℕ) (at n : ℕ) → 2 ≤ n → at + 4 ≤ length bytes → taken mode n (four_bytes bytes at) ≡ false
    → (draw mode bytes at n ≡ draw mode bytes (at + 4) n) × (words_left bytes (at + 4) < words_left bytes at)
draw_spent mode bytes at n h l e = (
  draw_turn mode bytes at n h l ∙ ap (λ (b : Bool). or_next b (taking (four_bytes bytes) n at) (draw mode bytes (at + 4) n)) e,
  omega (arith, word_left (length bytes) at l),
)

-- a fair draw whose first word is taken gives what the old one gives
pub fair_first : (bytes : List ℕ) (at n : ℕ) → taken fair n (four_bytes bytes at) ≡ true → draw fair bytes at n ≡ draw old bytes at n
unfolding draw
fair_first bytes at n e = ap (cond (leb n 1) (some (record { place = 0; next = at }))) (go (words_left bytes at))
  where
    go : (k : ℕ) → first_taken (four_bytes bytes) fair n k at ≡ first_taken (four_bytes bytes) old n k at
    go zero = refl
    go (suc k) = taken_turn (four_bytes bytes) fair n (suc k) at true (omega arith) e

-- the old mode takes its first word, if there is one
pub old_draw : (bytes : List ℕ) (at n : ℕ)
    → draw old bytes at n ≡ cond (leb n 1) (some (record { place = 0; next = at })) (cond (leb (at + 4) (length bytes)) (some (taking (four_bytes bytes) n at)) none)
unfolding draw
old_draw bytes at n = ap (cond (leb n 1) (some (record { place = 0; next = at }))) (go (words_left bytes at) (leb (at + 4) (length bytes)) refl refl)
  where
    go : (k : ℕ) (b : Bool) → words_left bytes at ≡ k → leb (at + 4) (length bytes) ≡ b → first_taken (four_bytes bytes) old n k at ≡ cond b (some (taking (four_bytes bytes) n at)) none
    go zero true e f = absurd (omega (arith, leb→le (at + 4) (length bytes) (rw f tt)))
    go zero false e f = refl
    go (suc k) true e f = refl
    go (suc k) false e f = absurd (omega (arith, nleb→lt (at + 4) (length bytes) (rw f tt)))
