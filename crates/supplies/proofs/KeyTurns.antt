-- The words of a key one after another, until one is below the bound: each turn steps the key on by one word, four bytes on. Assumes nothing.
use Prim.Native.Nat.{ℕ, ◌%◌, ◌*◌, ◌+◌, ◌-◌, ◌/◌, ◌<◌, ◌≤◌, suc}
use native.Mathlib.Omega.{arith}
use mathlib.Core.Path.{◌∙◌, ◌≡◌, ap, ap₂, refl, subst, sym}
use mathlib.Core.Bool.{Bool, false, true}
use mathlib.Core.Option as Rules
use lib.Dec.{ltb}
use borrow.Author.Tests.{le-ltb, lt-ltb}
use Rattle.std.specs.Prelude.{None, Some}
use Rattle.game.specs.Draws.{Drawn, Mode, first_taken, taken}
use Rattle.game.specs.Keys as Game
use Rattle.game.specs.Keys.{given_by, key_after, key_word, next_key}
use Rattle.game.proofs.Draws.{or_next, taken_turn}
use Rattle.draws.specs.Answers.{Bounds}
use Rattle.keys.specs.declared.Key.{Key}
use Rattle.keys.specs.Stands.{key_of}
use Rattle.supplies.specs.Origins.{Dealing, Reads, key_given}

-- the words of a key by their places
abbrev pub word_at : Game.Key → ℕ → ℕ
word_at k a = key_word k (a / 4)

-- after so many words of a key that stood at a place, each spent: those left of the 64 decide
pub record Midway (n bound : ℕ) (first : Key) (used : ℕ) (key : Key) (turn : ℕ) : Type 0 where
  pub course : (k : Game.Key) (at : ℕ) (mode : Mode) → Reads (key_given k) at (record { used = used; key = Some first }) → Bounds mode n bound
      → (key_of key ≡ key_after k ((used + 4 * turn) / 4)) × (first_taken (word_at k) mode n 64 at ≡ first_taken (word_at k) mode n (64 - turn) (used + 4 * turn))

-- before the first
pub begins : (n bound : ℕ) (first : Key) (used : ℕ) → Midway n bound first used first 0
begins n bound first used =
    record {
      course = λ k at mode r b.
          let q : key_of first ≡ key_after k (at / 4) = cc r.from in
          let here : at ≡ used + 4 * 0 = omega (arith, r.used_is) in
          (q ∙ ap (λ (a : ℕ). key_after k (a / 4)) here, ap (first_taken (word_at k) mode n 64) here);
    }

-- ---- one word more

module _ (n bound : ℕ) (first : Key) (used : ℕ) (key : Key) (turn : ℕ) (m : Midway n bound first used key turn) (some_left : turn < 64)
    (key' : Key) (next : key_of key' ≡ next_key (key_of key)) (word : ℕ) (gives : word ≡ given_by (key_of key')) (small : word < 4294967296) where
  module _ (k : Game.Key) (at : ℕ) (mode : Mode) (r : Reads (key_given k) at (record { used = used; key = Some first })) (b : Bounds mode n bound) where
    -- the key is stepped on
    on : key_of key' ≡ key_after k (suc ((used + 4 * turn) / 4))
    on = next ∙ ap next_key (m.course k at mode r b).0

    on_by_four : key_of key' ≡ key_after k ((used + 4 * (turn + 1)) / 4)
    on_by_four = let q : suc ((used + 4 * turn) / 4) ≡ (used + 4 * (turn + 1)) / 4 = omega arith in on ∙ ap (key_after k) q

    is_word : word ≡ word_at k (used + 4 * turn)
    is_word = gives ∙ ap given_by on

    -- whether it is taken decides, or else those after it
    decides : (t : Bool) → ltb word bound ≡ t
        → first_taken (word_at k) mode n 64 at ≡ or_next t (record { place = word % n; next = used + 4 * (turn + 1) }) (first_taken (word_at k) mode n (64 - (turn + 1)) (used + 4 * (turn + 1)))
    decides t q =
        let one_less : 64 - turn - 1 ≡ 64 - (turn + 1) = omega arith in
        let further : used + 4 * turn + 4 ≡ used + 4 * (turn + 1) = omega arith in
        (m.course k at mode r b).1
        ∙ taken_turn (word_at k) mode n (64 - turn) (used + 4 * turn) t (omega arith) (ap (taken mode n) (sym is_word) ∙ sym (b.tells word small) ∙ q)
        ∙ ap₂ (λ (w a : ℕ). or_next t (record { place = w % n; next = a }) (first_taken (word_at k) mode n (64 - turn - 1) a)) (sym is_word) further
        ∙ ap (λ (j : ℕ). or_next t (record { place = word % n; next = used + 4 * (turn + 1) }) (first_taken (word_at k) mode n j (used + 4 * (turn + 1)))) one_less

    pub took : word < bound
        → Dealing (key_given k) (first_taken (word_at k) mode n 64 at) (Some (record { place = word % n; supply = record { used = used + 4 * (turn + 1); key = Some key' } }))
    took h =
        subst (λ (o : Rules.Option Drawn). Dealing (key_given k) o (Some (record { place = word % n; supply = record { used = used + 4 * (turn + 1); key = Some key' } })))
        (sym (decides true (lt-ltb word bound h)))
        (record { supply = record { used = used + 4 * (turn + 1); key = Some key' }; answer = refl; reads = record { used_is = refl; from = ap Rules.some on_by_four } })

  pub goes-on : bound ≤ word → Midway n bound first used key' (turn + 1)
  goes-on h = record { course = λ k at mode r b. (on_by_four k at mode r b, decides k at mode r b false (le-ltb word bound h)) }

-- none is left
pub runs_dry : (n bound : ℕ) (first : Key) (used : ℕ) (key : Key) (turn : ℕ) → Midway n bound first used key turn → 64 ≤ turn
    → (k : Game.Key) (at : ℕ) (mode : Mode) → Reads (key_given k) at (record { used = used; key = Some first }) → Bounds mode n bound → Dealing (key_given k) (first_taken (word_at k) mode n 64 at) None
runs_dry n bound first used key turn m z k at mode r b =
    let none_left : 64 - turn ≡ 0 = omega arith in
    subst (λ (o : Rules.Option Drawn). Dealing (key_given k) o None) (sym ((m.course k at mode r b).1 ∙ ap (λ (j : ℕ). first_taken (word_at k) mode n j (used + 4 * turn)) none_left)) refl
