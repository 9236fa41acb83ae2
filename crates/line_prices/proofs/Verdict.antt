-- A block's checks by the tests of the code, and the promise that is kept: refused as they say, else what its lines come to. Assumes nothing.
use Prim.Native.Nat.{ℕ, ◌/◌, ◌*◌, ◌<◌, ◌≤◌}
use native.Mathlib.Omega.{arith}
use native.Mathlib.Decide.{dec_le}
use native.Mathlib.Nat.{div-lt_iff_lt-mul, le-div_iff_mul-le}
use mathlib.Core.Path.{◌≡◌, refl, ap, sym, ◌∙◌}
use mathlib.Core.Bool.{Bool, ◌||◌, false, true}
use mathlib.Core.List.{List, [], ◌∷◌}
use mathlib.Core.Option.{Option, some-ne-none, none, some}
use lib.Dec.{ltb}
use lib.ListN.{length, take}
use borrow.Author.Tests.{le-ltb, lt-ltb}
use Rattle.game.specs.Calls.{Refusal, first_given, gives, refuses, trace, work}
use Rattle.line_prices.specs.Blocks.{Desk, block_call, cut_from, desk_after, end_call, held_check, last_line, out_check, unless_desk}
use Rattle.line_prices.specs.Bytes.{Room, block_read, byte_read, desk_of}
use Rattle.line_prices.specs.Answers.{KeepsDesk}
use Rattle.line_prices.proofs.After.{block-desk, end-desk, end_none}

-- ---- the refusal that is given

-- the refusal by the three tests
abbrev verdict : Bool → Bool → Bool → Option Refusal
verdict a b c = first_given (record { given = a || b; refusal = work } ∷ record { given = c; refusal = trace } ∷ [])

-- the refusal that is given, if any
abbrev pub given : List ℕ → ℕ → List ℕ → ℕ → Option Refusal
given held count out n = first_given (held_check held count ∷ out_check out n ∷ [])

module _ (held : List ℕ) (count : ℕ) (out : List ℕ) (n : ℕ) where
  by : (a b c : Bool) → ltb (length held) 517 ≡ a → ltb 517 count ≡ b → ltb (length out) (15 * n) ≡ c → verdict a b c ≡ given held count out n
  by a b c p q r = λ i. verdict (sym p i) (sym q i) (sym r i)

  pub short_held : length held < 517 → some work ≡ given held count out n
  short_held h = by true (ltb 517 count) (ltb (length out) (15 * n)) (lt-ltb (length held) 517 h) refl refl

  module _ (held_room : 517 ≤ length held) where
    pub many_kept : 517 < count → some work ≡ given held count out n
    many_kept h = by false true (ltb (length out) (15 * n)) (le-ltb (length held) 517 held_room) (lt-ltb 517 count h) refl

    module _ (few : count ≤ 517) where
      pub short_out : length out < 15 * n → some trace ≡ given held count out n
      short_out h = by false false true (le-ltb (length held) 517 held_room) (le-ltb 517 count few) (lt-ltb (length out) (15 * n) h)

      pub fine : 15 * n ≤ length out → none ≡ given held count out n
      fine h = by false false false (le-ltb (length held) 517 held_room) (le-ltb 517 count few) (le-ltb (length out) (15 * n) h)

-- room for n lines, by the test of the code
pub short_by : (m n : ℕ) → m / 15 < n → m < 15 * n
short_by m n h = omega (arith, (div-lt_iff_lt-mul {k = 15} {x = m} {y = n} (omega arith)).0 h)

pub room_by : (m n : ℕ) → n ≤ m / 15 → 15 * n ≤ m
room_by m n h = omega (arith, (le-div_iff_mul-le {k = 15} {x = n} {y = m} (omega arith)).0 h)

-- the checks passed
pub room_given : (held : List ℕ) (count : ℕ) (out : List ℕ) (n : ℕ) → given held count out n ≡ none → Room (desk_of held count out) n
room_given held count out n e =
    elim (dec_le 517 (length held)) [
      | no h ↦ absurd (some-ne-none _ (short_held held count out n (omega arith) ∙ e))
      | yes held_room ↦ elim (dec_le count 517) [
        | no h ↦ absurd (some-ne-none _ (many_kept held count out n held_room (omega arith) ∙ e))
        | yes few ↦ elim (dec_le (15 * n) (length out)) [
          | no h ↦ absurd (some-ne-none _ (short_out held count out n held_room few (omega arith) ∙ e))
          | yes out_room ↦ record { held_room = held_room; few = few; out_room = omega arith }
        ]
      ]
    ]

-- ---- the promise is kept

desk_refused : (o : Option Refusal) (f : Refusal) (held out : List ℕ) (d : Desk) → some f ≡ o → KeepsDesk (unless_desk o held out d) (refuses f) held out
desk_refused o f held out d e =
    record {
      answers = ap (λ (v : Option Refusal). (unless_desk v held out d).answer) e;
      keeps = ap (λ (v : Option Refusal). (unless_desk v held out d).held) e;
      prints = ap (λ (v : Option Refusal). (unless_desk v held out d).out) e;
    }

desk_else : (o : Option Refusal) (held out : List ℕ) (d d' : Desk) → none ≡ o → d' ≡ d
    → KeepsDesk (unless_desk o held out d) (gives (d'.count ∷ d'.written ∷ [])) d'.held d'.out
desk_else o held out d d' e q =
    record {
      answers = ap (λ (x : Desk). gives (x.count ∷ x.written ∷ [])) q ∙ ap (λ (v : Option Refusal). (unless_desk v held out d).answer) e;
      keeps = ap (λ (x : Desk). x.held) q ∙ ap (λ (v : Option Refusal). (unless_desk v held out d).held) e;
      prints = ap (λ (x : Desk). x.out) q ∙ ap (λ (v : Option Refusal). (unless_desk v held out d).out) e;
    }

pub block_refused : (block held : List ℕ) (count : ℕ) (out : List ℕ) (f : Refusal) → some f ≡ given held count out (length block) → KeepsDesk (block_call block held count out) (refuses f) held out
unfolding block_call
block_refused block held count out f e = desk_refused (given held count out (length block)) f held out (desk_after (cut_from (take count held) block) held out) e

pub block_kept : (block held : List ℕ) (count : ℕ) (out : List ℕ) (d : Desk) → none ≡ given held count out (length block) → d ≡ block_read (desk_of held count out) block
    → KeepsDesk (block_call block held count out) (gives (d.count ∷ d.written ∷ [])) d.held d.out
unfolding block_call
block_kept block held count out d e q =
    desk_else (given held count out (length block)) held out (desk_after (cut_from (take count held) block) held out) d e
    (q ∙ block-desk block held count out (room_given held count out (length block) (sym e)))

-- ---- the end of input

module _ (held : List ℕ) (count : ℕ) (out : List ℕ) where
  -- the desk with its last line answered
  abbrev ended : Desk
  ended = desk_after (record { ended = last_line (take count held); goes-on = [] }) held out

  pub end_refused : (f : Refusal) → some f ≡ given held count out 1 → KeepsDesk (end_call held count out) (refuses f) held out
  unfolding end_call
  end_refused f e = desk_refused (given held count out 1) f held out ended e

  pub end_empty : none ≡ given held count out 1 → count ≡ 0 → KeepsDesk (end_call held count out) (gives (0 ∷ 0 ∷ [])) held out
  unfolding end_call
  end_empty e z =
      desk_else (given held count out 1) held out ended (desk_of held 0 out) e
      (end_none held out ∙ ap (λ (n : ℕ). desk_after (record { ended = last_line (take n held); goes-on = [] }) held out) (sym z))

  pub end_answered : (d : Desk) → none ≡ given held count out 1 → (count ≡ 0 → ⊥) → d ≡ byte_read (desk_of held count out) 10
      → KeepsDesk (end_call held count out) (gives (d.count ∷ d.written ∷ [])) d.held d.out
  unfolding end_call
  end_answered d e some-kept q =
      desk_else (given held count out 1) held out ended d e (q ∙ end-desk held count out (room_given held count out 1 (sym e)) some-kept)
