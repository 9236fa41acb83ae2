-- One byte read at a desk by the tests of the code, one byte after others, and the room that they leave. Assumes nothing.
use Prim.Native.Nat.{ℕ, suc, ◌+◌, ◌-◌, ◌≤◌, ◌<◌}
use native.Mathlib.Omega.{arith}
use native.Mathlib.Numerals.{add-one}
use mathlib.Core.Path.{◌≡◌, refl, ap, subst, sym, ◌∙◌}
use mathlib.Core.Bool.{Bool, false, true}
use mathlib.Core.List.{List, [], ◌∷◌, ◌++◌}
use lib.Dec.{eqb, ltb}
use lib.ListN.{get_or, length, length-take, set, take}
use lib.Seq.{length-take-le, take_all, take-suc}
use borrow.Author.Tests.{le-ltb, lt-ltb, ne_eqb}
use Rattle.line_prices.specs.Blocks.{Cut, Desk, cut_from}
use Rattle.line_prices.specs.Bytes.{Room, block_read, byte_read}
use Rattle.line_prices.proofs.Desks.{Keeps, Told, block_answers}

-- a byte read, by its two tests
abbrev by : Desk → ℕ → Bool → Bool → Desk
by d b t u =
    elim t [
      | true ↦ byte_read d 10
      | false ↦ elim u [ true ↦ record { held = set d.held d.count b; count = suc d.count; out = d.out; written = d.written } | false ↦ d ]
    ]

pub feed_read : (d : Desk) (b : ℕ) → b ≡ 10 → byte_read d 10 ≡ byte_read d b
feed_read d b e = ap (byte_read d) (sym e)

pub full_read : (d : Desk) (b : ℕ) → (b ≡ 10 → ⊥) → 517 ≤ d.count → d ≡ byte_read d b
full_read d b other h = ap (λ (u : Bool). by d b false u) (sym (le-ltb d.count 517 h)) ∙ ap (λ (t : Bool). by d b t (ltb d.count 517)) (sym (ne_eqb b 10 other))

pub kept_read : (d : Desk) (b : ℕ) → (b ≡ 10 → ⊥) → d.count < 517
    → ◌≡◌ {A = Desk} (record { held = set d.held d.count b; count = d.count + 1; out = d.out; written = d.written }) (byte_read d b)
kept_read d b other h =
    ap (λ (n : ℕ). record { held = set d.held d.count b; count = n; out = d.out; written = d.written }) (add-one d.count)
    ∙ ap (λ (u : Bool). by d b false u) (sym (lt-ltb d.count 517 h))
    ∙ ap (λ (t : Bool). by d b t (ltb d.count 517)) (sym (ne_eqb b 10 other))

-- ---- one byte after others

pub reads_on : (xs ys : List ℕ) (d : Desk) → block_read d (xs ++ ys) ≡ block_read (block_read d xs) ys
reads_on [] ys d = refl
reads_on (x ∷ xs) ys d = reads_on xs ys (byte_read d x)

pub one_more : (block : List ℕ) (i : ℕ) (d : Desk) → i < length block → block_read d (take (i + 1) block) ≡ byte_read (block_read d (take i block)) (get_or block i 0)
one_more block i d h = rw (add-one, take-suc block i 0) (reads_on (take i block) (get_or block i 0 ∷ []) d)

-- ---- the room that is left

-- the lines that have ended
abbrev ended_of : Cut → List (List ℕ)
ended_of c = c.ended

-- no more lines end than there are bytes
ended_few : (begun bs : List ℕ) → length (cut_from begun bs).ended ≤ length bs
ended_few begun [] = omega arith
ended_few begun (b ∷ bs) = go (eqb b 10) (ended_few [] bs) (ended_few (begun ++ b ∷ []) bs)
  where
    go : (t : Bool) → length (cut_from [] bs).ended ≤ length bs → length (cut_from (begun ++ b ∷ []) bs).ended ≤ length bs
        → length (ended_of (elim t [ true ↦ record { ended = begun ∷ (cut_from [] bs).ended; goes-on = (cut_from [] bs).goes-on } | false ↦ cut_from (begun ++ b ∷ []) bs ])) ≤ suc (length bs)
    go true p q = omega arith
    go false p q = omega arith

-- what is kept is the line that it begins
pub own_line : (held : List ℕ) (count : ℕ) → 517 ≤ length held → count ≤ 517 → Keeps (take count held) held count
own_line held count h c =
    let long : length (take count held) ≡ count = length-take-le count held (omega arith) in
    let whole : take 517 (take count held) ≡ take count held = take_all 517 (take count held) (omega arith) in
    record { kept = sym whole; counted = sym (ap length whole ∙ long) }

-- room, and runs of the same length
pub record Left (before after : Desk) (n : ℕ) : Type 0 where
  pub room : Room after n
  pub held_whole : length after.held ≡ length before.held
  pub out_whole : length after.out ≡ length before.out

pub room_left : (d : Desk) (bs : List ℕ) (m n : ℕ) → Room d m → length bs + n ≤ m → Left d (block_read d bs) n
room_left d bs m n r h =
    let begun = take d.count d.held in
    let t : Told (cut_from begun bs) d (block_read d bs) =
    block_answers bs begun d (own_line d.held d.count r.held_room r.few) r.held_room (omega (arith, r.out_room)) in
    record {
      room =
          record {
            held_room = omega (arith, r.held_room, t.held_whole);
            few = omega (arith, t.keeps.counted, length-take 517 (cut_from begun bs).goes-on);
            out_room = omega (arith, r.out_room, t.out_whole, t.fifteen_each, ended_few begun bs);
          };
      held_whole = t.held_whole;
      out_whole = t.out_whole;
    }

-- ---- the bytes of a block that have been read

module _ (block : List ℕ) (d : Desk) (r : Room d (length block)) (i : ℕ) (h : i ≤ length block) (e : Desk) (q : e ≡ block_read d (take i block)) where
  left : Left d (block_read d (take i block)) (length block - i)
  left = room_left d (take i block) (length block) (length block - i) r (omega (arith, length-take-le i block h))

  pub read_room : Room e (length block - i)
  read_room = subst (λ (x : Desk). Room x (length block - i)) (sym q) left.room

  pub read_held : length e.held ≡ length d.held
  read_held = ap (λ (x : Desk). length x.held) q ∙ left.held_whole

  pub read_out : length e.out ≡ length d.out
  read_out = ap (λ (x : Desk). length x.out) q ∙ left.out_whole
