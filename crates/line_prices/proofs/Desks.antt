-- A block read at a desk: each line feed puts fifteen bytes after those that stand, and any other byte goes to the line that is kept. Assumes nothing.
use Prim.Native.Nat.{ℕ, suc, ◌+◌, ◌-◌, ◌*◌, ◌≤◌, ◌<◌}
use native.Mathlib.Omega.{arith}
use native.Mathlib.Nat.{add-sub_of_le}
use mathlib.Core.Path.{◌≡◌, refl, ap, sym, ◌∙◌}
use mathlib.Core.Bool.{Bool, false, true}
use mathlib.Core.List.{List, [], ◌∷◌, ◌++◌, append_assoc, append-nil}
use lib.Dec.{eqb, ltb}
use lib.ListN.{drop, length, length-append, length-drop, length-set, length-take, set, take}
use lib.Seq.{drop_at, drop-drop, length-take-le, sets-eq, take_all, take-append-le, take_at, take-suc-set}
use borrow.Author.Tests.{ltb-false, ltb-true}
use Rattle.game.specs.Lists.{concat_map}
use Rattle.hex_digits.specs.Hex.{put_digits}
use Rattle.lines.proofs.Priced.{put_there}
use Rattle.line_price.specs.Prices.{answer_line}
use Rattle.line_prices.specs.Blocks.{Cut, Desk, cut_from}
use Rattle.line_prices.specs.Bytes.{block_read}
use Rattle.line_price.proofs.Kept.{answer_kept, answer_long}

-- ---- the words of the theorems

-- what is kept is the line that goes on, as far as 517 bytes
pub record Keeps (goes-on held : List ℕ) (count : ℕ) : Type 0 where
  pub kept : take count held ≡ take 517 goes-on
  pub counted : count ≡ length (take 517 goes-on)

-- what is printed from a desk
abbrev pub said_at : Desk → List ℕ
said_at d = take d.written d.out

-- what bytes have come to at a desk: the lines that ended are answered, the line that goes on is kept, and what is past the answers stands
pub record Told (cut : Cut) (before after : Desk) : Type 0 where
  pub keeps : Keeps cut.goes-on after.held after.count
  pub says : said_at after ≡ said_at before ++ concat_map answer_line cut.ended
  pub held_whole : length after.held ≡ length before.held
  pub out_whole : length after.out ≡ length before.out
  pub fifteen_each : after.written ≡ before.written + 15 * length cut.ended
  pub stands : drop after.written after.out ≡ drop after.written before.out

-- ---- what is put in its place

-- digits with room stand after what stood before them
put_room : (at : ℕ) (ds old : List ℕ) → at + length ds ≤ length old → put_digits at ds old ≡ take at old ++ ds ++ drop (at + length ds) old
put_room at ds old h = sym (put_there at ds old h) ∙ sets-eq ds old at h

module _ (at : ℕ) (ds old : List ℕ) (room : at + length ds ≤ length old) where
  -- the digits and what stands before them
  front : length (take at old ++ ds) ≡ at + length ds
  front = omega (arith, length-append (take at old) ds, length-take-le at old (omega arith))

  put_said : take (at + length ds) (put_digits at ds old) ≡ take at old ++ ds
  put_said = ap (take (at + length ds)) (put_room at ds old room) ∙ take_at (take at old ++ ds) (drop (at + length ds) old) (at + length ds) front

  put_past : drop (at + length ds) (put_digits at ds old) ≡ drop (at + length ds) old
  put_past = ap (drop (at + length ds)) (put_room at ds old room) ∙ drop_at (take at old ++ ds) (drop (at + length ds) old) (at + length ds) front

  put_whole : length (put_digits at ds old) ≡ length old
  put_whole =
      omega (
        arith,
        ap length (put_room at ds old room),
        length-append (take at old ++ ds) (drop (at + length ds) old),
        length-drop (at + length ds) old,
        front,
      )

-- what stands past a place stands past a later one
pub past_later : (m n : ℕ) (xs ys : List ℕ) → m ≤ n → drop m xs ≡ drop m ys → drop n xs ≡ drop n ys
past_later m n xs ys h e = part xs ∙ ap (drop (n - m)) e ∙ sym (part ys)
  where
    part : (l : List ℕ) → drop n l ≡ drop (n - m) (drop m l)
    part l = ap (λ (k : ℕ). drop k l) (sym (add-sub_of_le h)) ∙ sym (drop-drop (n - m) m l)

-- ---- one byte

-- a line feed read
abbrev pub fed : Desk → Desk
fed d = record { held = d.held; count = 0; out = put_digits d.written (answer_line (take d.count d.held)) d.out; written = d.written + 15 }

-- the answer to what is kept is the line's answer
kept_answer : (begun held : List ℕ) (count : ℕ) → Keeps begun held count → answer_line (take count held) ≡ answer_line begun
kept_answer begun held count k = ap answer_line k.kept ∙ answer_kept begun

-- after a line feed the next line begins
pub next_line : (held : List ℕ) → Keeps [] held 0
next_line held = record { kept = refl; counted = refl }

-- a line's answer, and then what is told from there on
after_feed : (begun : List ℕ) (d e : Desk) (cut : Cut) → Keeps begun d.held d.count → d.written + 15 ≤ length d.out → Told cut (fed d) e
    → Told (record { ended = begun ∷ cut.ended; goes-on = cut.goes-on }) d e
after_feed begun d e cut k room t =
    let a = answer_line (take d.count d.held) in
    let long : length a ≡ 15 = answer_long (take d.count d.held) in
    let fits : d.written + length a ≤ length d.out = omega arith in
    let put = put_digits d.written a d.out in
    let said : said_at (fed d) ≡ said_at d ++ answer_line begun =
    ap (λ (n : ℕ). take (d.written + n) put) (sym long) ∙ put_said d.written a d.out fits ∙ ap (λ (l : List ℕ). said_at d ++ l) (kept_answer begun d.held d.count k) in
    let past : drop (d.written + 15) put ≡ drop (d.written + 15) d.out =
    rw long at (put_past d.written a d.out fits) in
    record {
      keeps = t.keeps;
      says = t.says ∙ ap (λ (l : List ℕ). l ++ concat_map answer_line cut.ended) said ∙ append_assoc (said_at d) (answer_line begun) (concat_map answer_line cut.ended);
      held_whole = t.held_whole;
      out_whole = t.out_whole ∙ put_whole d.written a d.out fits;
      fifteen_each = omega (arith, t.fifteen_each);
      stands = t.stands ∙ past_later (d.written + 15) e.written put d.out (omega (arith, t.fifteen_each)) past;
    }

-- what is told from a desk on, told from a desk that has said as much
after_byte : (d d' e : Desk) (cut : Cut) → d'.out ≡ d.out → d'.written ≡ d.written → length d'.held ≡ length d.held → Told cut d' e → Told cut d e
after_byte d d' e cut o w l t =
    record {
      keeps = t.keeps;
      says = t.says ∙ cc;
      held_whole = t.held_whole ∙ l;
      out_whole = t.out_whole ∙ ap length o;
      fifteen_each = omega (arith, t.fifteen_each);
      stands = t.stands ∙ ap (drop e.written) o;
    }

-- a byte kept
pub more_kept : (begun held : List ℕ) (count b : ℕ) → Keeps begun held count → 517 ≤ length held → count < 517 → Keeps (begun ++ b ∷ []) (set held count b) (suc count)
more_kept begun held count b k h c =
    let few : length begun < 517 = omega (arith, k.counted, length-take 517 begun) in
    let whole : take 517 begun ≡ begun = take_all 517 begun (omega arith) in
    let longer : length (begun ++ b ∷ []) ≡ length begun + 1 = length-append begun (b ∷ []) in
    let whole_next : take 517 (begun ++ b ∷ []) ≡ begun ++ b ∷ [] = take_all 517 (begun ++ b ∷ []) (omega arith) in
    record {
      kept = take-suc-set held count b (omega arith) ∙ ap (λ (l : List ℕ). l ++ b ∷ []) (k.kept ∙ whole) ∙ sym whole_next;
      counted = omega (arith, ap length whole, ap length whole_next);
    }

-- 517 bytes are kept already
pub no_more_kept : (begun held : List ℕ) (count b : ℕ) → Keeps begun held count → 517 ≤ count → Keeps (begun ++ b ∷ []) held count
no_more_kept begun held count b k c =
    let many : 517 ≤ length begun = omega (arith, k.counted, length-take 517 begun) in
    let same : take 517 (begun ++ b ∷ []) ≡ take 517 begun = take-append-le 517 begun (b ∷ []) many in
    record { kept = k.kept ∙ sym same; counted = k.counted ∙ ap length (sym same) }

-- ---- a block

-- what reading the rest of a block comes to
abbrev Rest : List ℕ → Type 0
Rest bs = (begun : List ℕ) (d : Desk) → Keeps begun d.held d.count → 517 ≤ length d.held → d.written + 15 * length bs ≤ length d.out → Told (cut_from begun bs) d (block_read d bs)

-- a byte that is no line feed, and the rest
plain_byte : (b : ℕ) (bs begun : List ℕ) (d : Desk) → Keeps begun d.held d.count → 517 ≤ length d.held → d.written + 15 * length (b ∷ bs) ≤ length d.out → Rest bs
    → (t : Bool) → ltb d.count 517 ≡ t
    → Told (cut_from (begun ++ b ∷ []) bs) d
    (block_read (elim t [ true ↦ record { held = set d.held d.count b; count = suc d.count; out = d.out; written = d.written } | false ↦ d ]) bs)
plain_byte b bs begun d k h r rest true e =
    let d' : Desk = record { held = set d.held d.count b; count = suc d.count; out = d.out; written = d.written } in
    let same : length d'.held ≡ length d.held = length-set d.held d.count b in
    after_byte d d' (block_read d' bs) (cut_from (begun ++ b ∷ []) bs) refl refl same
    (rest (begun ++ b ∷ []) d' (more_kept begun d.held d.count b k h (ltb-true d.count 517 e)) (omega arith) (omega arith))
plain_byte b bs begun d k h r rest false e =
    rest (begun ++ b ∷ []) d (no_more_kept begun d.held d.count b k (ltb-false d.count 517 e)) h (omega arith)

-- the lines that end in a block are answered, and the line that goes on is kept
pub block_answers : (block begun : List ℕ) (d : Desk) → Keeps begun d.held d.count → 517 ≤ length d.held → d.written + 15 * length block ≤ length d.out
    → Told (cut_from begun block) d (block_read d block)
block_answers [] begun d k h r =
    record { keeps = k; says = sym (append-nil (said_at d)); held_whole = refl; out_whole = refl; fifteen_each = omega arith; stands = refl }
block_answers (b ∷ bs) begun d k h r = go (eqb b 10) (block_answers bs)
  where
    go : (t : Bool) → Rest bs
        → Told
        (elim t [
          | true ↦ record { ended = begun ∷ (cut_from [] bs).ended; goes-on = (cut_from [] bs).goes-on }
          | false ↦ cut_from (begun ++ b ∷ []) bs
        ])
        d
        (block_read
        (elim t [
          | true ↦ fed d
          | false ↦
              elim (ltb d.count 517) [
                | true ↦ record { held = set d.held d.count b; count = suc d.count; out = d.out; written = d.written }
                | false ↦ d
              ]
        ])
        bs)
    go true rest =
        after_feed begun d (block_read (fed d) bs) (cut_from [] bs) k (omega arith)
        (rest [] (fed d) (next_line d.held) h (omega (arith, answer_long (take d.count d.held), put_whole d.written (answer_line (take d.count d.held)) d.out (omega (arith, answer_long (take d.count d.held))))))
    go false rest = plain_byte b bs begun d k h r rest (ltb d.count 517) refl
