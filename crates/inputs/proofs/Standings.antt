-- How it stands after a read: of all the bytes read only those that came last may hold the line feed. Assumes nothing.
use Prim.Native.Nat.{ℕ, ◌+◌, ◌-◌, ◌≤◌}
use native.Mathlib.Omega.{arith}
use mathlib.Core.Path.{◌≡◌, refl, ap, subst, sym, ◌∙◌}
use mathlib.Core.Bool.{Bool, ◌||◌, cond, false, true}
use mathlib.Core.List.{List, ◌++◌}
use lib.Dec.{T, eqb}
use lib.ListN.{drop, length, length-drop, length-take, take}
use lib.Seq.{length-take-le, take-add}
use Rattle.game.proofs.Members.{some_append}
use Rattle.game.proofs.Truth.{or_no}
use Rattle.inputs.specs.Beginnings.{Stopped, enough, line_ends, room_for, standing_by, standing_of}
use Rattle.inputs.specs.Reads.{bytes_in}
use Rattle.inputs.specs.declared.Got.{Got}
use Rattle.inputs.specs.declared.Got.TheVariants as Gots
use Rattle.inputs.specs.declared.Standing.TheVariants.{All, More}

-- the part of the run that one read is handed
pub length_part : (count end : ℕ) (held : List ℕ) → count ≤ length held → end ≡ count + room_for count (length held) → length (take (end - count) (drop count held)) ≡ room_for count (length held)
length_part count end held h e = omega (arith, length-take (end - count) (drop count held), length-drop count held)

-- a line feed among bytes, first and later ones
line_ends_append : (line : Bool) (xs ys : List ℕ) → line_ends line (xs ++ ys) ≡ (line_ends line xs || line_ends line ys)
line_ends_append true xs ys = some_append (eqb 10) xs ys
line_ends_append false xs ys = refl

apart : (m n : ℕ) → All m ≡ More n → ⊥
apart m n e = let z : ◌≡◌ {A = ℕ} 0 1 = cc in omega arith

module _ (line : Bool) (held : List ℕ) (count : ℕ) (none : line_ends line (take count held) ≡ false) where
  -- none among the first, so it is among those that came last or nowhere
  line_ends_last : (more : ℕ) → line_ends line (take (count + more) held) ≡ line_ends line (take more (drop count held))
  line_ends_last more =
      ap (line_ends line) (take-add count more held) ∙ line_ends_append line (take count held) (take more (drop count held))
      ∙ ap (λ (b : Bool). b || line_ends line (take more (drop count held))) none

  -- what decides, by the two tests
  pub enough_last : (more : ℕ) → count + more ≤ length held → (full ends : Bool) → eqb (count + more) (length held) ≡ full → line_ends line (take more (drop count held)) ≡ ends
      → cond (full || ends) (All (count + more)) (More (count + more)) ≡ standing_by line held (count + more)
  enough_last more h full ends f e =
      ap (λ (b : Bool). cond b (All (count + more)) (More (count + more)))
      (λ i. sym (ap (λ (n : ℕ). eqb n (length held)) (length-take-le (count + more) held h) ∙ f) i || sym (line_ends_last more ∙ e) i)

  -- none among fewer bytes
  none_before : (n : ℕ) → n ≤ count → line_ends line (take n held) ≡ false
  none_before n h = (or_no (line_ends line (take n held)) (line_ends line (take (count - n) (drop n held))) (sym split ∙ none)).0
    where
      whole : count ≡ n + (count - n)
      whole = omega arith

      split : line_ends line (take count held) ≡ (line_ends line (take n held) || line_ends line (take (count - n) (drop n held)))
      split =
          ap (λ (k : ℕ). line_ends line (take k held)) whole ∙ ap (line_ends line) (take-add n (count - n) held)
          ∙ line_ends_append line (take n held) (take (count - n) (drop n held))

  -- more are wanted: no line feed is among those that stand
  pub goes-on : (got : Got) → count + bytes_in got ≤ length held → (n : ℕ) → standing_of line held count got ≡ More n → (n ≤ length held) × (line_ends line (take n held) ≡ false)
  goes-on (Gots.Bytes k) h n e = go (enough line (length held) (take (count + k) held)) refl e
    where
      go : (b : Bool) → enough line (length held) (take (count + k) held) ≡ b → cond b (All (count + k)) (More (count + k)) ≡ More n → (n ≤ length held) × (line_ends line (take n held) ≡ false)
      go true t q = absurd (apart (count + k) n q)
      go false t q =
          let same : count + k ≡ n = cc in
          (omega arith, subst (λ (m : ℕ). line_ends line (take m held) ≡ false) same (or_no (eqb (length (take (count + k) held)) (length held)) (line_ends line (take (count + k) held)) t).1)
  goes-on Gots.End h n e = absurd (apart count n e)
  goes-on Gots.Interrupted h n e = let same : count ≡ n = cc in (omega arith, subst (λ (m : ℕ). line_ends line (take m held) ≡ false) same none)
  goes-on Gots.Failed h n e = let z : ◌≡◌ {A = ℕ} 0 1 = cc in absurd (omega arith)

  -- they are the beginning: there are enough of them, or the input has ended
  pub stops_there : (got : Got) → count + bytes_in got ≤ length held → bytes_in got ≤ 512 → (n : ℕ) → standing_of line held count got ≡ All n → Stopped line held n
  stops_there (Gots.Bytes k) h f n e = go (enough line (length held) (take (count + k) held)) refl e
    where
      go : (b : Bool) → enough line (length held) (take (count + k) held) ≡ b → cond b (All (count + k)) (More (count + k)) ≡ All n → Stopped line held n
      go true t q =
          let same : count + k ≡ n = cc in
          record {
            inside = omega arith;
            ended = false;
            stops = subst (λ (m : ℕ). T (enough line (length held) (take m held))) same (subst T (sym t) tt);
            soon = none_before (n - 512) (omega arith);
          }
      go false t q = absurd (apart n (count + k) (sym q))
  stops_there Gots.End h f n e =
      let same : count ≡ n = cc in
      record { inside = omega arith; ended = true; stops = tt; soon = none_before (n - 512) (omega arith) }
  stops_there Gots.Interrupted h f n e = absurd (apart n count (sym e))
  stops_there Gots.Failed h f n e = let z : ◌≡◌ {A = ℕ} 0 1 = cc in absurd (omega arith)
