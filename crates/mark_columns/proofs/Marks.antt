-- Marks: each store marks one more; past the end there is nothing; a walk marks a run. Assumes nothing.
use Rattle.std.proofs.Common.{rules}
use Rattle.std.proofs.lemmas.List.{places}
use borrow.Rule.Slice.PartMut.{put_mid}
use Prim.Native.Nat.{ℕ, ◌+◌, ◌-◌, ◌<◌, ◌≤◌, min}
use native.Mathlib.Omega.{arith}
use native.Mathlib.Decide.{dec_lt}
use mathlib.Core.Path.{◌∙◌, ◌≡◌}
use mathlib.Core.Logic.{◌⊎◌, inl, inr}
use mathlib.Core.List.{List}
use lib.ListN.{length, replicate}
use Rattle.mark_columns.specs.Columns.{Far, MarkedOr}

-- outside the columns from a on that are below b
abbrev pub Outside : ℕ → ℕ → ℕ → Type 0
Outside a b c = (c < a) ⊎ (b ≤ c)

-- what holds of the columns that are not marked
pub marked_also : {P Q : Type 0} (tops tops' : List ℕ) (c : ℕ) → (P → Q) → MarkedOr P tops tops' c → MarkedOr Q tops tops' c
marked_also tops tops' c f (inl z) = inl z
marked_also tops tops' c f (inr (e, p)) = inr (e, f p)

-- some are marked, then others
pub marked_both : {P Q : Type 0} (old tops tops' : List ℕ) (c : ℕ) → MarkedOr P old tops c → MarkedOr Q tops tops' c → MarkedOr (P × Q) old tops' c
marked_both old tops tops' c m (inl z) = inl z
marked_both old tops tops' c (inl z) (inr (e, q)) = inl (e ∙ z)
marked_both old tops tops' c (inr (f, p)) (inr (e, q)) = inr (e ∙ f, (p, q))

-- those up to two from a column are marked
pub marked_near : (old z : List ℕ) (column first last c : ℕ) → first ≡ min (column - 2) last → last ≡ min (column + 3) (length old) → z ≡ replicate (last - first) 0
    → MarkedOr (Far c column) old (put_mid first (last - first) old z) c
marked_near old z column first last c p q e =
    elim (dec_lt c first) [
      | yes h ↦ inr (search (rules, places), inl (omega arith))
      | no h ↦ elim (dec_lt c last) [
        | yes k ↦ inl (search (rules, places))
        | no k ↦ elim (dec_lt c (length old)) [
          | yes l ↦ inr (search (rules, places), inr (omega arith))
          | no l ↦ inl (search (rules, places))
        ]
      ]
    ]
