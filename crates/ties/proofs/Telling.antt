-- The highest raised premium alone tells what a random step chooses among. Assumes nothing.
use Prim.Native.Nat.{ℕ, ◌*◌}
use native.Mathlib.Omega.{arith}
use mathlib.Core.Path.{◌∙◌, ◌≡◌, ap, ap₂, sym}
use mathlib.Core.Logic.{⊎_elim}
use mathlib.Core.Bool.{Bool, cond, false, true}
use mathlib.Core.List.{List}
use borrow.Author.Tests.{lt-ltb, le-ltb}
use lib.Dec.{eqb, ltb}
use lib.IntN.{ℤ}
use Rattle.area.proofs.Held.{held_numbers}
use Rattle.area.specs.Numbers.{premium_at}
use Rattle.area.specs.Stages.{Stands}
use Rattle.choices.specs.Tests.{unit_at}
use Rattle.choices.specs.Tops.{first_of}
use Rattle.ties.specs.Candidates.{candidate_at, candidates_of, for_click}
use Rattle.game.specs.Grid.{Grid}
use Rattle.game.specs.Lists.{keep, range}
use Rattle.game.specs.Position.{Position}
use Rattle.game.specs.Rounds.{choice}
use Rattle.choices.proofs.Columns.{Leading, led_all}
use Rattle.choices.proofs.Held.{units_there}
use Rattle.choices.proofs.Tops.{no_tops, top_there, tops_there}
use Rattle.game.proofs.Members.{keep_ext}
use Rattle.game.proofs.Choices.{choice_none, choice_some}

module _ (rows columns : ℕ) (g : Grid) (s : Position) (old w : List ℤ) (st : Stands rows columns g s old w) where
  abbrev top : ℕ
  top = (first_of false w rows columns columns).top

  -- what it tells
  abbrev Told : ℕ → Type 0
  Told m = (ltb m 10 ≡ for_click (choice false g s)) × (keep (candidate_at m w) (range 0 (rows * columns)) ≡ candidates_of (choice false g s))

  test : (b : Bool) → ltb top 10 ≡ b
      → keep (candidate_at top w) (range 0 (rows * columns)) ≡ keep (λ i. cond b (unit_at w i) (eqb (premium_at w i) top)) (range 0 (rows * columns))
  test b q =
      keep_ext (candidate_at top w) (λ i. cond b (unit_at w i) (eqb (premium_at w i) top)) (range 0 (rows * columns))
      (λ i t. ap (λ (c : Bool). cond c (unit_at w i) (eqb (premium_at w i) top)) q)

  click : top ≡ 9 → Told top
  click q =
      let c = choice_none false g s (no_tops false rows columns g s old w st q) in
      let l = lt-ltb top 10 (omega arith) in (
        l ∙ sym (ap for_click c),
        test true l ∙ ap (λ (k : ℕ). keep (unit_at w) (range 0 k)) (sym (ap₂ ◌*◌ st.rows_are st.columns_are))
            ∙ sym (units_there g s w (held_numbers rows columns g s old w st)) ∙ sym (ap candidates_of c),
      )

  chord : Leading false w rows columns (first_of false w rows columns columns) → Told top
  chord l =
      let t = top_there false rows columns g s old w st l in
      let c = choice_some false g s t.0 t.1 in
      let b = le-ltb top 10 l.reaches in
      (b ∙ sym (ap for_click c), test false b ∙ sym (tops_there false rows columns g s old w st l) ∙ sym (ap candidates_of c))

  pub top_tells : Told top
  top_tells = ⊎_elim (λ u. click u.0) chord (led_all false w rows columns).which
