-- The cells of highest premium, by what the work area holds: the first column of highest premium has the lowest of them. Assumes nothing.
use Rattle.area.proofs.Held.{Holds, held_numbers}
use Rattle.std.specs.Prelude.{Some, None}
use Rattle.choices.specs.declared.Best.{Best}
use Prim.Native.Nat.{ℕ, ◌*◌, ◌+◌, ◌/◌, ◌<◌, ◌≤◌}
use native.Mathlib.Omega.{arith}
use native.Mathlib.Decide.{dec_lt}
use native.Mathlib.Nat.{mul_comm, mul-le-mul_right}
use mathlib.Core.Path.{◌∙◌, ◌≡◌, ap, ap₂, subst, sym}
use mathlib.Core.Logic.{⊎_elim}
use mathlib.Core.Bool.{Bool, ◌&&◌, ◌||◌, not}
use mathlib.Core.List.{List, [], map}
use lib.Dec.{T, eqb}
use lib.IntN.{ℤ}
use lib.ListN.{get_or}
use lib.Signed.{le_z}
use Rattle.area.specs.Numbers.{premium_at}
use Rattle.area.specs.Stages.{Stands}
use Rattle.area.proofs.Cells.{cell_below}
use Rattle.choices.specs.Picks.{found_first}
use Rattle.choices.specs.Tests.{looked_at, top_at}
use Rattle.choices.specs.Tops.{first_of}
use Rattle.game.specs.Grid.{Grid, cells, safe, same, size}
use Rattle.game.specs.Lists.{has, keep, range}
use Rattle.game.specs.Position.{Position, opened, premium}
use Rattle.game.specs.Rounds.{highest, least_chosen, looked, top_cells}
use Rattle.choices.proofs.Columns.{Leading, Led, cell_bound, column_has, led_all, top→looked}
use Rattle.choices.proofs.Held.{looked→, premium→raised, raised→premium, raised→safe, reaches→, →looked, →reaches}
use Rattle.choices.proofs.Passing.{first_there, found_at}
use Rattle.game.proofs.Choices.{top→, →top}
use Rattle.game.proofs.Members.{has_keep, keep_has, none_there, range_has}
use Rattle.game.proofs.Orders.{ordered_same, ordered_keep, ordered_range}
use Rattle.game.proofs.Squares.{cells→, →cells}
use Rattle.game.proofs.Truth.{and_both}
use borrow.Author.Tests.{eq-eqb}

looked→top : (openedOnly : Bool) (m : ℕ) (w : List ℤ) (i : ℕ) → T (looked_at openedOnly w i) → premium_at w i ≡ m → T (top_at openedOnly m w i)
looked→top openedOnly m w i t e =
    and_both (looked_at openedOnly w i) (eqb (premium_at w i) m) t (subst T (sym (eq-eqb (premium_at w i) m e)) tt)

-- ---- none that is looked at has more

module _ (openedOnly : Bool) (g : Grid) (s : Position) (w : List ℤ) (r : Holds g s w) (m : ℕ)
    (bound : (j : ℕ) → j < size g → T (looked_at openedOnly w j) → premium_at w j ≤ m) where
  -- no premium reaches 0
  tops_none : m < 10 → top_cells openedOnly g s ≡ []
  tops_none h = none_there (top_cells openedOnly g s) none
    where
      none : (x : ℕ) → T (has x (top_cells openedOnly g s)) → ⊥
      none x t =
          let p = top→ openedOnly g s x t in
          let k = looked→ g s w r openedOnly x p.is_looked in
          omega (arith, bound x k.0 k.2, r.premiums x k.0, reaches→ g s x k.0 k.1 p.reaches)

  -- one has as much, and that is 0 or more
  module _ (h : 10 ≤ m) (x : ℕ) (hx : x < size g) (tx : T (top_at openedOnly m w x)) where
    -- a cell that is looked at and has it is safe
    safe_top : (y : ℕ) → y < size g → premium_at w y ≡ m → T (safe g y)
    safe_top y hy e = raised→safe g s y (omega (arith, r.premiums y hy))

    tops→ : (y : ℕ) → T (has y (top_cells openedOnly g s)) → T (has y (keep (top_at openedOnly m w) (range 0 (size g))))
    tops→ y t =
        let p = top→ openedOnly g s y t in
        let k = looked→ g s w r openedOnly y p.is_looked in
        let q = top→looked openedOnly m w x tx in
        let sx = safe_top x hx q.1 in
        let up = premium→raised g s x y hx k.0 sx k.1 (p.none_higher x (→looked g s w r openedOnly x hx sx q.0)) in
        has_keep (top_at openedOnly m w) y (range 0 (size g)) (→cells g y k.0)
        (looked→top openedOnly m w y k.2 (omega (arith, q.1, r.premiums x hx, r.premiums y k.0, bound y k.0 k.2)))

    →tops : (y : ℕ) → T (has y (keep (top_at openedOnly m w) (range 0 (size g)))) → T (has y (top_cells openedOnly g s))
    →tops y t =
        let k = keep_has (top_at openedOnly m w) y (range 0 (size g)) t in
        let hy = cells→ g y k.0 in
        let q = top→looked openedOnly m w y k.1 in
        let sy = safe_top y hy q.1 in
        →top openedOnly g s y (record {
          is_looked = →looked g s w r openedOnly y hy sy q.0;
          reaches = →reaches g s y hy sy (omega (arith, q.1, r.premiums y hy));
          none_higher = λ z u. let l = looked→ g s w r openedOnly z u in
              raised→premium g s z y l.0 hy l.1 sy (omega (arith, q.1, r.premiums y hy, r.premiums z l.0, bound z l.0 l.2));
        })

    tops_are : top_cells openedOnly g s ≡ keep (top_at openedOnly m w) (range 0 (size g))
    unfolding top_cells
    tops_are =
        ordered_same (top_cells openedOnly g s) (keep (top_at openedOnly m w) (range 0 (size g)))
        (ordered_keep ◌<◌ (λ i. le_z least_chosen most && same (premium g s i) most) (looked openedOnly g s)
        (ordered_keep ◌<◌ (λ i. safe g i && (opened s i || not openedOnly)) (cells g) (ordered_range 0 (size g))))
        (ordered_keep ◌<◌ (top_at openedOnly m w) (range 0 (size g)) (ordered_range 0 (size g))) tops→ →tops
      where
        most : ℤ
        most = highest (map (premium g s) (looked openedOnly g s))

-- ---- the first column of highest premium

module _ (openedOnly : Bool) (rows columns : ℕ) (g : Grid) (s : Position) (old w : List ℤ) (st : Stands rows columns g s old w) where
  abbrev best : Best
  best = first_of openedOnly w rows columns columns

  abbrev is_top : ℕ → Bool
  is_top = top_at openedOnly best.top w

  numbers : Holds g s w
  numbers = held_numbers rows columns g s old w st

  all_cells : size g ≡ rows * columns
  all_cells = ap₂ ◌*◌ st.rows_are st.columns_are

  led : Led openedOnly w rows columns columns best
  led = led_all openedOnly w rows columns

  -- no cell that is looked at has more
  below : (j : ℕ) → j < size g → T (looked_at openedOnly w j) → premium_at w j ≤ best.top
  below j h t =
      let k = cell_bound openedOnly w rows columns j st.shape.some_rows (rw (mul_comm columns rows) (omega (arith, all_cells))) in
      omega (arith, k.1 t, led.bound (j / rows) k.0)

  -- without a premium of 0 or more there are none
  pub no_tops : best.top ≡ 9 → top_cells openedOnly g s ≡ []
  no_tops e = tops_none openedOnly g s w numbers best.top below (omega arith)

  module _ (l : Leading openedOnly w rows columns best) where
    -- a cell of the column has it
    led_cell : (row : ℕ) × (row < rows) × T (is_top (best.at * rows + row))
    led_cell =
        let k = column_has openedOnly w rows best.at (omega (arith, l.reaches, l.its)) in
        (k.0, k.1, subst (λ (m : ℕ). T (top_at openedOnly m w (best.at * rows + k.0))) (sym l.its) k.2)

    led_inside : best.at * rows + led_cell.0 < rows * columns
    led_inside = cell_below rows columns led_cell.0 best.at led_cell.1 l.inside

    -- the cells of highest premium are those that have it
    pub tops_there : top_cells openedOnly g s ≡ keep is_top (range 0 (rows * columns))
    tops_there =
        tops_are openedOnly g s w numbers best.top below l.reaches (best.at * rows + led_cell.0) (omega (arith, led_inside, all_cells)) led_cell.2
        ∙ ap (λ (n : ℕ). keep is_top (range 0 n)) all_cells

    -- there is one
    pub top_there : (i : ℕ) × T (has i (top_cells openedOnly g s))
    top_there = (
      best.at * rows + led_cell.0,
      rw tops_there (has_keep is_top (best.at * rows + led_cell.0) (range 0 (rows * columns))
          (range_has 0 (rows * columns) (best.at * rows + led_cell.0) (omega arith) led_inside) led_cell.2),
    )

    -- no earlier column has it
    none_earlier : (j : ℕ) → j < best.at * rows → T (is_top j) → ⊥
    none_earlier j h t =
        let q = top→looked openedOnly best.top w j t in
        let k = cell_bound openedOnly w rows best.at j st.shape.some_rows h in
        omega (arith, k.1 q.0, l.first (j / rows) k.0, q.1)

    -- so the first of its cells that have it is the first of all
    led_found : Some (get_or (keep is_top (range (best.at * rows) (best.at * rows + rows))) 0 0) ≡ found_first (top_cells openedOnly g s)
    led_found =
        let i = get_or (keep is_top (range (best.at * rows) (best.at * rows + rows))) 0 0 in
        let f = first_there is_top (best.at * rows) (best.at * rows + rows) (best.at * rows + led_cell.0) (omega arith) (omega (arith, led_cell.1)) led_cell.2 in
        found_at is_top (rows * columns) i (omega (arith, f.1, mul-le-mul_right rows l.inside, mul_comm columns rows)) f.2
        (λ j h t. elim (dec_lt j (best.at * rows)) [
          | yes k ↦ none_earlier j k t
          | no k ↦ f.3 j (omega arith) h t
        ])
        ∙ sym (ap found_first tops_there)

  -- where no premium reaches 0, each that is looked at is lower
  pub none_reaches : top_cells openedOnly g s ≡ [] → (j : ℕ) → j < size g → T (looked_at openedOnly w j) → premium_at w j ≤ 9
  none_reaches q j h u =
      ⊎_elim (λ v. omega (arith, below j h u, v.0)) (λ l. absurd (subst (λ (xs : List ℕ). T (has (top_there l).0 xs)) q (top_there l).1)) led.which

  pub best_found : best.at < columns → Some (get_or (keep is_top (range (best.at * rows) (best.at * rows + rows))) 0 0) ≡ found_first (top_cells openedOnly g s)
  best_found h = ⊎_elim (λ u. absurd (other h u.1)) led_found led.which
    where
      other : {a b : ℕ} → a < b → a ≡ b → ⊥
      other k q = omega arith

  pub best_none : columns ≤ best.at → None ≡ found_first (top_cells openedOnly g s)
  best_none h = ⊎_elim (λ u. sym (ap found_first (no_tops u.0))) (λ l. absurd (other h l.inside)) led.which
    where
      other : {a b : ℕ} → b ≤ a → a < b → ⊥
      other k q = omega arith
