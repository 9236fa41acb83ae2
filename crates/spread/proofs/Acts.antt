-- What is done on the work area is what is done on the position and the cells that wait: these are its states and its fifth numbers. Assumes nothing.
use Prim.Native.Nat.{ℕ, ◌%◌, ◌+◌, ◌<◌, ◌≤◌}
use native.Mathlib.Omega.{arith}
use native.Mathlib.Decide.{ℕ_discrete}
use native.Mathlib.Nat.{mod-eq_of_lt}
use mathlib.Core.Path.{◌∙◌, ◌≡◌, ap, refl, subst, sym}
use mathlib.Core.Bool.{Bool, cond, false, true}
use mathlib.Core.List.{List, [], ◌∷◌}
use lib.Dec.{T, eqb, eqb→eq}
use lib.IntN.{ℤ}
use lib.ListN.{get_or, length, set}
use lib.Seq.{get_or-set_other, get_or-set_same}
use Rattle.area.specs.Numbers.{HasCells, content_at, put_state, put_waiting, state_at, waiting_at}
use Rattle.area.specs.Stages.{content}
use Rattle.game.specs.Grid.{Grid, size, zero_cell}
use Rattle.game.specs.Lists.{fold, has}
use Rattle.game.specs.Openings.{first_label, second_label}
use Rattle.game.specs.Position.{Position, closed}
use Rattle.area.proofs.CellByCell.{Cell, at, at_here, at_other, cell_area, numbers, priced, put-premium, put-state, read_content, read_premium, read_state, same_area, stated}
use Rattle.area.proofs.Held.{content_zero}
use Rattle.game.proofs.Areas.{laid_length}
use Rattle.game.proofs.Members.{first_of, rest_of}
use Rattle.spread.specs.Spreads.{Fits, Spreading, now_spread, opens, visited}
use Rattle.spread.proofs.Turns.{Turn, turn, turn_long}
use Rattle.spread.proofs.Visits.{closed_counted, visit_onward}
use borrow.Author.Tests.{eq-eqb, ne_eqb}

-- the cell that waits as number t; 0 where none waits
abbrev pub stack_at : List ℕ → ℕ → ℕ
stack_at [] t = 0
stack_at (x ∷ xs) t = cond (eqb t (length xs)) x (stack_at xs t)

stack_past : (xs : List ℕ) (t : ℕ) → length xs ≤ t → stack_at xs t ≡ 0
stack_past [] t h = refl
stack_past (x ∷ xs) t h =
    ap (λ (b : Bool). cond b x (stack_at xs t)) (ne_eqb t (length xs) (λ e. absurd (omega arith))) ∙ stack_past xs t (omega arith)

-- a cell of the grid with a fifth number and a state
abbrev pub cell_with : Grid → ℕ → ℕ → ℕ → Cell
cell_with g x waiting state =
    record { first = first_label g x; second = second_label g x; premium = waiting; state = state; content = content g x }

-- the cells of a position, where some cells wait
abbrev pub cells_of : Grid → Position → List ℕ → ℕ → Cell
cells_of g t zs x = cell_with g x (stack_at zs x) (get_or t x 0)

-- their work area
abbrev pub spread_area : Grid → List ℤ → Position → List ℕ → List ℤ
spread_area g old t zs = cell_area (cells_of g t zs) (size g) old

-- the work area of a turn, how many cells wait, and how many were opened
abbrev pub spread_of : Grid → List ℤ → Turn → Spreading
spread_of g old m = now_spread (spread_area g old m.position m.waits) (length m.waits) m.so_far

module _ (g : Grid) (old : List ℤ) (room : HasCells old (size g)) (few : size g ≤ 65025) where
  -- it is as long as before
  spread_long : (t : Position) (zs : List ℕ) → length (spread_area g old t zs) ≡ length old
  spread_long t zs = laid_length (λ x. numbers (cells_of g t zs x)) (λ x. refl) (size g) old room

  -- a cell opened
  open_acts : (t : Position) (zs : List ℕ) (x : ℕ) → length t ≡ size g → x < size g → put_state (spread_area g old t zs) x 1 ≡ spread_area g old (set t x 1) zs
  open_acts t zs x l h =
      put-state (size g) old room C x 1 h
      ∙ same_area (size g) old room (at C x (stated 1 (C x))) (cells_of g (set t x 1) zs) (λ y b. elim (ℕ_discrete y x) [
        | yes e ↦ at_here C x (stated 1 (C x)) y e ∙ ap (λ (i : ℕ). cell_with g i (stack_at zs i) 1) (sym e)
            ∙ ap (cell_with g y (stack_at zs y)) (sym (ap (λ (i : ℕ). get_or (set t x 1) i 0) e ∙ get_or-set_same t x 1 0 (omega arith)))
        | no q ↦ at_other C x (stated 1 (C x)) y q ∙ ap (cell_with g y (stack_at zs y)) (sym (get_or-set_other t x y 1 0 q))
      ])
    where
      C : ℕ → Cell
      C = cells_of g t zs

  -- a fifth number put: other cells wait
  stack_acts : (t : Position) (zs ys : List ℕ) (place v : ℕ) → place < size g → v < 2147483648 → ((y : ℕ) → y ≡ place → stack_at ys y ≡ v)
      → ((y : ℕ) → (y ≡ place → ⊥) → stack_at ys y ≡ stack_at zs y) → put_waiting (spread_area g old t zs) place v ≡ spread_area g old t ys
  stack_acts t zs ys place v h k here there =
      put-premium (size g) old room C place v h
      ∙ same_area (size g) old room (at C place (priced v (C place))) (cells_of g t ys) (λ y b. elim (ℕ_discrete y place) [
        | yes e ↦ at_here C place (priced v (C place)) y e ∙ ap (λ (i : ℕ). cell_with g i (v % 2147483648) (get_or t i 0)) (sym e)
            ∙ ap (λ (i : ℕ). cell_with g y i (get_or t y 0)) (mod-eq_of_lt k ∙ sym (here y e))
        | no q ↦ at_other C place (priced v (C place)) y q ∙ ap (λ (i : ℕ). cell_with g y i (get_or t y 0)) (sym (there y q))
      ])
    where
      C : ℕ → Cell
      C = cells_of g t zs

  -- a cell put to wait
  wait_acts : (t : Position) (zs : List ℕ) (x : ℕ) → x < size g → length zs < size g → put_waiting (spread_area g old t zs) (length zs) x ≡ spread_area g old t (x ∷ zs)
  wait_acts t zs x h b =
      stack_acts t zs (x ∷ zs) (length zs) x b (omega arith) (λ y e. ap (λ (d : Bool). cond d x (stack_at zs y)) (eq-eqb y (length zs) e))
      (λ y q. ap (λ (d : Bool). cond d x (stack_at zs y)) (ne_eqb y (length zs) q))

  -- a waiting cell read
  pub take_reads : (t : Position) (z : ℕ) (zs : List ℕ) → length zs < size g → waiting_at (spread_area g old t (z ∷ zs)) (length zs) ≡ z
  take_reads t z zs b =
      read_premium (size g) old room (cells_of g t (z ∷ zs)) (length zs) b
      ∙ ap (λ (d : Bool). cond d z (stack_at zs (length zs))) (eq-eqb (length zs) (length zs) refl)

  -- its place cleared
  pub take_acts : (t : Position) (z : ℕ) (zs : List ℕ) → length zs < size g → put_waiting (spread_area g old t (z ∷ zs)) (length zs) 0 ≡ spread_area g old t zs
  take_acts t z zs b =
      stack_acts t (z ∷ zs) zs (length zs) 0 b (omega arith) (λ y e. stack_past zs y (omega arith))
      (λ y q. sym (ap (λ (d : Bool). cond d z (stack_at zs y)) (ne_eqb y (length zs) q)))

  -- ---- a cell visited

  module _ (m : Turn) (fits : Fits (size g) (spread_of g old m)) (long : length m.position ≡ size g) (x : ℕ) (h : x < size g) where
    abbrev work : List ℤ
    work = spread_area g old m.position m.waits

    state_is : state_at work x ≡ get_or m.position x 0
    state_is = read_state (size g) old room (cells_of g m.position m.waits) x h

    content_is : eqb (content_at work x) 1 ≡ zero_cell g x
    content_is = ap (λ (k : ℕ). eqb k 1) (read_content (size g) old room (cells_of g m.position m.waits) x h) ∙ content_zero g x h

    pub visit_acts : visited (spread_of g old m) x ≡ spread_of g old (turn g m x)
    unfolding visited turn
    visit_acts =
        ap (λ (k : ℕ). cond (eqb k 0) (opens (spread_of g old m) x) (spread_of g old m)) state_is
        ∙ ap (λ (d : Bool). cond (closed m.position x) (opening d) (spread_of g old m)) content_is
        ∙ go (closed m.position x) refl (zero_cell g x) refl
      where
        opening : Bool → Spreading
        opening d =
            cond d (now_spread (put_waiting (put_state work x 1) (length m.waits) x) (length m.waits + 1) (m.so_far + 1))
            (now_spread (put_state work x 1) (length m.waits) (m.so_far + 1))

        go : (b : Bool) → closed m.position x ≡ b → (z : Bool) → zero_cell g x ≡ z → cond b (opening z) (spread_of g old m)
            ≡ spread_of g old (cond b (record { position = set m.position x 1; waits = cond z (x ∷ m.waits) m.waits; so_far = m.so_far + 1 }) m)
        go true e true q =
            let o = eqb→eq (get_or m.position x 0) 0 (rw e tt) in
            let b : length m.waits < size g = omega (arith, fits.places, closed_counted (size g) work x h (state_is ∙ o)) in
            let one : length m.waits + 1 ≡ length (x ∷ m.waits) = omega arith in
            ap (λ (w : List ℤ). now_spread w (length m.waits + 1) (m.so_far + 1))
            (ap (λ (w : List ℤ). put_waiting w (length m.waits) x) (open_acts m.position m.waits x long h) ∙ wait_acts (set m.position x 1) m.waits x h b)
            ∙ ap (λ (k : ℕ). now_spread (spread_area g old (set m.position x 1) (x ∷ m.waits)) k (m.so_far + 1)) one
        go true e false q = ap (λ (w : List ℤ). now_spread w (length m.waits) (m.so_far + 1)) (open_acts m.position m.waits x long h)
        go false e z q = refl

  -- and each of some cells
  pub visits_act : (xs : List ℕ) → ((x : ℕ) → T (has x xs) → x < size g) → (m : Turn) → Fits (size g) (spread_of g old m) → length m.position ≡ size g
      → fold visited (spread_of g old m) xs ≡ spread_of g old (fold (turn g) m xs)
  visits_act [] b m fits long = refl
  visits_act (x ∷ xs) b m fits long =
      let h = first_of x xs b in
      let e = visit_acts m fits long x h in
      let o = visit_onward (size g) few (spread_of g old m) (omega (arith, spread_long m.position m.waits)) fits x h in
      ap (λ (p : Spreading). fold visited p xs) e
      ∙ visits_act xs (rest_of x xs b) (turn g m x) (subst (Fits (size g)) e o.fits) (turn_long g m x ∙ long)
