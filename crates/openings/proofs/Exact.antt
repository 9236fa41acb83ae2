-- Labelling from a 0-cell without label gives its number to exactly the cells that its opening holds, also where the work area has only the first columns of the grid, if the opening does not come to the last of these. Assumes nothing.
use Prim.Native.Nat.{ℕ, ◌*◌, ◌+◌, ◌<◌, ◌≤◌}
use native.Mathlib.Omega.{arith}
use native.Mathlib.Decide.{ℕ_discrete}
use native.Mathlib.Nat.{mul-le-mul_left}
use mathlib.Core.Path.{◌∙◌, ◌≡◌, ap, subst, sym}
use mathlib.Core.Logic.{inl, inr, ⊎_elim}
use mathlib.Core.List.{List}
use lib.Dec.{T, eqb→eq}
use lib.IntN.{ℤ}
use Rattle.area.specs.Numbers.{content_at, first_at, natural}
use Rattle.area.specs.Squares.{square_of}
use Rattle.area.specs.Stages.{content}
use Rattle.area.proofs.Held.{content_zero}
use Rattle.area.proofs.Rows.{column_inside, narrow_square}
use Rattle.game.specs.Grid.{Grid, column_of, size, square}
use Rattle.game.specs.Lists.{has}
use Rattle.game.specs.Openings.{Joined, holds, itself, joined_to, onward}
use Rattle.labels.specs.Labels.{shaped}
use Rattle.labels.specs.Spread.{Edge, OpeningLabelled, Reach, Same, here, next}
use Rattle.openings.specs.Numbering.{Contained}
use Rattle.game.proofs.Chains.{joined_last}
use Rattle.game.proofs.Members.{some_yes, yes_some}
use Rattle.game.proofs.Openings.{joined_to→, →joinedTo}
use Rattle.game.proofs.Squares.{square_sym, square→}
use Rattle.game.proofs.Zeros.{Zero}

-- ---- contents tell the 0-cells

pub one→zero : (g : Grid) (i : ℕ) → i < size g → content g i ≡ 1 → Zero g i
one→zero g i h e = record { inside = h; none = rw (← content_zero g i h, e) tt }

pub zero→one : (g : Grid) (i : ℕ) → Zero g i → content g i ≡ 1
zero→one g i z = eqb→eq (content g i) 1 (subst T (sym (content_zero g i z.inside)) z.none)

-- ---- the first columns of a grid

-- their cells are cells of the grid
pub narrow_size : (g : Grid) (columns : ℕ) (w : List ℤ) → Contained g columns w → g.rows * columns ≤ size g
narrow_size g columns w s =
    mul-le-mul_left g.rows (⊎_elim (λ e. omega arith) (λ k. omega (arith, k.0)) s)

-- a 0-cell with a label has all of its square there
whole_square : (g : Grid) (columns : ℕ) (w : List ℤ) → Contained g columns w → (x : ℕ) → x < g.rows * columns → content_at w x ≡ 1 → 1 ≤ first_at w x
    → square_of g.rows columns x ≡ square g x
whole_square g columns w s x h e l =
    narrow_square g columns x
    (⊎_elim inl
    (λ k. inr (
      k.0,
      elim (ℕ_discrete (column_of g x + 1) columns) [
        | yes q ↦ absurd (omega (arith, k.1 x q e))
        | no f ↦ omega (arith, column_inside g.rows columns x h)
      ],
    )) s)

-- ---- one opening

module _ (g : Grid) (columns op i : ℕ) (w w' : List ℤ) (contents : (j : ℕ) → j < g.rows * columns → content_at w j ≡ content g j)
    (r : OpeningLabelled (shaped g.rows columns) (content_at w) op i w w') (s : Contained g columns w')
    (hi : i < g.rows * columns) (z : Zero g i) (free : (x : ℕ) → x < g.rows * columns → Joined g i x → first_at w x ≡ 0) where
  in-grid : (x : ℕ) → x < g.rows * columns → x < size g
  in-grid x h = omega (arith, narrow_size g columns w' s)

  zero-at : (x : ℕ) → x < g.rows * columns → content_at w x ≡ 1 → Zero g x
  zero-at x h e = one→zero g x (in-grid x h) (sym (contents x h) ∙ e)

  one_at : (x : ℕ) → x < g.rows * columns → Zero g x → content_at w x ≡ 1
  one_at x h zx = contents x h ∙ zero→one g x zx

  -- the square of a 0-cell that is labelled now
  its_square : (x : ℕ) → x < g.rows * columns → Zero g x → 1 ≤ first_at w' x → square_of g.rows columns x ≡ square g x
  its_square x h zx l = whole_square g columns w' s x h (ap natural (r.change.contents x h) ∙ one_at x h zx) l

  -- the cells of the opening are among the columns, and have a label
  reached : (x : ℕ) → Joined g i x → (x < g.rows * columns) × (1 ≤ first_at w' x)
  reached x (itself h e) = (hi, r.self hi (one_at i hi z))
  reached x (onward {b = b} j t e) =
      let q = reached b j in
      let zb = joined_last g i b j in
      let u : T (has x (square_of g.rows columns b)) = rw (its_square b q.0 zb q.1) t in
      let h = (square→ (shaped g.rows columns) b x q.0 u).0 in
      (h, (r.closed b q.0 (one_at b q.0 zb) (free b q.0 j) q.1 x u).zero-cell (one_at x h (joined_last g i x (onward j t e))))

  -- the square of a cell of the opening
  square-of : (x : ℕ) → Joined g i x → square_of g.rows columns x ≡ square g x
  square-of x j = let q = reached x j in its_square x q.0 (joined_last g i x j) q.1

  chain : (x : ℕ) → Reach (shaped g.rows columns) (content_at w) i x → Joined g i x
  chain x (here h e) = itself z.inside z.none
  chain x (next {b = b} q t e) =
      let j = chain b q in
      onward j (rw (square-of b j) at t) (zero-at x (square→ (shaped g.rows columns) b x (reached b j).0 t).0 e).none

  pub exact_yes : (j : ℕ) → j < g.rows * columns → T (holds g j (joined_to g i)) → Edge op w w' j
  exact_yes j h t =
      let m = yes_some (λ x. has x (joined_to g i)) (square g j) t in
      let x = m.0 in
      let p = joined_to→ g i x z m.2 in
      let q = reached x p in
      let zx = joined_last g i x p in
      let b : T (has j (square g x)) = rw (← square_sym g x j zx.inside (in-grid j h)) m.1 in
      let d = r.closed x q.0 (one_at x q.0 zx) (free x q.0 p) q.1 j (rw (square-of x p) b) in
      elim (ℕ_discrete (content_at w j) 1) [
        | yes e ↦ ⊎_elim
            (λ u. absurd (let o : first_at w' j ≡ first_at w j = ap natural u.one in
            omega (arith, o, free j h (onward p b (zero-at j h e).none), d.zero-cell e)))
            (λ u. u.edge) (r.change.cells j h)
        | no f ↦ d.edge f
      ]

  pub exact_no : (j : ℕ) → j < g.rows * columns → (T (holds g j (joined_to g i)) → ⊥) → Same w w' j
  exact_no j h n =
      ⊎_elim (λ u. u)
      (λ u. absurd (
      let x = u.source in
      let p = chain x u.reached in
      let b : T (has j (square g x)) = rw (square-of x p) at u.beside in
      n (some_yes (λ y. has y (joined_to g i)) x (square g j)
      (rw (square_sym g x j (joined_last g i x p).inside (in-grid j h)) b) (→joinedTo g i x p))))
      (r.change.cells j h)
