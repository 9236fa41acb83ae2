-- `Square::next`: the row's next cell, else the next row's first, else nothing is left. Assumes nothing.
use native.Mathlib.Omega.{arith}
use Rattle.std.proofs.Common.{◌≡◌, ◌<◌, ◌+◌, ◌*◌, ◌∷◌, List, ℕ, length, sym, ◌∙◌, ap}
use Rattle.squares.specs.Left.{cells_left}
use Rattle.squares.specs.declared.Square.TheInside.{Inside}
use Rattle.squares.proofs.Cells.{cell_next, nothing_left, row_over}
use Rattle.squares.proofs.SquareIterator.next.Goals.{After-self-2-1, else-self, then-self+else-self-2}
use Rattle.squares.proofs.SquareIterator.next.Goals as goal

pub returns-then-self-2-clause-steps : goal.returns-then-self-2-clause-steps
returns-then-self-2-clause-steps c =
    let s = c.self.inside in
    let e = sym c.self.view_is ∙ nothing_left s.rows s.row s.last s.column s.from s.to c.if-self.true c.if-self-2.true in (e, e)

-- what is left of a square
abbrev left : Inside → List ℕ
left s = cells_left s.rows s.row s.last s.column s.from s.to

-- going on to the next row gives up no cell
same_left : (c : After-self-2-1) → left c.self.inside ≡ left c.if-self.self-inside
same_left c =
    let s = c.self.inside in
    elim c.if-self.branch [
      | then-self+else-self-2 w ↦
          ap (λ (k : ℕ). cells_left s.rows s.row s.last k s.from s.to) w.if-self.true
          ∙ row_over s.rows s.row s.last s.from s.to (omega (arith, c.self.invariant.row_on, w.if-self-2.false)) ∙ ap left (sym w.self-inside-is)
      | else-self w ↦ ap left (sym w.self-inside-is)
    ]

-- then the row has a cell left
more_in_row : (c : After-self-2-1) → c.if-self.self-inside.column < c.if-self.self-inside.to
more_in_row c =
    elim c.if-self.branch [
      | then-self+else-self-2 w ↦ rw w.self-inside-is c.self.invariant.some_columns
      | else-self w ↦ rw w.self-inside-is (omega (arith, c.self.invariant.column_on, w.if-self.false))
    ]

-- the next cell comes before the others
first_left : (c : After-self-2-1)
    → c.args.self.now ≡ (c.if-self.self-inside.column * c.if-self.self-inside.rows + c.if-self.self-inside.row) ∷ left (record { rows = c.if-self.self-inside.rows; row = c.if-self.self-inside.row; last = c.if-self.self-inside.last; column = c.if-self.self-inside.column + 1; from = c.if-self.self-inside.from; to = c.if-self.self-inside.to })
first_left c =
    let s = c.if-self.self-inside in
    sym c.self.view_is ∙ same_left c ∙ cell_next s.rows s.row s.last s.column s.from s.to (more_in_row c)

pub returns-clause-steps : goal.returns-clause-steps
returns-clause-steps c = first_left c

-- so there is one less to come
one_less : (c : After-self-2-1) → length (left (record { rows = c.if-self.self-inside.rows; row = c.if-self.self-inside.row; last = c.if-self.self-inside.last; column = c.if-self.self-inside.column + 1; from = c.if-self.self-inside.from; to = c.if-self.self-inside.to })) < length c.args.self.now
one_less c = omega (arith, ap length (first_left c))

pub returns-clause-goes : goal.returns-clause-goes
returns-clause-goes c = record { on = λ h. (tt, tt, one_less c); keeps = tt; rests = λ h. tt }
