-- zini.rs: Zcell, build_cells_ref, getnumber, getadj3bv, setopeningborder, process_opening, initboard. Assumes nothing.
use Rattle.std.specs.Prelude.{ℕ, zero, suc, ◌+◌, ◌-◌, ◌*◌, Bool, true, false, not, cond, ◌&&◌, List, map, ℤ, pos, neg_ℤ, ◌+ℤ◌, ◌-ℤ◌, get_or, set, eqb, ltb}
use Rattle.game.specs.Lists.{bit, count, range, concat_map, fold}
use Rattle.game.specs.Grid.{Grid, is_mine}

-- struct Zcell
pub record Zcell : Type 0 where
  pub mine : Bool
  pub opening : ℕ
  pub opening2 : ℕ
  pub number : ℕ
  pub opened : Bool
  pub flagged : Bool
  pub premium : ℤ
  pub rb : ℕ
  pub re : ℕ
  pub cb : ℕ
  pub ce : ℕ

-- a cell past the end of the list, which is never read
abbrev pub nought : Zcell
nought =
    record {
      mine = false;
      opening = 0;
      opening2 = 0;
      number = 0;
      opened = false;
      flagged = false;
      premium = pos 0;
      rb = 0;
      re = 0;
      cb = 0;
      ce = 0;
    }

-- Vec<Zcell>
abbrev pub Cells : Type 0
Cells = List Zcell

-- cells[i]
abbrev pub at : Cells → ℕ → Zcell
at cells i = get_or cells i nought

-- the cell with another number, premium, opening, opening2, opened, flagged
abbrev pub with_number : ℕ → Zcell → Zcell
with_number n z =
    record {
      mine = z.mine;
      opening = z.opening;
      opening2 = z.opening2;
      number = n;
      opened = z.opened;
      flagged = z.flagged;
      premium = z.premium;
      rb = z.rb;
      re = z.re;
      cb = z.cb;
      ce = z.ce;
    }

abbrev pub with_premium : ℤ → Zcell → Zcell
with_premium p z =
    record {
      mine = z.mine;
      opening = z.opening;
      opening2 = z.opening2;
      number = z.number;
      opened = z.opened;
      flagged = z.flagged;
      premium = p;
      rb = z.rb;
      re = z.re;
      cb = z.cb;
      ce = z.ce;
    }

abbrev pub with_opening : ℕ → Zcell → Zcell
with_opening o z =
    record {
      mine = z.mine;
      opening = o;
      opening2 = z.opening2;
      number = z.number;
      opened = z.opened;
      flagged = z.flagged;
      premium = z.premium;
      rb = z.rb;
      re = z.re;
      cb = z.cb;
      ce = z.ce;
    }

abbrev pub with_opening2 : ℕ → Zcell → Zcell
with_opening2 o z =
    record {
      mine = z.mine;
      opening = z.opening;
      opening2 = o;
      number = z.number;
      opened = z.opened;
      flagged = z.flagged;
      premium = z.premium;
      rb = z.rb;
      re = z.re;
      cb = z.cb;
      ce = z.ce;
    }

abbrev pub with_opened : Zcell → Zcell
with_opened z =
    record {
      mine = z.mine;
      opening = z.opening;
      opening2 = z.opening2;
      number = z.number;
      opened = true;
      flagged = z.flagged;
      premium = z.premium;
      rb = z.rb;
      re = z.re;
      cb = z.cb;
      ce = z.ce;
    }

abbrev pub with_flagged : Zcell → Zcell
with_flagged z =
    record {
      mine = z.mine;
      opening = z.opening;
      opening2 = z.opening2;
      number = z.number;
      opened = z.opened;
      flagged = true;
      premium = z.premium;
      rb = z.rb;
      re = z.re;
      cb = z.cb;
      ce = z.ce;
    }

-- cells[i] is changed by f
abbrev pub change : (Zcell → Zcell) → Cells → ℕ → Cells
change f cells i = set cells i (f (at cells i))

-- cells[i].premium += d
abbrev pub add-premium : ℤ → Cells → ℕ → Cells
add-premium d cells i = change (λ z. with_premium (z.premium +ℤ d) z) cells i

-- board[r][c]
abbrev pub value : Grid → ℕ → ℕ → ℤ
value g r c = get_or g.values (r * g.columns + c) (pos 0)

-- the cell that build_cells_ref pushes for a row and a column
abbrev pub built : Grid → ℕ → ℕ → ℕ → ℕ → Zcell
built board height width c r =
    record {
      mine = is_mine (value board r c);
      opening = 0;
      opening2 = 0;
      number = 0;
      opened = false;
      flagged = false;
      premium = pos 0;
      rb = cond (ltb 0 r) (r - 1) r;
      re = cond (ltb r (height - 1)) (r + 1) r;
      cb = cond (ltb 0 c) (c - 1) c;
      ce = cond (ltb c (width - 1)) (c + 1) c;
    }

-- build_cells_ref: for c in 0..width { for r in 0..height { cells.push(..) } }
unfoldable pub build_cells_ref : Grid → ℕ → ℕ → Cells
build_cells_ref board height width =
    concat_map (λ c. map (λ r. built board height width c r) (range 0 height)) (range 0 width)

-- for rr in rb..=re { for cc in cb..=ce { let i = cc * height + rr; .. } }: the indices i, in that order
unfoldable pub around : Cells → ℕ → ℕ → List ℕ
around cells height index =
    let z = at cells index in
    concat_map (λ rr. map (λ cc. cc * height + rr) (range z.cb (z.ce + 1))) (range z.rb (z.re + 1))

-- getnumber
unfoldable pub getnumber : Cells → ℕ → ℕ → ℕ
getnumber cells height index = count (λ i. (at cells i).mine) (around cells height index)

-- getadj3bv
unfoldable pub getadj3bv : Cells → ℕ → ℕ → ℕ
getadj3bv cells height index =
    cond (eqb (at cells index).number 0) 1
    (count (λ i. not (at cells i).mine && eqb (at cells i).opening 0) (around cells height index)
    + bit (not (eqb (at cells index).opening 0)) + bit (not (eqb (at cells index).opening2 0)))

-- setopeningborder
unfoldable pub setopeningborder : Cells → ℕ → ℕ → Cells
setopeningborder cells op-id index =
    cond (eqb (at cells index).opening 0) (change (with_opening op-id) cells index)
    (cond (not (eqb (at cells index).opening op-id) && eqb (at cells index).opening2 0) (change (with_opening2 op-id) cells index) cells)

-- process_opening; the fuel bounds how deep it calls itself
unfoldable pub process_opening : ℕ → ℕ → ℕ → Cells → ℕ → Cells
process_opening zero height op-id cells index = cells
process_opening (suc fuel) height op-id cells index =
    let marked = change (with_opening op-id) cells index in
    fold (λ cs i. elim (not (eqb (at cs i).number 0)) [
      | true ↦ setopeningborder cs op-id i
      | false ↦ elim (eqb (at cs i).opening 0) [ true ↦ process_opening fuel height op-id cs i | false ↦ cs ]
    ])
    marked (around marked height index)

-- initboard's first loop: cells[i].number = getnumber(..); cells[i].premium = -cells[i].number - 2
abbrev pub set_number : ℕ → Cells → ℕ → Cells
set_number height cells i =
    let n = getnumber cells height i in
    change (λ z. with_premium (neg_ℤ (pos n) -ℤ pos 2) (with_number n z)) cells i

-- the cells and the openings counted so far
pub record CellOpened : Type 0 where
  pub cells : Cells
  pub openings : ℕ

-- initboard's second loop
abbrev pub set_opening : ℕ → ℕ → CellOpened → ℕ → CellOpened
set_opening size height o i =
    cond (not (at o.cells i).mine && eqb (at o.cells i).number 0 && eqb (at o.cells i).opening 0)
    (record { cells = process_opening size height (o.openings + 1) o.cells i; openings = o.openings + 1 }) o

-- initboard
unfoldable pub initboard : Cells → ℕ → ℕ → Cells
initboard cells width height =
    let size = width * height in
    let numbered = fold (set_number height) cells (range 0 size) in
    let opened = (fold (set_opening size height) (record { cells = numbered; openings = 0 }) (range 0 size)).cells in
    fold (λ cs i. add-premium (pos (getadj3bv cs height i)) cs i) opened (range 0 size)
