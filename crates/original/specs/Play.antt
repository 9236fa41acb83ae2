-- zini.rs: open, reveal, click, flag, flagaround, chord, hitopenings. Assumes nothing.
use Rattle.std.specs.Prelude.{ℕ, ◌+◌, ◌-◌, true, false, not, ◌&&◌, ◌||◌, ℤ, pos, negsuc, length, eqb}
use Rattle.game.specs.Lists.{range, fold}
use Rattle.original.specs.Cells.{Cells, at, change, add-premium, with_opened, with_flagged, around}

-- cells, zini and closed_cells
pub record State : Type 0 where
  pub cells : Cells
  pub zini : ℕ
  pub closed-cells : ℕ

-- the state with other cells, with one click more
abbrev pub with_cells : (Cells → Cells) → State → State
with_cells f s = record { cells = f s.cells; zini = s.zini; closed-cells = s.closed-cells }

abbrev pub one_click : State → State
one_click s = record { cells = s.cells; zini = s.zini + 1; closed-cells = s.closed-cells }

-- the premiums of all cells around index change by d
abbrev pub add-around : ℤ → ℕ → ℕ → Cells → Cells
add-around d height index cells = fold (add-premium d) cells (around cells height index)

-- open
unfoldable pub open_cell : ℕ → State → ℕ → State
open_cell height s index =
    let opened = add-premium (pos 1) (change with_opened s.cells index) index in
    record {
      cells = elim (eqb (at opened index).opening 0) [ true ↦ add-around (negsuc 0) height index opened | false ↦ opened ];
      zini = s.zini;
      closed-cells = s.closed-cells - 1;
    }

-- the loop of reveal at a 0-cell, at cell i of the opening op
abbrev pub reveal_one : ℕ → ℕ → State → ℕ → State
reveal_one height op s i =
    elim (eqb (at s.cells i).opening2 op || eqb (at s.cells i).opening op) [
      | true ↦ with_cells (λ cs. add-premium (negsuc 0) cs i)
          (elim (not (at s.cells i).opened) [ true ↦ open_cell height s i | false ↦ s ])
      | false ↦ s
    ]

-- reveal
unfoldable pub reveal_cell : ℕ → State → ℕ → State
reveal_cell height s index =
    elim ((at s.cells index).opened || (at s.cells index).flagged) [
      | true ↦ s
      | false ↦ elim (not (eqb (at s.cells index).number 0)) [
        | true ↦ open_cell height s index
        | false ↦ fold (reveal_one height (at s.cells index).opening) s (range 0 (length s.cells))
      ]
    ]

-- click
abbrev pub click : ℕ → State → ℕ → State
click height s index = one_click (reveal_cell height s index)

-- flag
unfoldable pub flag_cell : ℕ → State → ℕ → State
flag_cell height s index =
    elim (at s.cells index).flagged [
      | true ↦ s
      | false ↦ one_click (with_cells (λ cs. add-around (pos 1) height index (change with_flagged cs index)) s)
    ]

-- flagaround
abbrev pub flagaround : ℕ → State → ℕ → State
flagaround height s index =
    fold (λ t i. elim (at t.cells i).mine [ true ↦ flag_cell height t i | false ↦ t ]) s (around s.cells height index)

-- chord
abbrev pub chord_cell : ℕ → State → ℕ → State
chord_cell height s index = fold (reveal_cell height) (one_click s) (around s.cells height index)

-- hitopenings
unfoldable pub hitopenings : ℕ → State → State
hitopenings height s =
    fold (λ t j. elim (not (at t.cells j).mine && eqb (at t.cells j).number 0 && not (at t.cells j).opened) [ true ↦ click height t j | false ↦ t ])
    s (range 0 (length s.cells))
