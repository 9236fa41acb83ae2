-- `mbf_write::put_mine`: a mine's column and row are put, a safe cell changes nothing. Assumes nothing.
use Prim.Native.Nat.{ℕ, ◌+◌, ◌*◌, ◌≤◌}
use native.Mathlib.Omega.{arith}
use native.Mathlib.Numerals.{add-one}
use mathlib.Core.Path.{◌≡◌, ap, refl, sym, ◌∙◌}
use mathlib.Core.Bool.{true, false}
use lib.ListN.{length, length-set, set}
use Rattle.game.specs.Grid.{mine}
use Rattle.area.specs.Numbers.{grid_of}
use Rattle.mbf_write.proofs.Mines.{mine_put, one_mine, safe_put}
use Rattle.mbf_write.proofs.put_mine.Goals.{Else-mine_in, Then-mine_in}
use Rattle.mbf_write.proofs.put_mine.Goals as goal

-- where the cell is a mine
found : (c : Then-mine_in)
    → true ≡ mine (grid_of c.args.rows c.args.columns c.args.grid.now) (c.args.column * c.args.rows + c.args.row)
found c = sym c.if-mine_in.true ∙ c.mine_in.ensures

-- there is room for two bytes
room : (c : Then-mine_in) → c.args.at + 2 ≤ length c.args.file.now
room c = omega (arith, c.requires.grid_len.3, one_mine _ _ (found c))

pub bounds-file-at : goal.bounds-file-at
bounds-file-at c = omega (arith, room (goal.at.bounds-file-at c).Then-mine_in)

pub bounds-file-at-then-mine_in : goal.bounds-file-at-then-mine_in
bounds-file-at-then-mine_in c = simp length-set (omega (arith, room (goal.at.bounds-file-at-then-mine_in c).Then-mine_in))

pub returns-then-mine_in : goal.returns-then-mine_in
returns-then-mine_in c =
    let a = c.args in
    mine_put (grid_of a.rows a.columns a.grid.now) a.row a.column a.file.now a.at _ _ c.requires.grid_len.1 (found (goal.at.returns-then-mine_in c).Then-mine_in) refl (ap (λ (k : ℕ). set (set a.file.now a.at a.column) k a.row) (add-one a.at))

-- where it is not
spared : (c : Else-mine_in)
    → false ≡ mine (grid_of c.args.rows c.args.columns c.args.grid.now) (c.args.column * c.args.rows + c.args.row)
spared c = sym c.if-mine_in.false ∙ c.mine_in.ensures

pub returns : goal.returns
returns c =
    let a = c.args in
    safe_put (grid_of a.rows a.columns a.grid.now) (a.column * a.rows + a.row) a.file.now a.at (spared (goal.at.returns c).Else-mine_in)
