-- `glance`: a grid of few columns, or a 0-cell with a label in the last column loaded, leaves it undecided; else the walk's count is the grid's. Assumes nothing.
use Prim.Native.Nat.{◌*◌, ◌≤◌}
use native.Mathlib.Omega.{arith}
use native.Mathlib.Nat.{mul-le-mul_left}
use mathlib.Core.Path.{◌∙◌, ◌≡◌, sym}
use Rattle.area.specs.Numbers.{grid_of}
use Rattle.area.specs.Stages.{loaded_five}
use Rattle.game.specs.Area.{laid}
use Rattle.start.proofs.Loaded.{loaded_first}
use Rattle.early.proofs.Glances.{glance_beyond, glanced, undecided}
use Rattle.early.proofs.Unchanged.{beyond_same}
use Rattle.early.proofs.walks.glance.Goals.{After-load_columns, Else-columns-lt64}
use Rattle.early.proofs.walks.glance.Goals as goal

first-cells : (c : Else-columns-lt64) → c.args.rows * 32 ≤ c.args.rows * c.args.columns
first-cells c = mul-le-mul_left c.args.rows (omega (arith, c.if-columns-lt64.false))

pub returns-then-columns-lt64 : goal.returns-then-columns-lt64
returns-then-columns-lt64 c =
    let a = c.args in
    undecided (grid_of a.rows a.columns a.grid.now) a.units a.work.now a.work.now (beyond_same (a.rows * a.columns) a.work.now)

-- the first 32 columns are loaded
loaded_at : (c : After-load_columns) → let a = c.args in
    c.load_columns.new.work ≡ laid (loaded_five (grid_of a.rows a.columns a.grid.now)) (a.rows * 32) a.work.now
loaded_at c =
    let a = c.args in
    let k = first-cells c.before.before in
    c.load_columns.ensures ∙ loaded_first (grid_of a.rows a.columns a.grid.now) a.work.now 32 (omega (arith, c.requires.grid_len.1))

pub returns-then-labelled_in : goal.returns-then-labelled_in
returns-then-labelled_in c =
    let k = c.before.before.before.before in
    let l = k.before.before.before in
    let a = c.args in
    let g = grid_of a.rows a.columns a.grid.now in
    undecided g a.units a.work.now c.walk-stop.new.work
    (glance_beyond g a.units _ a.work.now c.load_columns.new.work c.walk-stop.new.work c.walk-stop.result c.requires.shape.some_rows c.if-columns-lt64.false c.requires.grid_len.1 (loaded_at c.before.before.before.before.before.before) c.walk-stop.ensures)

pub returns : goal.returns
returns c =
    let k = c.before.before.before.before in
    let l = k.before.before.before in
    let a = c.args in
    glanced (grid_of a.rows a.columns a.grid.now) a.units _ a.work.now c.load_columns.new.work c.walk-stop.new.work c.walk-stop.result c.requires.shape.some_rows c.if-columns-lt64.false c.requires.grid_len.1 (loaded_at c.before.before.before.before.before.before) c.walk-stop.ensures
    (omega arith) (sym c.labelled_in.ensures ∙ c.if-labelled_in.false)
