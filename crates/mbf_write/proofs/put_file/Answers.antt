-- `mbf_write::put_file`: width, height, the mine count and the mines, one after the other. Assumes nothing.
use Prim.Native.Nat.{◌≤◌}
use native.Mathlib.Omega.{arith}
use mathlib.Core.Path.{ap, ◌∙◌}
use lib.ListN.{length, length-set}
use lib.Seq.{length-sets}
use Rattle.area.specs.Numbers.{grid_of}
use Rattle.mbf_write.proofs.Files.{file_there, mines_fit}
use Rattle.mbf_write.proofs.put_file.Goals.{Start}
use Rattle.mbf_write.proofs.put_file.Goals as goal

-- the count fits two bytes
few : (c : Start) → c.args.mines ≤ 65025
few c =
    let a = c.args in
    omega (arith, c.requires.grid_len.1, mines_fit a.rows a.columns a.grid.now c.requires.shape)

pub bounds-file-1 : goal.bounds-file-1
bounds-file-1 c = simp length-set (omega arith)

pub overflow_cast-file-3 : goal.overflow_cast-file-3
overflow_cast-file-3 c = omega (arith, few (goal.at.overflow_cast-file-3 c).Start)

pub bounds-file-2 : goal.bounds-file-2
bounds-file-2 c = simp length-set (omega arith)

pub bounds-file-3 : goal.bounds-file-3
bounds-file-3 c = simp length-set (omega arith)

pub put_mines-requires : goal.put_mines-requires
put_mines-requires c =
    record { shape = c.requires.shape; grid_len = (c.requires.grid_len.0, simp length-set (omega (arith, c.requires.grid_len.1, c.requires.grid_len.2))) }

pub shape_of-file : goal.shape_of-file
shape_of-file c = ap length c.put_mines.ensures ∙ simp (length-sets, length-set)

pub returns : goal.returns
returns c =
    let a = c.args in
    file_there (grid_of a.rows a.columns a.grid.now) a.mines a.file.now _ c.requires.grid_len.1 (few (goal.at.returns c).Start) c.requires.grid_len.2 c.put_mines.ensures
