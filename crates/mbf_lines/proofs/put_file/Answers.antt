-- `mbf_lines::put_file`: a board of at most 2,048 cells is written. Assumes nothing.
use Rattle.area.specs.Numbers.{grid_of}
use Rattle.mbf_lines.proofs.Boards.{file_printed}
use Rattle.mbf_lines.proofs.put_file.Goals as goal

pub returns : goal.returns
returns c =
    let g = grid_of c.args.rows c.args.columns c.args.grid.now in
    rw c.unwrap_or.ensures (file_printed g c.args.out.now c.requires.0 c.requires.1 c.requires.2 _ _ c.write.ensures)
