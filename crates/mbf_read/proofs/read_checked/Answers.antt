-- `mbf_read::read_checked`: BOARD where the run is too short, else the grid of the bits. Assumes nothing.
use Prim.Native.Nat.{◌*◌}
use native.Mathlib.Omega.{arith}
use mathlib.Core.Path.{◌≡◌, ap, ◌∙◌}
use mathlib.Core.List.{List}
use lib.IntN.{ℤ}
use Rattle.game.specs.Area.{begun}
use Rattle.area.specs.Stages.{Shape}
use Rattle.area.proofs.Cells.{cells_few}
use Rattle.mbf_form.specs.Form.{file_columns, file_rows}
use Rattle.mbf_form.proofs.Accepted.{accepted}
use Rattle.mbf_read.proofs.Calls.{bits_grid, read_kept, room_refused, shape_of}
use Rattle.mbf_read.proofs.read_checked.Goals.{After-byte-rows}
use Rattle.mbf_read.proofs.read_checked.Goals as goal

-- the shape that the file names
shaped : (c : After-byte-rows) → Shape c.byte-rows.result c.byte-columns.result
shaped c = shape_of c.args.file.now c.byte-rows.result c.byte-columns.result c.requires.file_value c.byte-rows.ensures.0 c.byte-columns.ensures.0

-- the cells that the file names
cells : (c : After-byte-rows) → c.byte-rows.result * c.byte-columns.result ≡ file_rows c.args.file.now * file_columns c.args.file.now
cells c = λ i. c.byte-rows.ensures.0 i * c.byte-columns.ensures.0 i

pub byte-columns-requires : goal.byte-columns-requires
byte-columns-requires c = let l = (accepted c.args.file.now c.requires.file_value).long in omega arith

pub byte-rows-requires : goal.byte-rows-requires
byte-rows-requires c = let l = (accepted c.args.file.now c.requires.file_value).long in omega arith

pub overflow_mul-rows : goal.overflow_mul-rows
overflow_mul-rows c = omega (arith, cells_few c.byte-rows.result c.byte-columns.result (shaped (goal.at.overflow_mul-rows c).After-byte-rows))

pub returns-then-grid-rows : goal.returns-then-grid-rows
returns-then-grid-rows c =
    room_refused c.args.file.now c.args.grid.now c.requires.file_value (omega (arith, cells (goal.at.returns-then-grid-rows c).After-byte-rows))

pub fill-requires : goal.fill-requires
fill-requires c = record { shape = shaped (goal.at.fill-requires c).After-byte-rows; bits_len = (c.requires.bits_of.long, omega arith) }

pub returns : goal.returns
returns c =
    let r = c.byte-rows in
    let k = c.byte-columns in
    read_kept c.args.file.now c.args.grid.now c.requires.file_value r.result k.result _ (omega (arith, cells (goal.at.returns c).After-byte-rows)) r.ensures.0 k.ensures.0
    (c.fill.ensures ∙ ap (λ (vs : List ℤ). begun vs c.args.grid.now) (bits_grid c.args.file.now c.args.bits.now r.result k.result r.ensures.0 k.ensures.0 c.requires.bits_of))
