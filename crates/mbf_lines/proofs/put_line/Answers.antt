-- `mbf_lines::put_line`: rows, columns, the bytes of the bits and the line feed stand one after the other. Assumes nothing.
use Prim.Native.Nat.{◌*◌, ◌≤◌}
use native.Mathlib.Omega.{arith}
use mathlib.Core.Path.{◌≡◌, refl}
use lib.ListN.{length-set}
use Rattle.mbf_form.specs.Form.{file_columns, file_rows}
use Rattle.mbf_lines.proofs.Verdict.{small}
use Rattle.mbf_lines.proofs.Outputs.{line_there}
use Rattle.mbf_lines.proofs.put_line.Goals.{After-byte-rows}
use Rattle.mbf_lines.proofs.put_line.Goals as goal

pub byte-columns-requires : goal.byte-columns-requires
byte-columns-requires c = omega (arith, (small c.args.file.now c.requires.0).taken.long)

pub byte-rows-requires : goal.byte-rows-requires
byte-rows-requires c = omega (arith, (small c.args.file.now c.requires.0).taken.long)

-- the cells are few
few : (c : After-byte-rows) → c.byte-rows.result * c.byte-columns.result ≤ 2048
few c =
    let e : c.byte-rows.result * c.byte-columns.result ≡ file_rows c.args.file.now * file_columns c.args.file.now = λ i. c.byte-rows.ensures.0 i * c.byte-columns.ensures.0 i in
    omega (arith, (small c.args.file.now c.requires.0).few)

pub overflow_mul-bytes : goal.overflow_mul-bytes
overflow_mul-bytes c = record { fits = omega (arith, few (goal.at.overflow_mul-bytes c).After-byte-rows) }

pub overflow_add-bytes : goal.overflow_add-bytes
overflow_add-bytes c = record { fits = omega (arith, few (goal.at.overflow_add-bytes c).After-byte-rows) }

pub put_bytes-requires : goal.put_bytes-requires
put_bytes-requires c =
    let f = few (goal.at.put_bytes-requires c).After-byte-rows in
    (omega (arith, c.requires.1.long), omega arith)

pub overflow_mul-out : goal.overflow_mul-out
overflow_mul-out c = record { fits = omega (arith, few (goal.at.overflow_mul-out c).After-byte-rows) }

pub overflow_add-out : goal.overflow_add-out
overflow_add-out c = record { fits = omega (arith, few (goal.at.overflow_add-out c).After-byte-rows) }

pub bounds-out-bytes : goal.bounds-out-bytes
bounds-out-bytes c = omega (arith, few (goal.at.bounds-out-bytes c).After-byte-rows)

pub overflow_mul-result : goal.overflow_mul-result
overflow_mul-result c = record { fits = omega (arith, few (goal.at.overflow_mul-result c).After-byte-rows) }

pub overflow_add-result : goal.overflow_add-result
overflow_add-result c = record { fits = omega (arith, few (goal.at.overflow_add-result c).After-byte-rows) }

pub shape_of-out : goal.shape_of-out
shape_of-out c = simp length-set (omega arith)

pub returns : goal.returns
returns c =
    let bytes = c.before.before in
    let columns = bytes.before.before.before.before in
    let rows = columns.before.before.before.before in
    let sides = rows.before.before in
    let file = c.args.file.now in
    let small-bits = c.shared_slice_known-2-1.given in
    line_there file c.args.bits.now (small file c.requires.0) c.requires.1 (λ k. omega (arith, small-bits k)) c.args.out.now _ _ _ _ _ _ c.requires.2
    c.byte-rows.ensures.0 c.byte-columns.ensures.0 refl c.put_byte.ensures c.put_byte-2.ensures c.put_bytes.ensures
