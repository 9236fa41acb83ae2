-- `board_reader::answer_some`: what answer_block left is what is handed over and kept; it is not refused. Assumes nothing.
use Rattle.std.proofs.Common.{sym}
use lib.Seq.{length-take-le}
use Rattle.refusals.specs.Names.{named}
use Rattle.board_reader.proofs.Turning.{block_left, block_passed}
use Rattle.board_reader.proofs.answer_some.Goals as goal

pub slice_bounds-print-end : goal.slice_bounds-print-end
slice_bounds-print-end c =
    let a = c.args in
    let b = c.answer_block in
    (block_left a.kept c.requires.sofar a.block.now a.out.now c.requires.block_in_bounds b.new.held b.new.out c.in-Ok.field-0.count c.in-Ok.field-0.written c.in-Ok.ensures).inside

pub slice_bounds-print-end-in-Ok : goal.slice_bounds-print-end-in-Ok
slice_bounds-print-end-in-Ok c =
    let a = c.args in
    let b = c.answer_block in
    sym
    (length-take-le _ _
    (block_left a.kept c.requires.sofar a.block.now a.out.now c.requires.block_in_bounds b.new.held b.new.out c.in-Ok.field-0.count c.in-Ok.field-0.written c.in-Ok.ensures).inside)

pub print-went-requires : goal.print-went-requires
print-went-requires c =
    let a = c.args in
    let b = c.answer_block in
    (block_left a.kept c.requires.sofar a.block.now a.out.now c.requires.block_in_bounds b.new.held b.new.out c.in-Ok.field-0.count c.in-Ok.field-0.written c.in-Ok.ensures).says

pub returns-in-Err : goal.returns-in-Err
returns-in-Err c =
    let a = c.args in
    let b = c.answer_block in
    absurd (block_passed a.kept c.requires.sofar a.block.now a.out.now c.requires.block_in_bounds b.new.held b.new.out (named c.in-Err.field-0) c.in-Err.ensures)

pub returns-in-Ok : goal.returns-in-Ok
returns-in-Ok c =
    let a = c.args in
    let b = c.answer_block in
    let h = c.print-went.ensures in
    let k = (block_left a.kept c.requires.sofar a.block.now a.out.now c.requires.block_in_bounds b.new.held b.new.out c.in-Ok.field-0.count c.in-Ok.field-0.written c.in-Ok.ensures).keeps in
    record { written = h.written; comes = λ i. record { kept = k i; went = h.comes i } }
