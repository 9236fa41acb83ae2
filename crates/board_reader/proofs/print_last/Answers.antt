-- `board_reader::print_last`: what answer_end left is the answer to the line that goes on. Assumes nothing.
use Rattle.std.proofs.Common.{sym}
use lib.Seq.{length-take-le}
use Rattle.board_reader.proofs.Turning.{end_left}
use Rattle.board_reader.proofs.print_last.Goals as goal

pub slice_bounds-print-end : goal.slice_bounds-print-end
slice_bounds-print-end c =
    let a = c.args in
    (end_left a.kept c.requires.sofar a.out.now c.requires.in_bounds a.kept.bytes c.answer_end.new.out c.in-Ok.field-0.count c.in-Ok.field-0.written c.in-Ok.ensures).inside

pub slice_bounds-print-end-in-Ok : goal.slice_bounds-print-end-in-Ok
slice_bounds-print-end-in-Ok c =
    let a = c.args in
    sym
    (length-take-le _ _
    (end_left a.kept c.requires.sofar a.out.now c.requires.in_bounds a.kept.bytes c.answer_end.new.out c.in-Ok.field-0.count c.in-Ok.field-0.written c.in-Ok.ensures).inside)

pub print-requires : goal.print-requires
print-requires c =
    let a = c.args in
    (end_left a.kept c.requires.sofar a.out.now c.requires.in_bounds a.kept.bytes c.answer_end.new.out c.in-Ok.field-0.count c.in-Ok.field-0.written c.in-Ok.ensures).says
