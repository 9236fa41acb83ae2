-- `mark_columns::mark_near`: the columns from two before to two after are marked. Assumes nothing.
use Rattle.std.proofs.Common.{rules}
use Rattle.std.proofs.lemmas.List.{places}
use native.Mathlib.Omega.{arith}
use Rattle.mark_columns.proofs.Marks.{marked_near}
use Rattle.mark_columns.proofs.mark_near.Goals as goal

pub returns : goal.returns
returns c =
    let a = c.args in (
      search (rules, places),
      λ k. marked_near a.tops.now c.fill.new.self a.column c.min-first.result c.min-last.result k (omega arith) (omega arith) (search (rules, places)),
    )
