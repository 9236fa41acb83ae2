-- `moves::single::click`: a reveal, noted as L. Assumes nothing.
use Rattle.moves.proofs.Joins.{made_left}
use Rattle.moves.proofs.single.click.Goals as goal

pub returns-clause-made : goal.returns-clause-made
returns-clause-made c =
    let y = c.carry_on in
    let a = c.args in
    let x = c.reveal-opened in
    λ g s old st f t u e.
    made_left a.rows a.columns g s old a.index x.result a.list.now a.state x.new.work y.new.list y.result
    t (rw c.from.ensures at y.ensures) (x.ensures g s old st f) e
