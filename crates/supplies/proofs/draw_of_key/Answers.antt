-- `supplies::draw_of_key`: among one nothing is used, among more the first word below the bound. Assumes nothing.
use native.Mathlib.Omega.{arith}
use mathlib.Core.Path.{refl}
use Rattle.std.specs.Prelude.{Some}
use Rattle.draws.specs.Answers.{mode_of}
use Rattle.game.proofs.Keys.{keyed_more, keyed_one}
use Rattle.supplies.proofs.draw_of_key.Goals as goal

pub returns-then-n-le1-clause-dealing : goal.returns-then-n-le1-clause-dealing
returns-then-n-le1-clause-dealing c =
    λ k at r. rw (keyed_one (mode_of c.args.mode) k at c.args.n c.if-n-le1.true) (record { supply = record { used = c.args.used; key = Some c.args.key }; answer = refl; reads = r })

pub returns-clause-dealing : goal.returns-clause-dealing
returns-clause-dealing c =
    λ k at r. rw (keyed_more (mode_of c.args.mode) k at c.args.n (omega (arith, c.if-n-le1.false))) (c.first_of_key.ensures.dealing k at (mode_of c.args.mode) r c.bound.ensures)
