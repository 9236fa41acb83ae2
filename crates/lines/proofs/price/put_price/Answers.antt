-- `lines::price::put_price`: fourteen digits where they have room, else nothing. Assumes nothing.
use native.Mathlib.Omega.{arith}
use Rattle.lines.specs.PriceLine.{figures}
use Rattle.lines.proofs.Priced.{price_none, price_there}
use Rattle.lines.proofs.price.put_price.Goals as goal

pub returns-then-out-lt14 : goal.returns-then-out-lt14
returns-then-out-lt14 c = let a = c.args in price_none a.at (figures a.number a.price) a.out.now (omega arith)

pub returns-then-out-at : goal.returns-then-out-at
returns-then-out-at c = let a = c.args in price_none a.at (figures a.number a.price) a.out.now (omega arith)

pub returns : goal.returns
returns c =
    let p = c.before.before in
    let q = p.before.before.before.before in
    let r = q.before.before.before.before in
    let a = c.args in
    price_there a.at (figures a.number a.price) a.out.now _ _ _ _ _ _ _ _ (omega arith) c.put_byte.ensures c.put_two.ensures c.put_two-2.ensures c.put_two-3.ensures (omega arith) (omega arith) (omega arith) (omega arith)
