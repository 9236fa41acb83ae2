-- `line_prices::block::end_line`: the digits of its price and a line feed. Assumes nothing.
use mathlib.Core.Path.{sym}
use lib.Seq.{length-take-le}
use native.Mathlib.Omega.{arith}
use Rattle.lines.specs.PriceLine.{held_price}
use Rattle.line_prices.specs.Bytes.{desk_at}
use Rattle.line_prices.proofs.Lines.{line_fed}
use Rattle.line_prices.proofs.block.end_line.Goals as goal

pub slice_bounds-price_line-end : goal.slice_bounds-price_line-end
slice_bounds-price_line-end c = let a = c.args in sym (length-take-le a.place.count a.held.now (omega arith))

pub returns : goal.returns
returns c =
    line_fed (desk_at c.args.held.now c.args.place c.args.out.now) c.put_priced.new.out (held_price c.price_line-price.result) _ _ c.requires c.price_line-price.ensures c.put_priced.ensures (omega arith) (omega arith)
