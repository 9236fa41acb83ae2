-- `mine_bits::set_new`: by whether the bit is set. Assumes nothing.
use mathlib.Core.Path.{ap, refl, sym, ◌∙◌}
use mathlib.Core.Bool.{not}
use borrow.Author.Rules.{rules}
use Rattle.mine_bits.proofs.set_new.Goals as goal

pub returns-then-is_set : goal.returns-then-is_set
returns-then-is_set c = record { answers = ap not (sym c.if-is_set.true ∙ c.is_set.ensures); leaves = refl }

pub set_bit-requires : goal.set_bit-requires
set_bit-requires c = (search rules, sym c.is_set.ensures ∙ c.if-is_set.false)

pub returns : goal.returns
returns c =
    record { answers = ap not (sym c.if-is_set.false ∙ c.is_set.ensures); leaves = c.set_bit.ensures }
