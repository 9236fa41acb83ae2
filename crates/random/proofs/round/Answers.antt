-- `random::round`: at first nothing is kept of the columns. Assumes nothing.
use mathlib.Core.Bool.{false}
use Rattle.rounds.proofs.Columns.{no_units_kept, none_kept}
use Rattle.random.proofs.round.Goals as goal

pub roll_on-requires : goal.roll_on-requires
roll_on-requires c =
    let a = c.args in
    let few = c.requires.shape.few_columns in
    record { shape = c.requires.shape; has_cells = c.requires.has_cells; fresh = c.requires.fresh; key_room = c.requires.key_room; tops_known = (none_kept false a.work.now a.rows a.columns 255 few, no_units_kept a.work.now a.rows a.columns 255 _ few) }

pub returns : goal.returns
returns c = c.roll_on.ensures
