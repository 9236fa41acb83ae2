-- `random::take_place`: the candidate at the place is one of the choice, so its moves are the step's. Assumes nothing.
use Prim.Native.Nat.{◌*◌}
use Rattle.random.proofs.Takes.{picked_inside, took}
use borrow.Author.Rules.{rules}
use Rattle.random.proofs.take_place.Goals as goal

pub take-requires : goal.take-requires
take-requires c =
    record { shape = c.requires.shape; has_cells = (search rules, picked_inside _ _ _ _ _ c.requires.shape c.pick-index.ensures.value, search rules) }

pub returns : goal.returns
returns c =
    let a = c.args in
    let y = c.take in
    λ g s old st f tells l e. took g s a.work.now (a.rows * a.columns) a.top tells a.rows a.columns old a.list.now a.state a.place c.pick-index.result a.tops.now _
    y.new.work y.new.list y.new.tops y.result f l c.pick-index.ensures.value c.requires.tops_known.0 c.pick-index.ensures.units_len_unchanged.1 (λ k u z. y.ensures g s old st f k u z e)
