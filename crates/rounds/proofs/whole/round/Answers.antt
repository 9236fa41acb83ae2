-- `rounds::whole::round`: from the untouched position on, the steps are the defined round. Assumes nothing.
use mathlib.Core.Path.{refl}
use Rattle.rounds.proofs.Ending.{fresh_going, rounded}
use Rattle.rounds.proofs.whole.round.Goals as goal

pub go_on-done-requires-clause-going : goal.go_on-done-requires-clause-going
go_on-done-requires-clause-going c = let a = c.args in fresh_going a.rows a.columns a.work.now _ c.requires.fresh

pub returns : goal.returns
returns c =
    let y = c.go_on-done in
    let a = c.args in
    λ g old st units room. rounded a.rows a.columns g old a.work.now a.openings_first a.list.now _ y.new.work y.new.list y.result
    st units room (y.ensures g _ old st) refl
