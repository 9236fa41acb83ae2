-- `replay::clicks::click_square`: the cells passed were clicked one after the other. Assumes nothing.
use Rattle.squares.proofs.Going.{Going}
use Rattle.replay.specs.Clicks.{Clicked}
use Rattle.replay.proofs.clicks.click_square.Given as goal

abbrev pub invariant-loop-near : goal.invariant-loop-near
invariant-loop-near l = Going l.rows l.columns l.index l.yielded l.near-iterator × Clicked l.rows l.columns l.mines l.initial.work l.yielded l.initial.so l.so l.work
