-- `random_search_call::end_search`: by the case that it is. Assumes nothing.
use Prim.Native.Nat.{ℕ, ◌*◌}
use mathlib.Core.Path.{subst, sym}
use lib.IntN.{pos}
use Rattle.clears.specs.Clearing.{Cleared}
use Rattle.random_search_call.proofs.Searching.{search_dry, search_ended}
use Rattle.random_search_call.proofs.end_search.Goals as goal

pub returns-in-Some : goal.returns-in-Some
returns-in-Some c =
    let a = c.args in
    λ g origin o old e h p. search_ended a.rows a.columns g origin old a.work.now c.settle.new.work a.finish o _ c.in-Some.is (λ s q. c.settle.ensures g s old e h q) p

pub returns-in-None : goal.returns-in-None
returns-in-None c =
    let a = c.args in
    λ g origin o old e h p.
    search_dry a.rows a.columns g origin old a.work.now c.clear_area.new.work a.finish o h c.in-None.is
    (subst (λ (n : ℕ). Cleared (pos 0) (5 * n) a.work.now c.clear_area.new.work) (sym e) c.clear_area.ensures) p
