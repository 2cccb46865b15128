use Rattle.std.proofs.Common.{sym, subst, arith}
use Rattle.std.proofs.lemmas.List.{get_or_default}
use Rattle.demux.specs.Edges.{IsRising}
use Rattle.demux.proofs.Searched.{goal_at, goal_in_gap}
use Rattle.demux.proofs.edges.Edges.goal.Goals as goal

-- the word is at its place, and the pair there is the one that was read
pub returns-in-Ok : goal.returns-in-Ok
returns-in-Ok c =
    let leads = goal_at _ (subst IsRising c.self.view_is c.self.invariant) _ _ c.in-Ok.ensures.found in
    let read = get_or_default _ _ c.index.result.now (0, 0) c.in-Ok.ensures.found.in_range in
    grind (arith, c.self.view_is)

-- the word is not there
pub returns-in-Err : goal.returns-in-Err
returns-in-Err c = sym (goal_in_gap _ _ _ c.in-Err.ensures.absent)
