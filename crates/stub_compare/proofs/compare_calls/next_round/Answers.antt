use Rattle.stub_compare.proofs.CompareNoted.{round_found, round_absent}
use Rattle.stub_compare.proofs.compare_calls.next_round.Goals as goal

pub returns-then-told-clause-found : goal.returns-then-told-clause-found
returns-then-told-clause-found c =
    round_found _ _ c.args.nodes.now _ _ _ c.if-told.true c.in_ok-next.ensures.items c.note_known-told.ensures.noted

pub returns-else-told-clause-found : goal.returns-else-told-clause-found
returns-else-told-clause-found c =
    round_absent _ _ c.args.nodes.now _ _ _ c.if-told.false c.in_ok-next.ensures.items c.note_known-told.ensures.noted
