use Rattle.std.proofs.Common.{refl}
use Rattle.flick_top.proofs.Coding.{replies-left}
use Rattle.flick_top.proofs.Completing.{completes}
use Rattle.flick_top.proofs.Reading.{needs-items, yes-left}
use Rattle.flick_top.proofs.Tasking.{shapeless-work, work-of}
use Rattle.flick_top.proofs.top.flick.Goals as goal

pub returns-in_default-clause-work : goal.returns-in_default-clause-work
returns-in_default-clause-work g c = λ files reported.
    rw c.number.ensures
    (shapeless-work _ c.args.words.now files _ _ _ _ refl (cc (c.command_of.ensures.value, c.in_default.is)))

pub returns-in-Ok-clause-completes : goal.returns-in-Ok-clause-completes
returns-in-Ok-clause-completes g c =
    rw c.number-in-Ok.ensures
    (completes _ _ _ _ _ c.perform-status.result c.perform-status.ensures.more c.perform-status.ensures.source
    c.perform-status.ensures.sink c.perform-status.ensures.shelf)

pub returns-in-Ok-clause-work : goal.returns-in-Ok-clause-work
returns-in-Ok-clause-work g c = λ files reported.
    let (f, all) = c.items_are_answered.ensures in
    rw c.number-in-Ok.ensures
    (work-of c.args.words.now files c.into_engine.result c.in-Ok.prepared f _ _ _ _ _ _ _ _ _ _ _ _ c.command_of.ensures.value c.in-Some.is
    c.into_engine.ensures all (c.in-Ok.ensures.comes files reported)
    (c.perform-status.ensures.done f all c.codes_match_operations.ensures))

pub returns-in-Ok-clause-reads : goal.returns-in-Ok-clause-reads
returns-in-Ok-clause-reads g c =
    let (f, all) = c.items_are_answered.ensures in
    rw c.number-in-Ok.ensures
    (needs-items 4 c.args.words.now _ _ c.in-Ok.prepared.feed _ c.command_of.ensures.value c.in-Some.is c.in-Ok.ensures.items
    (λ none. ((c.perform-status.ensures.done f all c.codes_match_operations.ensures).unread none).2))

pub returns-in-Ok-clause-exceeds : goal.returns-in-Ok-clause-exceeds
returns-in-Ok-clause-exceeds g c =
    let (f, all) = c.items_are_answered.ensures in
    rw c.number-in-Ok.ensures
    (needs-items 8 c.args.words.now _ _ c.in-Ok.prepared.feed _ c.command_of.ensures.value c.in-Some.is c.in-Ok.ensures.items
    (λ none. ((c.perform-status.ensures.done f all c.codes_match_operations.ensures).unread none).3))

pub returns-in-Ok-clause-yes : goal.returns-in-Ok-clause-yes
returns-in-Ok-clause-yes g c =
    yes-left c.args.words.now _ _ c.in-Ok.prepared.feed _ _ c.command_of.ensures.value c.in-Some.is c.in-Ok.ensures.items
    c.into_engine.ensures c.yes_is_sent.ensures

pub returns-in-Ok-clause-replies : goal.returns-in-Ok-clause-replies
returns-in-Ok-clause-replies g c =
    replies-left c.args.words.now _ _ _ _ c.command_of.ensures.value c.in-Some.is c.into_engine.ensures c.in-Ok.ensures.replies
