use Rattle.std.proofs.Common.{◌∙◌, sym, length, arith}
use Rattle.idl_read.specs.Reading.{begins_with, mark_is, mark_at, after, joined_at}
use Rattle.idl_read.proofs.Loops.{goes_on}
use Rattle.idl_read.proofs.nested.joined_nested.Goals as goal

pub items-preserved : goal.items-preserved
items-preserved g c =
    let within = g.T.Nested.within in
    rw c.in_ok-push-2.ensures.ok
    (goes_on (begins_with (mark_is c.args.between.now)) (after (mark_at c.args.between.now) (within c.args.levels))
    (length c.in_ok-first.rest.now) c.items.counter c.items.items c.items.rest.now
    (joined_at c.args.between.now (within c.args.levels) c.args.tokens.now) c.in_ok-item.item c.in_ok-item.tail.now c.items.invariant
    (omega arith) (sym c.begins_mark.ensures ∙ c.if-not-begins_mark.false) c.in_ok-item.ensures)
