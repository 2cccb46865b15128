use Rattle.std.proofs.Common.{◌+◌, ap, arith, length}
use Rattle.std.proofs.lemmas.List.{length-take, length-drop}
use Rattle.back_cdr.proofs.Coding.{three_seen}
use Rattle.back_cdr.proofs.leads.chunks_of.Goals as goal

pub constant-requires : goal.constant-requires
constant-requires c = omega (arith, ap length c.in_ok-before_id.ensures, length-take c.args.place c.args.octets.now, c.requires.few)

pub constant-requires-2 : goal.constant-requires-2
constant-requires-2 c = omega (arith, ap length c.in_ok-after.ensures, length-drop (c.args.place + 4) c.args.octets.now, c.requires.few)

pub returns : goal.returns
returns c =
    rw (c.in_ok-push-3.ensures.ok, c.in_ok-push-2.ensures.ok, c.in_ok-push.ensures.ok, c.in_ok-ops.ensures)
    (three_seen c.in_ok-constant.field-0 c.in_ok-id.field-0 c.in_ok-constant-2.field-0 c.args.order c.args.place c.args.octets.now
    c.in_ok-before_id.field-0 c.in_ok-after.field-0 c.requires.many c.in_ok-before_id.ensures c.in_ok-after.ensures c.in_ok-constant.ensures
    c.in_ok-id.ensures c.in_ok-constant-2.ensures)
