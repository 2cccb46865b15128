use Rattle.std.proofs.Common.{ℕ, length}
use Rattle.head_kit.proofs.Exact.{told_head, told_fault}
use Rattle.giop_head.specs.declared.header.HeadKind.TheVariants.{Asks}
use Rattle.giop_head.specs.Heads.{format}
use Rattle.giop_head.specs.Reported.{call_seen, call_reported}
use Rattle.giop_head.proofs.Lawful.{heads_are_read}
use Rattle.giop_head.proofs.call.read_call.Goals as goal

pub returns-clause-spells : goal.returns-clause-spells
returns-clause-spells c =
    let n : ℕ = length c.args.message.now in
    told_head (format Asks n) (heads_are_read Asks n) call_reported call_seen c.args.message.now c.are_octets.ensures
    c.call_at.result (rw (c.start.ensures.place, c.start.ensures.rest) at c.call_at.ensures.read)

pub returns-clause-stops : goal.returns-clause-stops
returns-clause-stops c =
    let n : ℕ = length c.args.message.now in
    told_fault (format Asks n) (heads_are_read Asks n) call_reported call_seen c.args.message.now c.are_octets.ensures
    c.call_at.result (rw (c.start.ensures.place, c.start.ensures.rest) at c.call_at.ensures.read)
