use Rattle.head_kit.proofs.Exact.{reported_head, reported_fault}
use Rattle.back_xdr.specs.Heads.{call, format}
use Rattle.back_xdr.specs.Reported.{call_reported}
use Rattle.back_xdr.proofs.Lawful.{heads_are_read}
use Rattle.back_xdr.proofs.call.read_call.Goals as goal

pub returns-clause-spells : goal.returns-clause-spells
returns-clause-spells c =
    rw (c.call_at.ensures, c.start.ensures.place, c.start.ensures.rest)
    (reported_head (format call) (heads_are_read call) call_reported c.args.message.now c.are_octets.ensures)

pub returns-clause-stops : goal.returns-clause-stops
returns-clause-stops c =
    rw (c.call_at.ensures, c.start.ensures.place, c.start.ensures.rest)
    (reported_fault (format call) (heads_are_read call) call_reported c.args.message.now c.are_octets.ensures)
