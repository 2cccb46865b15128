use Rattle.head_kit.proofs.Exact.{reported_head, reported_fault}
use Rattle.back_xdr.specs.Heads.{reply, format}
use Rattle.back_xdr.specs.Reported.{reply_reported}
use Rattle.back_xdr.proofs.Lawful.{heads_are_read}
use Rattle.back_xdr.proofs.reply.read_reply.Goals as goal

pub returns-clause-spells : goal.returns-clause-spells
returns-clause-spells c =
    rw (c.reply_at.ensures, c.start.ensures.place, c.start.ensures.rest)
    (reported_head (format (reply c.args.arms)) (heads_are_read (reply c.args.arms)) reply_reported
    c.args.message.now c.are_octets.ensures)

pub returns-clause-stops : goal.returns-clause-stops
returns-clause-stops c =
    rw (c.reply_at.ensures, c.start.ensures.place, c.start.ensures.rest)
    (reported_fault (format (reply c.args.arms)) (heads_are_read (reply c.args.arms)) reply_reported
    c.args.message.now c.are_octets.ensures)
