use Rattle.std.proofs.Common.{ℕ, length}
use Rattle.head_kit.proofs.Exact.{told_head, told_fault}
use Rattle.giop_head.specs.declared.header.HeadKind.TheVariants.{Replies}
use Rattle.giop_head.specs.Heads.{format}
use Rattle.giop_head.specs.Reported.{reply_seen, reply_reported}
use Rattle.giop_head.proofs.Lawful.{heads_are_read}
use Rattle.giop_head.proofs.reply.read_reply.Goals as goal

pub returns-clause-spells : goal.returns-clause-spells
returns-clause-spells c =
    let n : ℕ = length c.args.message.now in
    told_head (format Replies n) (heads_are_read Replies n) reply_reported reply_seen c.args.message.now c.are_octets.ensures
    c.reply_at.result (rw (c.start.ensures.place, c.start.ensures.rest) at c.reply_at.ensures)

pub returns-clause-stops : goal.returns-clause-stops
returns-clause-stops c =
    let n : ℕ = length c.args.message.now in
    told_fault (format Replies n) (heads_are_read Replies n) reply_reported reply_seen c.args.message.now c.are_octets.ensures
    c.reply_at.result (rw (c.start.ensures.place, c.start.ensures.rest) at c.reply_at.ensures)
