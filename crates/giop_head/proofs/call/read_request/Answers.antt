use Rattle.std.proofs.Common.{ℕ, length}
use Rattle.head_kit.proofs.Exact.{told_head, told_fault}
use Rattle.giop_head.specs.declared.header.HeadKind.TheVariants.{Requests}
use Rattle.giop_head.specs.Heads.{format}
use Rattle.giop_head.specs.Reported.{request_seen, request_reported}
use Rattle.giop_head.proofs.Lawful.{heads_are_read}
use Rattle.giop_head.proofs.call.read_request.Goals as goal

pub returns-clause-spells : goal.returns-clause-spells
returns-clause-spells c =
    let n : ℕ = length c.args.message.now in
    told_head (format Requests n) (heads_are_read Requests n) request_reported request_seen c.args.message.now c.are_octets.ensures
    c.request_at.result (rw (c.start.ensures.place, c.start.ensures.rest) at c.request_at.ensures.read)

pub returns-clause-stops : goal.returns-clause-stops
returns-clause-stops c =
    let n : ℕ = length c.args.message.now in
    told_fault (format Requests n) (heads_are_read Requests n) request_reported request_seen c.args.message.now c.are_octets.ensures
    c.request_at.result (rw (c.start.ensures.place, c.start.ensures.rest) at c.request_at.ensures.read)
