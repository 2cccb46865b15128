use Rattle.std.proofs.Common.{ℕ, length}
use Rattle.head_kit.proofs.Exact.{reported_head, reported_fault}
use Rattle.back_mach.specs.Heads.{call, format}
use Rattle.back_mach.specs.Reported.{call_reported}
use Rattle.back_mach.proofs.Lawful.{heads_are_read}
use Rattle.back_mach.proofs.call.read_call.Goals as goal

pub returns-clause-spells : goal.returns-clause-spells
returns-clause-spells c =
    let n : ℕ = length c.args.message.now in
    rw (c.call_at.ensures, c.start.ensures.place, c.start.ensures.rest)
    (reported_head (format call n) (heads_are_read call n) call_reported c.args.message.now c.are_octets.ensures)

pub returns-clause-stops : goal.returns-clause-stops
returns-clause-stops c =
    let n : ℕ = length c.args.message.now in
    rw (c.call_at.ensures, c.start.ensures.place, c.start.ensures.rest)
    (reported_fault (format call n) (heads_are_read call n) call_reported c.args.message.now c.are_octets.ensures)
