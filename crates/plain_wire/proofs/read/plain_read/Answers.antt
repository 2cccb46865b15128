use Rattle.std.proofs.Common.{arith, ◌+◌, ◌≤◌, length, length-drop, ap}
use Rattle.mint.specs.Types.{type_at}
use Rattle.plain_wire.proofs.Exact.{value_is_value, stop_no_value, stop_is_stop}
use Rattle.plain_wire.proofs.read.plain_read.Goals as goal

pub returns-in-Ok-clause-value : goal.returns-in-Ok-clause-value
returns-in-Ok-clause-value c =
    let o = c.octets_from-rest.result.now in
    let short : c.args.pos + length o ≤ 4194304 =
    omega (
      arith,
      ap length c.octets_from-rest.ensures.rest,
      length-drop c.args.pos c.args.message.now,
      c.requires.within,
      c.requires.short,
    ) in
    let exact = value_is_value c.args.enc (c.reading_is_a_grammar.ensures.grammar c.args.enc) (type_at c.args.mint.now c.args.id)
    c.args.pos o (c.reading_is_a_grammar.ensures.typed c.args.enc) (c.bodies_are_light.ensures c.args.enc) c.in-Some.ensures.sound
    c.octets_from-rest.ensures.octets short _ _ _ c.in-Ok.ensures in
    rw (← c.octets_from-rest.ensures.rest) exact

pub returns-in-Err-Stop-clause-value : goal.returns-in-Err-Stop-clause-value
returns-in-Err-Stop-clause-value c =
    let exact = stop_no_value c.args.enc (c.reading_is_a_grammar.ensures.grammar c.args.enc) (type_at c.args.mint.now c.args.id)
    c.args.pos c.octets_from-rest.result.now c.in-Err-Stop.fault.kind c.in-Err-Stop.fault.at
    (rw c.in-Err-Stop.field-0-is at c.in-Err-Stop.ensures) in
    rw (← c.octets_from-rest.ensures.rest) exact

pub returns-in-Err-Stop-clause-stop : goal.returns-in-Err-Stop-clause-stop
returns-in-Err-Stop-clause-stop c =
    let exact = stop_is_stop c.args.enc (c.reading_is_a_grammar.ensures.grammar c.args.enc) (type_at c.args.mint.now c.args.id) c.args.pos
    c.octets_from-rest.result.now c.octets_from-rest.ensures.octets c.in-Err-Stop.fault.kind c.in-Err-Stop.fault.at
    (rw c.in-Err-Stop.field-0-is at c.in-Err-Stop.ensures) in
    rw (← c.octets_from-rest.ensures.rest) exact
