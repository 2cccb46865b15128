use Rattle.std.proofs.Common.{Result, Ok, Err}
use Rattle.std.specs.Prelude.{OnErr}
use Rattle.kit_base.specs.declared.errors.NoMemory.{NoMemory}
use Rattle.mint.specs.Types.{type_at}
use Rattle.mint.specs.Values.{seen}
use Rattle.wire_def.specs.Send.{send}
use Rattle.plain_wire.specs.Sending.{IsPrefixed}
use Rattle.plain_wire.proofs.Steps.{appended}
use Rattle.plain_wire.proofs.send.plain_send.Goals as goal

on_err : {P : Type 0} (r : Result (Unit {0}) NoMemory) → P → OnErr r P
on_err (Ok x) h = tt
on_err (Err e) h = h

pub returns-in_err-put_value-clause-err : goal.returns-in_err-put_value-clause-err
returns-in_err-put_value-clause-err c =
    let o = send c.args.enc (type_at c.args.mint.now c.args.id) c.args.pos (seen c.args.value.now) in
    let cut = c.in_err-put_value.ensures in
    let prefix : IsPrefixed c.args.out.now c.put_value.new.out o = appended c.args.out.now c.put_value.new.out o cut.0 cut.1 cut.2 in
    (on_err c.from_residual.result prefix)
