use Rattle.std.proofs.Common.{ap, sym, ◌∙◌}
use Rattle.aoi.specs.Plain.{plain_interface}
use Rattle.head_kit.specs.Calls.{operation_at}
use Rattle.head_kit.proofs.Named.{named_here}
use Rattle.back_cdr.specs.Targets.{ops_of}
use Rattle.back_cdr.specs.Seeking.{has_key, has_name}
use Rattle.back_cdr.proofs.seek.seek.Goals as goal

pub returns-then-has_key : goal.returns-then-has_key
returns-then-has_key c =
    let here = named_here ops_of (has_key c.args.key.now) (λ i. has_name c.args.name.now) plain_interface c.loop-i.first
    c.loop-i.i-index c.args.interfaces.now c.i-item.result c.loop-i-test.true c.i-item.is (sym c.has_key.ensures ∙ c.if-has_key.true) in
    c.operation_at.ensures ∙ ap operation_at c.place_of.ensures ∙ sym here ∙ sym c.loop-i.invariant.left
