use Rattle.std.proofs.Common.{ℕ, sym, subst, length, zero-add}
use Rattle.head_kit.specs.declared.call_head.CallTarget.{CallTarget}
use Rattle.head_kit.specs.Calls.{IsBelow}
use Rattle.back_xdr.specs.Procedures.{procedures}
use Rattle.back_xdr.specs.Seeking.{named}
use Rattle.back_xdr.proofs.Named.{named_below}
use Rattle.back_xdr.proofs.seek.named.Goals as goal

pub returns-clause-below : goal.returns-clause-below
returns-clause-below c =
    let b = c.args.bound.now in
    let below : IsBelow (length (procedures b.unit.interfaces)) (named b c.args.call.now) =
    rw zero-add at (named_below 0 b.unit.interfaces c.args.call.now) in
    let few = subst (λ (n : ℕ). IsBelow n (named b c.args.call.now)) c.operations_are_procedures.ensures.many below in
    subst (λ (x : CallTarget). IsBelow (length b.ops) x) (sym c.seek.ensures) few
