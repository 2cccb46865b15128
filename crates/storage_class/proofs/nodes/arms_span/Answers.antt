use Rattle.std.proofs.Common.{◌≡◌, ◌-◌, suc, arith, pos}
use Rattle.storage_class.proofs.Known.{arm_before}
use Rattle.storage_class.proofs.nodes.arms_span.Goals as goal

pub loop-i-preserved : goal.loop-i-preserved
loop-i-preserved c =
    let next : c.loop-i.i ≡ suc (c.loop-i.i - 1) = omega arith in
    let rest = rw next at c.loop-i.invariant in
    let known = rw (← c.as_slice-arms.ensures) at c.requires.arms in
    rw c.either-widest.ensures (arm_before c.args.enc c.args.mint.now c.args.known.now.spans c.as_slice-arms.result.now c.args.other
    (c.loop-i.i - 1) (pos 0, 0) c.span-in-loop-i.result c.loop-i.widest known c.requires.known (omega arith) c.span-in-loop-i.ensures rest)
