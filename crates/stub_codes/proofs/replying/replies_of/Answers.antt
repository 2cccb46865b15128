use Rattle.std.proofs.Common.{◌≡◌, ℕ, [], ◌∷◌, length, ap, sym, subst, arith, length-append}
use Rattle.stub_codes.proofs.Chained.{AreKept, IsKept, one_reply_more, kept_replies, kept_arms}
use Rattle.stub_codes.proofs.replying.replies_of.Goals as goal

pub loop-i-preserved : goal.loop-i-preserved
loop-i-preserved c =
    let b = c.args.bound.now in
    let xs = c.loop-i.codes in
    let x = c.in_ok-arm_code-in-Ok.field-0 in
    let list = c.in_ok-push-in-Ok.ensures.ok in
    let mine = subst (λ (n : ℕ). IsKept b c.args.minor c.args.op n x) c.in-Ok.ensures.1 c.in_ok-arm_code-in-Ok.ensures in
    record {
      many = omega (arith, ap length list, length-append xs (x ∷ []), c.loop-i.invariant.many);
      each = subst (AreKept b c.args.minor c.args.op) (sym list)
          (one_reply_more b c.args.minor c.args.op xs x c.loop-i.i c.loop-i.invariant.many c.loop-i.invariant.each mine);
    }

pub returns-clause-each : goal.returns-clause-each
returns-clause-each c =
    let n = length c.arms_of.result.now in
    let many : length c.loop-i.codes ≡ n =
    omega (arith, c.loop-i.invariant.many, c.loop-i.auto.i-end, c.loop-i-test.false, c.len-i-end.ensures) in
    kept_replies c.args.bound.now c.args.minor c.args.op c.loop-i.codes n many c.arms_of.ensures.many c.loop-i.invariant.each

pub returns-clause-arms : goal.returns-clause-arms
returns-clause-arms c =
    let n = length c.arms_of.result.now in
    let many : length c.loop-i.codes ≡ n =
    omega (arith, c.loop-i.invariant.many, c.loop-i.auto.i-end, c.loop-i-test.false, c.len-i-end.ensures) in
    kept_arms c.args.bound.now c.args.minor c.args.op c.loop-i.codes n many c.arms_of.ensures.many
