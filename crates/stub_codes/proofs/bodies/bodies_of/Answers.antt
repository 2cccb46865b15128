use Rattle.std.proofs.Common.{◌≡◌, ℕ, [], ◌∷◌, Some, length, ap, sym, subst, arith, length-append}
use Rattle.cast_stub.specs.declared.send.SendCode.{SendCode}
use Rattle.stub_codes.specs.Lowered.{AreBodies, IsBody}
use Rattle.stub_codes.proofs.Uncalled.{one_body_more}
use Rattle.stub_codes.proofs.bodies.bodies_of.Goals as goal

pub loop-i-preserved : goal.loop-i-preserved
loop-i-preserved c =
    let all = c.args.subs.now in
    let xs = c.loop-i.bodies in
    let x = c.in_ok-body-in-Ok.body in
    let list = c.in_ok-push-in-Ok.ensures.ok in
    let mine = subst (λ (n : ℕ). (code : SendCode) → x ≡ Some code → IsBody all n code) c.in-Ok.ensures.1 c.in_ok-body-in-Ok.ensures in
    record {
      many = omega (arith, ap length list, length-append xs (x ∷ []), c.loop-i.invariant.many);
      each = subst (AreBodies all) (sym list) (one_body_more all xs x c.loop-i.i c.loop-i.invariant.many c.loop-i.invariant.each mine);
    }
