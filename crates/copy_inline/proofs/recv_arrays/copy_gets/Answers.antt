use Rattle.std.proofs.Common.{◌≡◌, map, ap, ◌∙◌, List, ℕ}
use Rattle.std.proofs.lemmas.Result.{IfOk-weaker}
use Rattle.cast_stub.specs.declared.recv.Get.{Get}
use Rattle.cast_stub.specs.RecvAppend.{get_rebased}
use Rattle.copy_inline.proofs.RecvRowEmitting.{same_gets}
use Rattle.copy_inline.proofs.recv_arrays.copy_gets.Goals as goal

pub returns : goal.returns
returns c =
    IfOk-weaker c.gets_after-2.result _ (λ (gs : List Get). gs ≡ c.args.gets.now)
    (λ (gs : List Get) e. e ∙ ap (λ (q : List ℕ). map (get_rebased q) c.args.gets.now) c.new.ensures ∙ same_gets c.args.gets.now)
    c.gets_after-2.ensures
