use Rattle.std.proofs.Common.{◌≤◌, sym, subst, arith}
use Rattle.std.proofs.lemmas.Result.{IfOk-weaker}
use Rattle.kit_base.specs.Limits.{heaviest_blank}
use Rattle.mint.specs.declared.value.Value.{Value}
use Rattle.mint.specs.Typed.{IsOf}
use Rattle.mint.specs.Types.{type_at}
use Rattle.mint.specs.Values.{Val, seen, weight}
use Rattle.mint.proofs.Measuring.{sound_taken}
use Rattle.case_make.proofs.Typing.{drawn_is_of}
use Rattle.case_make.proofs.making.make_value.Goals as goal

pub returns-in-Ok-clause-typed : goal.returns-in-Ok-clause-typed
returns-in-Ok-clause-typed c =
    let ty = type_at c.args.mint.now c.args.id in
    let made = c.in-Ok.ensures.ok in
    record {
      is_of = subst (λ (v : Val). IsOf ty v) (sym made.value) (drawn_is_of ty (c.types_are_sound.ensures c.args.id) c.args.number);
      light = omega (arith, made.left);
    }

pub returns-in-Err-Heavy-clause-light : goal.returns-in-Err-Heavy-clause-light
returns-in-Err-Heavy-clause-light c =
    let ty = type_at c.args.mint.now c.args.id in
    let light = (sound_taken ty (c.types_are_sound.ensures c.args.id)).light in
    IfOk-weaker c.blank.result _ (λ (v : Value). weight (seen v) ≤ heaviest_blank) (λ (v : Value) e.
    subst (λ (w : Val). weight w ≤ heaviest_blank) (sym e) light) c.blank.ensures.value
