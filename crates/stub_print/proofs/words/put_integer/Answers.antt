use Rattle.std.proofs.Common.{◌++◌, ◌∷◌, ap, sym, ◌∙◌, rules, FitsSigned}
use Rattle.std.proofs.lemmas.Int.{to_z-of_z}
use Rattle.std.specs.Int.{w128}
use Rattle.std.specs.Fmt.{signed_decimal}
use Rattle.std.proofs.lemmas.Result.{on_ok_weaker}
use Rattle.stub_print.proofs.Numerals.{integer_is}
use Rattle.stub_print.proofs.words.put_integer.Goals as goal

pub returns : goal.returns
returns c =
    let fits : FitsSigned w128 c.args.n.now = search rules in
    let same = c.as_bytes.ensures.value ∙ c.format.ensures.text ∙ ap signed_decimal (to_z-of_z w128 c.args.n.now fits)
    ∙ sym (integer_is c.args.n.now fits) in
    on_ok_weaker c.put_word.result (λ h rest. ap (λ w. c.args.out.now ++ (32 ∷ (w ++ rest))) (sym same) ∙ h rest) c.put_word.ensures
