use Rattle.std.proofs.Common.{◌++◌, ◌<◌, ◌^◌, ap, sym, ◌∙◌, rules}
use Rattle.std.proofs.lemmas.Result.{on_ok_weaker}
use Rattle.stub_print.proofs.Numerals.{numeral_is}
use Rattle.stub_print.proofs.words.put_digits.Goals as goal

pub returns : goal.returns
returns c =
    let fits : c.args.n < 2 ^ 64 = search rules in
    let same = c.as_bytes.ensures.value ∙ c.format.ensures.text ∙ sym (numeral_is c.args.n fits) in
    on_ok_weaker c.append.result (λ e. e ∙ ap (λ z. c.args.out.now ++ z) same) c.append.ensures.ok
