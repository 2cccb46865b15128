use Rattle.std.proofs.Common.{◌++◌, ◌∷◌, ap, sym, ◌∙◌, arith}
use Rattle.std.proofs.lemmas.Result.{on_ok_weaker}
use Rattle.stub_print.specs.Words.{points}
use Rattle.stub_print.proofs.Putting.{appended_after}
use Rattle.stub_print.proofs.Read.{path_alone, path_points}
use Rattle.stub_print.proofs.words.put_path.Goals as goal

pub returns-then-len-eq0 : goal.returns-then-len-eq0
returns-then-len-eq0 c =
    let alone = path_alone c.args.path.now (omega (arith, c.len.ensures, c.if-len-eq0.true)) in
    on_ok_weaker c.put_word.result (λ h rest. ap (λ w. c.args.out.now ++ (32 ∷ (w ++ rest))) (sym alone) ∙ h rest) c.put_word.ensures

pub returns : goal.returns
returns c =
    let whole = ap points c.as_slice.ensures ∙ path_points c.args.path.now (λ e. c.if-len-eq0.false (c.len.ensures ∙ e)) in
    on_ok_weaker c.put_points.result (λ e rest. ap (λ w. c.args.out.now ++ (32 ∷ (w ++ rest))) (sym whole)
    ∙ appended_after c.args.out.now _ c.put_points.new.out 32 _ c.in_ok-push.ensures.ok e rest) c.put_points.ensures
