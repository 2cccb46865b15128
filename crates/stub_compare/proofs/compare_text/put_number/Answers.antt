use Rattle.std.proofs.lemmas.Result.{on_ok_weaker}
use Rattle.stub_compare.proofs.CompareTexts.{put_one}
use Rattle.stub_compare.proofs.compare_text.put_number.Goals as goal

pub returns : goal.returns
returns c = on_ok_weaker c.push.result (put_one c.args.out.now _ c.args.n) c.push.ensures.ok
