use Rattle.pres.proofs.Tabled.{text_before}
use Rattle.pres.proofs.items.put_texts.Goals as goal

pub loop-i-preserved : goal.loop-i-preserved
loop-i-preserved c =
    text_before c.args.items.now c.loop-i.i c.index-items-i.result c.index-items-i-in-loop-i.result c.as_slice.result.now
    c.loop-i.texts c.put_text.new.texts c.loop-i-test.true c.loop-i.invariant c.as_slice.ensures (λ s. c.in_ok-put_text.ensures s)
