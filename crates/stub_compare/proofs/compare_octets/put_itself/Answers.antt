use Rattle.stub_compare.proofs.CompareTexts.{own_all, own_done, own_more}
use Rattle.stub_compare.proofs.compare_octets.put_itself.Goals as goal

pub loop-j-init : goal.loop-j-init
loop-j-init c = own_all c.args.width c.args.order _ _ c.requires c.is_big-turned.ensures

pub loop-j-preserved : goal.loop-j-preserved
loop-j-preserved c =
    own_more _ _ _ c.loop-j.j _ _ _ _ c.loop-j-test.true c.turned_at.ensures.value c.loop-j.invariant c.in_ok-put_own.ensures

pub returns : goal.returns
returns c = own_done _ _ _ c.loop-j.j _ _ c.loop-j-test.false c.loop-j.invariant
