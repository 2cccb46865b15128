use Rattle.std.proofs.lemmas.Result.{on_ok_weaker}
use Rattle.stub_places.specs.Sets.{set_of}
use Rattle.stub_compare.proofs.CompareArms.{zeros_put, multiple_put}
use Rattle.stub_compare.proofs.compare_items.put_pad.Goals as goal

pub returns-then-size-eq1 : goal.returns-then-size-eq1
returns-then-size-eq1 c =
    on_ok_weaker c.put_zeros.result (zeros_put c.args.a (set_of c.args.set.now) c.size.result c.single.result c.gap.result
    c.args.out.now c.put_zeros.new.out c.size.ensures.is c.if-size-eq1.true c.single.ensures c.gap.ensures.is)
    c.put_zeros.ensures

pub returns-in_ok-put_number : goal.returns-in_ok-put_number
returns-in_ok-put_number c =
    on_ok_weaker c.put_number-else-size-eq1.result (multiple_put c.args.a (set_of c.args.set.now) c.size.result c.args.out.now
    c.put_number.new.out c.put_number-else-size-eq1.new.out c.size.ensures.is c.if-size-eq1.false c.in_ok-put_number.ensures)
    c.put_number-else-size-eq1.ensures
