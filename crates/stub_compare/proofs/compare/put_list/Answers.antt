use Rattle.std.proofs.Common.{◌<◌, ◌≤◌, length, get_or, None, refl, ap, arith}
use Rattle.stub_compare.specs.CompareText.{list_text}
use Rattle.stub_compare.proofs.CompareOps.{led_same}
use Rattle.stub_compare.proofs.ComparePuts.{list_more, list_nothing, list_done}
use Rattle.stub_compare.proofs.compare.put_list.Goals as goal

pub loop-i-init : goal.loop-i-init
loop-i-init c = led_same list_text _ _

pub loop-i-preserved : goal.loop-i-preserved
loop-i-preserved c =
    let known = c.args.spots.now in
    let i = c.loop-i.i in
    let short : i < length known = omega (arith, c.requires, ap length c.as_slice-body-items.ensures, c.loop-i-test.true) in
    list_more c.args.mint.now c.as_slice-body-items.result.now known i c.body-item.result (get_or known i None) c.in_ok-told.told
    c.args.out.now c.loop-i.out c.put_body.new.out c.loop-i-test.true short c.body-item.is refl c.if-not-told.false
    c.loop-i.invariant c.in_ok-told.ensures

pub returns-then-not-told : goal.returns-then-not-told
returns-then-not-told c =
    let known = c.args.spots.now in
    let i = c.loop-i.i in
    let short : i < length known = omega (arith, c.requires, ap length c.as_slice-body-items.ensures, c.loop-i-test.true) in
    list_nothing c.args.mint.now c.as_slice-body-items.result.now c.args.subs.now known i c.body-item.result (get_or known i None)
    c.in_ok-told.told c.args.out.now c.loop-i.out c.put_body.new.out c.loop-i-test.true short c.body-item.is refl c.if-not-told.true
    c.as_slice-body-items.ensures c.loop-i.invariant c.in_ok-told.ensures

pub returns : goal.returns
returns c =
    let known = c.args.spots.now in
    let short : length known ≤ c.loop-i.i = omega (arith, c.requires, ap length c.as_slice-body-items.ensures, c.loop-i-test.false) in
    list_done c.args.mint.now c.as_slice-body-items.result.now c.args.subs.now known c.loop-i.i c.args.out.now c.loop-i.out
    c.put_number.new.out (omega (arith, c.loop-i-test.false)) short c.as_slice-body-items.ensures c.loop-i.invariant
    c.in_ok-put_number.ensures
