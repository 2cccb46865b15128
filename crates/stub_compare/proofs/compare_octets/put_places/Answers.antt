use Rattle.std.proofs.Common.{refl, arith}
use Rattle.stub_compare.specs.CompareText.{cells_text}
use Rattle.stub_compare.proofs.CompareOps.{led_same}
use Rattle.stub_compare.proofs.CompareLaying.{place_more, place_nothing, places_done, not_told, now_told}
use Rattle.stub_compare.proofs.compare_octets.put_places.Goals as goal

pub loop-place-init : goal.loop-place-init
loop-place-init c = led_same cells_text _ _

pub loop-place-preserved : goal.loop-place-preserved
loop-place-preserved c =
    place_more _ c.args.puts.now c.args.places.now c.loop-place.place-index _ _ _ _ c.loop-place-test.true refl c.loop-place.invariant
    (now_told _ _ _ c.if-not-told.false c.in_ok-told.ensures)

pub returns-then-not-told : goal.returns-then-not-told
returns-then-not-told c =
    place_nothing c.args.puts.now c.args.places.now c.loop-place.place-index _ _ _ _ c.loop-place-test.true refl c.loop-place.invariant
    (not_told _ _ _ c.if-not-told.true c.in_ok-told.ensures)

pub returns : goal.returns
returns c =
    places_done c.args.puts.now c.args.places.now c.loop-place.place-index _ _
    (omega (arith, c.loop-place-test.false)) c.loop-place.invariant
