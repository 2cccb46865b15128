use Rattle.std.proofs.Common.{refl, ◌∙◌}
use Rattle.demux.proofs.Finding.{finds_none, finds_all, found_before}
use Rattle.demux.proofs.picking.put_places.Goals as goal

pub loop-place-init : goal.loop-place-init
loop-place-init c = finds_none _ _ _ refl c.requires.tree c.requires.empty

pub loop-place-preserved : goal.loop-place-preserved
loop-place-preserved c =
    found_before c.args.names.now c.loop-place.place _ c.as_slice.result.now c.loop-place.nodes.items c.put_place.new.nodes.items
    c.loop-place-test.true c.loop-place.invariant (c.as_slice.ensures ∙ c.index-names-place.is) c.in_ok-put_place.ensures.tree
    c.in_ok-put_place.ensures.found

pub returns : goal.returns
returns c = finds_all _ _ _ c.loop-place-test.false c.loop-place.invariant
