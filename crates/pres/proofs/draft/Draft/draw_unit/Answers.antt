use Rattle.std.proofs.Common.{◌∙◌, ◌++◌, ap, map}
use Rattle.aoi.specs.Plain.{plain_interface}
use Rattle.pres.specs.Made.{made_in_interfaces}
use Rattle.pres.specs.Drafts.{drawn, known, Grows}
use Rattle.pres.proofs.Drawn.{on_ok, handed_on, overflows_more}
use Rattle.pres.proofs.Whole.{all_nodes, types_first, all_offers, types_count, types_drawn}
use Rattle.pres.proofs.draft.Draft.draw_unit.Goals as goal

pub returns-in_err-draw_types-clause-cause : goal.returns-in_err-draw_types-clause-cause
returns-in_err-draw_types-clause-cause c =
    let e = c.in_err-draw_types.field-0.0 in
    handed_on _ e _ c.from_residual.ensures.1
    (overflows_more _ _ e (rw (c.as_slice.ensures, c.types.ensures) at c.in_err-draw_types.ensures.cause)
    (types_first c.args.unit.now c.args.back))

pub draw_types-requires-clause-drawable : goal.draw_types-requires-clause-drawable
draw_types-requires-clause-drawable c = rw (c.as_slice.ensures, c.types.ensures) (types_drawn c.args.unit.now c.requires.drawable.types)

pub draw_interfaces-requires-clause-interfaces : goal.draw_interfaces-requires-clause-interfaces
draw_interfaces-requires-clause-interfaces c =
    let types = rw (c.as_slice.ensures, c.types.ensures) at c.in_ok-draw_types.ensures.types in
    rw (types, types_count c.args.unit.now, c.as_slice-2.ensures, c.interfaces.ensures) c.requires.drawable.interfaces

pub returns-clause-nodes : goal.returns-clause-nodes
returns-clause-nodes c =
    let u = c.args.unit.now in
    let nodes = rw (c.as_slice.ensures, c.types.ensures) at c.in_ok-draw_types.ensures.nodes in
    let types = rw (c.as_slice.ensures, c.types.ensures) at c.in_ok-draw_types.ensures.types in
    let all =
    ap (λ z.
    drawn c.draw_types.new.self ++ made_in_interfaces (known c.draw_types.new.self) c.args.back (map plain_interface z))
    (c.as_slice-2.ensures ∙ c.interfaces.ensures) ∙ all_nodes u c.args.back _ _ nodes types in
    on_ok _ _ _ (λ (g : Grows _ _ _). g.nodes ∙ all) c.draw_interfaces.ensures.grows

pub returns-clause-offers : goal.returns-clause-offers
returns-clause-offers c =
    let u = c.args.unit.now in
    let types = rw (c.as_slice.ensures, c.types.ensures) at c.in_ok-draw_types.ensures.types in
    rw (← all_offers u c.args.back _ types, ← c.interfaces.ensures, ← c.as_slice-2.ensures) c.draw_interfaces.ensures.offers

pub returns-clause-cause : goal.returns-clause-cause
returns-clause-cause c =
    let u = c.args.unit.now in
    let nodes = rw (c.as_slice.ensures, c.types.ensures) at c.in_ok-draw_types.ensures.nodes in
    let types = rw (c.as_slice.ensures, c.types.ensures) at c.in_ok-draw_types.ensures.types in
    let all =
    ap (λ z.
    drawn c.draw_types.new.self ++ made_in_interfaces (known c.draw_types.new.self) c.args.back (map plain_interface z))
    (c.as_slice-2.ensures ∙ c.interfaces.ensures) ∙ all_nodes u c.args.back _ _ nodes types in
    rw (← all) c.draw_interfaces.ensures.cause
