use Rattle.std.proofs.Common.{◌≡◌, ◌≢◌, sym, ap, ◌∙◌, length, Some}
use Rattle.std.proofs.lemmas.List.{length-map}
use Rattle.aoi.specs.Plain.{plain}
use Rattle.pres.specs.declared.errors.BindErr.TheVariants as err
use Rattle.pres.specs.Drafts.{drawn}
use Rattle.pres.specs.Faults.{bind_fault}
use Rattle.pres.specs.Sizes.{size_of}
use Rattle.pres.proofs.Drawn.{handed_on}
use Rattle.pres.proofs.SoundUnit.{unit_drawable, unit_regular}
use Rattle.pres.proofs.Faulty.{deep_next, heavy_next, wide_next, none_at_last, deep_sizes, wide_is, placed_in, table_faces, bound, short_names}
use Rattle.pres.proofs.binding.draw.Goals as goal

pub draw_unit-requires-clause-drawable : goal.draw_unit-requires-clause-drawable
draw_unit-requires-clause-drawable c = unit_drawable (plain c.args.unit.now) c.requires

pub returns-in_err-check_depth-clause-cause : goal.returns-in_err-check_depth-clause-cause
returns-in_err-check_depth-clause-cause c =
    let nodes = c.in_ok-ops.ensures.nodes in
    let few = rw nodes at c.in_ok-sizes.ensures.few in
    handed_on _ c.in_err-check_depth.field-0.0
    (λ e. e ≢ err.NoMemory → bind_fault (plain c.args.unit.now) c.args.back ≡ Some e) c.from_residual-in_err-check_depth.ensures.1
    (λ ne. let h = c.in_err-check_depth.ensures.cause in
    let deep = sym (deep_sizes (drawn c.draw_unit.new.self)) ∙ (rw (c.deref.ensures.value, c.in_ok-sizes.ensures.value) at h.1) in
    deep_next (plain c.args.unit.now) c.args.back few (rw nodes at deep) ∙ ap Some (sym h.0))

pub build-requires-clause-regular : goal.build-requires-clause-regular
build-requires-clause-regular c = rw c.in_ok-ops.ensures.nodes (unit_regular (plain c.args.unit.now) c.args.back c.requires)

pub build-requires-clause-shallow : goal.build-requires-clause-shallow
build-requires-clause-shallow c = sym (deep_sizes (drawn c.draw_unit.new.self))
    ∙ (rw (c.deref.ensures.value, c.in_ok-sizes.ensures.value) at c.in_ok-check_depth.ensures.ok)

pub returns-in_err-mint-clause-cause : goal.returns-in_err-mint-clause-cause
returns-in_err-mint-clause-cause c =
    let nodes = c.in_ok-ops.ensures.nodes in
    let few = rw nodes at c.in_ok-sizes.ensures.few in
    let deep = sym (deep_sizes (drawn c.draw_unit.new.self))
    ∙ (rw (c.deref.ensures.value, c.in_ok-sizes.ensures.value) at c.in_ok-check_depth.ensures.ok) in
    handed_on _ c.in_err-mint.field-0.0
    (λ e. e ≢ err.NoMemory → bind_fault (plain c.args.unit.now) c.args.back ≡ Some e) c.from_residual-in_err-mint.ensures.1
    (λ ne.
    let h = c.in_err-mint.ensures.cause ne in heavy_next (plain c.args.unit.now) c.args.back few
    (rw nodes at deep) (rw nodes at h.1) ∙ ap Some (sym h.0))

pub check_width-requires : goal.check_width-requires
check_width-requires c =
    let long : length (drawn c.draw_unit.new.self) ≡ length c.deref-2.result.now = sym (length-map (drawn c.draw_unit.new.self) size_of)
    ∙ ap length (sym (c.deref-2.ensures.value ∙ c.in_ok-sizes.ensures.value)) in
    rw c.as_slice.ensures (placed_in _ _ _ long c.in_ok-ops.ensures.offers.placed)

pub returns-in_err-check_width-clause-cause : goal.returns-in_err-check_width-clause-cause
returns-in_err-check_width-clause-cause c =
    let nodes = c.in_ok-ops.ensures.nodes in
    let few = rw nodes at c.in_ok-sizes.ensures.few in
    let deep = sym (deep_sizes (drawn c.draw_unit.new.self))
    ∙ (rw (c.deref.ensures.value, c.in_ok-sizes.ensures.value) at c.in_ok-check_depth.ensures.ok) in
    handed_on _ c.in_err-check_width.field-0.0
    (λ e. e ≢ err.NoMemory → bind_fault (plain c.args.unit.now) c.args.back ≡ Some e) c.from_residual-in_err-check_width.ensures.1
    (λ ne. let h = c.in_err-check_width.ensures.cause in
    let wide =
    sym (wide_is (plain c.args.unit.now) c.args.back (drawn c.draw_unit.new.self) _ _
    (c.deref-2.ensures.value ∙ c.in_ok-sizes.ensures.value) c.in_ok-ops.ensures.offers.are) ∙ (rw c.as_slice.ensures at h.1) in
    wide_next (plain c.args.unit.now) c.args.back few (rw nodes at deep)
    (rw nodes at c.in_ok-mint.ensures.light) wide ∙ ap Some (sym h.0))

pub returns-clause-ok : goal.returns-clause-ok
returns-clause-ok c =
    let nodes = c.in_ok-ops.ensures.nodes in
    let few = rw nodes at c.in_ok-sizes.ensures.few in
    let deep = sym (deep_sizes (drawn c.draw_unit.new.self))
    ∙ (rw (c.deref.ensures.value, c.in_ok-sizes.ensures.value) at c.in_ok-check_depth.ensures.ok) in
    let wide =
    sym (wide_is (plain c.args.unit.now) c.args.back (drawn c.draw_unit.new.self) _ _
    (c.deref-2.ensures.value ∙ c.in_ok-sizes.ensures.value) c.in_ok-ops.ensures.offers.are)
    ∙ (rw c.as_slice.ensures at c.in_ok-check_width.ensures.ok) in
    none_at_last (plain c.args.unit.now) c.args.back few (rw nodes at deep)
    (rw nodes at c.in_ok-mint.ensures.light) wide

pub returns-clause-nodes : goal.returns-clause-nodes
returns-clause-nodes c = table_faces c.draw_unit.new.self _ _ c.in_ok-mint.ensures.nodes c.in_ok-mint.ensures.shapes
    ∙ c.in_ok-ops.ensures.nodes

pub returns-clause-binding : goal.returns-clause-binding
returns-clause-binding c =
    let short = short_names (plain c.args.unit.now) c.deref-2.result.now c.as_slice.result.now c.in_ok-check_width.ensures.ok in
    bound c.draw_unit.new.self _ c.requires short c.in_ok-mint.ensures.named c.in_ok-mint.ensures.nodes c.in_ok-mint.ensures.shapes
    c.in_ok-ops.ensures.offers
