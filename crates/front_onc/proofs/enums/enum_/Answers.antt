use Rattle.std.proofs.Common.{◌∙◌, sym, ap}
use Rattle.idl_names.specs.Names.{is_declared}
use Rattle.front_onc.proofs.Kept.{items_keep}
use Rattle.front_onc.proofs.enums.enum_.Goals as goal

pub declare_type-requires : goal.declare_type-requires
declare_type-requires c =
    items_keep c.args.name.now c.args.d c.in_ok-k.k c.count_labels-place.result _ _ _ c.args.list.now _ c.in_ok-items.ensures
    (ap (is_declared c.args.name.now) (sym c.scope.ensures) ∙ sym c.has.ensures ∙ c.if-has.false)
    (sym c.is_item.ensures ∙ c.if-is_item.false)
