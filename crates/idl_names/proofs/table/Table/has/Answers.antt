use Rattle.std.proofs.Common.{◌∙◌, ap}
use Rattle.idl_names.specs.Names.{is_declared}
use Rattle.idl_names.proofs.Tables.{declared_map}
use Rattle.idl_names.proofs.table.Table.has.Goals as goal

pub returns : goal.returns
returns g c =
    c.contains_key.ensures ∙ declared_map
    (λ k. k.items) c.args.name.now c.self.inside.meanings.entries ∙ ap (is_declared c.args.name.now) c.self.view_is
