use Rattle.std.proofs.Common.{◌∙◌, ap}
use Rattle.std.specs.Str.{bytes_eq}
use Rattle.idl_names.specs.Names.{has}
use Rattle.idl_names.proofs.Tables.{any_map}
use Rattle.idl_names.proofs.names.Names.has.Goals as goal

pub returns : goal.returns
returns c =
    c.contains.ensures ∙ any_map (bytes_eq c.args.name.now)
    (λ k. k.items) c.self.inside.names.keys ∙ ap (has c.args.name.now) c.self.view_is
