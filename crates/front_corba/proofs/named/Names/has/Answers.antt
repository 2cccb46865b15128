use Rattle.std.proofs.Common.{◌∙◌, ap}
use Rattle.std.specs.Str.{bytes_eq}
use Rattle.idl_names.specs.Names.{has}
use Rattle.idl_names.proofs.Tables.{any_map}
use Rattle.front_corba.proofs.named.Names.has.Goals as goal

pub returns : goal.returns
returns c =
    let name = c.args.name.now in
    c.contains.ensures ∙ any_map (bytes_eq name) (λ k. k.items) c.self.inside.keys.keys ∙ ap (has name) c.self.view_is
