use Rattle.std.proofs.Common.{◌∙◌, ap}
use Rattle.idl_names.specs.Names.{meaning_of}
use Rattle.idl_names.proofs.Tables.{meaning_map}
use Rattle.idl_names.proofs.table.Table.meaning.Goals as goal

pub returns : goal.returns
returns g c = c.copied.ensures ∙ c.get.ensures.value
    ∙ meaning_map (λ k. k.items) c.args.name.now c.self.inside.meanings.entries ∙ ap (meaning_of c.args.name.now) c.self.view_is
