use Rattle.std.proofs.Common.{◌∙◌}
use Rattle.front_corba.proofs.Indexing.{origin_found}
use Rattle.front_corba.proofs.named.Origins.place.Goals as goal

pub returns : goal.returns
returns c =
    c.get_index_of.ensures.found
    ∙ origin_found (λ k. k.items) c.self.inside.keys.keys c.args.home c.in_ok-from_slice.field-0 c.args.name.now c.args.self.now
    c.in_ok-from_slice.ensures.items c.self.view_is
