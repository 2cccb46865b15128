use Rattle.std.proofs.Common.{◌∙◌}
use Rattle.corba_scopes.proofs.Parting.{number_sought}
use Rattle.corba_scopes.proofs.texts.Texts.number.Goals as goal

pub returns : goal.returns
returns c =
    c.get_index_of.ensures.index ∙ number_sought (λ k. k.items) c.self.inside.set.keys c.args.text.now c.args.self.now c.self.view_is
