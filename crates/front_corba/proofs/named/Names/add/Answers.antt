use Rattle.front_corba.proofs.Indexing.{name_put}
use Rattle.front_corba.proofs.named.Names.add.Goals as goal

pub returns : goal.returns
returns c =
    name_put (λ k. k.items) c.self.inside.keys.keys c.insert.new.self.keys c.args.name c.args.self.now c.in_ok-insert.ensures.keys
    c.self.view_is
