use Rattle.front_corba.proofs.Indexing.{origin_put}
use Rattle.front_corba.proofs.named.Origins.add.Goals as goal

pub returns : goal.returns
returns c = origin_put (λ k. k.items) c.self.inside.keys.keys c.insert.new.self.keys c.args.home c.in_ok-from_slice.field-0 c.args.name.now
    c.args.self.now c.in_ok-insert.ensures.keys c.in_ok-from_slice.ensures.items c.self.view_is
