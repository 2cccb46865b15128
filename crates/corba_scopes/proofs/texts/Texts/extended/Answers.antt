use Rattle.corba_scopes.proofs.Parting.{set_puts}
use Rattle.corba_scopes.proofs.texts.Texts.extended.Goals as goal

pub returns : goal.returns
returns c =
    set_puts (λ k. k.items) c.self.inside.set.keys c.insert.new.self.keys c.in_ok-from_slice.field-0 c.args.text.now c.args.self
    c.len-last.result c.in_ok-insert.ensures.keys c.in_ok-from_slice.ensures.items c.self.view_is c.requires c.len-last.ensures.len
