use Rattle.idl_names.proofs.Tables.{push_on}
use Rattle.idl_names.proofs.names.Names.push.Goals as goal

pub returns : goal.returns
returns c = record {
  ok =
      push_on
      (λ k.
      k.items) c.extend_from_slice.new.self c.self.inside.names.keys c.insert.new.self.keys c.args.self.now c.args.name.now
      c.new-key.result.items
      c.in_ok-insert.ensures.keys c.in_ok-extend_from_slice.ensures.items c.new-key.ensures.items c.self.view_is c.requires;
}
