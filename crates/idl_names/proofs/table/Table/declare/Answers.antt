use Rattle.idl_names.proofs.Tables.{put_new}
use Rattle.idl_names.proofs.table.Table.declare.Goals as goal

pub returns : goal.returns
returns g c = record {
  ok =
      put_new (λ k. k.items) c.in_ok-key.key c.args.meaning c.self.inside.meanings.entries c.insert.new.self.entries c.args.self.now
      c.args.name.now c.in_ok-insert.ensures.entries c.in_ok-key.ensures.items c.self.view_is c.requires;
}
