use Rattle.std.proofs.Common.{option_to_list, subst}
use Rattle.corba_scopes.specs.Stored.{AreAround}
use Rattle.corba_scopes.proofs.Storing.{around_front}
use Rattle.corba_scopes.proofs.store.Store.leave.Goals as goal

pub invariant_of-self : goal.invariant_of-self
invariant_of-self c = record {
  table_keys = c.self.invariant.table_keys;
  folded_keys = c.self.invariant.folded_keys;
  line_places = c.self.invariant.line_places;
  around =
      around_front c.self.inside.keys c.pop.new.self.items (option_to_list c.pop.result)
      (subst (AreAround c.self.inside.keys) c.pop.ensures.items c.self.invariant.around);
}
