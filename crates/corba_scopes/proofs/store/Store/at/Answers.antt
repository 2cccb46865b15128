use Rattle.std.proofs.Common.{rules, ◌≡◌, None, ap, ◌∙◌}
use Rattle.std.specs.Prelude.{option_map}
use Rattle.corba_scopes.specs.Stored.{entry_of}
use Rattle.corba_scopes.proofs.Storing.{at_no_key, at_no_meaning, at_is, at_key}
use Rattle.corba_scopes.proofs.store.Store.at.Goals as goal

pub returns-in_err-key-clause-entry : goal.returns-in_err-key-clause-entry
returns-in_err-key-clause-entry c =
    let none : c.from_residual.result ≡ None = search rules in
    ap (option_map (entry_of c.args.self.now.parts)) none
    ∙ at_no_key c.self.inside.keys c.self.inside.table c.self.inside.folded c.self.inside.lines c.self.inside.env.items
    c.args.self.now c.self.invariant c.self.view_is c.args.place c.args.name.now c.in_err-key.ensures

pub returns-in_err-meaning-clause-entry : goal.returns-in_err-meaning-clause-entry
returns-in_err-meaning-clause-entry c =
    let none : c.from_residual-in_err-meaning.result ≡ None = search rules in
    ap (option_map (entry_of c.args.self.now.parts)) none
    ∙ at_no_meaning c.self.inside.keys c.self.inside.table c.self.inside.folded c.self.inside.lines c.self.inside.env.items
    c.args.self.now c.self.invariant c.self.view_is c.args.place c.args.name.now c.in_ok-key.key
    c.in_ok-key.ensures c.in_err-meaning.ensures

pub returns-clause-entry : goal.returns-clause-entry
returns-clause-entry c =
    at_is c.self.inside.keys c.self.inside.table c.self.inside.folded c.self.inside.lines c.self.inside.env.items
    c.args.self.now c.self.invariant c.self.view_is c.args.place c.args.name.now c.in_ok-key.key c.in_ok-meaning.meaning
    c.in_ok-key.ensures c.in_ok-meaning.ensures

pub returns-clause-key : goal.returns-clause-key
returns-clause-key c =
    at_key c.self.inside.keys c.self.inside.table c.self.inside.folded c.self.inside.lines c.self.inside.env.items
    c.args.self.now c.self.invariant c.self.view_is c.args.place c.args.name.now c.in_ok-key.key c.in_ok-key.ensures
