use Rattle.std.proofs.Common.{rules, ◌≡◌, ◌∙◌, sym, Some, None}
use Rattle.idl_names.specs.Names.{meaning_of}
use Rattle.front_mig.specs.Types.{known}
use Rattle.front_mig.proofs.Tables.{meaning_here, meaning_after}
use Rattle.front_mig.proofs.types.meaning.Goals as goal

pub returns-in-Some : goal.returns-in-Some
returns-in-Some c =
    let found : meaning_of c.args.name.now c.args.scope.now ≡ Some c.in-Some.meaning = search rules in
    sym (meaning_here c.args.name.now c.args.scope.now known c.in-Some.meaning found)

pub returns-in-None : goal.returns-in-None
returns-in-None c =
    let absent : meaning_of c.args.name.now c.args.scope.now ≡ None = search rules in
    c.known.ensures ∙ sym (meaning_after c.args.name.now c.args.scope.now known absent)
