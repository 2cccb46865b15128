use Rattle.std.proofs.Common.{List, length, map, sym, ap, ◌∙◌}
use Rattle.std.proofs.lemmas.Bool.{ltb-true}
use Rattle.aoi.specs.declared.interfaces.Operation.{Operation}
use Rattle.aoi.specs.Plain.{plain_operation}
use Rattle.flick_bridge.specs.Heads.{is_oneway_in}
use Rattle.flick_bridge.proofs.Plainly.{oneway_none, oneway_some}
use Rattle.flick_bridge.proofs.heads.is_oneway_among.Goals as goal

pub returns-in-Some : goal.returns-in-Some
returns-in-Some c =
    oneway_some c.args.interfaces.now c.args.interface c.in-Some.interface.now c.args.name.now c.is_oneway_in.result
    (ltb-true c.args.interface (length c.args.interfaces.now) (sym c.in-Some.ensures.lookup.0)) c.in-Some.ensures.lookup.1
    (c.is_oneway_in.ensures ∙ ap (λ (ops : List Operation). is_oneway_in c.args.name.now (map plain_operation ops)) c.as_slice.ensures)

pub returns-in-None : goal.returns-in-None
returns-in-None c = oneway_none c.args.interfaces.now c.args.interface c.args.name.now c.in-None.ensures.lookup.3
