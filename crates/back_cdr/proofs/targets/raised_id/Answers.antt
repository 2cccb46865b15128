use Rattle.std.proofs.Common.{◌∙◌, List, [], map, get_or, length, sym, ap}
use Rattle.std.proofs.lemmas.Bool.{ltb-true}
use Rattle.aoi.specs.Plain.{PlainRaise, plain_raise}
use Rattle.aoi.specs.declared.interfaces.Raise.{Raise}
use Rattle.back_cdr.specs.Targets.{Target}
use Rattle.back_cdr.proofs.Ids.{id_there}
use Rattle.back_cdr.proofs.targets.raised_id.Goals as goal

pub returns-in-Some : goal.returns-in-Some
returns-in-Some c =
    let k = c.args.place in
    let below = ltb-true k (length c.as_slice.result.now) (sym c.in-Some.ensures.lookup.0) in
    let found = c.in-Some.ensures.lookup.1 in
    ap (λ (r : Raise). r.id) found
    ∙ id_there c.as_slice.result.now k c.in-Some.raise.now below
    ∙ ap (λ (rs : List Raise). get_or (map (λ (r : PlainRaise). r.id) (map plain_raise rs)) k []) c.as_slice.ensures
    ∙ ap (λ (t : Target). get_or t.ids k []) c.operation_of.ensures
