use Rattle.std.proofs.Common.{◌∙◌, length, sym}
use Rattle.std.proofs.lemmas.Bool.{ltb-true}
use Rattle.aoi.specs.Plain.{plain}
use Rattle.pres.specs.Raises.{sources}
use Rattle.pres.proofs.Found.{raise_at, raise_past}
use Rattle.pres.proofs.bound.Bound.raise_named.Goals as goal

pub returns-in-Some : goal.returns-in-Some
returns-in-Some c =
    rw (← c.self.view_is) (c.number.ensures
    ∙ raise_at (sources c.self.inside.back (plain c.self.inside.unit).interfaces) c.self.inside.tables.items c.deref.result.now c.args.op
    c.in-Some.table.now c.args.text.now c.self.invariant.finds c.deref.ensures.value
    (ltb-true c.args.op (length c.deref.result.now) (sym c.in-Some.ensures.lookup.0)) c.in-Some.ensures.lookup.1)

pub returns-in-None : goal.returns-in-None
returns-in-None c =
    rw (← c.self.view_is)
    (raise_past (sources c.self.inside.back (plain c.self.inside.unit).interfaces) c.self.inside.tables.items c.deref.result.now c.args.op
    c.args.text.now c.self.invariant.finds c.deref.ensures.value c.in-None.ensures.lookup.3)
