-- The operation that a request names is there, and is the one of its id.
use Rattle.std.proofs.Common.{◌+◌, ℕ, List, length, ap, ◌∙◌}
use Rattle.std.proofs.lemmas.Bool.{eqb-true}
use Rattle.aoi.specs.Plain.{PlainInterface}
use Rattle.head_kit.specs.Calls.{IsBelow}
use Rattle.head_kit.proofs.Named as kit
use Rattle.back_mach.specs.declared.routines.Routine.{Routine}
use Rattle.back_mach.specs.Routines.{ops_of, no_routine, routine_in, routines}
use Rattle.back_mach.specs.Seeking.{has_id, is_asked, named_from}
use Rattle.back_mach.specs.Laws.{IsNamedRight}

pub named_below : (k : ℕ) (is : List PlainInterface) (id : ℕ) → IsBelow (k + length (routines is)) (named_from k is id)
named_below k is id = kit.named_below ops_of (has_id id) (is_asked id) routine_in k is

pub named_right : IsNamedRight
named_right b c op e =
    let (i, p, there, called, has) = kit.named_right ops_of (has_id c.id) (is_asked c.id) routine_in no_routine b.unit.interfaces op e in
    ap (λ (r : Routine). r.id) there ∙ eqb-true _ _ has
