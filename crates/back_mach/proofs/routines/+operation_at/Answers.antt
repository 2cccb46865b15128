use Rattle.std.proofs.Common.{◌-◌, ◌∙◌, ℕ, map, length, get_or, refl, sym, ap}
use Rattle.aoi.specs.declared.interfaces.Interface.{Interface}
use Rattle.aoi.specs.Plain.{plain_interface, plain_operation}
use Rattle.head_kit.proofs.Named.{in_own, past_own}
use Rattle.back_mach.specs.Routines.{ops_of, no_routine, routine_in, routines}
use Rattle.back_mach.proofs.routines.+operation_at.Goals as goal

pub returns-then-place-ops : goal.returns-then-place-ops
returns-then-place-ops t c =
    let found = c.index-ops-place.is ∙ ap (λ l. get_or l c.args.place c.index-ops-place.result) c.as_slice-ops.ensures in
    rw c.in-Some.ensures.cases.0
    (in_own ops_of routine_in no_routine plain_interface plain_operation (λ (j : Interface). j.ops) (λ j. refl) c.in-Some.i.now
    c.in-Some.others.now c.args.place c.index-ops-place.result (rw c.as_slice-ops.ensures at c.if-place-ops.true) found)

pub returns-else-place-ops : goal.returns-else-place-ops
returns-else-place-ops t c =
    let many = ap length c.as_slice-ops.ensures in
    rw c.in-Some.ensures.cases.0
    (past_own ops_of routine_in no_routine plain_interface plain_operation (λ (j : Interface). j.ops) (λ j. refl) c.in-Some.i.now
    c.in-Some.others.now c.args.place (rw c.as_slice-ops.ensures at c.if-place-ops.false)
    ∙ ap (λ (n : ℕ). get_or (routines (map plain_interface c.in-Some.others.now)) (c.args.place - n) no_routine) (sym many)
    ∙ c.operation_at.ensures)
