-- The operation that a call names is there, and is the procedure that it calls.
use Rattle.std.proofs.Common.{◌≡◌, ◌+◌, ℕ, List, length, refl, ◌∙◌}
use Rattle.std.specs.Prelude.{◌==◌}
use Rattle.std.proofs.lemmas.Bool.{eqb-true, and_parts}
use Rattle.aoi.specs.Plain.{PlainInterface}
use Rattle.head_kit.specs.Calls.{IsBelow}
use Rattle.head_kit.proofs.Named as kit
use Rattle.back_xdr.specs.declared.call.OncCall.{OncCall}
use Rattle.back_xdr.specs.declared.procedures.Procedure.{Procedure}
use Rattle.back_xdr.specs.Procedures.{numbers, procedure_in, procedures}
use Rattle.back_xdr.specs.Seeking.{is_called, has_number, named_from}
use Rattle.back_xdr.specs.Laws.{IsNamedRight}

pub named_below : (k : ℕ) (is : List PlainInterface) (c : OncCall) → IsBelow (k + length (procedures is)) (named_from k is c)
named_below k is c = kit.named_below numbers (is_called c) (has_number c) procedure_in k is

abbrev none : Procedure
none = record { program = 0; version = 0; number = 0 }

pub named_right : IsNamedRight
named_right b c op e =
    let (i, n, there, called, has) = kit.named_right numbers (is_called c) (has_number c) procedure_in none b.unit.interfaces op e in
    let both = and_parts (c.program == i.program) (c.version == i.version) called in
    let program : c.program ≡ i.program = eqb-true _ _ both.0 in
    let version : c.version ≡ i.version = eqb-true _ _ both.1 in
    let number : n ≡ c.proc_no = eqb-true _ _ has in
    there ∙ rw (number, ← program, ← version) refl
