-- A head is sent as one that a body follows exactly where octets follow it.
use Rattle.std.proofs.Common.{refl}
use Rattle.wire_def.specs.Hollow.{is_hollow}
use Rattle.wire_def.proofs.Hollow.{hollow_is_empty}
use Rattle.back_cdr.specs.Targets.{body_type}
use Rattle.back_cdr.specs.Laws.{BodiesHaveOctets}
use Rattle.std.proofs.lemmas.Bool.{not-false}

pub octets_follow : BodiesHaveOctets
octets_follow e b op p v sound typed =
    let same = hollow_is_empty e (body_type b op) sound p v typed in
    ((λ none. same.0 (not-false (is_hollow (body_type b op)) none)), λ empty. rw (same.1 empty) refl)
