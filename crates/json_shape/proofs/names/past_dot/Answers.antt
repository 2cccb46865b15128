use Rattle.std.proofs.Common.{length, refl}
use Rattle.json_shape.proofs.Plain.{cut_after, cut_by, not_cut}
use Rattle.json_shape.proofs.names.past_dot.Goals as goal

pub range_from-requires : goal.range_from-requires
range_from-requires c =
    λ h. cut_after c.as_bytes-octets.result.now c.args.text.now (length c.args.name.now) c.as_bytes-octets.ensures.value c.utf8.text
    (c.if-not-has_dot.ensures.within refl) c.if-not-has_dot.ensures.value

pub returns-then-eq-clause-some : goal.returns-then-eq-clause-some
returns-then-eq-clause-some c =
    cut_by c.args.name.now c.as_bytes-octets.result.now c.args.text.now c.range_from.result.now c.as_bytes-octets.ensures.value
    (c.if-not-has_dot.ensures.within refl) c.if-not-has_dot.ensures.value c.if-eq.ensures c.range_from.ensures.value

pub returns-else-eq-clause-none : goal.returns-else-eq-clause-none
returns-else-eq-clause-none c =
    not_cut c.args.name.now c.as_bytes-octets.result.now c.args.text.now c.as_bytes-octets.ensures.value c.if-eq.ensures
