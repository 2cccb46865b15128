use Rattle.std.proofs.Common.{refl}
use Rattle.std.proofs.lemmas.Bool.{ne_eqb}
use Rattle.giop_head.specs.Items.{short_place}
use Rattle.giop_head.specs.Call.{read_key}
use Rattle.giop_head.proofs.call.key_target.Goals as goal

pub returns-else-kind-eq0 : goal.returns-else-kind-eq0
unfolding read_key
returns-else-kind-eq0 c =
    (short_place c.args.at.place, rw (c.in_ok-kind.ensures, ne_eqb c.in_ok-kind.kind 0 c.if-kind-eq0.false) refl)
