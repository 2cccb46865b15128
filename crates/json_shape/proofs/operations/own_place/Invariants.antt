use Rattle.std.proofs.Common.{◌≡◌, drop}
use Rattle.std.specs.List.{position_from}
use Rattle.std.specs.Str.{bytes_eq}
use Rattle.pres.specs.declared.ops.Op.{Op}
use Rattle.json_shape.specs.Texts.{text_of}
use Rattle.json_shape.proofs.operations.own_place.Given as goal

-- What is sought is sought in the rest.
abbrev pub invariant-loop-i : goal.invariant-loop-i
invariant-loop-i l = position_from (λ (o : Op). bytes_eq (text_of o.name) l.text) 0 l.ops
    ≡ position_from (λ (o : Op). bytes_eq (text_of o.name) l.text) l.i (drop l.i l.ops)
