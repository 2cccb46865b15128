use Rattle.std.proofs.Common.{◌≡◌, IsTrue, ap, ◌∙◌, take}
use Rattle.std.specs.Int.{w128, to_le_bytes, cast_unsigned}
use Rattle.std.proofs.lemmas.Int.{to_z-of_z}
use Rattle.mint.specs.Kinds.{in_range, width}
use Rattle.mint.specs.Row.{Numbers, octets_of, numbers_of}
use Rattle.mint.proofs.Images.{octets_pushed, IsImage-kept, IsImage-one, grown, numbers-one}
use Rattle.mint.proofs.row.Row.push.Goals as goal

pub invariant_of-self : goal.invariant_of-self
invariant_of-self c =
    let k = c.self.inside.kind in
    let ranged : IsTrue (in_range k c.args.n) = rw (ap (λ (r : Numbers). r.kind) c.self.view_is) c.requires in
    let written : c.to_le_bytes-octets.result ≡ to_le_bytes w128 (cast_unsigned w128 c.args.n) = c.to_le_bytes-octets.ensures
    ∙ ap (λ z. to_le_bytes w128 (cast_unsigned w128 z)) (to_z-of_z w128 c.args.n c.ranges.n) in
    IsImage-kept k _ _ _ _ c.append.ensures.ok c.append.ensures.err c.self.invariant
    (rw (octets_pushed k c.args.n _ _ c.width.ensures written ranged) (IsImage-one k c.args.n ranged))

pub returns-clause-ok : goal.returns-clause-ok
returns-clause-ok c =
    let k = c.args.self.now.kind in
    let wide = c.width.ensures ∙ ap (λ (r : Numbers). width r.kind) c.self.view_is in
    let written : c.to_le_bytes-octets.result ≡ to_le_bytes w128 (cast_unsigned w128 c.args.n) = c.to_le_bytes-octets.ensures
    ∙ ap (λ z. to_le_bytes w128 (cast_unsigned w128 z)) (to_z-of_z w128 c.args.n c.ranges.n) in
    let piece : take c.width.result c.to_le_bytes-octets.result ≡ octets_of k c.args.n =
    octets_pushed k c.args.n _ _ wide written c.requires in
    grown _ _ _ _ _ _ _ c.append.ensures.ok c.self.invariant c.self.view_is (ap (numbers_of k) piece ∙ numbers-one k c.args.n c.requires)
