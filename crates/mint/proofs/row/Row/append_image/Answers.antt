use Rattle.std.proofs.Common.{refl, rules}
use Rattle.mint.specs.Row.{IsImage}
use Rattle.mint.proofs.Images.{AreOctets, IsImage-octets, IsImage-kept, grown}
use Rattle.mint.proofs.row.Row.append_image.Goals as goal

pub invariant_of-self : goal.invariant_of-self
invariant_of-self c =
    let oct : AreOctets c.args.image.now = λ i. search rules in
    let piece : IsImage c.self.inside.kind c.args.image.now = IsImage-octets _ _ (search rules) (search rules) oct in
    IsImage-kept _ _ _ _ _ c.append.ensures.ok c.append.ensures.err c.self.invariant piece

pub returns-clause-ok : goal.returns-clause-ok
returns-clause-ok c = grown _ _ _ _ _ _ _ c.append.ensures.ok c.self.invariant c.self.view_is refl
