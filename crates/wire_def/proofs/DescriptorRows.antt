-- Short descriptors worked by hand.
use Rattle.std.proofs.Common.{◌≡◌, [], ◌∷◌, Some, None, refl}
use Rattle.wire_def.specs.Descriptors.{descriptor}

-- three letters; one number more than twelve bits hold
letters : descriptor 8 8 3 ≡ Some (8 ∷ 8 ∷ 3 ∷ 16 ∷ [])
letters = refl

too_many : descriptor 8 8 4096 ≡ None
too_many = refl
