-- Values that may be there.
use Rattle.std.proofs.Common.{◌≡◌, Option, Some, None, option_map, option_and_then, refl, Bool, true, false}
use Rattle.std.specs.Prelude.{if◌then◌else◌}

-- what a mapped value was
pub mapped_from : {A B : Type 0} (f : A → B) (o : Option A) (b : B) → option_map f o ≡ Some b → (a : A) × (o ≡ Some a) × (f a ≡ b)
mapped_from f None b h = absurd cc
mapped_from f (Some a) b h = (a, refl, cc)

-- what the first of two steps gave
pub stepped_from : {A B : Type 0} (f : A → Option B) (o : Option A) (b : B) → option_and_then f o ≡ Some b
    → (a : A) × (o ≡ Some a) × (f a ≡ Some b)
stepped_from f None b h = absurd cc
stepped_from f (Some a) b h = (a, refl, h)

pub tested_from : {A : Type 0} (t : Bool) (o : Option A) (a : A) → (if t then o else None) ≡ Some a → (t ≡ true) × (o ≡ Some a)
tested_from true o a h = (refl, h)
tested_from false o a h = absurd cc

pub one_some : {A : Type 0} (a b : A) → Some a ≡ Some b → a ≡ b
one_some a b h = cc
