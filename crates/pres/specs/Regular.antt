-- Types that a table refuses for their size alone.
use Rattle.std.specs.Prelude.{◌≡◌, Bool, true, false, List}
use Rattle.std.specs.List.{list_all, AllByRecursion}
use Rattle.mint.specs.declared.kind.Kind.TheVariants as kind
use Rattle.mint.specs.Kinds.{in_range}
use Rattle.mint.specs.Sound.{is_unfit, is_empty, is_mislabelled}
use Rattle.mint.specs.Types.{label, Ty, scalar_type, choice_type}
use Rattle.pres.specs.Faces.{Face, type_of}

-- labels that are numbers of 32 bits
abbrev pub is_ranged : Ty → Bool
is_ranged (scalar_type (label ns)) = list_all (in_range kind.I32) ns
is_ranged (choice_type (label ns) arms) = list_all (in_range kind.I32) ns
is_ranged _ = true

-- a type that no table refuses for its kind, for being empty, or for labels of 32 bits
pub record IsRegular (t : Ty) : Type 0 where
  pub fit : is_unfit t ≡ false
  pub full : is_empty t ≡ false
  pub labelled : is_ranged t ≡ true → is_mislabelled t ≡ false

-- faces of such types
abbrev pub AreRegular : List Face → Type 0
AreRegular fs = AllByRecursion (λ f. IsRegular (type_of f)) fs
