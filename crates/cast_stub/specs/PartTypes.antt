-- The types of the parts of a value of a type.
use Rattle.std.specs.Prelude.{ℕ, zero, suc, List, [], ◌∷◌, Option, None, Some}
use Rattle.mint.specs.declared.kind.Kind.TheVariants as kind
use Rattle.mint.specs.declared.kind.Count.{Count}
use Rattle.mint.specs.Types.{number, text, row_of, Ty, scalar_type, array_type, group_type, items_type, choice_type, maybe_type, Tys, no_fields, field, Arms}
use Rattle.cast_stub.specs.Parts.{on_some}

-- the type of a field
abbrev pub field_type : ℕ → Tys → Option Ty
field_type n no_fields = None
field_type zero (field t ts) = Some t
field_type (suc n) (field t ts) = field_type n ts

-- the type of a field of a group
abbrev pub in_group_type : ℕ → Ty → Option Ty
in_group_type n (group_type ts) = field_type n ts
in_group_type n _ = None

-- the type of the part at a path
abbrev pub ty_at : List ℕ → Ty → Option Ty
ty_at [] t = Some t
ty_at (n ∷ p) t = on_some (in_group_type n t) (ty_at p)

-- the type of an element, and the count
abbrev pub elements_type : Ty → Option (Ty × Count)
elements_type (items_type c t) = Some (t, c)
elements_type (array_type (row_of k c)) = Some (scalar_type (number k), c)
elements_type (array_type (text c)) = Some (scalar_type (number kind.Char), c)
elements_type _ = None

-- the type of the value that may be there
abbrev pub present_type : Ty → Option Ty
present_type (maybe_type t) = Some t
present_type _ = None

-- the arms of a union type
abbrev pub arms_type : Ty → Option Arms
arms_type (choice_type s arms) = Some arms
arms_type _ = None

-- the type of an element of the part at a path, and the count
abbrev pub element_at : List ℕ → Ty → Option (Ty × Count)
element_at p t = on_some (ty_at p t) elements_type

-- the type of the value that may be there at a path
abbrev pub present_at : List ℕ → Ty → Option Ty
present_at p t = on_some (ty_at p t) present_type

-- the arms of the part at a path
abbrev pub arms_at : List ℕ → Ty → Option Arms
arms_at p t = on_some (ty_at p t) arms_type
