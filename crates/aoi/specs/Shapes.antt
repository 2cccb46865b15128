-- Types as plain trees.
use Rattle.std.specs.Prelude.{ℕ, ℤ, List, [], ◌∷◌, map, Option, Some, None}
use Rattle.std.specs.Option.{option_map}
use Rattle.mint.specs.declared.kind.Kind.{Kind}
use Rattle.mint.specs.declared.kind.Count.{Count}
use Rattle.aoi.specs.declared.types.Ty.{Ty, fold-Ty}
use Rattle.aoi.specs.declared.types.Ty.TheOpen.{Ty-F, Field-F}
use Rattle.aoi.specs.declared.types.Field.{Field, fold-Field}

mutual
  pub data Shape : Type 0 where
    void : Shape
    number : Kind → Shape
    enumeration : List (List ℕ × ℤ) → Shape
    text : Count → Shape
    array : Shape → Count → Shape
    structure : Members → Shape
    choice : Shape → Arms → Shape
    optional : Shape → Shape
    named : ℕ → Shape

  pub data Members : Type 0 where
    no_more : Members
    member : List ℕ → Shape → Members → Members

  pub data Arms : Type 0 where
    no_default : Arms
    default : Shape → Arms
    arm : ℤ → Shape → Arms → Arms

-- fields with their names, in order
abbrev pub members_of : List (List ℕ × Shape) → Members
members_of [] = no_more
members_of (f ∷ fs) = member f.0 f.1 (members_of fs)

-- arms with their numbers, in order, and then the default arm
abbrev pub arms_of : List (ℤ × Shape) → Arms → Arms
arms_of [] other = other
arms_of (a ∷ arms) other = arm a.0 a.1 (arms_of arms other)

-- the default arm, if there is one
abbrev pub default_of : Option Shape → Arms
default_of None = no_default
default_of (Some s) = default s

-- arrays of arrays, the outermost first
abbrev pub arrayed : Shape → List Count → Shape
arrayed s [] = s
arrayed s (c ∷ cs) = array (arrayed s cs) c

-- one level of a type, over the trees of its parts
abbrev pub seen_level : Ty-F Shape (List ℕ × Shape) → Shape
seen_level Ty-F.Void = void
seen_level (Ty-F.Num k) = number k
seen_level (Ty-F.Enum items) = enumeration items
seen_level (Ty-F.Text c) = text c
seen_level (Ty-F.Array s c) = array s.value c
seen_level (Ty-F.Arrays s c cs) = array (arrayed s.value cs) c
seen_level (Ty-F.Struct fs) = structure (members_of fs)
seen_level (Ty-F.Union tag arms other) = choice tag.value (arms_of arms (default_of (option_map (λ s. s.value) other)))
seen_level (Ty-F.Optional s) = optional s.value
seen_level (Ty-F.Named k) = named k

-- a field's name, and the tree of its type
abbrev pub seen_member : Field-F Shape (List ℕ × Shape) → List ℕ × Shape
seen_member f = (f.name, f.ty)

-- the plain tree of a type
abbrev pub seen : Ty → Shape
seen = fold-Ty Shape (List ℕ × Shape) seen_level seen_member

-- the name of a field, and the plain tree of its type
abbrev pub seen_field : Field → List ℕ × Shape
seen_field = fold-Field Shape (List ℕ × Shape) seen_level seen_member

-- the plain trees of fields
abbrev pub members : List Field → Members
members fs = members_of (map seen_field fs)

-- the plain trees of named types
abbrev pub shapes : List (List ℕ × Ty) → List Shape
shapes ts = map (λ t. seen t.1) ts

-- the plain trees of arms, and of the default arm
abbrev pub arms_seen : List (ℤ × Ty) → Option Shape → Arms
arms_seen arms other = arms_of (map (λ a. (a.0, seen a.1)) arms) (default_of other)
