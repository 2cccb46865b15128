-- When a unit is sound.
use Rattle.std.specs.Prelude.{Bool, true, false, not, ◌&&◌, ◌==◌, nat_lt, nat_le, IsTrue, ℕ, zero, suc, ◌+◌, ◌^◌, ◌-◌, ℤ, List, [], ◌∷◌, map, length, slice_index_or, Option, Some, None, if◌then◌else◌}
use Rattle.std.specs.List.{list_all, list_any}
use Rattle.std.specs.Ordering.{int_eq}
use Rattle.std.specs.Str.{bytes_eq}
use Rattle.mint.specs.declared.kind.Count.{Count}
use Rattle.mint.specs.declared.kind.Count.TheVariants.{Exactly}
use Rattle.mint.specs.Kinds.{in_range}
use Rattle.kit_base.specs.Limits.{most_labels, most_raises}
use Rattle.aoi.specs.declared.interfaces.Interface.{Interface}
use Rattle.aoi.specs.declared.interfaces.Operation.{Operation}
use Rattle.aoi.specs.declared.interfaces.Raise.{Raise}
use Rattle.aoi.specs.Shapes.{Shape, void, number, enumeration, text, array, structure, choice, optional, named, Members, no_more, member, Arms, no_default, default, arm, seen, members, shapes}
use Rattle.aoi.specs.Units.{Parts}
pub use Rattle.aoi.specs.Names.{names_of}

-- names of which no two are equal
abbrev pub are_distinct : List (List ℕ) → Bool
are_distinct [] = true
are_distinct (n ∷ ns) = not (list_any (λ m. bytes_eq m n) ns) && are_distinct ns

-- numbers of which no two are equal
abbrev pub are_different : List ℤ → Bool
are_different [] = true
are_different (n ∷ ns) = not (list_any (λ m. int_eq m n) ns) && are_different ns

-- how many different numbers there are
abbrev pub count_different : List ℤ → ℕ
count_different [] = 0
count_different (n ∷ ns) = (if list_any (λ m. int_eq m n) ns then 0 else 1) + count_different ns

-- the numbers of arms
abbrev pub numbers_of : Arms → List ℤ
numbers_of no_default = []
numbers_of (default s) = []
numbers_of (arm n s arms) = n ∷ numbers_of arms

-- a field is there
abbrev pub has_member : Members → Bool
has_member no_more = false
has_member (member n s ms) = true

-- an arm or a default is there
abbrev pub has_arm : Arms → Bool
has_arm no_default = false
has_arm _ = true

-- the number of the type that a type names, if it is a name
abbrev pub name_in : Shape → Option ℕ
name_in (named k) = Some k
name_in _ = None

-- the type that a number leads to, where there is one, or else a type
abbrev pub followed : Option ℕ → (ℕ → Shape) → Shape → Shape
followed None follow s = s
followed (Some k) follow s = follow k

-- a type once its names, at most n, are followed, each to a type below the limit, which is then its place
abbrev pub unfolded : ℕ → List Shape → ℕ → Shape → Shape
unfolded zero types limit s = s
unfolded (suc n) types limit s = followed (name_in s)
    (λ k. if nat_lt k limit then unfolded n types k (slice_index_or types k void) else s) s

-- a number, or an enum
abbrev pub is_tag : Shape → Bool
is_tag (number k) = true
is_tag (enumeration items) = true
is_tag _ = false

-- a number that is one of the tag's
abbrev pub is_of_tag : Shape → ℤ → Bool
is_of_tag (number k) n = in_range k n
is_of_tag (enumeration items) n = list_any (λ i. int_eq i.1 n) items
is_of_tag _ n = false

-- a count that a text may have: not `Exactly`
abbrev pub is_open : Count → Bool
is_open (Exactly n) = false
is_open _ = true

-- a count that an array may have: not `Exactly` 0
abbrev pub is_some_count : Count → Bool
is_some_count (Exactly n) = nat_lt 0 n
is_some_count _ = true

abbrev pub is_sound_enum : List (List ℕ × ℤ) → Bool
is_sound_enum items =
    -- it has an item
    not (length items == 0)
    -- its items have at most 4,096 different numbers
    && nat_le (count_different (map (λ i. i.1) items)) most_labels
    -- and different names
    && are_distinct (map (λ i. i.0) items)

abbrev pub are_sound_labels : Shape → Bool → List ℤ → Bool
are_sound_labels tag there numbers =
    -- a union's tag unfolds to a number or an enum
    is_tag tag
    -- it has an arm or a default
    && there
    -- it has at most 4,096 arms
    && nat_le (length numbers) most_labels
    -- their numbers are all of the tag
    && list_all (is_of_tag tag) numbers
    -- and no two are equal
    && are_different numbers

abbrev pub is_sound_union : Shape → Arms → Bool
is_sound_union tag arms = are_sound_labels tag (has_arm arms) (numbers_of arms)

-- void, or else what is asked
abbrev pub or_void : Shape → Bool → Bool
or_void void b = true
or_void _ b = b

-- a type that is sound where it may name the types below a limit; void is not one
abbrev mutual
  pub is_sound_type : List Shape → ℕ → Shape → Bool
  is_sound_type types limit void = false
  is_sound_type types limit (number k) = true
  is_sound_type types limit (enumeration items) = is_sound_enum items
  is_sound_type types limit (text c) = is_open c
  is_sound_type types limit (array s c) = is_some_count c && is_sound_type types limit s
  -- a struct has a field, and its fields have different names
  is_sound_type types limit (structure ms) = has_member ms && are_distinct (names_of ms) && are_sound types limit ms
  is_sound_type types limit (choice tag arms) = is_sound_type types limit tag
      && is_sound_union (unfolded limit types limit tag) arms && are_sound_arms types limit arms
  is_sound_type types limit (optional s) = is_sound_type types limit s
  -- a named type comes before what names it
  is_sound_type types limit (named k) = nat_lt k limit

  -- fields whose types are sound
  pub are_sound : List Shape → ℕ → Members → Bool
  are_sound types limit no_more = true
  are_sound types limit (member n s ms) = is_sound_type types limit s && are_sound types limit ms

  -- arms whose types are void or sound
  pub are_sound_arms : List Shape → ℕ → Arms → Bool
  are_sound_arms types limit no_default = true
  are_sound_arms types limit (default s) = or_void s (is_sound_type types limit s)
  are_sound_arms types limit (arm n s arms) = or_void s (is_sound_type types limit s) && are_sound_arms types limit arms

-- types that are sound, each over those before it
abbrev pub are_sound_types : List Shape → ℕ → List Shape → Bool
are_sound_types types limit [] = true
are_sound_types types limit (s ∷ ss) = is_sound_type types limit s && are_sound_types types (limit + 1) ss

abbrev pub is_sound_raise : List Shape → Raise → Bool
is_sound_raise types raise =
    -- the members of an exception have different names
    are_distinct (names_of (members raise.members))
    && are_sound types (length types) (members raise.members)

abbrev pub is_sound_operation : List Shape → ℕ → Operation → Bool
is_sound_operation types slots op =
    -- void is not a parameter
    are_sound types (length types) (members op.ins)
    && are_sound types (length types) (members op.outs)
    -- but may be the result
    && or_void (seen op.result) (is_sound_type types (length types) (seen op.result))
    -- an operation raises at most 4,095 exceptions
    && nat_le (length op.raises) most_raises
    && list_all (is_sound_raise types) op.raises
    -- its slot is one of the interface's
    && nat_lt op.slot slots

abbrev pub is_sound_interface : List Shape → Interface → Bool
is_sound_interface types i =
    -- the base, the slots and 100 make at most 2^31 - 1
    nat_le (i.base + i.slots + 100) (2 ^ 31 - 1)
    && list_all (is_sound_operation types i.slots) i.ops

-- a unit whose types and interfaces are sound
abbrev pub is_sound : Parts → Bool
is_sound u =
    are_sound_types (shapes u.types) 0 (shapes u.types)
    && list_all (is_sound_interface (shapes u.types)) u.interfaces

abbrev pub IsSound : Parts → Type 0
IsSound u = IsTrue (is_sound u)
