-- Faces whose names tell their items and fields apart.
use Rattle.std.specs.Prelude.{Bool, true, ◌&&◌, ℕ, List, [], ◌∷◌, map}
use Rattle.aoi.specs.Sound.{are_distinct}
use Rattle.pres.specs.Faces.{Face, Parts, no_parts, part, Arms, ItemList, Sign}
use Rattle.pres.specs.Faces as face

-- the names of parts, in order
abbrev pub names_of : Parts → List (List ℕ)
names_of no_parts = []
names_of (part n f ps) = n ∷ names_of ps

-- an enum whose items have different names
abbrev pub is_named_sign : Sign → Bool
is_named_sign (face.number k) = true
is_named_sign (face.item items) = are_distinct (map (λ i. i.0) items)

-- a face in which all items of an enum and all fields of a struct have different names
abbrev mutual
  pub is_named : Face → Bool
  is_named (face.scalar s) = is_named_sign s
  is_named (face.values ps) = are_parts_named ps
  is_named (face.members ps) = are_distinct (names_of ps) && are_parts_named ps
  is_named (face.list c f) = is_named f
  is_named (face.choice s arms) = is_named_sign s && are_arms_named arms
  is_named (face.maybe f) = is_named f
  is_named _ = true

  pub are_parts_named : Parts → Bool
  are_parts_named no_parts = true
  are_parts_named (part n f ps) = is_named f && are_parts_named ps

  pub are_arms_named : Arms → Bool
  are_arms_named face.no_other = true
  are_arms_named (face.other f) = is_named f
  are_arms_named (face.arm m f arms) = is_named f && are_arms_named arms
