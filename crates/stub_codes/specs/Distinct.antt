-- The distinct types of a table, as a table of their own.
use Rattle.std.specs.Prelude.{◌≡◌, ◌<◌, ℕ, ℤ, List, map, length, Some, option_map, slice_get, slice_index_or}
use Rattle.mint.specs.Types.{level, type_at, unfolded}
use Rattle.mint.specs.declared.node.Node.{Node}
use Rattle.mint.specs.declared.node.Node.TheVariants as node

-- the number that a number is exchanged for
abbrev pub number_in : List ℕ → ℕ → ℕ
number_in ids i = slice_index_or ids i 0

-- an arm whose node has the number for which its own is exchanged
abbrev pub arm_in : List ℕ → ℤ × ℕ → ℤ × ℕ
arm_in ids a = (a.0, number_in ids a.1)

-- a node whose children have the numbers for which its own are exchanged
abbrev pub renumbered : List ℕ → Node → Node
renumbered ids (node.Group is) = node.Group (map (number_in ids) is)
renumbered ids (node.Items i c) = node.Items (number_in ids i) c
renumbered ids (node.Choice t arms other) = node.Choice t (map (arm_in ids) arms) (option_map (number_in ids) other)
renumbered ids (node.Maybe i) = node.Maybe (number_in ids i)
renumbered ids n = n

-- the node of a number is of the type of this one
abbrev pub Stands : List Node → Node → ℕ → Type 0
Stands nodes n i = (i < length nodes) × (type_at nodes i ≡ level (unfolded nodes) n)

-- numbers of nodes of a table, each of the type of the node of its place in another
abbrev pub AreSame : List Node → List Node → List ℕ → Type 0
AreSame small nodes ids = (k i : ℕ) → slice_get ids k ≡ Some i → (i < length small) × (type_at small i ≡ type_at nodes k)
