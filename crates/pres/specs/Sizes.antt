-- How deep faces are, and over how many nodes they spread, up to one more than is allowed.
use Rattle.std.specs.Prelude.{Bool, ◌||◌, nat_lt, ℕ, suc, ◌+◌, min, max, List, [], ◌∷◌, slice_index_or, sum_by, Option, None, Some, ℤ}
use Rattle.std.specs.List.{list_any}
use Rattle.kit_base.specs.Limits.{deepest, most_operation_nodes, most_unit_nodes}
use Rattle.mint.specs.Blank.{depth, fields_depth, arms_depth}
use Rattle.mint.specs.declared.node.Node.{Node}
use Rattle.mint.specs.declared.node.Node.TheVariants as node
use Rattle.aoi.specs.Plain.{PlainUnit}
use Rattle.pres.specs.declared.ops.Op.{Op}
use Rattle.pres.specs.declared.sizes.Size.{Size}
use Rattle.pres.specs.Faces.{Face, Parts, Arms, type_of, types_of, arm_types_of}
use Rattle.pres.specs.Faults.{spread, spread_inside, spread_after, has_long_in}

-- so many levels and nodes, each up to one more than is allowed
abbrev pub sized : ℕ → ℕ → Size
sized d n = record { depth = min d (suc deepest); nodes = min n (suc most_operation_nodes) }

-- the size of a face
abbrev pub size_of : Face → Size
size_of f = sized (depth (type_of f)) (spread f)

-- the size of parts, side by side
abbrev pub size_inside : Parts → Size
size_inside ps = sized (fields_depth (types_of ps)) (spread_inside ps)

-- the size of arms, side by side
abbrev pub size_after : Arms → Size
size_after arms = sized (arms_depth (arm_types_of arms)) (spread_after arms)

-- what is side by side
abbrev pub beside : Size → Size → Size
beside a b = sized (max a.depth b.depth) (a.nodes + b.nodes)

-- a node over others
abbrev pub over : Size → Size
over a = sized (suc a.depth) (suc a.nodes)

-- the size of nothing
abbrev pub no_size : Size
no_size = sized 0 0

-- the size of a number among those of the nodes before
abbrev pub at : List Size → ℕ → Size
at sizes i = slice_index_or sizes i (sized 1 1)

-- the size of fields by their numbers
abbrev pub inside_at : List Size → List ℕ → Size
inside_at sizes [] = no_size
inside_at sizes (i ∷ is) = beside (at sizes i) (inside_at sizes is)

-- the size of the default, where there is one
abbrev pub other_at : List Size → Option ℕ → Size
other_at sizes None = no_size
other_at sizes (Some i) = at sizes i

-- the size of arms by their numbers, and of the default
abbrev pub after_at : List Size → List (ℤ × ℕ) → Option ℕ → Size
after_at sizes [] o = other_at sizes o
after_at sizes (a ∷ arms) o = beside (at sizes a.1) (after_at sizes arms o)

-- the size of a node, over those of the nodes before it
abbrev pub size_at : List Size → Node → Size
size_at sizes (node.Group ids) = over (inside_at sizes ids)
size_at sizes (node.Items i c) = over (at sizes i)
size_at sizes (node.Choice t arms o) = over (after_at sizes arms o)
size_at sizes (node.Maybe i) = over (at sizes i)
size_at sizes _ = sized 1 1

-- a size of too many levels
abbrev pub has_deep : List Size → Bool
has_deep sizes = list_any (λ (s : Size). nat_lt deepest s.depth) sizes

-- the nodes of an operation's messages, each up to the limit
abbrev pub nodes_of : List Size → Op → ℕ
nodes_of sizes o = (at sizes o.request).nodes + (at sizes o.reply).nodes

-- operations with too many nodes, one of them or all
abbrev pub is_over : List Size → List Op → Bool
is_over sizes ops = list_any (λ o. nat_lt most_operation_nodes (nodes_of sizes o)) ops
    || nat_lt most_unit_nodes (sum_by (nodes_of sizes) ops)

-- a unit with a long name in it, or operations with too many nodes
abbrev pub is_too_wide : PlainUnit → List Size → List Op → Bool
is_too_wide u sizes ops = list_any has_long_in u.interfaces || is_over sizes ops
