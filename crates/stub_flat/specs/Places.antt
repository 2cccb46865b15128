-- The types of places: the number of a node, or none where nothing is known.
use Rattle.std.specs.Prelude.{ℕ, ℤ, Bool, true, false, ◌&&◌, List, [], ◌∷◌, Option, Some, None, slice_get, if◌then◌else◌}
use Rattle.std.specs.Ordering.{int_eq}
use Rattle.mint.specs.declared.kind.Kind.{Kind}
use Rattle.mint.specs.declared.kind.Kind.TheVariants as kinds
use Rattle.mint.specs.declared.kind.Count.{Count}
use Rattle.mint.specs.declared.kind.Count.TheVariants.{Any, AtMost, Exactly}
use Rattle.mint.specs.declared.node.Node.{Node}
use Rattle.mint.specs.declared.node.Node.TheVariants as node
use Rattle.mint.specs.Arms.{arm_found}
use Rattle.cast_stub.specs.Parts.{on_some}
use Rattle.cast_stub.specs.Block.{Cases, no_default, default, case}

-- the number of a node, if it is known
abbrev pub Spot : Type 0
Spot = Option ℕ

-- the node of a place
abbrev pub node_of : List Node → Spot → Option Node
node_of nodes s = on_some s (slice_get nodes)

-- the place of a field
abbrev pub field_spot : ℕ → Option Node → Spot
field_spot n (Some (node.Group ids)) = slice_get ids n
field_spot n _ = None

-- the place at a path
abbrev pub spot_at : List Node → List ℕ → Spot → Spot
spot_at nodes [] s = s
spot_at nodes (n ∷ p) s = spot_at nodes p (field_spot n (node_of nodes s))

-- the place of an element; that of a number of a row is not known
abbrev pub element : Option Node → Spot
element (Some (node.Items i c)) = Some i
element _ = None

-- the place of the value that may be there
abbrev pub present : Option Node → Spot
present (Some (node.Maybe i)) = Some i
present _ = None

-- the kind of the numbers of a row or text
abbrev pub row_kind : Option Node → Option Kind
row_kind (Some (node.Row k c)) = Some k
row_kind (Some (node.Text c)) = Some kinds.Char
row_kind _ = None

-- whether a value has a length: a row, a text or a list
abbrev pub has_length : Option Node → Bool
has_length (Some (node.Row k c)) = true
has_length (Some (node.Text c)) = true
has_length (Some (node.Items i c)) = true
has_length _ = false

-- the greatest length of a count, if it has one
abbrev pub most_of : Count → Option ℕ
most_of Any = None
most_of (AtMost n) = Some n
most_of (Exactly n) = Some n

-- the greatest length of a value, if there is one
abbrev pub greatest : Option Node → Option ℕ
greatest (Some (node.Row k c)) = most_of c
greatest (Some (node.Text c)) = most_of c
greatest (Some (node.Items i c)) = most_of c
greatest _ = None

-- the place of the arm of a number, or else of the default arm
abbrev pub arm_spot : Option Node → ℤ → Spot
arm_spot (Some (node.Choice t arms other)) n = arm_found arms other n
arm_spot _ n = None

-- whether a number has a case
abbrev pub has_case : ℤ → Cases → Bool
has_case n no_default = false
has_case n (default b) = false
has_case n (case m b cs) = if int_eq n m then true else has_case n cs

-- whether each arm has a case
abbrev pub all_have : List (ℤ × ℕ) → Cases → Bool
all_have [] cs = true
all_have (a ∷ arms) cs = has_case a.0 cs && all_have arms cs

-- the place of the body of every other number: the default arm's, where there is a case for each arm
abbrev pub rest_spot : Option Node → Cases → Spot
rest_spot (Some (node.Choice t arms other)) cs = if all_have arms cs then other else None
rest_spot _ cs = None
