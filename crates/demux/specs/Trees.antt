-- Nodes by number, the first of which is a tree's root.
use Rattle.std.specs.Prelude.{◌≡◌, ℕ, ◌<◌, ◌++◌, List, [], ◌∷◌, length, Option, None, Some, slice_index_or}
use Rattle.demux.specs.Edges.{goal_of}
use Rattle.demux.specs.Spelled.{spelled}
use Rattle.demux.specs.declared.tree.Node.{Node}

-- a node from which nothing leads
abbrev pub bare : Node
bare = record { edges = []; place = None }

-- the node of a number
abbrev pub node_at : List Node → ℕ → Node
node_at t n = slice_index_or t n bare

-- what is behind a node, where there is one
abbrev pub behind : Option ℕ → (ℕ → Option ℕ) → Option ℕ
behind None f = None
behind (Some n) f = f n

-- the node to which words lead from a node
abbrev pub walk : List Node → ℕ → List ℕ → Option ℕ
walk t n [] = Some n
walk t n (w ∷ ws) = behind (goal_of (node_at t n).edges w) (λ m. walk t m ws)

-- the place of the node to which words lead from a node
abbrev pub find : List Node → ℕ → List ℕ → Option ℕ
find t n [] = (node_at t n).place
find t n (w ∷ ws) = behind (goal_of (node_at t n).edges w) (λ m. find t m ws)

-- the place that a tree has for a name
abbrev pub place_in : List Node → List ℕ → Option ℕ
place_in t s = find t 0 (spelled s)

-- nodes of which each has one list of words alone that leads to it from the first
pub record IsTree (t : List Node) : Type 0 where
  pub some : 0 < length t
  pub label : ℕ → List ℕ
  pub root : label 0 ≡ []
  pub edges : (n w m : ℕ) → goal_of (node_at t n).edges w ≡ Some m → (m < length t) × (label m ≡ label n ++ w ∷ [])

-- a tree that finds what another finds, and in which what led to a node leads to it too
pub record Extends (old new : List Node) : Type 0 where
  pub tree : IsTree new
  pub finds : (ws : List ℕ) → find new 0 ws ≡ find old 0 ws
  pub leads : (ws : List ℕ) (n : ℕ) → walk old 0 ws ≡ Some n → walk new 0 ws ≡ Some n

-- a tree in which a word leads from a node to another
pub record Leads (old new : List Node) (n w m : ℕ) : Type 0 where
  pub extends : Extends old new
  pub within : m < length new
  pub leads : goal_of (node_at new n).edges w ≡ Some m

-- a tree in which a name leads to a node
pub record IsNodeOf (old new : List Node) (name : List ℕ) (n : ℕ) : Type 0 where
  pub extends : Extends old new
  pub within : n < length new
  pub leads : walk new 0 (spelled name) ≡ Some n
