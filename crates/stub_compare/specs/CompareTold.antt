-- What a function has put after numbers, where there is something to put.
use Rattle.std.specs.Prelude.{◌≡◌, ℕ, ◌<◌, Bool, true, false, List, [], ◌++◌, Option, Some, None, is_some}
use Rattle.mint.specs.declared.node.Node.{Node}
use Rattle.wire_def.specs.declared.head.Order.{Order}
use Rattle.wire_def.specs.declared.head.Order.TheVariants.{Big, Little}
use Rattle.cast_stub.specs.Block.{Block, Cases, Piece, row_copy, row_swap}
use Rattle.stub_flat.specs.Places.{Spot, node_of}
use Rattle.stub_flat.specs.Residues.{Residues, every}
use Rattle.stub_flat.specs.Leaves.{leaves, ways_leave}
use Rattle.stub_flat.specs.Items.{Items, items, way_items}
use Rattle.stub_flat.specs.Flat.{Called, Spots, calls, all_noted}
use Rattle.stub_compare.specs.CompareSets.{Agree, row}
use Rattle.stub_places.specs.Sets.{set_of}
use Rattle.stub_compare.specs.CompareText.{items_text, ways_text}

-- the new numbers are the old ones and then a text, whatever follows it
abbrev pub IsPut : List ℕ → (List ℕ → List ℕ) → List ℕ → Type 0
IsPut old text new = (rest : List ℕ) → old ++ text rest ≡ new ++ rest

-- an answer that says whether something is there, and a fact of it where it is
abbrev pub IsTold : {A : Type 0} → Bool → Option A → (A → Type 0) → Type 0
IsTold true (Some a) P = P a
IsTold true None P = ⊥
IsTold false (Some a) P = ⊥
IsTold false None P = Unit {0}

-- neither is there, or both, and old numbers before one text are new numbers before the other
abbrev pub IsLed : {A : Type 0} → (A → List ℕ → List ℕ) → Option A → Option A → List ℕ → List ℕ → Type 0
IsLed text (Some a) (Some b) old new = (rest : List ℕ) → old ++ text a rest ≡ new ++ text b rest
IsLed text None None old new = Unit {0}
IsLed text (Some a) None old new = ⊥
IsLed text None (Some b) old new = ⊥

-- the same, where an answer says so; else the first is not there
abbrev pub IsLedWhere : {A : Type 0} → (A → List ℕ → List ℕ) → Bool → Option A → Option A → List ℕ → List ℕ → Type 0
IsLedWhere text true a b old new = IsLed text a b old new
IsLedWhere text false a b old new = a ≡ None

-- what is left of a block was put, and the residues behind it are known
pub record IsBlockTold (told : Bool) (nodes : List Node) (s : Spot) (b : Block) (S T : Residues) (old new : List ℕ) : Type 0 where
  pub put : IsTold told (items nodes s b S) (λ i. IsPut old (items_text i) new)
  pub behind : told ≡ true → Agree T (leaves nodes s b S)

-- what is left of an operation was put, whatever block follows it, and the residues behind it are known
pub record IsOpTold (told : Bool) (nodes : List Node) (s : Spot) (o : Piece) (S T : Residues) (old new : List ℕ) : Type 0 where
  pub put : (r : Block) → IsLedWhere items_text told (items nodes s (o r) S) (items nodes s r T) old new
  pub behind : told ≡ true → (r : Block) → Agree (leaves nodes s r T) (leaves nodes s (o r) S)

-- what is left of the bodies of a switch over a place was put, and the residues behind them are known
pub record AreWaysTold (told : Bool) (nodes : List Node) (place : Spot) (cs : Cases) (S T : Residues) (old new : List ℕ) : Type 0 where
  pub put : IsTold told (way_items nodes (node_of nodes place) cs cs S) (λ w. IsPut old (ways_text w) new)
  pub behind : told ≡ true → Agree T (ways_leave nodes (node_of nodes place) cs cs S)

-- the set that is there, or no list
abbrev pub got : Option (List Bool) → List Bool
got None = []
got (Some bs) = bs

-- what is left of a block was put where a set is given, which is the set behind it
abbrev pub IsBlockPut : Option (List Bool) → List Node → Spot → Block → Residues → List ℕ → List ℕ → Type 0
IsBlockPut o nodes s b S old new = IsBlockTold (is_some o) nodes s b S (set_of (got o)) old new

-- the same of an operation
abbrev pub IsOpPut : Option (List Bool) → List Node → Spot → Piece → Residues → List ℕ → List ℕ → Type 0
IsOpPut o nodes s p S old new = IsOpTold (is_some o) nodes s p S (set_of (got o)) old new

-- the same of the bodies of a switch over a place
abbrev pub AreWaysPut : Option (List Bool) → List Node → Spot → Cases → Residues → List ℕ → List ℕ → Type 0
AreWaysPut o nodes place cs S old new = AreWaysTold (is_some o) nodes place cs S (set_of (got o)) old new

-- each set of a table led through an operation, whatever block follows it
abbrev pub IsLedThrough : List Node → Spot → Piece → List (List Bool) → List (List Bool) → Type 0
IsLedThrough nodes s o old new = (r : Block) (k : ℕ) → k < 9 → Agree (leaves nodes s r (row new k)) (leaves nodes s (o r) (row old k))

-- the image of a row in an order
abbrev pub row_piece : Order → List ℕ → Piece
row_piece Big = row_swap
row_piece Little = row_copy

-- the calls of an operation noted, whatever block follows it; else there is no noting them
abbrev pub IsNotedThrough : Bool → List Node → Spot → Piece → Spots → Spots → Type 0
IsNotedThrough true nodes s o old new = (r : Block) → all_noted (calls nodes s (o r)) old ≡ all_noted (calls nodes s r) new
IsNotedThrough false nodes s o old new = (r : Block) → all_noted (calls nodes s (o r)) old ≡ None

-- the calls of a code noted, where its node is known
abbrev pub body_calls : List Node → Spot → Block → List Called
body_calls nodes None b = []
body_calls nodes (Some n) b = calls nodes (Some n) b

-- what is left of a code of a list, from all residues, where its node is known
abbrev pub body_items : List Node → Spot → Block → Option Items
body_items nodes None b = None
body_items nodes (Some n) b = items nodes (Some n) b every
