-- The lap of a loop, and what one more operation does to residues.
use Rattle.std.specs.Prelude.{Bool, true, List, None}
use Rattle.mint.specs.declared.node.Node.{Node}
use Rattle.cast_stub.specs.Block.{Block, Piece, code_seen}
use Rattle.stub_flat.specs.Places.{Spot}
use Rattle.stub_flat.specs.Residues.{Residues, moved, closed}
use Rattle.stub_flat.specs.Leaves.{leaves}
use Rattle.stub_cover.specs.Rooms.{Rooms, took, reached}
use Rattle.stub_cover.specs.Covers.{Turn, run, is_plain}
use Rattle.stub_rooms.specs.RoomsShown.{Shown}
use Rattle.stub_rooms.specs.declared.covers_lap.Walk.{Walk}
use Rattle.stub_rooms.specs.declared.covers_lap.Lap.{Lap}
use Rattle.stub_rooms.specs.declared.covers_lap.Lap.TheVariants.{Octets, Body}

-- the nodes of a walk
abbrev pub nodes : Walk → List Node
nodes w = w.mint.now

-- what a lap makes of rooms
abbrev pub turn_of : List Node → Lap → Turn
turn_of N (Octets w) = took w
turn_of N (Body ops s) = run N s (code_seen ops.now) None

-- to which residues a lap leads
abbrev pub leaves_of : List Node → Lap → Residues → Residues
leaves_of N (Octets w) = moved w
leaves_of N (Body ops s) = leaves N s (code_seen ops.now)

-- whether a lap neither ensures nor calls
abbrev pub is_plain_lap : Lap → Bool
is_plain_lap (Octets w) = true
is_plain_lap (Body ops s) = is_plain (code_seen ops.now)

-- the residues that a loop comes to, by the rooms before it
abbrev pub reach_of : List Node → Lap → Rooms → Residues
reach_of N lap R = closed (leaves_of N lap) (reached R)

-- what is shown behind more code is shown before an operation
pub record Leads (N : List Node) (s : Spot) (piece : Piece) (a b : List Bool) : Type 0 where
  pub rest : (r : Block) (x : List Bool) → Shown (leaves N s r) b x → Shown (leaves N s (piece r)) a x
