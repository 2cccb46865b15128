-- Where a run of a block stands, and what one more operation makes of it.
use Rattle.std.specs.Prelude.{◌≡◌, ℕ, Bool, true, false, List, Option, Some, None, nat_le, if◌then◌else◌, MatchBool, MatchOption}
use Rattle.mint.specs.declared.node.Node.{Node}
use Rattle.cast_stub.specs.Block.{Block, Piece}
use Rattle.stub_flat.specs.Places.{Spot, element, greatest}
use Rattle.stub_flat.specs.Residues.{closed}
use Rattle.stub_flat.specs.Leaves.{leaves}
use Rattle.stub_cover.specs.Rooms.{reached}
use Rattle.stub_cover.specs.Covers.{Credit, Turn, run, looped, is_plain, most_turns}
use Rattle.stub_rooms.specs.RoomsShown.{Follows}
use Rattle.stub_rooms.specs.CoversLap.{turn_of, reach_of, is_plain_lap}
use Rattle.stub_rooms.specs.declared.covers_standing.Looping.{Looping}
use Rattle.stub_rooms.specs.declared.covers_standing.Standing.{Standing}

-- the credit of a path, if there is a unit
abbrev pub credit_of : List ℕ → Option ℕ → Credit
credit_of p None = None
credit_of p (Some u) = Some (p, u)

abbrev pub credit : Standing → Credit
credit a = credit_of a.path a.unit

-- the greatest number of turns, where they are run one by one
abbrev pub few : Option ℕ → Option ℕ
few None = None
few (Some n) = if nat_le n most_turns then Some n else None

-- the rooms behind a loop
abbrev pub loop_of : List Node → Looping → Turn
loop_of N l R = looped (turn_of N l.lap) (reach_of N l.lap R) (is_plain_lap l.lap) l.most l.unit R

-- the rooms behind a loop that may be none
abbrev pub maybe_loop : List Node → Option Looping → Turn
maybe_loop N None R = None
maybe_loop N (Some l) R = loop_of N l R

-- the rooms behind a body for each element of a node, with the credit's unit
abbrev pub each_turn : List Node → Option Node → Block → Option ℕ → Turn
each_turn N n b unit R =
    looped (run N (element n) b None) (closed (leaves N (element n) b) (reached R)) (is_plain b) (greatest n) unit R

-- it goes on with these rooms and this credit, if there are rooms
abbrev pub GoesOn : Option (List (Option ℕ)) → Credit → Bool → Standing → Type 0
GoesOn x c goes b = MatchOption x (goes ≡ false) (λ rooms. (goes ≡ true) × ((b.rooms ≡ rooms) × (credit b ≡ c)))

-- what follows from rooms behind an operation follows from those before it
pub record Goes (N : List Node) (s : Spot) (piece : Piece) (a b : Standing) : Type 0 where
  pub rest : (r : Block) (x : Option (List (Option ℕ))) → Follows (run N s r (credit b)) b.rooms x
      → Follows (run N s (piece r) (credit a)) a.rooms x

-- an operation is refused, whatever comes behind it
pub record Refuses (N : List Node) (s : Spot) (piece : Piece) (a : Standing) : Type 0 where
  pub rest : (r : Block) → Follows (run N s (piece r) (credit a)) a.rooms None

-- one or the other
abbrev pub Steps : List Node → Spot → Piece → Bool → Standing → Standing → Type 0
Steps N s piece goes a b = MatchBool goes (Goes N s piece a b) (Refuses N s piece a)
