-- The laws of hoisting.
use Rattle.std.specs.Prelude.{◌≡◌, ℕ, ◌≤◌, List, None, Some, option_map}
use Rattle.mint.specs.Types.{Ty}
use Rattle.mint.specs.Typed.{IsOf}
use Rattle.mint.specs.Sound.{IsSound}
use Rattle.mint.specs.Values.{Val}
use Rattle.wire_def.specs.declared.encoding.Encoding.{Encoding}
use Rattle.wire_def.specs.declared.head.Head.{Head}
use Rattle.cast_stub.specs.Block.{Block}
use Rattle.cast_stub.specs.Steps.{Step, Calls, steps}
use Rattle.cast_stub.specs.Meaning.{HasRoom, costs}
use Rattle.hoist.specs.Hoisted.{Roles, closed, hoisted, IsTaken}
use Rattle.cast_stub.specs.Framed.{IsFramed}
use Rattle.cast_stub.specs.Kept.{unensured, without_room}
use Rattle.cast_stub.specs.Bare.{RowsAreBare}
use Rattle.hoist.specs.Rows.{RowsEnsured}
use Rattle.hoist.specs.Regions.{Sizes, AreSizes, roles, regions}
use Rattle.hoist.specs.SpanSizes.{sizes}

-- hoisted code has room for all that it appends, from every position, whatever the roles are
abbrev pub HoistingCovers : Type 0
HoistingCovers = (ro : Roles) (c : Calls) (h : Head) (t : Ty) (b : Block) (v : Val) (ss : List Step) (p : ℕ) → IsTaken ro t b → IsOf t v
    → steps c h (closed (hoisted ro t b)) v ≡ Some ss → HasRoom p 0 ss

-- hoisted code ensures room, and does nothing more
abbrev pub HoistingKeepsSteps : Type 0
HoistingKeepsSteps = (ro : Roles) (c : Calls) (h : Head) (t : Ty) (b : Block) (v : Val)
    → option_map without_room (steps c h (closed (hoisted ro t b)) v) ≡ option_map without_room (steps c h b v)

-- with its ensures left out it is the same code
abbrev pub HoistingKeepsCode : Type 0
HoistingKeepsCode = (ro : Roles) (t : Ty) (b : Block) → unensured (closed (hoisted ro t b)) ≡ unensured b

-- by the sizes of types it looks at the buffer at most once for each region
abbrev pub HoistingIsSparing : Type 0
HoistingIsSparing = (z : Sizes) (c : Calls) (h : Head) (t : Ty) (n : ℕ) (b : Block) (v : Val) (ss : List Step) → AreSizes z → IsSound t
    → IsFramed n t b → IsOf t v
    → steps c h (closed (hoisted (roles z) t b)) v ≡ Some ss → (costs ss).checks ≤ regions z n t v

-- it ensures nothing within a loop over a row or text
abbrev pub HoistingSparesRows : Type 0
HoistingSparesRows = (ro : Roles) (t : Ty) (b : Block) → IsTaken ro t b → RowsAreBare t (closed (hoisted ro t b))

-- it ensures each big row by the length of its list
abbrev pub HoistingEnsuresRows : Type 0
HoistingEnsuresRows = (ro : Roles) (t : Ty) (b : Block) → IsTaken ro t b → RowsEnsured ro t None (closed (hoisted ro t b))

-- code that goes through a type is taken, by the sizes of types
abbrev pub FramedIsTaken : Type 0
FramedIsTaken = (z : Sizes) (t : Ty) (n : ℕ) (b : Block) → AreSizes z → IsFramed n t b → IsTaken (roles z) t b

-- the spans of an encoding are sizes that belong together
abbrev pub SpansAreSizes : Encoding → Type 0
SpansAreSizes e = AreSizes (sizes e)
