-- Code that goes through a type in order, its loops over numbers having one shape.
use Rattle.std.specs.Prelude.{◌≡◌, ℕ, ◌+◌, ◌-◌, ◌≤◌, List, [], ◌∷◌, Option, None, Some}
use Rattle.mint.specs.declared.node.Node.{Node}
use Rattle.mint.specs.Types.{Array, type_at}
use Rattle.wire_def.specs.declared.head.Order.{Order}
use Rattle.cast_stub.specs.declared.put.Put.TheVariants as put
use Rattle.cast_stub.specs.declared.send.SendOp.{SendOp}
use Rattle.cast_stub.specs.Block.{Block, stop, chunk, each}
use Rattle.cast_stub.specs.Append.{append}
use Rattle.cast_stub.specs.Subs.{sub_at}
use Rattle.cast_stub.specs.Follows.{flat, own_put, Loops, FollowsBy}

-- how the numbers of a row or text are put, if it may be sent as a block
abbrev pub Layout : Type 0
Layout = Array → Option (ℕ × Order)

-- one number of a width, in an order, and nothing else
abbrev pub IsNumber : Option (ℕ × Order) → Block → Type 0
IsNumber None b = Unit {0}
IsNumber (Some x) b = b ≡ chunk x.0 (put.Num 0 [] x.0 x.1 ∷ []) stop

-- a loop whose turn is one number, where the row may be sent as a block
abbrev pub IsTurned : Layout → Loops
IsTurned layout a p b = (before : Block) × (turn : Block) × (after : Block) × (k : ℕ) × (l : ℕ) × (m : ℕ)
    × (b ≡ append before (each p turn after)) × (flat before ≡ Some k) × (flat turn ≡ Some l) × (flat after ≡ Some m)
    × (l ≤ 3) × (k + (l - own_put turn) + m ≤ 3) × IsNumber (layout a) turn

-- each code of a list goes through its node, with such loops
abbrev pub AllTurned : Layout → List Node → List (List SendOp) → Type 0
AllTurned layout nodes subs = (k : ℕ) (b : Block) → sub_at subs k ≡ Some b
    → FollowsBy (IsTurned layout) (sub_at subs) (type_at nodes k) k [] b
