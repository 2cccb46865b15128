-- What inlining of receive code keeps.
use Rattle.std.specs.Prelude.{◌≡◌, ℕ, List, [], Some, slice_get}
use Rattle.mint.specs.declared.node.Node.{Node}
use Rattle.mint.specs.Types.{Ty, type_at}
use Rattle.mint.specs.Sound.{IsSound}
use Rattle.cast_stub.specs.declared.recv.RecvOp.{RecvOp}
use Rattle.cast_stub.specs.declared.recv.RecvCode.{RecvCode}
use Rattle.cast_stub.specs.RecvBlock.{code_seen}
use Rattle.cast_stub.specs.Runs.{Place}
use Rattle.cast_stub.specs.Got.{no_subs, received}
use Rattle.cast_stub.specs.Traces.{TracesBy, Traces, AllTrace, IsTurned, AllTurned}
use Rattle.cast_stub.specs.Turned.{Layout}
use Rattle.cast_stub.specs.Runs.{Holds}

-- codes that go through the types of one table
abbrev pub GoThroughTypes : List (List RecvOp) → Type 0
GoThroughTypes subs = (nodes : List Node) × ((k : ℕ) → IsSound (type_at nodes k)) × AllTrace nodes subs

-- a code that gives what the code at a place of a list gives, wherever that does not stray
abbrev pub Does : List (List RecvOp) → ℕ → RecvCode → Type 0
Does subs id code = (ops : List RecvOp) (t : Ty) (s : Place) → slice_get subs id ≡ Some ops
    → Holds (received (record { ops = ops; subs = subs }) t s) → received code t s ≡ received (record { ops = ops; subs = subs }) t s

-- no calls, and code that goes through the node by itself, where each code of the list goes through its node
abbrev pub Goes : List (List RecvOp) → ℕ → RecvCode → Type 0
Goes subs id code = (nodes : List Node) → IsSound (type_at nodes id) → AllTrace nodes subs
    → Traces no_subs (type_at nodes id) id [] (code_seen code.ops)

-- the same with such loops
abbrev pub Turns : List (List RecvOp) → ℕ → RecvCode → Type 0
Turns subs id code = (layout : Layout) (nodes : List Node) → IsSound (type_at nodes id) → AllTurned layout nodes subs
    → TracesBy (IsTurned layout) no_subs (type_at nodes id) id [] (code_seen code.ops)
