-- What inlining keeps.
use Rattle.std.specs.Prelude.{◌≡◌, ℕ, List, [], Some, slice_get}
use Rattle.mint.specs.declared.node.Node.{Node}
use Rattle.mint.specs.Values.{Val}
use Rattle.mint.specs.Types.{type_at}
use Rattle.mint.specs.Sound.{IsSound}
use Rattle.wire_def.specs.declared.head.Head.{Head}
use Rattle.cast_stub.specs.declared.send.SendOp.{SendOp}
use Rattle.cast_stub.specs.declared.send.SendCode.{SendCode}
use Rattle.cast_stub.specs.Block.{code_seen}
use Rattle.cast_stub.specs.Steps.{Step}
use Rattle.cast_stub.specs.Subs.{no_subs, sent_steps}
use Rattle.cast_stub.specs.Follows.{FollowsBy, Follows, AllFollow}
use Rattle.cast_stub.specs.Turned.{Layout, IsTurned, AllTurned}

-- codes that go through the types of one table
abbrev pub GoThroughTypes : List (List SendOp) → Type 0
GoThroughTypes subs = (nodes : List Node) × ((k : ℕ) → IsSound (type_at nodes k)) × AllFollow nodes subs

-- a code that makes the steps of the code at a place of a list, wherever these are defined
abbrev pub Does : List (List SendOp) → ℕ → SendCode → Type 0
Does subs id code = (ops : List SendOp) (h : Head) (v : Val) (ss : List Step) → slice_get subs id ≡ Some ops
    → sent_steps (record { ops = ops; subs = subs }) h v ≡ Some ss → sent_steps code h v ≡ Some ss

-- no calls, and code that goes through the node by itself, where each code of the list goes through its node
abbrev pub Goes : List (List SendOp) → ℕ → SendCode → Type 0
Goes subs id code = (nodes : List Node) → IsSound (type_at nodes id) → AllFollow nodes subs
    → Follows no_subs (type_at nodes id) id [] (code_seen code.ops)

-- no calls, and code that goes through the node by itself with such loops, where each code of the list does
abbrev pub Turns : List (List SendOp) → ℕ → SendCode → Type 0
Turns subs id code = (layout : Layout) (nodes : List Node) → IsSound (type_at nodes id) → AllTurned layout nodes subs
    → FollowsBy (IsTurned layout) no_subs (type_at nodes id) id [] (code_seen code.ops)
