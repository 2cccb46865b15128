-- What is lowered once for a table, before the codes of operations are made of it.
use Rattle.std.specs.Prelude.{◌≡◌, ℕ, List, [], length, Option, None, Some, slice_get}
use Rattle.mint.specs.declared.node.Node.{Node}
use Rattle.wire_def.specs.declared.encoding.Back.{Back}
use Rattle.wire_def.specs.declared.encoding.Encoding.{Encoding}
use Rattle.cast_stub.specs.declared.recv.RecvOp.{RecvOp}
use Rattle.cast_stub.specs.declared.send.SendCode.{SendCode}
use Rattle.cast_stub.specs.declared.send.SendOp.{SendOp}
use Rattle.cast_stub.specs.Follows.{AllFollow}
use Rattle.cast_stub.specs.Layouts.{layout_of}
use Rattle.cast_stub.specs.Traces as received
use Rattle.cast_stub.specs.Turned.{AllTurned}
use Rattle.copy_inline.specs.Inlined.{Does, Goes, Turns}
use Rattle.storage_class.specs.Spans.{AreClasses}
use Rattle.stub_lower.specs.Lowered.{CodesSend}
use Rattle.stub_lower.specs.RecvLowered.{CodesReceive}
use Rattle.stub_codes.specs.declared.lowered.Lowered.{Lowered}
use Rattle.stub_codes.specs.Backs.{encoding, other_encoding}

-- the codes of nodes that receive over an encoding
pub record AreReceivers (e : Encoding) (nodes : List Node) (subs : List (List RecvOp)) : Type 0 where
  pub many : length subs ≡ length nodes
  pub sound : CodesReceive e nodes subs
  pub traces : received.AllTrace nodes subs
  pub turned : received.AllTurned (layout_of e) nodes subs

-- those over another encoding, where there is one, and none where there is none
abbrev pub AreOthers : Option Encoding → List Node → Option (List (List RecvOp)) → Type 0
AreOthers None nodes None = Unit {0}
AreOthers (Some e) nodes (Some subs) = AreReceivers e nodes subs
AreOthers _ nodes _ = ⊥

-- the codes of nodes that send and receive over a back end, and how long the nodes are
pub record AreLowered (k : Back) (nodes : List Node) (low : Lowered) : Type 0 where
  pub many : length low.sends ≡ length nodes
  pub sends : CodesSend (encoding k) nodes low.sends
  pub follows : AllFollow nodes low.sends
  pub turned : AllTurned (layout_of (encoding k)) nodes low.sends
  pub enc : low.classes.enc ≡ encoding k
  pub classes : AreClasses nodes low.classes
  pub recvs : AreReceivers (encoding k) nodes low.recvs
  pub others : AreOthers (other_encoding k) nodes low.others

-- code without calls that does what the code of a node does, and goes through the type as that goes
pub record IsBody (all : List (List SendOp)) (id : ℕ) (code : SendCode) : Type 0 where
  pub steps : Does all id code
  pub subs : code.subs ≡ []
  pub follows : Goes all id code
  pub turned : Turns all id code

-- such code of some nodes, each at the place of its node
abbrev pub AreBodies : List (List SendOp) → List (Option SendCode) → Type 0
AreBodies all bodies = (id : ℕ) (code : SendCode) → slice_get bodies id ≡ Some (Some code) → IsBody all id code
