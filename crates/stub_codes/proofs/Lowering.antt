-- What is lowered for a table.
use Rattle.std.proofs.Common.{◌≡◌, List, length, Option, Result, Ok, Err, IfOk, ◌∙◌, subst}
use Rattle.kit_base.specs.declared.errors.NoMemory.{NoMemory}
use Rattle.mint.specs.declared.node.Node.{Node}
use Rattle.wire_def.specs.declared.encoding.Back.{Back}
use Rattle.wire_def.specs.declared.encoding.Encoding.{Encoding}
use Rattle.cast_stub.specs.declared.recv.RecvOp.{RecvOp}
use Rattle.cast_stub.specs.Follows.{AllFollow}
use Rattle.cast_stub.specs.Layouts.{layout_of}
use Rattle.cast_stub.specs.Traces as received
use Rattle.cast_stub.specs.Turned.{AllTurned}
use Rattle.storage_class.specs.Spans.{AreClasses}
use Rattle.stub_lower.specs.Lowered.{CodesSend}
use Rattle.stub_lower.specs.RecvLowered.{CodesReceive}
use Rattle.stub_codes.specs.declared.lowered.Lowered.{Lowered}
use Rattle.stub_codes.specs.Backs.{encoding, other_encoding}
use Rattle.stub_codes.specs.Lowered.{AreReceivers, AreOthers, AreLowered}

pub lowered : (k : Back) (nodes : List Node) (e : Encoding) (x : Option Encoding) (low : Lowered) → e ≡ encoding k → x ≡ other_encoding k
    → length low.sends ≡ length nodes → CodesSend e nodes low.sends → AllFollow nodes low.sends → AllTurned (layout_of e) nodes low.sends
    → low.classes.enc ≡ e → AreClasses nodes low.classes → AreReceivers e nodes low.recvs → AreOthers x nodes low.others
    → AreLowered k nodes low
lowered k nodes e x low is other many sends follows turned enc classes recvs others =
    record {
      many = many;
      sends = subst (λ (y : Encoding). CodesSend y nodes low.sends) is sends;
      follows = follows;
      turned = subst (λ (y : Encoding). AllTurned (layout_of y) nodes low.sends) is turned;
      enc = enc ∙ is;
      classes = classes;
      recvs = subst (λ (y : Encoding). AreReceivers y nodes low.recvs) is recvs;
      others = subst (λ (y : Option Encoding). AreOthers y nodes low.others) other others;
    }

pub receivers : (e : Encoding) (nodes : List Node) (r : Result (List (List RecvOp)) NoMemory)
    → IfOk r (λ subs. length subs ≡ length nodes) → IfOk r (λ subs. CodesReceive e nodes subs)
    → IfOk r (λ subs. received.AllTrace nodes subs) → IfOk r (λ subs. received.AllTurned (layout_of e) nodes subs)
    → IfOk r (λ subs. AreReceivers e nodes subs)
receivers e nodes (Ok subs) many sound traces turned = record { many = many; sound = sound; traces = traces; turned = turned }
receivers e nodes (Err x) many sound traces turned = tt
