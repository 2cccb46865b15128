-- The texts of the stub code of operations.
use Rattle.std.specs.Prelude.{ℕ, List, [], ◌∷◌, ◌++◌, map, codes}
use Rattle.cast_stub.specs.Block as send
use Rattle.cast_stub.specs.RecvBlock as recv
use Rattle.stub_print.specs.SendText.{send_text}
use Rattle.stub_print.specs.RecvText.{recv_text}
use Rattle.aoi.specs.Plain.{PlainInterface}
use Rattle.pres.specs.declared.ops.Op.{Op}
use Rattle.json_shape.specs.Operations.{dotted}
use Rattle.stub_codes.specs.declared.stub.Stub.{Stub}
use Rattle.stub_codes.specs.Stubs.{Coded}

-- the text of the code that sends, under a name
abbrev pub sent_text : List ℕ → Stub → List ℕ
sent_text name s = send_text name (send.code_seen s.send.ops) (map send.code_seen s.send.subs)

-- the text of the code that receives
abbrev pub received_text : List ℕ → Stub → List ℕ
received_text name s = recv_text name (recv.code_seen s.recv.ops) (map recv.code_seen s.recv.subs)

-- the one and then the other
abbrev pub both_texts : List ℕ → Stub → List ℕ
both_texts name s = sent_text name s ++ received_text name s

-- a text of each operation's code under its full name: its interface's name, a dot, and its own
abbrev pub texts_of : (List ℕ → Stub → List ℕ) → List PlainInterface → List Op → List Stub → List ℕ
texts_of text is (o ∷ ops) (s ∷ stubs) = text (dotted is o) s ++ texts_of text is ops stubs
texts_of text is _ _ = []

-- the texts of the codes that send and receive
abbrev pub stubs_text : Coded → List ℕ
stubs_text c = texts_of both_texts c.binding.unit.interfaces c.binding.ops c.stubs

-- the texts of the codes that send, and a line after them
abbrev pub counted_text : Coded → List ℕ
counted_text c = texts_of sent_text c.binding.unit.interfaces c.binding.ops c.stubs ++ codes "--\n"
