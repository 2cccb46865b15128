-- A message has one head of a call or one first fault of it, over a binding too.
use Rattle.std.proofs.Common.{ℕ, List, refl}
use Rattle.wire_def.specs.Grammar.{AreOctets}
use Rattle.head_kit.specs.Calls.{IsOneHead, HasHead}
use Rattle.head_kit.proofs.Heading.{one_call, has_call}
use Rattle.pres.specs.Bindings.{Binding}
use Rattle.back_xdr.specs.Heads.{call, format, StopsWith}
use Rattle.back_xdr.specs.Reported.{call_reported}
use Rattle.back_xdr.specs.Seeking.{called, Calls}
use Rattle.back_xdr.proofs.Lawful.{heads_are_read}

pub one_head_called : (b : Binding) (o : List ℕ) → IsOneHead o (Calls b o) (StopsWith call o)
one_head_called b o = one_call (format call) (heads_are_read call) call_reported (called b) (λ h used. refl) o

pub has_head_called : (b : Binding) (o : List ℕ) → AreOctets o → HasHead (Calls b o) (StopsWith call o)
has_head_called b o oct = has_call (format call) (heads_are_read call) call_reported (called b) (λ h used. refl) o oct
