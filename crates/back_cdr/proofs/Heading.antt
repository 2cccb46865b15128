-- A message has one head of a request or one first fault of it, over a binding too.
use Rattle.std.proofs.Common.{ℕ, List, length, refl}
use Rattle.wire_def.specs.Grammar.{AreOctets}
use Rattle.head_kit.specs.Calls.{IsOneHead, HasHead}
use Rattle.head_kit.proofs.Heading.{one_call, has_call}
use Rattle.giop_head.specs.declared.header.HeadKind.TheVariants.{Requests}
use Rattle.giop_head.specs.Heads.{format, StopsWith}
use Rattle.giop_head.specs.Reported.{request_reported}
use Rattle.giop_head.proofs.Lawful.{heads_are_read}
use Rattle.pres.specs.Bindings.{Binding}
use Rattle.back_cdr.specs.Seeking.{called, Calls}

pub one_head_called : (b : Binding) (o : List ℕ) → IsOneHead o (Calls b o) (StopsWith Requests o)
one_head_called b o =
    one_call (format Requests (length o)) (heads_are_read Requests (length o)) request_reported (called b) (λ h used. refl) o

pub has_head_called : (b : Binding) (o : List ℕ) → AreOctets o → HasHead (Calls b o) (StopsWith Requests o)
has_head_called b o oct =
    has_call (format Requests (length o)) (heads_are_read Requests (length o)) request_reported (called b) (λ h used. refl) o oct
