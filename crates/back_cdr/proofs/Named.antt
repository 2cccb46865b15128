-- The operation that a request names is there, and is the one of its name, of the interface whose name is the key.
use Rattle.std.proofs.Common.{◌≡◌, ◌+◌, ℕ, List, length, sym, ap, subst, ◌∙◌}
use Rattle.std.proofs.lemmas.Slice.Eq.{bytes_eq-Decides}
use Rattle.aoi.specs.Plain.{PlainInterface}
use Rattle.wire_def.specs.declared.encoding.Encoding.{Encoding}
use Rattle.head_kit.specs.declared.call_head.CallHead.{CallHead}
use Rattle.head_kit.specs.declared.call_head.CallTarget.{CallTarget}
use Rattle.head_kit.specs.Calls.{IsBelow}
use Rattle.head_kit.proofs.Named as kit
use Rattle.giop_head.specs.Header.{IsMinor}
use Rattle.giop_head.specs.Items.{laid}
use Rattle.giop_head.specs.Reported.{ReportedRequest, BeginsRequest}
use Rattle.giop_head.proofs.Ways.{minor_of_request}
use Rattle.pres.specs.Bindings.{Binding}
use Rattle.back_cdr.specs.Targets.{Target, ops_of, no_target, target_in, targets}
use Rattle.back_cdr.specs.Seeking.{has_key, has_name, named_from, named, Calls}
use Rattle.back_cdr.specs.Laws.{IsNamedRight}

pub named_below : (k : ℕ) (is : List PlainInterface) (key name : List ℕ) → IsBelow (k + length (targets is)) (named_from k is key name)
named_below k is key name = kit.named_below ops_of (has_key key) (λ i. has_name name) target_in k is

pub named_right : IsNamedRight
named_right b t op e =
    let (i, p, there, called, has) =
    kit.named_right ops_of (has_key t.key) (λ j. has_name t.name) target_in no_target b.unit.interfaces op e in (
      ap (λ (x : Target). x.key) there ∙ (bytes_eq-Decides i.name t.key).0 called,
      ap (λ (x : Target). x.name) there ∙ (bytes_eq-Decides p.name t.name).0 has,
    )

-- what a head says of which the request was read, and what it names was found
pub says : (b : Binding) (o : List ℕ) (t : ReportedRequest) (n : CallTarget) (e : Encoding) → BeginsRequest o t → n ≡ named b t
    → e ≡ laid t.head.order → Calls b o (record { naming = n; head = t.head; encoding = e; used = t.used; minor = t.minor })
says b o t n e begins names lies = (
  t,
  begins,
  ap (λ (x : CallTarget). record { naming = x; head = t.head; encoding = laid t.head.order; used = t.used; minor = t.minor }) (sym names)
      ∙ ap (λ (x : Encoding). record { naming = n; head = t.head; encoding = x; used = t.used; minor = t.minor }) (sym lies),
)

-- what a head says has the minor number of a version that is read
pub minor_called : (b : Binding) (o : List ℕ) (c : CallHead) → Calls b o c → IsMinor c.minor
minor_called b o c (t, begins, same) = subst (λ (x : CallHead). IsMinor x.minor) same (minor_of_request o t begins)
