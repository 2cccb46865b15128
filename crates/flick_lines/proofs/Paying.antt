-- What becomes of a buffer where a record was read, or refused.
use Rattle.std.proofs.Common.{◌≡◌, ℕ, Result, Ok, Err, refl, sym, ◌∙◌, subst}
use Rattle.mint.specs.Values.{Val, seen}
use Rattle.wire_def.specs.declared.head.Head.{Head}
use Rattle.raw_buf.specs.Buf.{Buf}
use Rattle.pres.specs.Bindings.{Binding}
use Rattle.serde_json.specs.Data.{Data}
use Rattle.json_shape.specs.declared.errors.RecordErr.{RecordErr}
use Rattle.json_shape.specs.declared.errors.RecordErr.TheVariants as errors
use Rattle.json_shape.specs.declared.records.RequestRec.{RequestRec}
use Rattle.json_shape.specs.Presents.{Presents}
use Rattle.json_shape.specs.Records.{Begun, Comes}
use Rattle.json_shape.proofs.Options.{one_some}
use Rattle.json_shape.proofs.Shown.{shown}
use Rattle.flick_lines.specs.Marshalled.{Beginning}
use Rattle.flick_lines.specs.Paid.{Runs, IsPaidOnce, IsPaidRecord}

-- the value that the record presents was sent
once : (run : Runs) (r : Begun) (w : Val) → Presents r.face r.tree w → (old new : Buf) → run r.op r.head w old new
    → IsPaidOnce run r old new
once run r w presents old new ran = (
  λ v p. subst (λ (u : Val). run r.op r.head u old new)
      (one_some w v (sym (shown r.face r.tree w presents.shows) ∙ shown r.face r.tree v p.shows)) ran,
  λ none. absurd (none w presents),
)

pub paid-value : (run : Runs) (x : Result Begun RecordErr) (r : RequestRec) → Comes x (Ok r) → (old new : Buf)
    → run r.op r.head (seen r.value) old new → IsPaidRecord run x old new
paid-value run (Err e) r comes old new ran = absurd comes
paid-value run (Ok begun) r (op, head, presents) old new ran =
    once run begun (seen r.value) presents old new
    (subst (λ (n : ℕ). run n begun.head (seen r.value) old new) op
    (subst (λ (h : Head). run r.op h (seen r.value) old new) head ran))

paid-refusal : (run : Runs) (x : Result Begun RecordErr) (e : RecordErr) → Comes x (Err e) → (e ≡ errors.NoMemory → ⊥)
    → (buf : Buf) → IsPaidRecord run x buf buf
paid-refusal run (Err f) e comes other buf = refl
paid-refusal run (Ok begun) errors.NoMemory comes other buf = absurd (other refl)
paid-refusal run (Ok begun) errors.Shape comes other buf = (λ v p. absurd (comes v p), λ none. refl)
paid-refusal run (Ok begun) _ comes other buf = absurd comes

-- the same, where the binding is known by another name
pub paid-refused : (run : Runs) (begun : Binding → Beginning) (b c : Binding) (tree : Data) (e : RecordErr) → c ≡ b
    → Comes (begun c tree) (Err e) → (e ≡ errors.NoMemory → ⊥) → (buf : Buf) → IsPaidRecord run (begun b tree) buf buf
paid-refused run begun b c tree e same comes other buf =
    paid-refusal run (begun b tree) e (subst (λ (x : Binding). Comes (begun x tree) (Err e)) same comes) other buf
