-- What a record that was read, or refused, is answered.
use Rattle.std.proofs.Common.{◌≡◌, inl, inr, ℕ, List, Result, Ok, Err, refl, sym, ap, ◌∙◌, subst, slice_index}
use Rattle.mint.specs.Values.{seen}
use Rattle.wire_def.specs.declared.head.Head.{Head}
use Rattle.pres.specs.Bindings.{Binding}
use Rattle.json_shape.specs.declared.errors.RecordErr.{RecordErr}
use Rattle.json_shape.specs.declared.errors.RecordErr.TheVariants as errors
use Rattle.json_shape.specs.declared.records.RequestRec.{RequestRec}
use Rattle.json_shape.specs.Records.{Begun, Comes}
use Rattle.serde_json.specs.Data.{Data}
use Rattle.flick_lines.specs.Marshalled.{record_refusal, Beginning, Texts, IsOfRecord}

pub of-value : (m : Texts) (x : Result Begun RecordErr) (r : RequestRec) → Comes x (Ok r)
    → (a : List ℕ) → a ≡ m r.op r.head (seen r.value) → IsOfRecord m x a
of-value m (Err e) r comes a is = absurd comes
of-value m (Ok begun) r (op, head, presents) a is =
    let same : m r.op r.head (seen r.value) ≡ m begun.op begun.head (seen r.value) =
    ap (λ (n : ℕ). m n r.head (seen r.value)) op ∙ ap (λ (h : Head). m begun.op h (seen r.value)) head in
    inl (seen r.value, presents, is ∙ same)

pub of-refusal : (m : Texts) (x : Result Begun RecordErr) (e : RecordErr) → Comes x (Err e) → (e ≡ errors.NoMemory → ⊥)
    → (a : List ℕ) → a ≡ record_refusal e → IsOfRecord m x a
of-refusal m (Err f) errors.NoMemory comes other a is = absurd (other refl)
of-refusal m (Err f) _ comes other a is = is ∙ ap record_refusal (sym comes)
of-refusal m (Ok begun) errors.NoMemory comes other a is = absurd (other refl)
of-refusal m (Ok begun) errors.Shape comes other a is = inr (comes, is)
of-refusal m (Ok begun) _ comes other a is = absurd comes

-- the same, where the binding is known by another name
pub refused-at : (begun : Binding → Beginning) (m : Texts) (b c : Binding) (tree : Data) (e : RecordErr) → c ≡ b
    → Comes (begun c tree) (Err e) → (e ≡ errors.NoMemory → ⊥)
    → (a : List ℕ) → a ≡ record_refusal e → IsOfRecord m (begun b tree) a
refused-at begun m b c tree e same comes other a is =
    of-refusal m (begun b tree) e (subst (λ (x : Binding). Comes (begun x tree) (Err e)) same comes) other a is

-- a refusal begins with `!`
pub marked : (e : RecordErr) (a : List ℕ) → (e ≡ errors.NoMemory → ⊥) → a ≡ record_refusal e → slice_index a 0 ≡ 33
marked errors.NoMemory a other is = absurd (other refl)
marked _ a other is = ap (λ (o : List ℕ). slice_index o 0) is
