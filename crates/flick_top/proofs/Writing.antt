-- What answers an item, by what answers a line or a part of a stream.
use Rattle.std.proofs.Common.{◌≡◌, ℕ, List, [], Bool, true, false, Result, refl, sym, subst}
use Rattle.std.specs.Prelude.{codes, OnOk}
use Rattle.kit_base.specs.declared.lines.Line.{Line}
use Rattle.kit_base.specs.declared.lines.Line.TheVariants.{Text, Long, End}
use Rattle.wire_frames.specs.declared.messages.Part.{Part}
use Rattle.raw_buf.specs.Buf.{Buf}
use Rattle.flick_lines.specs.Sent.{nothing}
use Rattle.flick_bridge.specs.Bridged.{Bridging}
use Rattle.flick_top.specs.declared.answered.Answered.{Answered}
use Rattle.flick_top.specs.declared.job.Job.{Job}
use Rattle.flick_top.specs.declared.job.Job.TheVariants as jobs
use Rattle.flick_top.specs.declared.items.Item.{Item}
use Rattle.flick_top.specs.declared.items.Item.TheVariants as items
use Rattle.flick_top.specs.Answer.{answer_by, answer_of, engine_in, is_refusal, written_of, AnswersIn, IsPartLine, IsWrittenFor, SendsFor}
use Rattle.flick_engine.proofs.Replying.{any_ok as on-any}

-- for what a bridge answers nothing is sent
pub bridge-sends : {E : Type 0} (r : Result Answered E) (job : Job) (s : Bridging) (octets : List ℕ) (buf : Buf) → job ≡ jobs.Bridge s
    → OnOk r (SendsFor job octets buf buf)
bridge-sends r job s octets buf is =
    on-any r (SendsFor job octets buf buf) (subst (λ (j : Job). SendsFor j octets buf buf) (sym is) (nothing, refl, refl))

-- the octets of a line
pub text-written : (job : Job) (line : Line) (octets o : List ℕ) (refused : Bool) (old new : Buf) → line ≡ Text octets
    → SendsFor job octets old new → IsWrittenFor job octets o refused → AnswersIn job (items.Line line) o refused old new
text-written job line octets o refused old new is (sent, sent_so, sends) (text, answers, written, refusal) =
    subst (λ (l : Line). AnswersIn job (items.Line l) o refused old new) (sym is)
    (answer_by job text sent, (text, sent, answers, sent_so, refl), sym written, sym refusal, sends)

-- a line that is too long
pub long-written : (job : Job) (line : Line) (o : List ℕ) (refused : Bool) (buf : Buf) → line ≡ Long
    → o ≡ written_of job (codes "! long") → refused ≡ true → AnswersIn job (items.Line line) o refused buf buf
long-written job line o refused buf is written refusal =
    subst (λ (l : Line). AnswersIn job (items.Line l) o refused buf buf) (sym is)
    (answer_by job (codes "! long") nothing, refl, sym written, sym refusal, refl)

-- no line
pub end-written : (job : Job) (line : Line) (o : List ℕ) (refused : Bool) (buf : Buf) → line ≡ End → o ≡ [] → refused ≡ is_refusal o
    → AnswersIn job (items.Line line) o refused buf buf
end-written job line o refused buf is none refusal =
    subst (λ (l : Line). AnswersIn job (items.Line l) o refused buf buf) (sym is)
    (answer_of [] nothing, refl, sym none, sym (subst (λ (l : List ℕ). refused ≡ is_refusal l) none refusal), refl)

-- a part of a stream
pub part-written : (job : Job) (item : Item) (p : Part) (line o : List ℕ) (refused : Bool) (buf : Buf) → item ≡ items.Part p
    → IsPartLine (engine_in job) p line → o ≡ line → refused ≡ is_refusal line → AnswersIn job item o refused buf buf
part-written job item p line o refused buf is answers same refusal =
    subst (λ (i : Item). AnswersIn job i o refused buf buf) (sym is)
    (answer_of line nothing, (line, answers, refl), sym same, sym refusal, refl)
