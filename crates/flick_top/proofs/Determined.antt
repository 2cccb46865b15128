-- An item has one answer.
use Rattle.std.proofs.Common.{◌≡◌, ℕ, List, [], ◌∷◌, ◌++◌, sym, ◌∙◌, ap}
use Rattle.hex.specs.Hex.{encode_lower}
use Rattle.kit_base.specs.declared.lines.Line.{Line}
use Rattle.kit_base.specs.declared.lines.Line.TheVariants.{Text, Long, End}
use Rattle.wire_frames.specs.declared.messages.Part.{Part}
use Rattle.wire_frames.specs.declared.messages.Part.TheVariants as part
use Rattle.stub_codes.specs.Stubs.{Coded}
use Rattle.flick_lines.specs.declared.verb.Verb.TheVariants.{Marshal, Unmarshal}
use Rattle.flick_lines.specs.Sent.{Sending, nothing}
use Rattle.flick_lines.proofs.Determined.{one_to}
use Rattle.flick_lines.proofs.Sending.{one_sent}
use Rattle.flick_bridge.proofs.Passing.{bridged_once}
use Rattle.flick_serve.proofs.Answering.{line_once}
use Rattle.flick_serve.proofs.Paying.{one_sending}
use Rattle.flick_top.specs.declared.job.Job.{Job}
use Rattle.flick_top.specs.declared.job.Job.TheVariants.{Over, Pipe, Unpipe, Serve, Bridge}
use Rattle.flick_top.specs.declared.items.Item.{Item}
use Rattle.flick_top.specs.declared.items.Item.TheVariants as items
use Rattle.flick_top.specs.Answer.{Answer, answer_by, answer_of, engine_in, IsTextTo, IsSentFor, IsLineAnswer, IsPartLine, IsAnswer}

pub one_text : (job : Job) (octets x y : List ℕ) → IsTextTo job octets x → IsTextTo job octets y → x ≡ y
one_text (Over verb e) octets x y p q = one_to verb e octets x y p q
one_text (Pipe e) octets x y p q = one_to Marshal e octets x y p q
one_text (Unpipe e) octets x y p q = one_to Unmarshal e octets x y p q
one_text (Serve s) octets x y p q = line_once s.coded.binding s.coded.minor s.text octets x y p q
one_text (Bridge s) octets x y p q = bridged_once s octets x y p q

one_for : (job : Job) (octets : List ℕ) (s t : Sending) → IsSentFor job octets s → IsSentFor job octets t → s ≡ t
one_for (Over verb e) octets s t p q = one_sent verb e octets s t p q
one_for (Pipe e) octets s t p q = one_sent Marshal e octets s t p q
one_for (Unpipe e) octets s t p q = one_sent Unmarshal e octets s t p q
one_for (Serve r) octets s t p q = one_sending r octets s t p q
one_for (Bridge b) octets s t p q = p ∙ sym q

one_line : (job : Job) (line : Line) (a b : Answer) → IsLineAnswer job line a → IsLineAnswer job line b → a ≡ b
one_line job (Text octets) a b (x, s, p, sent, is) (y, t, q, also, other) =
    is ∙ ap (λ (text : List ℕ). answer_by job text s) (one_text job octets x y p q)
    ∙ ap (λ (z : Sending). answer_by job y z) (one_for job octets s t sent also) ∙ sym other
one_line job Long a b is other = is ∙ sym other
one_line job End a b is other = is ∙ sym other

pub one_part : (e : Coded) (p : Part) (x y : List ℕ) → IsPartLine e p x → IsPartLine e p y → x ≡ y
one_part e (part.Message message) x y (t, is, a) (u, also, b) =
    a ∙ ap (λ (o : List ℕ). o ++ 10 ∷ []) (one_to Unmarshal e (encode_lower message) t u is also) ∙ sym b
one_part e (part.Fault fault) x y a b = a ∙ sym b
one_part e part.Cut x y a b = a ∙ sym b

pub one_answer : (job : Job) (item : Item) (a b : Answer) → IsAnswer job item a → IsAnswer job item b → a ≡ b
one_answer job (items.Line line) a b is other = one_line job line a b is other
one_answer job (items.Part p) a b (x, is, e) (y, also, f) =
    e ∙ ap (λ (o : List ℕ). answer_of o nothing) (one_part (engine_in job) p x y is also) ∙ sym f
