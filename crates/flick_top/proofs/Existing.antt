-- Each item has an answer.
use Rattle.std.proofs.Common.{◌≡◌, ℕ, List, [], ◌∷◌, ◌++◌, Option, None, refl, sym, subst}
use Rattle.std.specs.Prelude.{codes}
use Rattle.hex.specs.Hex.{encode_lower}
use Rattle.kit_base.specs.declared.lines.Line.{Line}
use Rattle.kit_base.specs.declared.lines.Line.TheVariants.{Text, Long, End}
use Rattle.wire_frames.specs.declared.messages.Part.{Part}
use Rattle.wire_frames.specs.declared.messages.Part.TheVariants as part
use Rattle.stub_codes.specs.Stubs.{Coded}
use Rattle.flick_lines.specs.declared.verb.Verb.{Verb}
use Rattle.flick_lines.specs.declared.verb.Verb.TheVariants.{Marshal, Unmarshal}
use Rattle.flick_lines.specs.Sent.{Sending, nothing}
use Rattle.flick_lines.specs.Verbs.{IsAnswerTo}
use Rattle.flick_lines.proofs.Sending.{some_sent}
use Rattle.flick_bridge.specs.Bridged.{Bridging, IsBridged}
use Rattle.flick_serve.specs.Served.{Serving, IsServed}
use Rattle.flick_serve.proofs.Paying.{some_sending}
use Rattle.flick_top.specs.declared.job.Job.{Job}
use Rattle.flick_top.specs.declared.job.Job.TheVariants.{Over, Pipe, Unpipe, Serve, Bridge}
use Rattle.flick_top.specs.declared.items.Item.{Item}
use Rattle.flick_top.specs.declared.items.Item.TheVariants as items
use Rattle.flick_top.specs.Answer.{Answer, answer_by, answer_of, engine_in, frame_name, frame_refusal, Answering, IsTextTo, IsSentFor, IsLineAnswer, IsPartLine, IsAnswer, IsAnswering}
use Rattle.flick_top.specs.Dispatch.{AreAnswered}

-- each line has a text that answers it, and so has each message
pub record TextsHave (job : Job) : Type 0 where
  pub lines : (octets : List ℕ) → (text : List ℕ) × IsTextTo job octets text
  pub messages : (octets : List ℕ) → (text : List ℕ) × IsAnswerTo Unmarshal (engine_in job) octets text

-- each verb answers each line over an engine
abbrev pub AllAnswer : Coded → Type 0
AllAnswer e = (v : Verb) (octets : List ℕ) → (text : List ℕ) × IsAnswerTo v e octets text

-- of a verb over an engine
pub over_has : (job : Job) (verb : Verb) (e : Coded) → job ≡ Over verb e → AllAnswer e → TextsHave job
over_has job verb e is texts =
    subst TextsHave (sym is) (record { lines = λ octets. texts verb octets; messages = λ octets. texts Unmarshal octets })

-- of `pipe`
pub pipe_has : (job : Job) (e : Coded) → job ≡ Pipe e → AllAnswer e → TextsHave job
pipe_has job e is texts =
    subst TextsHave (sym is) (record { lines = λ octets. texts Marshal octets; messages = λ octets. texts Unmarshal octets })

-- of `unpipe`
pub unpipe_has : (job : Job) (e : Coded) → job ≡ Unpipe e → AllAnswer e → TextsHave job
unpipe_has job e is texts =
    subst TextsHave (sym is) (record { lines = λ octets. texts Unmarshal octets; messages = λ octets. texts Unmarshal octets })

-- of a server
pub serve_has : (job : Job) (s : Serving) (e : Coded) → job ≡ Serve s → e ≡ s.coded → AllAnswer e
    → ((octets : List ℕ) → (text : List ℕ) × IsServed s.coded.binding s.coded.minor s.text octets text) → TextsHave job
serve_has job s e is same texts lines =
    let of : AllAnswer s.coded = subst AllAnswer same texts in
    subst TextsHave (sym is) (record { lines = lines; messages = λ octets. of Unmarshal octets })

-- of a bridge
pub bridge_has : (job : Job) (s : Bridging) (e : Coded) → job ≡ Bridge s → e ≡ s.from → AllAnswer e
    → ((octets : List ℕ) → (text : List ℕ) × IsBridged s octets text) → TextsHave job
bridge_has job s e is same texts lines =
    let of : AllAnswer s.from = subst AllAnswer same texts in
    subst TextsHave (sym is) (record { lines = lines; messages = λ octets. of Unmarshal octets })

-- something is sent for it, or nothing
sent_has : (job : Job) (octets text : List ℕ) → IsTextTo job octets text → (sent : Sending) × IsSentFor job octets sent
sent_has (Over verb e) octets text is = some_sent verb e octets
sent_has (Pipe e) octets text is = some_sent Marshal e octets
sent_has (Unpipe e) octets text is = some_sent Unmarshal e octets
sent_has (Serve s) octets text is = some_sending s octets text is
sent_has (Bridge s) octets text is = (nothing, refl)

line_has : (job : Job) → TextsHave job → (line : Line) → (a : Answer) × IsLineAnswer job line a
line_has job texts (Text octets) =
    let (text, is) = texts.lines octets in
    let (sent, sends) = sent_has job octets text is in
    (answer_by job text sent, (text, sent, is, sends, refl))
line_has job texts Long = (answer_by job (codes "! long") nothing, refl)
line_has job texts End = (answer_of [] nothing, refl)

part_has : (job : Job) → TextsHave job → (p : Part) → (o : List ℕ) × IsPartLine (engine_in job) p o
part_has job texts (part.Message message) =
    let (text, is) = texts.messages (encode_lower message) in (text ++ 10 ∷ [], (text, is, refl))
part_has job texts (part.Fault fault) = (frame_refusal (frame_name fault), refl)
part_has job texts part.Cut = (frame_refusal (codes "Cut"), refl)

item_has : (job : Job) → TextsHave job → (item : Item) → (a : Answer) × IsAnswer job item a
item_has job texts (items.Line line) = line_has job texts line
item_has job texts (items.Part p) =
    let (o, is) = part_has job texts p in (answer_of o nothing, (o, is, refl))

-- a job answers each item
pub all_items : (job : Job) → TextsHave job → (f : Answering) × IsAnswering job f
all_items job texts = (λ item. (item_has job texts item).0, λ item. (item_has job texts item).1)

-- ---- tasks

-- where no items are answered, any answers will do
pub no_items : (feed : Option Job) → feed ≡ None → (f : Answering) × AreAnswered feed f
no_items feed is = (λ item. answer_of [] nothing, subst (λ (j : Option Job). AreAnswered j (λ item. answer_of [] nothing)) (sym is) tt)
