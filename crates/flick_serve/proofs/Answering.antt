-- The answers by a table of replies are those by the file that gives them; each line has one, and one alone.
use Rattle.std.proofs.Common.{◌≡◌, ℕ, List, Result, Ok, Err, Option, Some, None, refl, sym, ap, ◌∙◌, subst}
use Rattle.std.specs.Prelude.{IfOk, codes, option_map}
use Rattle.std.proofs.Math.Path.{fun_ext}
use Rattle.hex.specs.Hex.{decode_of, encode_lower}
use Rattle.hex.specs.declared.error.FromHexError.{FromHexError}
use Rattle.hex.proofs.HexLemmas.{decode_of-ok}
use Rattle.head_kit.proofs.Exact.{all_octets}
use Rattle.mint.specs.declared.value.Value.{Value}
use Rattle.mint.specs.Types.{Ty}
use Rattle.mint.specs.Values.{Val, seen}
use Rattle.pres.specs.Bindings.{Binding}
use Rattle.skeleton.specs.TableSkeleton.{TableSkeleton, Places, kept_in, reply_or_blank, answer_at}
use Rattle.skeleton.proofs.Keeping.{with_table}
use Rattle.flick_engine.specs.Replies.{reply_type}
use Rattle.flick_engine.specs.Serving.{gives, Serves}
use Rattle.flick_engine.proofs.Servings.{served_once, served_somehow}
use Rattle.flick_lines.proofs.Existing.{IsFit}
use Rattle.flick_serve.specs.Given.{Given, given_in}
use Rattle.flick_serve.specs.Laws.{IsServedOnce}
use Rattle.flick_serve.specs.Served.{or_blank, answer_of, reply_text, IsOfMessage, IsServed, Serving, IsServing}
use Rattle.flick_serve.proofs.Deciding.{given_once}
use Rattle.flick_serve.proofs.Taking.{reply_in}

-- ---- by a table

or_same : (t : Ty) (x : Option Value) → reply_or_blank t x ≡ or_blank t (option_map seen x)
or_same t None = refl
or_same t (Some v) = refl

pub same_answer : (b : Binding) (places : Places) (op : ℕ) → answer_at (with_table b places) op ≡ answer_of b (given_in places) op
same_answer b places op =
    or_same (reply_type b op) (kept_in places op)
    ∙ ap (λ (x : Option Val). or_blank (reply_type b op) x) (sym (reply_in places op))

-- the answer by the table is one by the file
served_by : (s : Serving) (places : Places) → IsServing s places → (line a : List ℕ)
    → IsOfMessage s.coded.binding s.coded.minor (answer_at (with_table s.coded.binding places)) (decode_of line) a
    → IsServed s.coded.binding s.coded.minor s.text line a
served_by s places serving line a h =
    let b : Binding = s.coded.binding in
    let same : answer_at (with_table b places) ≡ answer_of b (given_in places) = fun_ext (same_answer b places) in (
      given_in places,
      serving.given,
      subst (λ (f : ℕ → Val). IsOfMessage b s.coded.minor f (decode_of line) a) same h,
    )

-- ---- each line has an answer

of_message : (b : Binding) (m : ℕ) (answer : ℕ → Val) → IsFit b → (line : List ℕ) (o : Result (List ℕ) FromHexError) → decode_of line ≡ o
    → (a : List ℕ) × IsOfMessage b m answer o a
of_message b m answer fit line (Err e) is = (codes "! hex", refl)
of_message b m answer fit line (Ok o) is =
    let (x, serves) =
    served_somehow b m (λ op request. answer op) fit.requests o (all_octets o (decode_of-ok line o is).3) in
    (reply_text x, (x, serves, refl))

served_somewhat : (s : Serving) (places : Places) → IsServing s places → IsFit s.coded.binding → (line : List ℕ)
    → (a : List ℕ) × IsServed s.coded.binding s.coded.minor s.text line a
served_somewhat s places serving fit line =
    let (a, is) =
    of_message s.coded.binding s.coded.minor (answer_of s.coded.binding (given_in places)) fit line (decode_of line) refl in
    (a, (given_in places, serving.given, is))

-- ---- as the answers of calls

-- the answer to digits that spell a message
pub digits_answer : {E : Type 0} (b : Binding) (m : ℕ) (answer : ℕ → Val) (line message slice : List ℕ) (y : Result (List ℕ) E)
    → decode_of line ≡ Ok message → slice ≡ message → IfOk y (λ o. IsOfMessage b m answer (Ok slice) o)
    → IfOk y (λ o. IsOfMessage b m answer (decode_of line) o)
digits_answer b m answer line message slice y is same h =
    let spelled = subst (λ (l : List ℕ). IfOk y (λ o. IsOfMessage b m answer (Ok l) o)) same h in
    subst (λ (d : Result (List ℕ) FromHexError). IfOk y (λ o. IsOfMessage b m answer d o)) (sym is) spelled

-- the digits of a reply
pub reply_answer : {E : Type 0} (b : Binding) (m : ℕ) (answer : ℕ → Val) (message octets : List ℕ) (y : Result (List ℕ) E)
    → Serves b m (gives (λ op request. answer op)) message (Some octets) → IfOk y (λ o. o ≡ encode_lower octets)
    → IfOk y (λ o. IsOfMessage b m answer (Ok message) o)
reply_answer b m answer message octets (Ok o) serves is = (Some octets, serves, is)
reply_answer b m answer message octets (Err e) serves is = tt

-- the answer of a server that is seen as this
pub line_served : {E : Type 0} (s t : Serving) (places : Places) (kept : TableSkeleton) (line : List ℕ) (y : Result (List ℕ) E) → t ≡ s
    → IsServing t places → kept ≡ with_table t.coded.binding places
    → IfOk y (λ o. IsOfMessage t.coded.binding t.coded.minor (answer_at kept) (decode_of line) o)
    → IfOk y (λ o. IsServed s.coded.binding s.coded.minor s.text line o)
line_served s t places kept line (Ok o) same serving is h =
    let there =
    served_by t places serving line o
    (subst (λ (k : TableSkeleton). IsOfMessage t.coded.binding t.coded.minor (answer_at k) (decode_of line) o) is h) in
    subst (λ (x : Serving). IsServed x.coded.binding x.coded.minor x.text line o) same there
line_served s t places kept line (Err e) same serving is h = tt

-- each line has an answer
pub lines_served : (s t : Serving) (places : Places) → t ≡ s → IsServing t places → IsFit t.coded.binding → (line : List ℕ)
    → (a : List ℕ) × IsServed s.coded.binding s.coded.minor s.text line a
lines_served s t places same serving fit line =
    subst (λ (x : Serving). (a : List ℕ) × IsServed x.coded.binding x.coded.minor x.text line a) same
    (served_somewhat t places serving fit line)

-- ---- one alone

message_once : (b : Binding) (m : ℕ) (answer : ℕ → Val) (o : Result (List ℕ) FromHexError) (a c : List ℕ) → IsOfMessage b m answer o a
    → IsOfMessage b m answer o c → a ≡ c
message_once b m answer (Err e) a c h k = h ∙ sym k
message_once b m answer (Ok o) a c (x, serves, is) (y, serves', is') =
    is ∙ ap reply_text (served_once b m (λ op request. answer op) o x y serves serves') ∙ sym is'

-- all replies of a file
abbrev pub all_given : Given → Result Given ℕ
all_given g = Ok g

pub same_given : (g h : Given) → all_given g ≡ all_given h → g ≡ h
same_given g h e = cc

pub line_once : IsServedOnce
line_once b m text line a c (g, file, is) (h, file', is') =
    let same : h ≡ g = same_given h g (given_once b text (Ok h) (Ok g) file' file) in
    message_once b m (answer_of b g) (decode_of line) a c is
    (subst (λ (f : Given). IsOfMessage b m (answer_of b f) (decode_of line) c) same is')

-- a dash where there is none
pub silent_answer : {E : Type 0} (b : Binding) (m : ℕ) (answer : ℕ → Val) (message : List ℕ) (y : Result (List ℕ) E)
    → Serves b m (gives (λ op request. answer op)) message None → IfOk y (λ o. o ≡ codes "-")
    → IfOk y (λ o. IsOfMessage b m answer (Ok message) o)
silent_answer b m answer message (Ok o) serves is = (None, serves, is)
silent_answer b m answer message (Err e) serves is = tt
