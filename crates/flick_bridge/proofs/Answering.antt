-- What a bridge answers, by what its gateway passes on.
use Rattle.std.proofs.Common.{◌≡◌, ◌<◌, ℕ, List, length, Result, Ok, Err, sym, ap, ◌∙◌, subst}
use Rattle.std.specs.Prelude.{◌↔◌, IfOk, None, codes}
use Rattle.kit_base.specs.Limits.{longest_message}
use Rattle.hex.specs.Hex.{decode_of, encode_lower}
use Rattle.hex.specs.declared.error.FromHexError.{FromHexError}
use Rattle.mint.specs.Sound.{IsSound}
use Rattle.pres.specs.Bindings.{Binding}
use Rattle.gateway.specs.declared.errors.PassErr.{PassErr}
use Rattle.gateway.specs.declared.errors.PassErr.TheVariants as pass
use Rattle.gateway.specs.Passed.{ForAsked, ForPaired}
use Rattle.flick_engine.specs.declared.errors.MessageErr.{MessageErr}
use Rattle.flick_engine.specs.Messages.{request_type}
use Rattle.flick_engine.specs.Received.{Asked, ReadCall}
use Rattle.flick_engine.proofs.Deciding.{determined}
use Rattle.flick_lines.specs.Unmarshalled.{answer_text, request_text, IsOfOctets, IsUnmarshalled}
use Rattle.flick_bridge.specs.Bridged.{Bridging, IsBridging, asks, declines, paired, told, IsOfMessage, IsBridged}
use Rattle.flick_bridge.proofs.Passing.{message_answer, long_answer, pair_answer, refusal_answer, lines_bridged}

-- ---- what a gateway answers

abbrev Passed : Type 0
Passed = Result (List ℕ) (PassErr MessageErr)

abbrev is_made : List ℕ → Passed
is_made m = Ok m

abbrev is_not : PassErr MessageErr → Passed
is_not e = Err e

made_not : (m : List ℕ) (e : PassErr MessageErr) → is_made m ≡ is_not e → ⊥
made_not m e is = cc is

read_not : (x : MessageErr) → is_not (pass.Read x) ≡ is_not pass.NoMemory → ⊥
read_not x is = cc is

pair_not : is_not pass.Pair ≡ is_not pass.NoMemory → ⊥
pair_not is = cc is

long_not : is_not pass.Long ≡ is_not pass.NoMemory → ⊥
long_not is = cc is

-- what is said of a reason that is this one
exactly : {P : Type 0} (e f : PassErr MessageErr) → e ≡ f → (is_not f ≡ is_not pass.NoMemory → ⊥)
    → ((is_not e ≡ is_not pass.NoMemory → ⊥) → (is_not e ≡ is_not f) ↔ P) → P
exactly e f is other clause = (clause (λ none. other (sym (ap is_not is) ∙ none))).0 (ap is_not is)

-- ---- the answer of a bridge, whose gateway has ends that are these

seen_as : {E : Type 0} (s g : Bridging) (o : List ℕ) (y : Result (List ℕ) E) → g ≡ s → IfOk y (λ a. IsOfMessage g (Ok o) a)
    → IfOk y (λ a. IsOfMessage s (Ok o) a)
seen_as s g o y same h = subst (λ (x : Bridging). IfOk y (λ a. IsOfMessage x (Ok o) a)) same h

made_answer : {E : Type 0} (g : Bridging) → IsBridging g → (o m slice : List ℕ) (y : Result (List ℕ) E)
    → ForPaired (asks g o) (paired g) (λ op head v. m ≡ told g op head v)
    → (ForPaired (asks g o) (paired g) (λ op head v. longest_message < length (told g op head v)) → ⊥)
    → slice ≡ m → IfOk y (λ a. a ≡ encode_lower slice) → IfOk y (λ a. IsOfMessage g (Ok o) a)
made_answer g stands o m slice (Ok a) is short same digits = message_answer g stands o m a is short (digits ∙ ap encode_lower same)
made_answer g stands o m slice (Err e) is short same digits = tt

-- a message that is passed on is answered by its digits
pub passed_answer : {E : Type 0} (s g : Bridging) (o m slice : List ℕ) (y : Result (List ℕ) E) → g ≡ s → IsBridging s
    → ForPaired (asks g o) (paired g) (λ op head v. m ≡ told g op head v)
    → ((is_made m ≡ is_not pass.NoMemory → ⊥) → (is_made m ≡ is_not pass.Long)
    ↔ ForPaired (asks g o) (paired g) (λ op head v. longest_message < length (told g op head v)))
    → slice ≡ m → IfOk y (λ a. a ≡ encode_lower slice) → IfOk y (λ a. IsOfMessage s (Ok o) a)
passed_answer s g o m slice y same stands is long at digits =
    seen_as s g o y same
    (made_answer g (subst IsBridging (sym same) stands) o m slice y is
    (λ h. made_not m pass.Long ((long (made_not m pass.NoMemory)).1 h)) at digits)

-- the answer of `unmarshal` to a message that is no request is why
refused_as : (g : Bridging) (o a : List ℕ) (x : MessageErr) → declines g o x
    → IsOfOctets (ReadCall g.from.binding) (request_text g.from.binding) (Ok o) a → IsOfMessage g (Ok o) a
refused_as g o a x declined (z, reads, is) =
    let same : z ≡ Err x = determined g.from.binding o z (Err x) reads declined in
    refusal_answer g o a x declined (is ∙ ap (λ (r : Result Asked MessageErr). answer_text (request_text g.from.binding) r) same)

unread_answer : {E : Type 0} (g : Bridging) (o : List ℕ) (x : MessageErr) (y : Result (List ℕ) E) → declines g o x
    → decode_of (encode_lower o) ≡ Ok o → IfOk y (λ a. IsUnmarshalled g.from.binding (encode_lower o) a)
    → IfOk y (λ a. IsOfMessage g (Ok o) a)
unread_answer g o x (Ok a) declined spelled is =
    refused_as g o a x declined
    (subst (λ (d : Result (List ℕ) FromHexError). IsOfOctets (ReadCall g.from.binding) (request_text g.from.binding) d a) spelled is)
unread_answer g o x (Err e) declined spelled is = tt

-- a message that is no request is answered as by `unmarshal`
pub read_answer : {E : Type 0} (s g : Bridging) (o : List ℕ) (e : PassErr MessageErr) (x : MessageErr) (b : Binding) (y : Result (List ℕ) E)
    → g ≡ s → e ≡ pass.Read x
    → ((is_not e ≡ is_not pass.NoMemory → ⊥) → (z : MessageErr) → (is_not e ≡ is_not (pass.Read z)) ↔ declines g o z)
    → decode_of (encode_lower o) ≡ Ok o → b ≡ s.from.binding → IfOk y (λ a. IsUnmarshalled b (encode_lower o) a)
    → IfOk y (λ a. IsOfMessage s (Ok o) a)
read_answer s g o e x b y same is clause spelled of text =
    let declined : declines g o x = exactly e (pass.Read x) is (read_not x) (λ other. clause other x) in
    unread_answer s o x y (subst (λ (z : Bridging). declines z o x) same declined) spelled
    (subst (λ (c : Binding). IfOk y (λ a. IsUnmarshalled c (encode_lower o) a)) of text)

no_pair : {E : Type 0} (g : Bridging) (o : List ℕ) (y : Result (List ℕ) E) → ForAsked (asks g o) (λ op head v. paired g op head ≡ None)
    → IfOk y (λ a. a ≡ codes "! pair") → IfOk y (λ a. IsOfMessage g (Ok o) a)
no_pair g o (Ok a) asked is = pair_answer g o a asked is
no_pair g o (Err e) asked is = tt

-- a request without a pair
pub unpaired_answer : {E : Type 0} (s g : Bridging) (o : List ℕ) (e : PassErr MessageErr) (y : Result (List ℕ) E) → g ≡ s → e ≡ pass.Pair
    → ((is_not e ≡ is_not pass.NoMemory → ⊥) → (is_not e ≡ is_not pass.Pair)
    ↔ ForAsked (asks g o) (λ op head v. paired g op head ≡ None))
    → IfOk y (λ a. a ≡ codes "! pair") → IfOk y (λ a. IsOfMessage s (Ok o) a)
unpaired_answer s g o e y same is clause text = seen_as s g o y same (no_pair g o y (exactly e pass.Pair is pair_not clause) text)

too_long : {E : Type 0} (g : Bridging) → IsBridging g → (o : List ℕ) (y : Result (List ℕ) E)
    → ForPaired (asks g o) (paired g) (λ op head v. longest_message < length (told g op head v))
    → IfOk y (λ a. a ≡ codes "! long") → IfOk y (λ a. IsOfMessage g (Ok o) a)
too_long g stands o (Ok a) long is = long_answer g stands o a long is
too_long g stands o (Err e) long is = tt

-- a request whose message would be too long
pub long_passed : {E : Type 0} (s g : Bridging) (o : List ℕ) (e : PassErr MessageErr) (y : Result (List ℕ) E) → g ≡ s → IsBridging s
    → e ≡ pass.Long
    → ((is_not e ≡ is_not pass.NoMemory → ⊥) → (is_not e ≡ is_not pass.Long)
    ↔ ForPaired (asks g o) (paired g) (λ op head v. longest_message < length (told g op head v)))
    → IfOk y (λ a. a ≡ codes "! long") → IfOk y (λ a. IsOfMessage s (Ok o) a)
long_passed s g o e y same stands is clause text =
    seen_as s g o y same (too_long g (subst IsBridging (sym same) stands) o y (exactly e pass.Long is long_not clause) text)

-- ---- lines

-- the answer to digits that spell a message
pub digits_answer : {E : Type 0} (s : Bridging) (line message slice : List ℕ) (y : Result (List ℕ) E) → decode_of line ≡ Ok message
    → slice ≡ message → IfOk y (λ a. IsOfMessage s (Ok slice) a) → IfOk y (λ a. IsBridged s line a)
digits_answer s line message slice y is same h =
    let spelled = subst (λ (l : List ℕ). IfOk y (λ a. IsOfMessage s (Ok l) a)) same h in
    subst (λ (d : Result (List ℕ) FromHexError). IfOk y (λ a. IsOfMessage s d a)) (sym is) spelled

-- each line of a bridge that is seen as this has an answer
pub lines_seen : (s t : Bridging) → t ≡ s → IsBridging t → ((op : ℕ) → IsSound (request_type t.from.binding op)) → (line : List ℕ)
    → (a : List ℕ) × IsBridged s line a
lines_seen s t same stands sound line =
    subst (λ (x : Bridging). (a : List ℕ) × IsBridged x line a) same (lines_bridged t stands sound line)
