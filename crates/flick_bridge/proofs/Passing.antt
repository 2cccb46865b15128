-- The message that a bridge makes of a request asks the same, and a line has one answer.
use Rattle.std.proofs.Common.{◌≡◌, ◌≤◌, ◌<◌, ℕ, List, length, drop, Bool, true, false, Option, Some, None, Result, Ok, Err, refl, sym, ap, ◌∙◌, subst, arith}
use Rattle.std.specs.Prelude.{codes, nat_le, if◌then◌else◌}
use Rattle.std.proofs.lemmas.Bool.{leb-true, leb-false}
use Rattle.std.proofs.lemmas.Option.{slice_get_within}
use Rattle.kit_base.specs.Limits.{longest_message}
use Rattle.hex.specs.Hex.{decode_of, encode_lower}
use Rattle.hex.specs.declared.error.FromHexError.{FromHexError}
use Rattle.hex.proofs.HexLemmas.{decode_of-ok}
use Rattle.mint.specs.Sound.{IsSound}
use Rattle.mint.specs.Typed.{IsWellTyped}
use Rattle.mint.specs.Types.{Ty}
use Rattle.mint.specs.Values.{Val}
use Rattle.wire_def.specs.declared.head.Head.{Head}
use Rattle.wire_def.specs.Send.{send}
use Rattle.wire_def.specs.Spells.{IsSpelling}
use Rattle.wire_def.proofs.Encodings.{sent_spells}
use Rattle.head_kit.proofs.Exact.{all_octets}
use Rattle.pres.specs.Bindings.{Binding}
use Rattle.pres_pairs.specs.Pairs.{ArePaired, pair_of}
use Rattle.pres_pairs.proofs.Pairing.{pairs_have_one_type}
use Rattle.flick_engine.specs.declared.errors.MessageErr.{MessageErr}
use Rattle.flick_engine.specs.Backs.{encoding}
use Rattle.flick_engine.specs.Messages.{request_type}
use Rattle.flick_engine.specs.Received.{Asked, ReadCall}
use Rattle.flick_engine.proofs.Deciding.{determined}
use Rattle.flick_engine.proofs.Existing.{something}
use Rattle.flick_engine.proofs.HeadsOfBacks.{long_lead}
use Rattle.flick_lines.specs.Marshalled.{digits_of}
use Rattle.flick_lines.specs.Unmarshalled.{message_refusal}
use Rattle.gateway.specs.Passed.{ForAsked, ForPaired}
use Rattle.flick_bridge.specs.Heads.{number_in}
use Rattle.flick_bridge.specs.Bridged.{Bridging, IsBridging, asks, declines, with_head, paired, told, head_octets, AsksTheSame, IsPassed, IsOfAsked, IsOfMessage, IsBridged}
use Rattle.flick_bridge.specs.Laws.{IsBridgedOnce}
use Rattle.flick_bridge.proofs.Bodies.{follows}

-- ---- pairs

-- the operation of a pair
abbrev number_of_pair : Option (ℕ × Head) → Option ℕ
number_of_pair None = None
number_of_pair (Some q) = Some q.0

-- an operation with a head is the one that was found
found : (b : Binding) (n : ℕ) (x : Option ℕ) (op : ℕ) (head : Head) → with_head b n x ≡ Some (op, head) → x ≡ Some op
found b n None op head e = absurd (cc e)
found b n (Some k) op head e = ap number_of_pair e

pub are_paired : (s : Bridging) → IsBridging s → (op : ℕ) (head : Head) (other : ℕ) (its : Head)
    → paired s op head ≡ Some (other, its) → ArePaired s.from.binding s.to.binding op other
are_paired s stands op head other its e =
    pairs_have_one_type s.from.binding s.to.binding op other stands.reads stands.writes stands.units
    (found s.to.binding (number_in s.from.binding.back head) (pair_of s.from.binding s.to.binding op) other its e)

pub other_below : (s : Bridging) (op other : ℕ) → ArePaired s.from.binding s.to.binding op other → other < length s.to.binding.ops
other_below s op other p = slice_get_within s.to.binding.ops other p.pair p.there

-- the value of a request is one of its operation
asked_typed : (s : Bridging) (o : List ℕ) (op : ℕ) (head : Head) (v : Val) → asks s o op head v
    → IsWellTyped (request_type s.from.binding op) v
asked_typed s o op head v (c, n, names, (same, is, spells)) =
    subst (λ (m : ℕ). IsWellTyped (request_type s.from.binding m) v) (sym same) spells.typed

-- and one of the operation that it is paired with
pub other_typed : (s : Bridging) → IsBridging s → (o : List ℕ) (op : ℕ) (head : Head) (v : Val) (other : ℕ) (its : Head)
    → asks s o op head v → paired s op head ≡ Some (other, its) → IsWellTyped (request_type s.to.binding other) v
other_typed s stands o op head v other its asked e =
    subst (λ (t : Ty). IsWellTyped t v) (are_paired s stands op head other its e).request (asked_typed s o op head v asked)

-- ---- messages

-- the body of a message that is made spells the value
writes : (s : Bridging) (other : ℕ) (its : Head) (v : Val) → IsWellTyped (request_type s.to.binding other) v
    → IsSpelling (encoding s.to.binding.back) (request_type s.to.binding other) (length (head_octets s other its))
    (drop (length (head_octets s other its)) (told s other its v)) v
writes s other its v typed =
    let b = s.to.binding in
    let lead = head_octets s other its in
    let body = send (encoding b.back) (request_type b other) (length lead) v in
    subst (λ (o : List ℕ). IsSpelling (encoding b.back) (request_type b other) (length lead) o v)
    (sym (follows b.back lead body (long_lead b.back b s.to.minor other its)))
    (sent_spells (encoding b.back) (request_type b other) (length lead) v typed)

pub asks_the_same : (s : Bridging) → IsBridging s → (o : List ℕ) (op : ℕ) (head : Head) (v : Val) (other : ℕ) (its : Head)
    → asks s o op head v → paired s op head ≡ Some (other, its) → AsksTheSame s o (told s other its v)
asks_the_same s stands o op head v other its (c, n, names, (same, is, spells)) e = record {
  value = v;
  call = c;
  op = n;
  names = names;
  reads = spells;
  other = other;
  head = its;
  pair = subst (λ (m : ℕ). ArePaired s.from.binding s.to.binding m other) same (are_paired s stands op head other its e);
  is = refl;
  writes = writes s other its v (other_typed s stands o op head v other its (c, n, names, (same, is, spells)) e);
}

-- ---- answers

-- a message of at most so many octets is answered by its digits
short_digits : (m : List ℕ) → length m ≤ longest_message → encode_lower m ≡ digits_of m
short_digits m short = by (nat_le (length m) longest_message) refl where
  by : (t : Bool) → nat_le (length m) longest_message ≡ t → encode_lower m ≡ (if t then encode_lower m else codes "! long")
  by true e = refl
  by false e = let long = leb-false (length m) longest_message e in absurd (omega (arith, short, long))

long_digits : (m : List ℕ) → longest_message < length m → codes "! long" ≡ digits_of m
long_digits m long = by (nat_le (length m) longest_message) refl where
  by : (t : Bool) → nat_le (length m) longest_message ≡ t → codes "! long" ≡ (if t then encode_lower m else codes "! long")
  by true e = let short = leb-true (length m) longest_message e in absurd (omega (arith, short, long))
  by false e = refl

-- an answer that is the digits of the paired message, or that it is too long
answered_by : (s : Bridging) → IsBridging s → (o a : List ℕ) (op : ℕ) (head : Head) (v : Val) (other : ℕ) (its : Head)
    → asks s o op head v → paired s op head ≡ Some (other, its) → a ≡ digits_of (told s other its v) → IsOfMessage s (Ok o) a
answered_by s stands o a op head v other its asked e is = (
  Ok (record { op = op; head = head; value = v }),
  asked,
  subst (λ (q : Option (ℕ × Head)). IsPassed s o v q a) (sym e) (asks_the_same s stands o op head v other its asked e, is),
)

-- what is not longer than the limit is within it
fits_within : (n : ℕ) → (longest_message < n → ⊥) → n ≤ longest_message
fits_within n fits = by (nat_le n longest_message) refl where
  by : (t : Bool) → nat_le n longest_message ≡ t → n ≤ longest_message
  by true e = leb-true n longest_message e
  by false e = absurd (fits (leb-false n longest_message e))

pub message_answer : (s : Bridging) → IsBridging s → (o m a : List ℕ)
    → ForPaired (asks s o) (paired s) (λ op head v. m ≡ told s op head v)
    → (ForPaired (asks s o) (paired s) (λ op head v. longest_message < length (told s op head v)) → ⊥)
    → a ≡ encode_lower m → IsOfMessage s (Ok o) a
message_answer s stands o m a (op, head, v, asked, (other, its, e, is)) fits digits =
    let made = told s other its v in
    let short = fits_within (length made) (λ long. fits (op, head, v, asked, (other, its, e, long))) in
    answered_by s stands o a op head v other its asked e (digits ∙ ap encode_lower is ∙ short_digits made short)

pub long_answer : (s : Bridging) → IsBridging s → (o a : List ℕ)
    → ForPaired (asks s o) (paired s) (λ op head v. longest_message < length (told s op head v))
    → a ≡ codes "! long" → IsOfMessage s (Ok o) a
long_answer s stands o a (op, head, v, asked, (other, its, e, long)) is =
    answered_by s stands o a op head v other its asked e (is ∙ long_digits (told s other its v) long)

pub pair_answer : (s : Bridging) (o a : List ℕ) → ForAsked (asks s o) (λ op head v. paired s op head ≡ None)
    → a ≡ codes "! pair" → IsOfMessage s (Ok o) a
pair_answer s o a (op, head, v, asked, none) is =
    (Ok (record { op = op; head = head; value = v }), asked, subst (λ (q : Option (ℕ × Head)). IsPassed s o v q a) (sym none) is)

pub refusal_answer : (s : Bridging) (o a : List ℕ) (e : MessageErr) → declines s o e → a ≡ message_refusal e
    → IsOfMessage s (Ok o) a
refusal_answer s o a e declined is = (Err e, declined, is)

-- ---- a line has an answer

passed_somehow : (s : Bridging) → IsBridging s → (o : List ℕ) (r : Asked) → ReadCall s.from.binding o (Ok r)
    → (q : Option (ℕ × Head)) → paired s r.op r.head ≡ q → (a : List ℕ) × IsPassed s o r.value q a
passed_somehow s stands o r reads None e = (codes "! pair", refl)
passed_somehow s stands o r reads (Some q) e = (
  digits_of (told s q.0 q.1 r.value),
  (asks_the_same s stands o r.op r.head r.value q.0 q.1 reads e, refl),
)

asked_somehow : (s : Bridging) → IsBridging s → (o : List ℕ) (x : Result Asked MessageErr) → ReadCall s.from.binding o x
    → (a : List ℕ) × IsOfAsked s o x a
asked_somehow s stands o (Err e) reads = (message_refusal e, refl)
asked_somehow s stands o (Ok r) reads = passed_somehow s stands o r reads (paired s r.op r.head) refl

message_somehow : (s : Bridging) → IsBridging s → ((op : ℕ) → IsSound (request_type s.from.binding op))
    → (line : List ℕ) (o : Result (List ℕ) FromHexError) → decode_of line ≡ o → (a : List ℕ) × IsOfMessage s o a
message_somehow s stands sound line (Err e) is = (codes "! hex", refl)
message_somehow s stands sound line (Ok o) is =
    let (x, reads) = something s.from.binding sound o (all_octets o (decode_of-ok line o is).3) in
    let (a, answers) = asked_somehow s stands o x reads in
    (a, (x, reads, answers))

pub lines_bridged : (s : Bridging) → IsBridging s → ((op : ℕ) → IsSound (request_type s.from.binding op))
    → (line : List ℕ) → (a : List ℕ) × IsBridged s line a
lines_bridged s stands sound line = message_somehow s stands sound line (decode_of line) refl

-- ---- and one alone

passed_once : (s : Bridging) (o : List ℕ) (v : Val) (q : Option (ℕ × Head)) (a c : List ℕ) → IsPassed s o v q a → IsPassed s o v q c → a ≡ c
passed_once s o v None a c p r = p ∙ sym r
passed_once s o v (Some q) a c p r = p.1 ∙ sym r.1

asked_once : (s : Bridging) (o : List ℕ) (x : Result Asked MessageErr) (a c : List ℕ) → IsOfAsked s o x a → IsOfAsked s o x c → a ≡ c
asked_once s o (Err e) a c p q = p ∙ sym q
asked_once s o (Ok r) a c p q = passed_once s o r.value (paired s r.op r.head) a c p q

message_once : (s : Bridging) (o : Result (List ℕ) FromHexError) (a c : List ℕ) → IsOfMessage s o a → IsOfMessage s o c → a ≡ c
message_once s (Err e) a c p q = p ∙ sym q
message_once s (Ok o) a c (x, reads, p) (y, others, q) =
    asked_once s o x a c p (subst (λ (z : Result Asked MessageErr). IsOfAsked s o z c) (determined s.from.binding o y x others reads) q)

pub bridged_once : IsBridgedOnce
bridged_once s line a c p q = message_once s (decode_of line) a c p q
