-- Messages are read the same over bindings of one unit over one back end, and have the same records.
use Rattle.std.proofs.Common.{◌≡◌, inl, inr, ℕ, zero, suc, ◌+◌, ◌<◌, List, [], ◌∷◌, length, take, drop, Option, Some, None, Result, Ok, Err, refl, sym, ap, ◌∙◌, subst}
use Rattle.std.specs.Prelude.{codes, ◌==◌, slice_get}
use Rattle.std.specs.List.{position}
use Rattle.hex.specs.Hex.{decode_of}
use Rattle.hex.specs.declared.error.FromHexError.{FromHexError}
use Rattle.mint.specs.Types.{Ty}
use Rattle.mint.specs.Values.{Val}
use Rattle.wire_def.specs.declared.encoding.Back.{Back}
use Rattle.wire_def.specs.declared.encoding.Back.TheVariants as back
use Rattle.wire_def.specs.declared.fault.HeadErr.{HeadErr}
use Rattle.wire_def.specs.declared.head.Head.{Head}
use Rattle.wire_def.specs.Spells.{IsSpelling}
use Rattle.wire_def.specs.Stops as bodies
use Rattle.aoi.specs.Plain.{PlainUnit, PlainRaise}
use Rattle.pres.specs.declared.ops.Op.{Op}
use Rattle.pres.specs.Bindings.{Binding}
use Rattle.pres.specs.Faces.{Face, at}
use Rattle.pres.specs.Offers.{Offer, offer_at}
use Rattle.pres.specs.Raises.{raises}
use Rattle.serde_json.specs.Data.{Data, Members, no_members, string, object, put}
use Rattle.serde_json.specs.Written.{compact_text}
use Rattle.json_shape.specs.Members.{head_key, head_word}
use Rattle.json_shape.specs.Operations.{dotted, replying}
use Rattle.json_shape.specs.Replies.{word, reply_with}
use Rattle.json_shape.specs.Requests.{head_json, request_json}
use Rattle.json_shape.specs.Texts.{text_of}
use Rattle.json_shape.specs.Written.{json_of}
use Rattle.head_kit.specs.declared.call_head.CallHead.{CallHead}
use Rattle.head_kit.specs.declared.call_head.CallTarget.{CallTarget}
use Rattle.head_kit.specs.declared.call_head.CallTarget.TheVariants.{Operation}
use Rattle.head_kit.specs.Calls.{IsBelow}
use Rattle.flick_engine.specs.declared.errors.MessageErr.{MessageErr}
use Rattle.flick_engine.specs.declared.errors.MessageErr.TheVariants as err
use Rattle.flick_engine.specs.Backs.{BeginsOver, Begins, Stops, RepliesOver, BeginsReply, ReplyStopsOver, ReplyStops}
use Rattle.flick_engine.specs.Fates.{Heard}
use Rattle.flick_engine.specs.Messages.{request_type}
use Rattle.flick_engine.specs.Received.{Asked, Names, ReadCall}
use Rattle.flick_engine.specs.RepliesReceived.{Came, answered, refused, Replied, CameTo, ReadReply}
use Rattle.flick_engine.proofs.HeadsOfBacks.{heads_alike}
use Rattle.flick_lines.specs.Unmarshalled.{answer_text, record_text, request_text, came_members, replied_text, reply_text, IsOfOctets, IsOfReply, IsParted}
use Rattle.flick_lines.proofs.Twins.{AreTwins, faces_in, AreSame, ops_alike, first_same, rest_same, none_same, names_alike, dotted_alike, request_alike, arm_alike, of_both}
use Rattle.flick_lines.proofs.TwinRecords.{IsFew, raises_alike, replying_alike}

-- ---- calls

pub begins_over : (b c : Binding) → AreTwins b c → (o : List ℕ) (k : CallHead) → Begins b o k → Begins c o k
begins_over b c t o k h = subst (λ (x : Back). BeginsOver x c o k) t.backs ((heads_alike b c t.units t.one).begins o k h)

pub begins_below : (b c : Binding) → AreTwins b c → (o : List ℕ) (k : CallHead) → Begins b o k → IsBelow (length b.ops) k.naming
begins_below b c t o k h = (heads_alike b c t.units t.one).below o k h

-- the request of an operation that a message names
named_request : (b c : Binding) → AreTwins b c → (o : List ℕ) (k : CallHead) (op : ℕ) → Names b o k (Operation op)
    → request_type b op ≡ request_type c op
named_request b c t o k op (short, begins, is) =
    request_alike b c t op (subst (λ n. IsBelow (length b.ops) n) is (begins_below b c t o k begins))

names_over : (b c : Binding) → AreTwins b c → (o : List ℕ) (k : CallHead) (n : CallTarget) → Names b o k n → Names c o k n
names_over b c t o k n (short, begins, is) = (short, begins_over b c t o k begins, is)

pub call_over : (b c : Binding) → AreTwins b c → (o : List ℕ) (x : Result Asked MessageErr) → ReadCall b o x → ReadCall c o x
call_over b c t o (Err err.Long) h = h
call_over b c t o (Err (err.Head e)) (short, stops) = (short, subst (λ (x : Back). Stops x o e) (t.backs) stops)
call_over b c t o (Err err.NoInterface) (k, names) = (k, names_over b c t o k _ names)
call_over b c t o (Err err.NoOperation) (k, names) = (k, names_over b c t o k _ names)
call_over b c t o (Err (err.Body f)) (k, op, names, stops) = (
  k,
  op,
  names_over b c t o k _ names,
  subst (λ (ty : Ty). bodies.Stops k.encoding ty k.used (drop k.used o) f.kind f.at) (named_request b c t o k op names) stops,
)
call_over b c t o (Err (err.Trailing at)) (k, op, names, (v, used, spells, place, more)) =
    (k, op, names_over b c t o k _ names, (v, used, rw (← named_request b c t o k op names) spells, place, more))
call_over b c t o (Err err.NoMemory) h = absurd h
call_over b c t o (Ok r) (k, op, names, (same, head, spells)) =
    let type_ = named_request b c t o k op names in
    let there = subst (λ (ty : Ty). IsSpelling k.encoding ty k.used (drop k.used o) r.value) type_ spells in
    (k, op, names_over b c t o k _ names, (same, head, there))

-- ---- replies

-- what holds of a binding of this unit over this back end, where it looks at nothing else
along : (P : Binding → Type 0) (b c : Binding) → b.unit ≡ c.unit → b.back ≡ c.back → P (of_both c b.unit b.back) → P c
along P b c units backs h =
    subst (λ (e : Back). P (of_both c c.unit e)) backs (subst (λ (u : PlainUnit). P (of_both c u b.back)) units h)

-- the head of a reply over a back end
replies_same : (k : Back) (b c : Binding) → b.unit ≡ c.unit → b.back ≡ c.back → (op : ℕ) (o : List ℕ) (t : Heard)
    → RepliesOver k b op o t → RepliesOver k c op o t
replies_same back.Xdr b c units backs op o t h = along (λ (x : Binding). RepliesOver back.Xdr x op o t) b c units backs h
replies_same back.CdrBig b c units backs op o t h = along (λ (x : Binding). RepliesOver back.CdrBig x op o t) b c units backs h
replies_same back.CdrLittle b c units backs op o t h = along (λ (x : Binding). RepliesOver back.CdrLittle x op o t) b c units backs h
replies_same back.Mach b c units backs op o t h = along (λ (x : Binding). RepliesOver back.Mach x op o t) b c units backs h

stops_same : (k : Back) (b c : Binding) → b.unit ≡ c.unit → b.back ≡ c.back → (op : ℕ) (o : List ℕ) (e : HeadErr)
    → ReplyStopsOver k b op o e → ReplyStopsOver k c op o e
stops_same back.Xdr b c units backs op o e h = along (λ (x : Binding). ReplyStopsOver back.Xdr x op o e) b c units backs h
stops_same back.CdrBig b c units backs op o e h = h
stops_same back.CdrLittle b c units backs op o e h = h
stops_same back.Mach b c units backs op o e h = along (λ (x : Binding). ReplyStopsOver back.Mach x op o e) b c units backs h

begins_reply_over : (b c : Binding) → AreTwins b c → (op : ℕ) (o : List ℕ) (t : Heard) → BeginsReply b op o t → BeginsReply c op o t
begins_reply_over b c twins op o t h =
    subst (λ (k : Back). RepliesOver k c op o t) twins.backs (replies_same b.back b c twins.units twins.backs op o t h)

stops_reply_over : (b c : Binding) → AreTwins b c → (op : ℕ) (o : List ℕ) (e : HeadErr) → ReplyStops b op o e → ReplyStops c op o e
stops_reply_over b c twins op o e h =
    subst (λ (k : Back). ReplyStopsOver k c op o e) twins.backs (stops_same b.back b c twins.units twins.backs op o e h)

came_over : (b c : Binding) → AreTwins b c → (op : ℕ) → op < length b.ops → (o : List ℕ) (h : Head) (r : Came)
    → CameTo b op o h r → CameTo c op o h r
came_over b c twins op below o h (answered v) (t, k, (short, begins, fate), (same, (w, is, spells))) =
    let there = subst (λ (ty : Ty). IsSpelling t.encoding ty t.used (drop t.used o) w) (arm_alike b c twins op below k) spells in
    (t, k, (short, begins_reply_over b c twins op o t begins, fate), (same, (w, is, there)))
came_over b c twins op below o h (refused why) (t, r, (short, begins, fate), rest) =
    (t, r, (short, begins_reply_over b c twins op o t begins, fate), rest)

reply_over : (b c : Binding) → AreTwins b c → (op : ℕ) → op < length b.ops → (o : List ℕ) (x : Result Replied MessageErr)
    → ReadReply b op o x → ReadReply c op o x
reply_over b c twins op below o (Err err.Long) h = h
reply_over b c twins op below o (Err (err.Head e)) (short, stops) = (short, stops_reply_over b c twins op o e stops)
reply_over b c twins op below o (Err (err.Body f)) (t, k, (short, begins, fate), stops) = (
  t,
  k,
  (short, begins_reply_over b c twins op o t begins, fate),
  subst (λ (ty : Ty). bodies.Stops t.encoding ty t.used (drop t.used o) f.kind f.at) (arm_alike b c twins op below k) stops,
)
reply_over b c twins op below o (Err (err.Trailing at)) (inl (t, k, (short, begins, fate), (w, used, first, place, more))) =
    inl (
      t,
      k,
      (short, begins_reply_over b c twins op o t begins, fate),
      (w, used, rw (← arm_alike b c twins op below k) first, place, more),
    )
reply_over b c twins op below o (Err (err.Trailing at)) (inr (t, why, (short, begins, fate), rest)) =
    inr (t, why, (short, begins_reply_over b c twins op o t begins, fate), rest)
reply_over b c twins op below o (Ok r) h = came_over b c twins op below o r.head r.came h
reply_over b c twins op below o _ h = absurd h

-- ---- the texts of records

-- a request record of an operation of this name over a back end
abbrev json_with : List ℕ → Back → Face → Head → Val → Data
json_with name k f h v = object (put (codes "op") (string (text_of name)) (head_json k h (put (codes "args") (json_of f v) no_members)))

json_alike : (b c : Binding) → AreTwins b c → (o p : Op) (h : Head) (v : Val) → offer_at (faces_in b) o ≡ offer_at (faces_in c) p
    → request_json b o h v ≡ request_json c p h v
json_alike b c t o p h v same =
    let names = dotted_alike (faces_in b) (faces_in c) b.unit.interfaces c.unit.interfaces o p (names_alike b c t) same in
    ap (λ (d : List ℕ). json_with d b.back (at (faces_in b) o.request) h v) names
    ∙ ap (λ (k : Back). json_with (dotted c.unit.interfaces p) k (at (faces_in b) o.request) h v) (t.backs)
    ∙ ap (λ (z : Offer). json_with (dotted c.unit.interfaces p) c.back z.request h v) same

request_text_alike : (b c : Binding) → AreTwins b c → (r : Asked) (os ps : List Op) (n : ℕ) → AreSame (faces_in b) (faces_in c) os ps
    → record_text b (slice_get os n) r ≡ record_text c (slice_get ps n) r
request_text_alike b c t r [] [] n e = refl
request_text_alike b c t r [] (p ∷ ps) n e = absurd (none_same (faces_in b) (faces_in c) p ps e)
request_text_alike b c t r (o ∷ os) [] n e = absurd (none_same (faces_in c) (faces_in b) o os (sym e))
request_text_alike b c t r (o ∷ os) (p ∷ ps) zero e =
    ap compact_text (json_alike b c t o p r.head r.value (first_same (faces_in b) (faces_in c) o p os ps e))
request_text_alike b c t r (o ∷ os) (p ∷ ps) (suc n) e =
    request_text_alike b c t r os ps n (rest_same (faces_in b) (faces_in c) o p os ps e)

-- a reply record of an operation of this name over a back end
abbrev reply_named_with : List ℕ → Back → Head → Members → Data
reply_named_with name k h ms =
    object (put (codes "op") (string (text_of name)) (put (head_key k) (word (head_word k h)) ms))

reply_with_alike : (b c : Binding) → AreTwins b c → (o p : Op) (h : Head) (ms : Members)
    → offer_at (faces_in b) o ≡ offer_at (faces_in c) p → reply_with b o h ms ≡ reply_with c p h ms
reply_with_alike b c t o p h ms same =
    let names = dotted_alike (faces_in b) (faces_in c) b.unit.interfaces c.unit.interfaces o p (names_alike b c t) same in
    ap (λ (d : List ℕ). reply_named_with d b.back h ms) names
    ∙ ap (λ (k : Back). reply_named_with (dotted c.unit.interfaces p) k h ms) (t.backs)

members_alike : (b c : Binding) → AreTwins b c → (k : ℕ) (o p : Op) (r : Came) → offer_at (faces_in b) o ≡ offer_at (faces_in c) p
    → came_members (raises b k) (at (faces_in b) o.reply) r ≡ came_members (raises c k) (at (faces_in c) p.reply) r
members_alike b c t k o p r same =
    ap (λ (rs : List PlainRaise). came_members rs (at (faces_in b) o.reply) r) (raises_alike b c t k)
    ∙ ap (λ (z : Offer). came_members (raises c k) z.reply r) same

replied_same : (b c : Binding) → AreTwins b c → (k : ℕ) (r : Replied) (o p : Op) → offer_at (faces_in b) o ≡ offer_at (faces_in c) p
    → replied_text b k (Some o) r ≡ replied_text c k (Some p) r
replied_same b c t k r o p same =
    ap (λ (ms : Members). compact_text (reply_with b o r.head ms)) (members_alike b c t k o p r.came same)
    ∙ ap compact_text (reply_with_alike b c t o p r.head (came_members (raises c k) (at (faces_in c) p.reply) r.came) same)

reply_text_alike : (b c : Binding) → AreTwins b c → (k : ℕ) (r : Replied) (os ps : List Op) (n : ℕ)
    → AreSame (faces_in b) (faces_in c) os ps → replied_text b k (slice_get os n) r ≡ replied_text c k (slice_get ps n) r
reply_text_alike b c t k r [] [] n e = refl
reply_text_alike b c t k r [] (p ∷ ps) n e = absurd (none_same (faces_in b) (faces_in c) p ps e)
reply_text_alike b c t k r (o ∷ os) [] n e = absurd (none_same (faces_in c) (faces_in b) o os (sym e))
reply_text_alike b c t k r (o ∷ os) (p ∷ ps) zero e =
    replied_same b c t k r o p (first_same (faces_in b) (faces_in c) o p os ps e)
reply_text_alike b c t k r (o ∷ os) (p ∷ ps) (suc n) e =
    reply_text_alike b c t k r os ps n (rest_same (faces_in b) (faces_in c) o p os ps e)

-- ---- the answers to messages

answer_alike : {R : Type 0} (f g : R → List ℕ) → ((r : R) → f r ≡ g r) → (x : Result R MessageErr) → answer_text f x ≡ answer_text g x
answer_alike f g same (Err e) = refl
answer_alike f g same (Ok r) = same r

-- octets that are the same thing, with the same text, are answered alike
octets_over : {R : Type 0} (Is Js : List ℕ → Result R MessageErr → Type 0) (f g : R → List ℕ)
    → ((o : List ℕ) (x : Result R MessageErr) → Is o x → Js o x) → ((r : R) → f r ≡ g r)
    → (o : Result (List ℕ) FromHexError) (a : List ℕ) → IsOfOctets Is f o a → IsOfOctets Js g o a
octets_over Is Js f g over same (Err e) a h = h
octets_over Is Js f g over same (Ok o) a (x, reads, is) = (x, over o x reads, is ∙ answer_alike f g same x)

pub calls_over : (b c : Binding) → AreTwins b c → (o : Result (List ℕ) FromHexError) (a : List ℕ)
    → IsOfOctets (ReadCall b) (request_text b) o a → IsOfOctets (ReadCall c) (request_text c) o a
calls_over b c t o a h =
    octets_over (ReadCall b) (ReadCall c) (request_text b) (request_text c) (call_over b c t)
    (λ (r : Asked). request_text_alike b c t r b.ops c.ops r.op (ops_alike b c t)) o a h

named_over : (b c : Binding) → AreTwins b c → (k : Option ℕ) (digits a : List ℕ) → IsFew (length b.ops) k
    → IsOfReply b k digits a → IsOfReply c k digits a
named_over b c t None digits a few h = h
named_over b c t (Some k) digits a few h =
    octets_over (ReadReply b k) (ReadReply c k) (reply_text b k) (reply_text c k) (reply_over b c t k few)
    (λ (r : Replied). reply_text_alike b c t k r b.ops c.ops k (ops_alike b c t)) (decode_of digits) a h

parted_over : (b c : Binding) → AreTwins b c → (line : List ℕ) (n : Option ℕ) (a : List ℕ) → IsParted b line n a → IsParted c line n a
parted_over b c t line None a h = h
parted_over b c t line (Some n) a h =
    let (same, few) = replying_alike b c t (take n line) in
    subst (λ (k : Option ℕ). IsOfReply c k (drop (n + 1) line) a) same
    (named_over b c t (replying b (take n line)) (drop (n + 1) line) a few h)

pub unreplied_over : (b c : Binding) → AreTwins b c → (line a : List ℕ) → IsParted b line (position (λ o. o == 32) line) a
    → IsParted c line (position (λ o. o == 32) line) a
unreplied_over b c t line a h = parted_over b c t line (position (λ o. o == 32) line) a h
