-- Heads that are sent are read as what they are sent for.
use Rattle.std.proofs.Common.{◌≡◌, ℕ, ◌+◌, ◌-◌, ◌≤◌, ◌<◌, ◌^◌, Bool, true, false, List, ◌∷◌, ◌++◌, length, take, drop, refl, sym, ap, subst, ◌∙◌, append_assoc, length-append, arith}
use Rattle.std.specs.Prelude.{Ok}
use Rattle.std.proofs.lemmas.Bool.{eq-eqb}
use Rattle.std.proofs.lemmas.List.{take_at, drop_at, length-take, length-drop}
use Rattle.mint.specs.declared.kind.Kind.TheVariants as kind
use Rattle.mint.specs.Types.{number}
use Rattle.wire_def.specs.declared.encoding.Encoding.TheVariants.{CdrBig, CdrLittle}
use Rattle.wire_def.specs.declared.head.Order.{Order}
use Rattle.wire_def.specs.declared.head.Order.TheVariants.{Big, Little}
use Rattle.wire_def.specs.declared.outcome.Refusal.TheVariants.{ProgUnavail, ProgMismatch, ProcUnavail, GarbageArgs, SystemErr, RpcMismatch, AuthError, SystemException, UserException, RetCode}
use Rattle.wire_def.specs.Grammar.{Parts}
use Rattle.wire_def.proofs.Words.{wide}
use Rattle.giop_head.specs.declared.header.HeadKind.{HeadKind}
use Rattle.giop_head.specs.declared.header.HeadKind.TheVariants.{Asks, Requests, Replies}
use Rattle.giop_head.specs.Header.{IsMinor, has_version, expected, judged, HeaderSpells}
use Rattle.giop_head.specs.Call.{Request, RequestSpells, request}
use Rattle.giop_head.specs.Reply.{Fate, answer, user, system, status_of}
use Rattle.giop_head.specs.Heads.{BeginsWith}
use Rattle.giop_head.specs.Printed.{long_octets, order_octet, header_octets, with_size, request_octets}
use Rattle.giop_head.specs.Reported.{shared_head, BeginsRequest}
use Rattle.giop_head.specs.Laws.{IsLong, IsRequest, IsFate, MayFollow, reply_octets, RequestsAreRead, RepliesAreRead, OwnHaveOctets}
use Rattle.giop_head.proofs.Sending.{IsEnd, put_request, request_puts, put_reply, ReplyForm, reply_puts, aligned}

-- a header in which the size is set
abbrev sized : ℕ → Order → ℕ → ℕ → List ℕ
sized m r type k = 71 ∷ 73 ∷ 79 ∷ 80 ∷ 1 ∷ m ∷ order_octet r ∷ type ∷ long_octets r k

size_reported : (m : ℕ) (r : Order) (type : ℕ) (t : List ℕ)
    → with_size r (header_octets m r type ++ t) ≡ sized m r type (length (header_octets m r type ++ t) - 12) ++ t
size_reported m Big type t = refl
size_reported m Little type t = refl

twelve : (m : ℕ) (r : Order) (type k : ℕ) → length (sized m r type k) ≡ 12
twelve m Big type k = refl
twelve m Little type k = refl

version_right : (m : ℕ) (r : Order) (type k : ℕ) → IsMinor m → has_version (sized m r type k) ≡ true
version_right m r type k h = h

-- a header of a type that is expected is right
is_right : (w : HeadKind) (m : ℕ) (r : Order) (type n : ℕ) → IsMinor m → expected w type ≡ true → n - 12 < 2 ^ 32
    → judged w n (sized m r type (n - 12)) ≡ Ok (record { order = r; message_type = type; minor = m })
unfolding judged
is_right w m Big type n minor e fits =
    rw (version_right m Big type (n - 12) minor, e, (wide CdrBig (number kind.U32)).again (n - 12) fits, eq-eqb (n - 12) (n - 12) refl) refl
is_right w m Little type n minor e fits =
    rw
    (version_right m Little type (n - 12) minor, e, (wide CdrLittle (number kind.U32)).again (n - 12) fits, eq-eqb (n - 12) (n - 12) refl)
    refl

-- fields after a header, and what follows them
module _ (w : HeadKind) (m : ℕ) (r : Order) (type : ℕ) (fields body : List ℕ) (P : ℕ → List ℕ → Type 0) (spelled : P 12 fields)
    (minor : IsMinor m) (is : expected w type ≡ true) where
  abbrev head : List ℕ
  head = header_octets m r type ++ fields

  abbrev message : List ℕ
  message = with_size r (head ++ body)

  abbrev sized_head : List ℕ
  sized_head = sized m r type (length (head ++ body) - 12)

  whole : message ≡ sized_head ++ (fields ++ body)
  whole = ap (with_size r) (append_assoc (header_octets m r type) fields body) ∙ size_reported m r type (fields ++ body)
      ∙ ap (λ (o : List ℕ). sized m r type (length o - 12) ++ (fields ++ body)) (sym (append_assoc (header_octets m r type) fields body))

  same_length : length message ≡ length (head ++ body)
  same_length =
      omega (
        arith,
        ap length whole,
        twelve m r type (length (head ++ body) - 12),
        length-append sized_head (fields ++ body),
        ap length (append_assoc (header_octets m r type) fields body),
        length-append (header_octets m r type) (fields ++ body),
      )

  within : length head ≤ length message
  within = omega (arith, same_length, length-append head body)

  long_head : length head ≡ length (sized_head ++ fields)
  long_head =
      omega (
        arith,
        length-append sized_head fields,
        twelve m r type (length (head ++ body) - 12),
        length-append (header_octets m r type) fields,
      )

  front : take (length head) message ≡ sized_head ++ fields
  front = ap (take (length head)) (whole ∙ sym (append_assoc sized_head fields body))
      ∙ take_at (sized_head ++ fields) body (length head) (sym long_head)

  begins : length (head ++ body) - 12 < 2 ^ 32 → Parts 0 (take (length head) message)
      (λ a. HeaderSpells w (length message) 0 a (record { order = r; message_type = type; minor = m })) P
  begins fits = rw (front, same_length) (
    sized_head,
    fields,
    refl,
    (twelve m r type (length (head ++ body) - 12), is_right w m r type (length (head ++ body)) minor is fits),
    rw (twelve m r type (length (head ++ body) - 12)) spelled,
  )

  rest : drop (length head) message ≡ body
  rest = ap (drop (length head)) (whole ∙ sym (append_assoc sized_head fields body))
      ∙ drop_at (sized_head ++ fields) body (length head) (sym long_head)

pub long_four : (r : Order) (n : ℕ) → length (long_octets r n) ≡ 4
long_four Big n = refl
long_four Little n = refl

-- to set the size changes no length
pub length_sized : (r : Order) (o : List ℕ) → 12 ≤ length o → length (with_size r o) ≡ length o
length_sized r o long =
    let size : List ℕ = long_octets r (length o - 12) in
    let is : with_size r o ≡ (take 8 o ++ size) ++ drop (8 + length size) o = refl in
    omega (
      arith,
      long,
      ap length is,
      long_four r (length o - 12),
      length-append (take 8 o ++ size) (drop (8 + length size) o),
      length-append (take 8 o) size,
      length-take 8 o,
      length-drop (8 + length size) o,
    )

-- ---- requests

-- a request's octets as they are put after its header
put_octets : (m : ℕ) (has : Bool) (r : Order) (q : Request) → request_octets m has r q ≡ put_request m has r q (header_octets m r 0)
unfolding request_octets
put_octets m has r q = refl

-- the head ends where its body begins, or where the message ends that has none
ends : (has : Bool) (head body : List ℕ) → MayFollow has body → IsEnd has (length (head ++ body)) (length head)
ends true head body follows = omega (arith, length-append head body)
ends false head body follows = omega (arith, length-append head body, ap length (follows refl))

module _ (m : ℕ) (has : Bool) (r : Order) (q : Request) (body : List ℕ) (minor : IsMinor m) (is : IsRequest q) where
  abbrev lead : List ℕ
  lead = request_octets m has r q

  abbrev total : ℕ
  total = length (lead ++ body)

  abbrev Fields : ℕ → ℕ → List ℕ → Type 0
  Fields n p o = RequestSpells m n r p o q

  made : MayFollow has body → (t : List ℕ) × (lead ≡ header_octets m r 0 ++ t) × Fields total 12 t
  made follows =
      let end : IsEnd has total (length (put_request m has r q (header_octets m r 0))) =
      subst (λ (o : List ℕ). IsEnd has total (length o)) (put_octets m has r q) (ends has lead body follows) in
      let t = request_puts m total has r q is (header_octets m r 0) end in
      (t.0, put_octets m has r q ∙ t.1, t.2)

  -- what its fields are in a message of this length
  spelled_in : (w : HeadKind) → expected w 0 ≡ true → MayFollow has body → total - 12 < 2 ^ 32
      → (length lead ≤ length (with_size r (lead ++ body)))
      × Parts 0 (take (length lead) (with_size r (lead ++ body)))
      (λ a. HeaderSpells w (length (with_size r (lead ++ body))) 0 a (record { order = r; message_type = 0; minor = m }))
      (Fields (length (with_size r (lead ++ body))))
  spelled_in w expects follows fits =
      let t = made follows in
      let long : length (with_size r (lead ++ body)) ≡ total =
      subst (λ (o : List ℕ). length (with_size r (o ++ body)) ≡ length (o ++ body)) (sym t.1)
      (same_length w m r 0 t.0 body (Fields total) t.2 minor expects) in
      let there : length lead ≤ length (with_size r (lead ++ body)) =
      subst (λ (o : List ℕ). length o ≤ length (with_size r (o ++ body))) (sym t.1)
      (within w m r 0 t.0 body (Fields total) t.2 minor expects) in
      let parts = subst (λ (o : List ℕ). length (o ++ body) - 12 < 2 ^ 32 → Parts 0 (take (length o) (with_size r (o ++ body)))
      (λ a. HeaderSpells w (length (with_size r (o ++ body))) 0 a (record { order = r; message_type = 0; minor = m }))
      (Fields total)) (sym t.1) (begins w m r 0 t.0 body (Fields total) t.2 minor expects) fits in
      (there, (parts.0, parts.1, parts.2, parts.3, subst (λ (n : ℕ). Fields n (0 + length parts.0) parts.1) (sym long) parts.4))

-- the head that is sent of a request is read as that request
pub requests_read : RequestsAreRead
requests_read m has r q body minor is follows fits = (
  request r m q,
  length (request_octets m has r q),
  spelled_in m has r q body minor is Asks refl follows fits,
  refl,
)

-- so it is where requests alone are read
pub requests_begin : (m : ℕ) (has : Bool) (r : Order) (q : Request) (body : List ℕ) → IsMinor m → IsRequest q → MayFollow has body
    → IsLong (length (request_octets m has r q ++ body) - 12)
    → BeginsRequest (with_size r (request_octets m has r q ++ body)) (record {
      head = shared_head q.id q.wants r;
      key = q.key;
      name = q.name;
      used = length (request_octets m has r q);
      minor = m;
    })
requests_begin m has r q body minor is follows fits = (
  record { order = r; minor = m; request = q },
  length (request_octets m has r q),
  spelled_in m has r q body minor is Requests refl follows fits,
  refl,
)

-- and what follows the head is what was put after it
pub follows_request : (m : ℕ) (has : Bool) (r : Order) (q : Request) (body : List ℕ) → IsMinor m → IsRequest q
    → drop (length (request_octets m has r q)) (with_size r (request_octets m has r q ++ body)) ≡ body
follows_request m has r q body minor is =
    let n : ℕ = length (request_octets m has r q) in
    let long : IsEnd has n n = at_end has n in
    let end : IsEnd has n (length (put_request m has r q (header_octets m r 0))) =
    subst (λ (o : List ℕ). IsEnd has n (length o)) (put_octets m has r q) long in
    let t = request_puts m n has r q is (header_octets m r 0) end in
    let all : request_octets m has r q ≡ header_octets m r 0 ++ t.0 = put_octets m has r q ∙ t.1 in
    rw all (rest Requests m r 0 t.0 body (λ p o. RequestSpells m n r p o q) t.2 minor refl) where
      at_end : (b : Bool) (k : ℕ) → IsEnd b k k
      at_end true k = omega arith
      at_end false k = omega arith

-- ---- replies

-- a reply's octets as they are put after its header
put_replied : (m : ℕ) (r : Order) (id : ℕ) (f : Fate) → reply_octets m r id f ≡ put_reply m r id f (header_octets m r 1)
put_replied m r id answer = refl
put_replied m r id (user s) = refl
put_replied m r id (system s minor completion) = refl

module _ (m : ℕ) (r : Order) (id : ℕ) (f : Fate) (body : List ℕ) (minor : IsMinor m) (small : IsLong id) (is : IsFate f) where
  abbrev replied : List ℕ
  replied = reply_octets m r id f

  told : (n : ℕ) → (t : List ℕ) × (replied ≡ header_octets m r 1 ++ t) × ReplyForm m n r id f 12 t
  told n =
      let t = reply_puts m n r id f small is (header_octets m r 1) (aligned m r id (status_of f) minor) in
      (t.0, put_replied m r id f ∙ t.1, t.2)

  -- the head that is sent of a reply is read as that reply
  pub replies_begin_with : length (replied ++ body) - 12 < 2 ^ 32
      → BeginsWith Replies (with_size r (replied ++ body)) (record { order = r; minor = m; id = id; fate = f }) (length replied)
  replies_begin_with fits =
      let n : ℕ = length (with_size r (replied ++ body)) in
      let t = told n in
      let there : length replied ≤ n =
      subst (λ (o : List ℕ). length o ≤ length (with_size r (o ++ body))) (sym t.1)
      (within Replies m r 1 t.0 body (ReplyForm m n r id f) t.2 minor refl) in
      let parts = subst (λ (o : List ℕ). length (o ++ body) - 12 < 2 ^ 32 → Parts 0 (take (length o) (with_size r (o ++ body)))
      (λ a. HeaderSpells Replies (length (with_size r (o ++ body))) 0 a (record { order = r; message_type = 1; minor = m }))
      (ReplyForm m n r id f)) (sym t.1) (begins Replies m r 1 t.0 body (ReplyForm m n r id f) t.2 minor refl) fits in
      (there, parts)

  -- and what follows the head is what was put after it
  pub follows_reply : drop (length replied) (with_size r (replied ++ body)) ≡ body
  follows_reply =
      let t = told 0 in
      subst (λ (o : List ℕ). drop (length o) (with_size r (o ++ body)) ≡ body) (sym t.1)
      (rest Replies m r 1 t.0 body (ReplyForm m 0 r id f) t.2 minor refl)

pub replies_read : RepliesAreRead
replies_read m r id f body minor small is fits = (
  record { order = r; minor = m; id = id; fate = f },
  length (reply_octets m r id f),
  replies_begin_with m r id f body minor small is fits,
  refl,
)

-- ---- refusals

pub own_octets : OwnHaveOctets
own_octets m r id (SystemException name minor completion) = ((λ own. (_, refl)), λ has. tt)
own_octets m r id (UserException name) = ((λ own. (_, refl)), λ has. tt)
own_octets m r id ProgUnavail = ((λ own. absurd own), λ (o, is). absurd cc)
own_octets m r id (ProgMismatch low high) = ((λ own. absurd own), λ (o, is). absurd cc)
own_octets m r id ProcUnavail = ((λ own. absurd own), λ (o, is). absurd cc)
own_octets m r id GarbageArgs = ((λ own. absurd own), λ (o, is). absurd cc)
own_octets m r id SystemErr = ((λ own. absurd own), λ (o, is). absurd cc)
own_octets m r id (RpcMismatch low high) = ((λ own. absurd own), λ (o, is). absurd cc)
own_octets m r id (AuthError why) = ((λ own. absurd own), λ (o, is). absurd cc)
own_octets m r id (RetCode n) = ((λ own. absurd own), λ (o, is). absurd cc)
