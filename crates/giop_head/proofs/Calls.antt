-- The heads of Request and LocateRequest messages are a grammar.
use Rattle.std.proofs.Common.{◌≡◌, ℕ, zero, suc, ◌+◌, List, [], ◌++◌, length, refl, sym, ap, subst, ◌∙◌, append-nil}
use Rattle.std.proofs.lemmas.Bool.{eqb-true}
use Rattle.wire_def.specs.declared.fault.HeadErr.TheVariants.{Target}
use Rattle.wire_def.specs.declared.head.Order.{Order}
use Rattle.wire_def.specs.Grammar.{Spelling, Parts, IsGrammar, TestedSpells}
use Rattle.wire_def.proofs.Grammars.{done, mapped, both_are, tested_are}
use Rattle.head_kit.specs.Words.{only}
use Rattle.giop_head.specs.declared.header.Heading.{Heading}
use Rattle.giop_head.specs.declared.header.HeadKind.TheVariants.{Asks, Requests}
use Rattle.giop_head.specs.Header.{HeaderSpells}
use Rattle.giop_head.specs.Items.{LongSpells, short_place, SequenceSpells, EndSpells}
use Rattle.giop_head.specs.Versions.{TargetSpells}
use Rattle.giop_head.specs.Call.{Start, StartSpells, StartStops, read_start, Named, NamedSpells, NamedStops, read_named, KeyStops, read_key, Request, request_of, RequestSpells, RequestStops, read_request, Search, SearchSpells, SearchStops, read_search, Call, request, search_for, addressing, CallSpells, AimedStops, AskedStops, CallStops, read_aimed, read_any, read_asked, read_head_of_call, OrderedSpells, OrderedStops, read_head_of_request}
use Rattle.giop_head.proofs.Leaves.{long_is, sequence_is, string_is, end_is}
use Rattle.giop_head.proofs.ByVersion.{first_is, close_is, wants_is, target_is}
use Rattle.giop_head.proofs.Headers.{header_is, is_expected, asks_three, requests_zero}

-- ---- the parts of a request

start_is : (m : ℕ) (r : Order) → IsGrammar (read_start m r) (StartSpells m r) (StartStops m r)
unfolding read_start
start_is m r = mapped (λ (x : Unit {0} × Start). x.1) (StartSpells m r)
    (both_are (first_is m r) (λ contexts. both_are (long_is r) (λ id. wants_is m)))
    (λ p o x h. h)
    (λ p o y h. ((tt, y), refl, h))

named_is : (m n : ℕ) (r : Order) → IsGrammar (read_named m n r) (NamedSpells m n r) (NamedStops m n r)
unfolding read_named
named_is m n r = mapped (λ (x : List ℕ × (List ℕ × Unit {0})). (x.0, x.1.0)) (NamedSpells m n r)
    (both_are (sequence_is r) (λ key. both_are (string_is r) (λ name. close_is m n r)))
    (λ p o x h. h)
    (λ p o y h. ((y.0, (y.1, tt)), refl, h))

abbrev KeySpells : ℕ → Order → Spelling ℕ
KeySpells m r = TestedSpells (TargetSpells m r) (only 0)

key_is : (m : ℕ) (r : Order) → IsGrammar (read_key m r) (KeySpells m r) (KeyStops m r)
unfolding read_key
key_is m r = tested_are (only 0) Target short_place (target_is m r)

-- a kind that is a key is 0
is_key : (m : ℕ) (r : Order) (p : ℕ) (o : List ℕ) (t : ℕ) → KeySpells m r p o t → TargetSpells m r p o 0
is_key m r p o t (kind, passes) = subst (λ z. TargetSpells m r p o z) (eqb-true t 0 passes) kind

-- ---- requests and searches

request_forth : (m n : ℕ) (r : Order) (p : ℕ) (o : List ℕ) (s : Start) (t : ℕ) (x : Named)
    → Parts p o (λ a. StartSpells m r p a s) (λ q b. Parts q b (λ a. KeySpells m r q a t) (λ q' b'. NamedSpells m n r q' b' x))
    → RequestSpells m n r p o (request_of s x)
request_forth m n r p o s t x (a, b, is, start, (c, d, is', key, names)) =
    (a, b, is, start, (c, d, is', is_key m r (p + length a) c t key, names))

request_is : (m n : ℕ) (r : Order) → IsGrammar (read_request m n r) (RequestSpells m n r) (RequestStops m n r)
unfolding read_request
request_is m n r = mapped (λ (x : Start × (ℕ × Named)). request_of x.0 x.1.1) (RequestSpells m n r)
    (both_are (start_is m r) (λ s. both_are (key_is m r) (λ t. named_is m n r)))
    (λ p o x h. request_forth m n r p o x.0 x.1.0 x.1.1 h)
    (λ p o y (a, b, is, start, (c, d, is', key, names)).
    (((y.id, y.wants), (0, (y.key, y.name))), refl, (a, b, is, start, (c, d, is', (key, refl), names))))

abbrev Sought : Type 0
Sought = ℕ × (ℕ × (List ℕ × Unit {0}))

search_forth : (m n : ℕ) (r : Order) (p : ℕ) (o : List ℕ) (x : Sought)
    → Parts p o (λ a. LongSpells r p a x.0) (λ q b. Parts q b (λ a. KeySpells m r q a x.1.0) (λ q' b'.
    Parts q' b' (λ a. SequenceSpells r q' a x.1.1.0) (λ q'' b''. EndSpells n q'' b'' x.1.1.1)))
    → SearchSpells m n r p o (record { id = x.0; key = x.1.1.0 })
search_forth m n r p o x (a, b, is, id, (c, d, is', key, more)) =
    (a, b, is, id, (c, d, is', is_key m r (p + length a) c x.1.0 key, more))

search_is : (m n : ℕ) (r : Order) → IsGrammar (read_search m n r) (SearchSpells m n r) (SearchStops m n r)
unfolding read_search
search_is m n r = mapped (λ (x : Sought). record { id = x.0; key = x.1.1.0 }) (SearchSpells m n r)
    (both_are (long_is r) (λ id. both_are (key_is m r) (λ t. both_are (sequence_is r) (λ key. end_is n))))
    (λ p o x h. search_forth m n r p o x h)
    (λ p o y (a, b, is, id, (c, d, is', key, more)).
    ((y.id, (0, (y.key, tt))), refl, (a, b, is, id, (c, d, is', (key, refl), more))))

-- ---- a request whatever its target

abbrev AimedSpells : ℕ → ℕ → Order → Start → ℕ → Spelling Call
AimedSpells m n r s zero p o c = (x : Named) × (request r m (request_of s x) ≡ c) × NamedSpells m n r p o x
AimedSpells m n r s (suc t) p o c = (o ≡ []) × (addressing r m s ≡ c)

aimed_is : (m n : ℕ) (r : Order) (s : Start) (t : ℕ) → IsGrammar (read_aimed m n r s t) (AimedSpells m n r s t) (AimedStops m n r t)
aimed_is m n r s zero = mapped (λ (x : Named). request r m (request_of s x)) (AimedSpells m n r s zero) (named_is m n r)
    (λ p o x h. (x, refl, h))
    (λ p o c h. h)
aimed_is m n r s (suc t) = done (addressing r m s) (AimedSpells m n r s (suc t)) (λ p. (refl, refl)) (λ p o y h. h)

abbrev AnySpells : ℕ → ℕ → Order → Spelling Call
AnySpells m n r p o c = (x : Start × ℕ) × Parts p o (λ a. StartSpells m r p a x.0) (λ q b.
    Parts q b (λ a. TargetSpells m r q a x.1) (λ q' b'. AimedSpells m n r x.0 x.1 q' b' c))

-- ---- each, by the type of the message

abbrev AskedSpells : ℕ → ℕ → Order → ℕ → Spelling Call
AskedSpells m n r zero p o c = AnySpells m n r p o c
AskedSpells m n r (suc type) p o c = (s : Search) × (search_for r m s ≡ c) × SearchSpells m n r p o s

any_is : (m n : ℕ) (r : Order) → IsGrammar (read_any m n r) (AnySpells m n r) (AskedStops m n r 0)
unfolding read_any
any_is m n r = mapped (λ (x : Start × (ℕ × Call)). x.1.1) (AnySpells m n r)
    (both_are (start_is m r) (λ s. both_are (target_is m r) (λ t. aimed_is m n r s t)))
    (λ p o x h. ((x.0, x.1.0), h))
    (λ p o c (x, h). ((x.0, (x.1, c)), refl, h))

asked_is : (m n : ℕ) (r : Order) (type : ℕ) → IsGrammar (read_asked m n r type) (AskedSpells m n r type) (AskedStops m n r type)
asked_is m n r zero = any_is m n r
asked_is m n r (suc type) = mapped (search_for r m) (AskedSpells m n r (suc type)) (search_is m n r)
    (λ p o s h. (s, refl, h))
    (λ p o c h. h)

abbrev heading : Order → ℕ → ℕ → Heading
heading r type m = record { order = r; message_type = type; minor = m }

aimed_forth : (n : ℕ) (r : Order) (m p : ℕ) (o : List ℕ) (c : Call) (s : Start) (t : ℕ)
    → Parts p o (λ a. HeaderSpells Asks n p a (heading r 0 m)) (λ q b. Parts q b (λ a. StartSpells m r q a s) (λ q' b'.
    Parts q' b' (λ a. TargetSpells m r q' a t) (λ q'' b''. AimedSpells m n r s t q'' b'' c)))
    → CallSpells n p o c
aimed_forth n r m p o c s zero (a, b, is, header, (d, e, is', start, (f, g, is'', kind, (x, same, names)))) =
    subst (λ z. CallSpells n p o z) same (a, b, is, header, (d, e, is', start, (f, g, is'', kind, names)))
aimed_forth n r m p o c s (suc t) (a, b, is, header, (d, e, is', start, (f, g, is'', kind, (none, same)))) =
    let whole : e ≡ f = is'' ∙ ap (λ z. f ++ z) none ∙ append-nil f in
    subst (λ z. CallSpells n p o z) same
    (a, b, is, header, (d, e, is', start, (t, subst (λ z. TargetSpells m r (p + length a + length d) z (suc t)) (sym whole) kind)))

forth : (n : ℕ) (r : Order) (m type p : ℕ) (o : List ℕ) (c : Call)
    → Parts p o (λ a. HeaderSpells Asks n p a (heading r type m)) (λ q b. AskedSpells m n r type q b c)
    → CallSpells n p o c
forth n r m zero p o c (a, b, is, header, (x, fields)) = aimed_forth n r m p o c x.0 x.1 (a, b, is, header, fields)
forth n r m (suc type) p o c (a, b, is, header, (s, same, fields)) =
    let two : type ≡ 2 = asks_three type (is_expected Asks n a (heading r (suc type) m) header.1) in
    subst (λ z. CallSpells n p o z) same
    (a, b, is, subst (λ z. HeaderSpells Asks n p a (heading r (suc z) m)) two header, fields)

back : (n p : ℕ) (o : List ℕ) (c : Call) → CallSpells n p o c
    → (x : Heading × Call) × (x.1 ≡ c)
    × Parts p o (λ a. HeaderSpells Asks n p a x.0) (λ q b. AskedSpells x.0.minor n x.0.order x.0.message_type q b x.1)
back n p o (request r m q) (a, b, is, header, (d, e, is', start, (f, g, is'', kind, names))) = (
  (heading r 0 m, request r m q),
  refl,
  (a, b, is, header, (((q.id, q.wants), 0), (d, e, is', start, (f, g, is'', kind, ((q.key, q.name), refl, names))))),
)
back n p o (search_for r m s) (a, b, is, header, fields) =
    ((heading r 3 m, search_for r m s), refl, (a, b, is, header, (s, refl, fields)))
back n p o (addressing r m s) (a, b, is, header, (d, e, is', start, (t, kind))) = (
  (heading r 0 m, addressing r m s),
  refl,
  (a, b, is, header, ((s, suc t), (d, e, is', start, (e, [], sym (append-nil e), kind, (refl, refl))))),
)

pub call_is : (n : ℕ) → IsGrammar (read_head_of_call n) (CallSpells n) (CallStops n)
call_is n = mapped (λ (x : Heading × Call). x.1) (CallSpells n)
    (both_are (header_is Asks n) (λ h. asked_is h.minor n h.order h.message_type))
    (λ p o x h. forth n x.0.order x.0.minor x.0.message_type p o x.1 h)
    (back n)

-- ---- requests alone

ordered_forth : (n : ℕ) (r : Order) (m type : ℕ) (q : Request) (p : ℕ) (o : List ℕ)
    → Parts p o (λ a. HeaderSpells Requests n p a (heading r type m)) (λ q' b. RequestSpells m n r q' b q)
    → OrderedSpells n p o (record { order = r; minor = m; request = q })
ordered_forth n r m type q p o (a, b, is, header, fields) =
    let none : type ≡ 0 = requests_zero type (is_expected Requests n a (heading r type m) header.1) in
    (a, b, is, subst (λ z. HeaderSpells Requests n p a (heading r z m)) none header, fields)

pub ordered_is : (n : ℕ) → IsGrammar (read_head_of_request n) (OrderedSpells n) (OrderedStops n)
ordered_is n = mapped (λ (x : Heading × Request). record { order = x.0.order; minor = x.0.minor; request = x.1 }) (OrderedSpells n)
    (both_are (header_is Requests n) (λ h. request_is h.minor n h.order))
    (λ p o x h. ordered_forth n x.0.order x.0.minor x.0.message_type x.1 p o h)
    (λ p o y h. ((heading y.order 0 y.minor, y.request), refl, h))
