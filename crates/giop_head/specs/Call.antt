-- The heads of Request and LocateRequest messages (OMG CORBA, chapter GIOP, sections on these two).
use Rattle.std.specs.Prelude.{ℕ, zero, suc, List, Bool}
use Rattle.wire_def.specs.declared.fault.HeadErr.{HeadErr}
use Rattle.wire_def.specs.declared.fault.HeadErr.TheVariants.{Target}
use Rattle.wire_def.specs.declared.head.Order.{Order}
use Rattle.wire_def.specs.Grammar.{got, Reader, Spelling, Stopping, map_got, both, tested, Parts, StopsInOrder, TestedSpells, TestedStops}
use Rattle.head_kit.specs.Words.{only}
use Rattle.giop_head.specs.Items.{LongSpells, LongStops, read_long, short_place, SequenceSpells, SequenceStops, read_sequence, StringSpells, StringStops, read_string, EndSpells, EndStops, read_end}
use Rattle.giop_head.specs.Versions.{FirstSpell, FirstStop, pass_first, CloseSpells, CloseStops, pass_close, WantsSpells, WantsStops, read_wants, TargetSpells, TargetStops, read_target}
use Rattle.giop_head.specs.Header.{HeaderSpells, HeaderStops, read_header}
use Rattle.giop_head.specs.declared.header.HeadKind.TheVariants.{Asks, Requests}

-- ---- the parts of a request

-- an id, and whether a reply is wanted
abbrev pub Start : Type 0
Start = ℕ × Bool

-- what comes before the target: the id, and whether a reply is wanted, in version 1.0 after service contexts
abbrev pub StartSpells : ℕ → Order → Spelling Start
StartSpells m r p0 o0 x =
    Parts p0 o0 (λ a. FirstSpell m r p0 a tt) (λ p1 o1.
    Parts p1 o1 (λ a. LongSpells r p1 a x.0) (λ p2 o2. WantsSpells m p2 o2 x.1))

-- the first of these fields that is cut off or wrong
abbrev pub StartStops : ℕ → Order → Stopping HeadErr
StartStops m r = StopsInOrder (FirstSpell m r) (FirstStop m r) (λ contexts. StopsInOrder (LongSpells r) LongStops (λ id. WantsStops m))

-- these fields, read from a position
unfoldable pub read_start : ℕ → Order → Reader HeadErr Start
read_start m r p o = map_got (λ x. x.1) (both (pass_first m r) (λ contexts. both (read_long r) (λ id. read_wants m)) p o)

-- the key of an object, and the name of an operation
abbrev pub Named : Type 0
Named = List ℕ × List ℕ

-- what comes after the kind of the target, where it is a key: key and name, and the last fields of the version
abbrev pub NamedSpells : ℕ → ℕ → Order → Spelling Named
NamedSpells m n r p0 o0 x =
    Parts p0 o0 (λ a. SequenceSpells r p0 a x.0) (λ p1 o1.
    Parts p1 o1 (λ a. StringSpells r p1 a x.1) (λ p2 o2. CloseSpells m n r p2 o2 tt))

-- the first of these fields that is cut off or wrong
abbrev pub NamedStops : ℕ → ℕ → Order → Stopping HeadErr
NamedStops m n r =
    StopsInOrder (SequenceSpells r) (SequenceStops r) (λ key. StopsInOrder (StringSpells r) (StringStops r) (λ name. CloseStops m n r))

-- these fields, read from a position
unfoldable pub read_named : ℕ → ℕ → Order → Reader HeadErr Named
read_named m n r p o = map_got (λ x. (x.0, x.1.0)) (both (read_sequence r) (λ key. both (read_string r) (λ name. pass_close m n r)) p o)

-- a target of another kind than a key
abbrev pub KeyStops : ℕ → Order → Stopping HeadErr
KeyStops m r = TestedStops (TargetSpells m r) (TargetStops m r) (only 0) Target short_place

-- the kind of a target that is a key, read from a position
unfoldable pub read_key : ℕ → Order → Reader HeadErr ℕ
read_key m r p o = tested (read_target m r) (only 0) Target short_place p o

-- ---- requests, of a version, in a message of so many octets

-- a request: its id, whether a reply is wanted, the object's key, and the name of the operation
pub record Request : Type 0 where
  pub id : ℕ
  pub wants : Bool
  pub key : List ℕ
  pub name : List ℕ

-- a request of these parts
abbrev pub request_of : Start → Named → Request
request_of s x = record { id = s.0; wants = s.1; key = x.0; name = x.1 }

-- what comes before the target, a key as the target, and what comes after
abbrev pub RequestSpells : ℕ → ℕ → Order → Spelling Request
RequestSpells m n r p0 o0 q =
    Parts p0 o0 (λ a. StartSpells m r p0 a (q.id, q.wants)) (λ p1 o1.
    Parts p1 o1 (λ a. TargetSpells m r p1 a 0) (λ p2 o2. NamedSpells m n r p2 o2 (q.key, q.name)))

-- the first of these fields that is cut off or wrong, a target of another kind included
abbrev pub RequestStops : ℕ → ℕ → Order → Stopping HeadErr
RequestStops m n r =
    StopsInOrder (StartSpells m r) (StartStops m r) (λ s.
    StopsInOrder (TestedSpells (TargetSpells m r) (only 0)) (KeyStops m r) (λ t. NamedStops m n r))

-- a request, read from a position
unfoldable pub read_request : ℕ → ℕ → Order → Reader HeadErr Request
read_request m n r p o =
    map_got (λ x. request_of x.0 x.1.1) (both (read_start m r) (λ s. both (read_key m r) (λ t. read_named m n r)) p o)

-- a request whose target is of another kind than a key, which ends the reading
abbrev pub AddressSpells : ℕ → Order → Spelling Start
AddressSpells m r p0 o0 s =
    Parts p0 o0 (λ a. StartSpells m r p0 a s) (λ p1 o1. (t : ℕ) × TargetSpells m r p1 o1 (suc t))

-- ---- searches

-- a search for an object: the id, and the object's key
pub record Search : Type 0 where
  pub id : ℕ
  pub key : List ℕ

-- id, a key as the target, and the key, with which a message of so many octets ends
abbrev pub SearchSpells : ℕ → ℕ → Order → Spelling Search
SearchSpells m n r p0 o0 s =
    Parts p0 o0 (λ a. LongSpells r p0 a s.id) (λ p1 o1.
    Parts p1 o1 (λ a. TargetSpells m r p1 a 0) (λ p2 o2.
    Parts p2 o2 (λ a. SequenceSpells r p2 a s.key) (λ p3 o3. EndSpells n p3 o3 tt)))

-- the first of these fields that is cut off or wrong, or octets that follow
abbrev pub SearchStops : ℕ → ℕ → Order → Stopping HeadErr
SearchStops m n r =
    StopsInOrder (LongSpells r) LongStops (λ id.
    StopsInOrder (TestedSpells (TargetSpells m r) (only 0)) (KeyStops m r) (λ t.
    StopsInOrder (SequenceSpells r) (SequenceStops r) (λ key. EndStops n)))

-- the fields of a search, read from a position
unfoldable pub read_search : ℕ → ℕ → Order → Reader HeadErr Search
read_search m n r p o = map_got (λ x. record { id = x.0; key = x.1.1.0 })
    (both (read_long r) (λ id. both (read_key m r) (λ t. both (read_sequence r) (λ key. read_end n))) p o)

-- ---- whatever asks

-- what a message asks of an object, the order of its octets, and its minor number: a request, a search, or a request whose
-- target is no key
pub data Call : Type 0 where
  request : Order → ℕ → Request → Call
  search_for : Order → ℕ → Search → Call
  addressing : Order → ℕ → Start → Call

-- a header and the fields of its type
abbrev pub CallSpells : ℕ → Spelling Call
CallSpells n p o (request r m q) = Parts p o (λ a. HeaderSpells Asks n p a (record { order = r; message_type = 0; minor = m }))
    (λ p1 o1. RequestSpells m n r p1 o1 q)
CallSpells n p o (search_for r m s) = Parts p o (λ a. HeaderSpells Asks n p a (record { order = r; message_type = 3; minor = m }))
    (λ p1 o1. SearchSpells m n r p1 o1 s)
CallSpells n p o (addressing r m s) = Parts p o (λ a. HeaderSpells Asks n p a (record { order = r; message_type = 0; minor = m }))
    (λ p1 o1. AddressSpells m r p1 o1 s)

-- the first field after a target of this kind that is cut off or wrong
abbrev pub AimedStops : ℕ → ℕ → Order → ℕ → Stopping HeadErr
AimedStops m n r zero p o k at = NamedStops m n r p o k at
AimedStops m n r (suc t) p o k at = ⊥

-- the first field after the header of this type that is cut off or wrong
abbrev pub AskedStops : ℕ → ℕ → Order → ℕ → Stopping HeadErr
AskedStops m n r zero p o k at =
    StopsInOrder (StartSpells m r) (StartStops m r) (λ s.
    StopsInOrder (TargetSpells m r) (TargetStops m r) (λ t. AimedStops m n r t)) p o k at
AskedStops m n r (suc type) p o k at = SearchStops m n r p o k at

-- a header that stops, or a field of its type
abbrev pub CallStops : ℕ → Stopping HeadErr
CallStops n = StopsInOrder (HeaderSpells Asks n) (HeaderStops Asks n) (λ h. AskedStops h.minor n h.order h.message_type)

-- a request, read after a target of this kind
abbrev pub read_aimed : ℕ → ℕ → Order → Start → ℕ → Reader HeadErr Call
read_aimed m n r s zero p o = map_got (λ x. request r m (request_of s x)) (read_named m n r p o)
read_aimed m n r s (suc t) p o = got (addressing r m s) p o

-- a request with a target of any kind, read from a position
unfoldable pub read_any : ℕ → ℕ → Order → Reader HeadErr Call
read_any m n r p o =
    map_got (λ x. x.1.1) (both (read_start m r) (λ s. both (read_target m r) (λ t. read_aimed m n r s t)) p o)

-- the fields of this type, read after the header
abbrev pub read_asked : ℕ → ℕ → Order → ℕ → Reader HeadErr Call
read_asked m n r zero p o = read_any m n r p o
read_asked m n r (suc type) p o = map_got (search_for r m) (read_search m n r p o)

-- a header and the fields of its type, read from a position
abbrev pub read_head_of_call : ℕ → Reader HeadErr Call
read_head_of_call n p o =
    map_got (λ x. x.1) (both (read_header Asks n) (λ h. read_asked h.minor n h.order h.message_type) p o)

-- ---- requests alone

-- a request, the order of its octets, and its minor number
pub record Ordered : Type 0 where
  pub order : Order
  pub minor : ℕ
  pub request : Request

-- a header and the fields of a request
abbrev pub OrderedSpells : ℕ → Spelling Ordered
OrderedSpells n p o x = Parts p o (λ a. HeaderSpells Requests n p a (record { order = x.order; message_type = 0; minor = x.minor }))
    (λ p1 o1. RequestSpells x.minor n x.order p1 o1 x.request)

-- a header that stops, or a field of a request
abbrev pub OrderedStops : ℕ → Stopping HeadErr
OrderedStops n = StopsInOrder (HeaderSpells Requests n) (HeaderStops Requests n) (λ h. RequestStops h.minor n h.order)

-- a header and the fields of a request, read from a position
abbrev pub read_head_of_request : ℕ → Reader HeadErr Ordered
read_head_of_request n p o = map_got (λ x. record { order = x.0.order; minor = x.0.minor; request = x.1 })
    (both (read_header Requests n) (λ h. read_request h.minor n h.order) p o)
