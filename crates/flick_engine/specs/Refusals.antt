-- What differs from one back end to another in serving: when a reply is wanted, why calls are refused, and what a wrong head is answered.
use Rattle.std.specs.Prelude.{◌≡◌, ◌⊎◌, ℕ, pos, neg_ℤ, Bool, true, false, not, ◌&&◌, ◌||◌, ◌==◌, nat_lt, min, max, List, [], ◌∷◌, length, map, filter, slice_index, Option, None, Some, if◌then◌else◌, codes}
use Rattle.std.specs.List.{list_any}
use Rattle.std.specs.Str.{bytes_eq}
use Rattle.demux.specs.Names.{first_word}
use Rattle.wire_def.specs.declared.encoding.Back.{Back}
use Rattle.wire_def.specs.declared.encoding.Back.TheVariants as back
use Rattle.wire_def.specs.declared.fault.HeadErr.{HeadErr}
use Rattle.wire_def.specs.declared.fault.HeadErr.TheVariants.{Type_, Version}
use Rattle.wire_def.specs.declared.head.Head.{Head}
use Rattle.wire_def.specs.declared.head.Order.{Order}
use Rattle.wire_def.specs.declared.head.Order.TheVariants.{Big, Little}
use Rattle.wire_def.specs.declared.outcome.Refusal.{Refusal}
use Rattle.wire_def.specs.declared.outcome.Refusal.TheVariants.{ProgUnavail, ProgMismatch, ProcUnavail, GarbageArgs, SystemErr, RpcMismatch, SystemException, RetCode}
use Rattle.aoi.specs.Plain.{PlainInterface}
use Rattle.pres.specs.Bindings.{Binding}
use Rattle.back_xdr.specs.declared.call.OncCall.{OncCall}
use Rattle.back_xdr.specs.Refusals as xdr
use Rattle.back_xdr.specs.Reported as xdr_reported
use Rattle.giop_head.specs.declared.header.HeadKind.TheVariants.{Asks}
use Rattle.giop_head.specs.Heads.{StopsWith}
use Rattle.giop_head.specs.Items.{flag}
use Rattle.giop_head.specs.Printed as giop
use Rattle.giop_head.specs.Reported.{sought, addressed, BeginsCall}
use Rattle.back_cdr.specs.Targets.{order_of}
use Rattle.back_mach.specs.declared.call.MachCall.{MachCall}
use Rattle.back_mach.specs.Refusals as mach
use Rattle.back_mach.specs.Reported as mach_reported

-- ---- replies

-- a call wants a reply: over GIOP its head says so, over Mach it names a port for it, over ONC each does
abbrev pub wants_reply : Back → Head → Bool
wants_reply back.Mach h = not (h.local == 0)
wants_reply _ h = h.wants

-- the head of the reply to a call: it goes to the port that the call names for it, in the order of the back end
abbrev pub reply_head : Back → Head → Head
reply_head k h = record { id = h.id; remote = h.local; local = 0; wants = true; order = order_of k }

-- ---- why a call is refused

-- a system exception where nothing was done of what the call asks for (COMPLETED_NO)
abbrev pub undone : List ℕ → Refusal
undone id = SystemException id 0 1

-- a system exception where all of it was done (COMPLETED_YES)
abbrev pub done : List ℕ → Refusal
done id = SystemException id 0 0

-- the object does not exist
abbrev pub no_object : Refusal
no_object = undone (codes "IDL:omg.org/CORBA/OBJECT_NOT_EXIST:1.0")

-- it has no such operation
abbrev pub bad_operation : Refusal
bad_operation = undone (codes "IDL:omg.org/CORBA/BAD_OPERATION:1.0")

-- values that could not be read, or sent
abbrev pub marshal_id : List ℕ
marshal_id = codes "IDL:omg.org/CORBA/MARSHAL:1.0"

-- no routine has the id of the request (MIG_BAD_ID)
abbrev pub bad_id : Refusal
bad_id = RetCode (neg_ℤ (pos 303))

-- the parameters are of other types (MIG_BAD_ARGUMENTS)
abbrev pub bad_arguments : Refusal
bad_arguments = RetCode (neg_ℤ (pos 304))

-- the versions of a program
abbrev pub versions : ℕ → List PlainInterface → List ℕ
versions p is = map (λ (i : PlainInterface). i.version) (filter (λ (i : PlainInterface). i.program == p) is)

-- a range of numbers, their least and their greatest, with one number more
abbrev pub widened : ℕ → Option (ℕ × ℕ) → ℕ × ℕ
widened v None = (v, v)
widened v (Some (low, high)) = (min low v, max high v)

-- the least and the greatest of numbers
abbrev pub range : List ℕ → Option (ℕ × ℕ)
range [] = None
range (v ∷ vs) = Some (widened v (range vs))

-- the version that is called is not there; those that are there have this range
abbrev pub no_version : Option (ℕ × ℕ) → Refusal
no_version None = ProgUnavail
no_version (Some (low, high)) = ProgMismatch low high

-- why a message that names no interface is refused
abbrev pub NoInterfaceOver : Back → Binding → List ℕ → Refusal → Type 0
NoInterfaceOver back.Xdr b o why =
    (c : OncCall) × xdr_reported.BeginsCall o c × (why ≡ no_version (range (versions c.program b.unit.interfaces)))
NoInterfaceOver back.CdrBig b o why = why ≡ no_object
NoInterfaceOver back.CdrLittle b o why = why ≡ no_object
NoInterfaceOver back.Mach b o why = why ≡ bad_id

-- why a call of no operation of its interface is refused
abbrev pub no_operation : Back → Refusal
no_operation back.Xdr = ProcUnavail
no_operation back.CdrBig = bad_operation
no_operation back.CdrLittle = bad_operation
no_operation back.Mach = bad_id

-- why a call is refused whose body is not one of parameters
abbrev pub bad_body : Back → Refusal
bad_body back.Xdr = GarbageArgs
bad_body back.CdrBig = undone marshal_id
bad_body back.CdrLittle = undone marshal_id
bad_body back.Mach = bad_arguments

-- why a call is refused whose reply would be too long
abbrev pub long_reply : Back → Refusal
long_reply back.Xdr = SystemErr
long_reply back.CdrBig = done marshal_id
long_reply back.CdrLittle = done marshal_id
long_reply back.Mach = bad_arguments

-- ---- the replies that refuse a call

-- a refusal that a call over this back end may have
abbrev pub IsOwnOver : Back → Refusal → Type 0
IsOwnOver back.Xdr why = xdr.IsOwn why
IsOwnOver back.CdrBig why = giop.IsOwn why
IsOwnOver back.CdrLittle why = giop.IsOwn why
IsOwnOver back.Mach why = mach.IsOwn why

-- the reply with this head that refuses the call of a message, in a version; over Mach its id is from that of the call
abbrev pub RefusesOver : Back → ℕ → List ℕ → Head → Refusal → Option (List ℕ) → Type 0
RefusesOver back.Xdr m o head why x = xdr.refusal_octets head.id why ≡ x
RefusesOver back.CdrBig m o head why x = giop.refusal_octets m head.order head.id why ≡ x
RefusesOver back.CdrLittle m o head why x = giop.refusal_octets m head.order head.id why ≡ x
RefusesOver back.Mach m o head why x = (c : MachCall) × mach_reported.BeginsCall o c × (mach.refusal_octets c.id head.remote why ≡ x)

-- ---- what a message is answered whose head is not one of a call

-- another version of the protocol
abbrev pub is_version : HeadErr → Bool
is_version Version = true
is_version _ = false

-- over ONC it is refused; nothing else is answered
abbrev pub onc_answer : List ℕ → HeadErr → Option (List ℕ)
onc_answer o e = if is_version e then xdr.refusal_octets (first_word o) (RpcMismatch 2 2) else None

-- a message of another type
abbrev pub is_type : HeadErr → Bool
is_type Type_ = true
is_type _ = false

-- the types of GIOP messages that ask for nothing: Reply, CancelRequest, LocateReply, CloseConnection, MessageError
abbrev pub asks_nothing : ℕ → Bool
asks_nothing n = n == 1 || n == 2 || n == 4 || n == 5 || n == 6

-- the octet of a message's type is one of these
abbrev pub has_such_type : List ℕ → Bool
has_such_type o = nat_lt 7 (length o) && asks_nothing (slice_index o 7)

-- over GIOP such messages are passed over
abbrev pub is_passed_over : List ℕ → HeadErr → Bool
is_passed_over o e = is_type e && has_such_type o

-- any other message is answered by a MessageError in a version, which is a header alone
abbrev pub giop_answer : ℕ → Order → List ℕ → HeadErr → Option (List ℕ)
giop_answer m r o e = if is_passed_over o e then None else Some (giop.header_octets m r 6)

-- an object has the key: there is an interface of that name
abbrev pub has_object : Binding → List ℕ → Bool
has_object b key = list_any (λ (i : PlainInterface). bytes_eq i.name key) b.unit.interfaces

-- a LocateReply in a version: the id of the search, and whether the object is here
abbrev pub locate_octets : ℕ → Order → ℕ → Bool → List ℕ
locate_octets m r id here = giop.with_size r (giop.then_long r (flag here) (giop.then_long r id (giop.header_octets m r 4)))

-- a search for an object is answered by a LocateReply, in the version of the search
abbrev pub AnswersSearch : Order → Binding → List ℕ → Option (List ℕ) → Type 0
AnswersSearch r b o x = (id : ℕ) × (key : List ℕ) × (m : ℕ) × BeginsCall o (sought id key m)
    × (x ≡ Some (locate_octets m r id (has_object b key)))

-- a request whose object is named otherwise than by a key is asked to name it so, where it wants a reply
abbrev pub addressing_answer : Order → Head → Option (List ℕ)
addressing_answer r h = if h.wants then Some (giop.addressing_octets r h.id) else None

-- such a request
abbrev pub AnswersAddressing : Order → List ℕ → Option (List ℕ) → Type 0
AnswersAddressing r o x = (h : Head) × BeginsCall o (addressed h) × (x ≡ addressing_answer r h)

-- a message over GIOP that is not a request by a key: a search, a request by another name, or a fault, which is answered in this version
abbrev pub AnswersOther : ℕ → Order → Binding → List ℕ → Option (List ℕ) → Type 0
AnswersOther m r b o x =
    AnswersSearch r b o x ⊎ (AnswersAddressing r o x ⊎ ((e : HeadErr) × StopsWith Asks o e × (x ≡ giop_answer m r o e)))

-- a message whose head stops with this fault, where faults are answered in this version
abbrev pub AnswersFault : Back → ℕ → Binding → List ℕ → HeadErr → Option (List ℕ) → Type 0
AnswersFault back.Xdr m b o e x = x ≡ onc_answer o e
AnswersFault back.CdrBig m b o e x = AnswersOther m Big b o x
AnswersFault back.CdrLittle m b o e x = AnswersOther m Little b o x
AnswersFault back.Mach m b o e x = x ≡ None
