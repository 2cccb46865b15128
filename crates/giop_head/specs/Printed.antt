-- The octets of heads that are sent, of a version by its minor number, 0 or another: octets that align are 0, there are no
-- service contexts, and principals are empty.
use Rattle.std.specs.Prelude.{ℕ, zero, suc, ◌-◌, Bool, true, false, List, [], ◌∷◌, ◌++◌, length, replicate, Option, Some, None}
use Rattle.std.specs.Int.{w16, w32}
use Rattle.kit_base.specs.Bytes.{written}
use Rattle.wire_def.specs.declared.head.Order.{Order}
use Rattle.wire_def.specs.declared.head.Order.TheVariants.{Big, Little}
use Rattle.wire_def.specs.Scalars.{gap, number_octets}
use Rattle.wire_def.specs.declared.outcome.Refusal.{Refusal}
use Rattle.wire_def.specs.declared.outcome.Refusal.TheVariants.{SystemException, UserException}
use Rattle.giop_head.specs.Items.{laid, flag}
use Rattle.giop_head.specs.Call.{Request}

-- ---- fields after what was sent of a message

-- the octets of an unsigned long
abbrev pub long_octets : Order → ℕ → List ℕ
long_octets r n = number_octets (laid r) w32 n

-- zeros up to a multiple of 4, and an unsigned long
abbrev pub then_long : Order → ℕ → List ℕ → List ℕ
then_long r n o = o ++ replicate (gap (length o) 4) 0 ++ long_octets r n

-- the octets of an unsigned short
abbrev pub short_octets : Order → ℕ → List ℕ
short_octets r n = number_octets (laid r) w16 n

-- zeros up to a multiple of 2, and an unsigned short
abbrev pub then_short : Order → ℕ → List ℕ → List ℕ
then_short r n o = o ++ replicate (gap (length o) 2) 0 ++ short_octets r n

-- a sequence of octets
abbrev pub then_sequence : Order → List ℕ → List ℕ → List ℕ
then_sequence r s o = then_long r (length s) o ++ s

-- a string, with its 0
abbrev pub then_string : Order → List ℕ → List ℕ → List ℕ
then_string r s o = then_long r (suc (length s)) o ++ s ++ (0 ∷ [])

-- ---- the header

-- the octet of an order in the header
abbrev pub order_octet : Order → ℕ
order_octet Big = 0
order_octet Little = 1

-- the letters GIOP, the version, the order, the type, and a size that is not set yet
abbrev pub header_octets : ℕ → Order → ℕ → List ℕ
header_octets m r type = 71 ∷ 73 ∷ 79 ∷ 80 ∷ 1 ∷ m ∷ order_octet r ∷ type ∷ 0 ∷ 0 ∷ 0 ∷ 0 ∷ []

-- a message in which the size is set: the number of octets after the header
abbrev pub with_size : Order → List ℕ → List ℕ
with_size r o = written o 8 (long_octets r (length o - 12))

-- ---- fields that versions have in other places

-- no service contexts, before all other fields in version 1.0
abbrev pub then_first : ℕ → Order → List ℕ → List ℕ
then_first zero r o = then_long r 0 o
then_first (suc m) r o = o

-- no service contexts, after the status in version 1.2; the 24 octets that a reply has then lead up to its body
abbrev pub then_last : ℕ → Order → List ℕ → List ℕ
then_last zero r o = o
then_last (suc m) r o = then_long r 0 o

-- response flags: a reply with what comes of the call, or none
abbrev pub response_flags : Bool → ℕ
response_flags true = 3
response_flags false = 0

-- whether a reply is wanted: a boolean in version 1.0, response flags and three reserved octets in version 1.2
abbrev pub then_wants : ℕ → Bool → List ℕ → List ℕ
then_wants zero b o = o ++ (flag b ∷ [])
then_wants (suc m) b o = o ++ (response_flags b ∷ 0 ∷ 0 ∷ 0 ∷ [])

-- a key as the target, in version 1.2
abbrev pub then_target : ℕ → Order → List ℕ → List ℕ
then_target zero r o = o
then_target (suc m) r o = then_short r 0 o

-- an empty principal in version 1.0, no service contexts in version 1.2
abbrev pub then_close : ℕ → Order → List ℕ → List ℕ
then_close zero r o = then_sequence r [] o
then_close (suc m) r o = then_long r 0 o

-- in version 1.2 zeros up to a multiple of 8, where octets of a body follow
abbrev pub then_gap : ℕ → Bool → List ℕ → List ℕ
then_gap (suc m) true o = o ++ replicate (gap (length o) 8) 0
then_gap m body o = o

-- ---- the heads of requests and replies, before the size is set

-- what comes before a key in a request
abbrev pub begun_octets : ℕ → Order → ℕ → Bool → List ℕ
begun_octets m r id wants = then_target m r (then_wants m wants (then_long r id (then_first m r (header_octets m r 0))))

-- the id, whether a reply is wanted, key and name, and what stands before, between and after them in a version
unfoldable pub request_octets : ℕ → Bool → Order → Request → List ℕ
request_octets m body r q =
    then_gap m body (then_close m r (then_string r q.name (then_sequence r q.key (begun_octets m r q.id q.wants))))

-- the id and the status
abbrev pub status_octets : ℕ → Order → ℕ → ℕ → List ℕ
status_octets m r id status = then_last m r (then_long r status (then_long r id (then_first m r (header_octets m r 1))))

-- the head of an answer
abbrev pub answer_octets : ℕ → Order → ℕ → List ℕ
answer_octets m r id = status_octets m r id 0

-- a user exception, up to its members
abbrev pub user_octets : ℕ → Order → ℕ → List ℕ → List ℕ
user_octets m r id name = then_string r name (status_octets m r id 1)

-- a system exception
abbrev pub system_octets : ℕ → Order → ℕ → List ℕ → ℕ → ℕ → List ℕ
system_octets m r id name minor completion = then_long r completion (then_long r minor (then_string r name (status_octets m r id 2)))

-- ---- refusals

-- the reply that refuses a request: of the refusals those that are exceptions
abbrev pub refusal_octets : ℕ → Order → ℕ → Refusal → Option (List ℕ)
refusal_octets m r id (SystemException name minor completion) = Some (with_size r (system_octets m r id name minor completion))
refusal_octets m r id (UserException name) = Some (with_size r (user_octets m r id name))
refusal_octets m r id _ = None

-- the reply to a request whose target is no key, of version 1.2 as such requests are: status 5, which asks for a target of the
-- kind that the body says, a short 0
abbrev pub addressing_octets : Order → ℕ → List ℕ
addressing_octets r id = with_size r (then_short r 0 (status_octets 2 r id 5))

-- a refusal that a request over this format may have
abbrev pub IsOwn : Refusal → Type 0
IsOwn (SystemException name minor completion) = Unit {0}
IsOwn (UserException name) = Unit {0}
IsOwn _ = ⊥
