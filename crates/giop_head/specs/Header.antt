-- The first 12 octets of a message (OMG CORBA, chapter GIOP, section on the message header).
use Rattle.std.specs.Prelude.{◌≡◌, ℕ, zero, suc, ◌-◌, List, length, take, drop, Bool, ◌&&◌, ◌||◌, nat_le, ◌==◌, IsTrue, if◌then◌else◌, Result, Ok, Err, slice_index}
use Rattle.std.specs.Int.{w32}
use Rattle.wire_def.specs.declared.fault.HeadErr.{HeadErr}
use Rattle.wire_def.specs.declared.fault.HeadErr.TheVariants.{Magic, Version, Type_, Size}
use Rattle.wire_def.specs.declared.fault.HeadErr.TheVariants as fault
use Rattle.wire_def.specs.declared.head.Order.{Order}
use Rattle.wire_def.specs.declared.head.Order.TheVariants.{Big, Little}
use Rattle.wire_def.specs.Grammar.{got, stop, Reader, Spelling, Stopping, map_got, both, StopsInOrder}
use Rattle.wire_def.specs.HeadItems.{BodySpells, BodyStops, read_body}
use Rattle.wire_def.specs.Scalars.{octets_number}
use Rattle.giop_head.specs.declared.header.Heading.{Heading}
use Rattle.giop_head.specs.declared.header.HeadKind.{HeadKind}
use Rattle.giop_head.specs.declared.header.HeadKind.TheVariants.{Asks, Requests, Replies}
use Rattle.giop_head.specs.Items.{laid}

-- the letters GIOP
abbrev pub has_magic : List ℕ → Bool
has_magic o = slice_index o 0 == 71 && slice_index o 1 == 73 && slice_index o 2 == 79 && slice_index o 3 == 80

-- the minor numbers of the versions that are read and sent, 1.0 and 1.2
abbrev pub has_minor : ℕ → Bool
has_minor m = m == 0 || m == 2

-- such a minor number
abbrev pub IsMinor : ℕ → Type 0
IsMinor m = IsTrue (has_minor m)

-- version 1.0 or 1.2
abbrev pub has_version : List ℕ → Bool
has_version o = slice_index o 4 == 1 && has_minor (slice_index o 5)

-- an order: 0 is big, 1 little
abbrev pub has_order : List ℕ → Bool
has_order o = nat_le (slice_index o 6) 1

-- the order of an octet: 0 is big, any other little
abbrev pub order_of : ℕ → Order
order_of zero = Big
order_of (suc n) = Little

-- the types of messages: 0 is a Request, 3 a LocateRequest, 1 a Reply
abbrev pub expected : HeadKind → ℕ → Bool
expected Asks n = n == 0 || n == 3
expected Requests n = n == 0
expected Replies n = n == 1

-- the number of octets after the header, in the message's order
abbrev pub size_in : List ℕ → ℕ
size_in o = octets_number (laid (order_of (slice_index o 6))) w32 (take 4 (drop 8 o))

-- what a header says of order, type and version
abbrev pub header_of : List ℕ → Heading
header_of o = record { order = order_of (slice_index o 6); message_type = slice_index o 7; minor = slice_index o 5 }

-- what the header of a message of so many octets says, or the first of its fields that is wrong
unfoldable pub judged : HeadKind → ℕ → List ℕ → Result Heading HeadErr
judged w n o =
    if has_magic o then
    (if has_version o then
    (if has_order o then
    (if expected w (slice_index o 7) then
    (if size_in o == n - 12 then Ok (header_of o)
    else Err Size)
    else Err Type_)
    else Err fault.Order)
    else Err Version)
    else Err Magic

-- 12 octets whose fields are right
abbrev pub HeaderSpells : HeadKind → ℕ → Spelling Heading
HeaderSpells w n p o h = (length o ≡ 12) × (judged w n o ≡ Ok h)

-- fewer than 12 octets, or a field that is wrong
abbrev pub HeaderStops : HeadKind → ℕ → Stopping HeadErr
HeaderStops w n = StopsInOrder (BodySpells 12) (BodyStops 12) (λ o p rest k at. (judged w n o ≡ Err k) × (at ≡ p))

-- what was decided already
abbrev pub given : Result Heading HeadErr → Reader HeadErr Heading
given (Ok h) p o = got h p o
given (Err k) p o = stop k p

-- the header of a message of so many octets, read from a position
unfoldable pub read_header : HeadKind → ℕ → Reader HeadErr Heading
read_header w n p o = map_got (λ x. x.1) (both (read_body 12) (λ x. given (judged w n x)) p o)
