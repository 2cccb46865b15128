-- Which octets of a stream are a message's frame.
use Rattle.std.specs.Prelude.{◌≡◌, ℕ, ◌+◌, ◌%◌, ◌^◌, ◌≤◌, List, ◌++◌, length, take, drop, slice_index, flat_map, Bool, true, false, ◌&&◌, ◌==◌, if◌then◌else◌, Option, Some, None}
use Rattle.std.specs.List.{concat}
use Rattle.std.specs.Int.{w32, from_be_bytes, from_le_bytes}
use Rattle.kit_base.specs.Bytes.{be}
use Rattle.wire_def.specs.declared.encoding.Back.{Back}
use Rattle.wire_def.specs.declared.encoding.Back.TheVariants.{Xdr, Mach}

-- ---- record marking (RFC 5531, section 11)

-- a fragment: a header whose bit 31 marks the last one and whose other bits are its length, and its octets
abbrev pub fragment : Bool → List ℕ → List ℕ
fragment last octets = be 4 (length octets + (if last then 2 ^ 31 else 0)) ++ octets

-- fragments that are not the last one
abbrev pub fragments : List (List ℕ) → List ℕ
fragments parts = flat_map (fragment false) parts

-- a record of a message: one or more fragments, whose octets joined are the message
abbrev pub IsRecord : List ℕ → List ℕ → Type 0
IsRecord message frame = (parts : List (List ℕ)) × (last : List ℕ)
    × (message ≡ concat parts ++ last) × (frame ≡ fragments parts ++ fragment true last)

-- ---- messages that say their own length

-- the letters GIOP (OMG CORBA, chapter GIOP, section on the message header)
abbrev pub has_magic : List ℕ → Bool
has_magic o = slice_index o 0 == 71 && slice_index o 1 == 73 && slice_index o 2 == 79 && slice_index o 3 == 80

-- the number of four octets: the least significant comes first where the bit of the order is 1
abbrev pub ordered : Bool → List ℕ → ℕ
ordered little octets = if little then from_le_bytes w32 octets else from_be_bytes w32 octets

-- the length of a GIOP message: 12 octets, and as many as its size says, in the order of bit 0 of octet 6
abbrev pub giop_length : List ℕ → ℕ
giop_length o = 12 + ordered (slice_index o 6 % 2 == 1) (take 4 (drop 8 o))

-- a GIOP message: its magic, and its own length
abbrev pub IsGiop : List ℕ → Type 0
IsGiop o = (12 ≤ length o) × (has_magic o ≡ true) × (length o ≡ giop_length o)

-- the length of a Mach message: its second word
abbrev pub mach_length : List ℕ → ℕ
mach_length o = from_le_bytes w32 (take 4 (drop 4 o))

-- a Mach message: at least a header, and its own length
abbrev pub IsMach : List ℕ → Type 0
IsMach o = (24 ≤ length o) × (length o ≡ mach_length o)

-- ---- each back end's own

-- these octets are the frame of this message
abbrev pub IsFramed : Back → List ℕ → List ℕ → Type 0
IsFramed Xdr message frame = IsRecord message frame
IsFramed Mach message frame = (message ≡ frame) × IsMach frame
IsFramed _ message frame = (message ≡ frame) × IsGiop frame

-- the octets before a message of so many octets: the header of its only fragment
abbrev pub head_of : Back → ℕ → Option (List ℕ)
head_of Xdr length = Some (be 4 (length + 2 ^ 31))
head_of _ length = None
