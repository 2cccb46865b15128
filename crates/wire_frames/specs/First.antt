-- What stands first in a stream.
use Rattle.std.specs.Prelude.{◌≡◌, ℕ, zero, suc, ◌+◌, ◌%◌, ◌^◌, List, ◌++◌, length, take, drop, Bool, nat_lt, nat_le, if◌then◌else◌, Option, Some, None, Result, Ok, Err}
use Rattle.std.specs.Int.{w32, from_be_bytes}
use Rattle.kit_base.specs.Limits.{longest_message}
use Rattle.wire_def.specs.declared.encoding.Back.{Back}
use Rattle.wire_def.specs.declared.encoding.Back.TheVariants.{Xdr, Mach}
use Rattle.wire_frames.specs.declared.frames.FrameErr.{FrameErr}
use Rattle.wire_frames.specs.declared.frames.FrameErr.TheVariants.{Magic, Size, TooLong}
use Rattle.wire_frames.specs.Framed.{has_magic, giop_length, mach_length}

-- a message and how many octets its frame has, a fault, or the beginning of a frame
pub data First : Type 0 where
  whole : List ℕ → ℕ → First
  bad : FrameErr → First
  more : First

-- ---- records

-- the word of a fragment's header
abbrev pub word_in : List ℕ → ℕ
word_in s = from_be_bytes w32 (take 4 s)

-- the length of a fragment
abbrev pub size_in : List ℕ → ℕ
size_in s = word_in s % 2 ^ 31

-- whether a fragment is the last one of its record
abbrev pub is_last : List ℕ → Bool
is_last s = nat_le (2 ^ 31) (word_in s)

-- the octets of a fragment
abbrev pub octets_in : List ℕ → List ℕ
octets_in s = take (size_in s) (drop 4 s)

-- what follows a fragment
abbrev pub behind : List ℕ → List ℕ
behind s = drop (4 + size_in s) s

-- what stands first, after fragments that have these octets and take so many
abbrev pub after : List ℕ → ℕ → First → First
after octets used (whole m n) = whole (octets ++ m) (used + n)
after octets used (bad e) = bad e
after octets used more = more

-- the first record, where at most so many headers are read and the fragments before have so many octets
abbrev pub record_within : ℕ → ℕ → List ℕ → First
record_within zero sum s = more
record_within (suc k) sum s =
    if nat_lt (length s) 4 then more
    else if nat_lt longest_message (sum + size_in s) then bad TooLong
    else if nat_lt (length s) (4 + size_in s) then more
    else if is_last s then whole (octets_in s) (4 + size_in s)
    else after (octets_in s) (4 + size_in s) (record_within k (sum + size_in s) (behind s))

-- the first record, where the fragments before have so many octets
abbrev pub record_from : ℕ → List ℕ → First
record_from sum s = record_within (length s) sum s

-- ---- messages that say their own length

-- the first so many octets, unless they are too many or not all there
abbrev pub sized : ℕ → List ℕ → First
sized n s = if nat_lt longest_message n then bad TooLong else if nat_lt (length s) n then more else whole (take n s) n

-- the first GIOP message
unfoldable pub first_giop : List ℕ → First
first_giop s = if nat_lt (length s) 12 then more else if has_magic s then sized (giop_length s) s else bad Magic

-- the first Mach message
unfoldable pub first_mach : List ℕ → First
first_mach s = if nat_lt (length s) 8 then more else if nat_lt (mach_length s) 24 then bad Size else sized (mach_length s) s

-- ---- each back end's own

-- what stands first in a stream
abbrev pub first : Back → List ℕ → First
first Xdr s = record_from 0 s
first Mach s = first_mach s
first _ s = first_giop s

-- what `next` answers where there is memory
abbrev pub answered : First → Result (Option (List ℕ)) FrameErr
answered (whole m used) = Ok (Some m)
answered (bad e) = Err e
answered more = Ok None

-- what is kept after it
abbrev pub left : List ℕ → First → List ℕ
left s (whole m used) = drop used s
left s _ = s

-- where the first frame ends, or why there is none
abbrev pub end_of : First → Result (Option ℕ) FrameErr
end_of (whole m used) = Ok (Some used)
end_of (bad e) = Err e
end_of more = Ok None

-- a first message, with so many octets of frame
abbrev pub IsMessage : First → List ℕ → ℕ → Type 0
IsMessage x message used = x ≡ whole message used
