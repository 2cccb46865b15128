-- What is counted of messages.
use Rattle.std.specs.Prelude.{◌≡◌, ℕ, zero, suc, ◌+◌, ◌*◌, ◌%◌, ◌^◌, ◌<◌, ◌≤◌, nat_lt, Bool, true, false, if◌then◌else◌, List, [], ◌∷◌, ◌++◌, length, codes}
use Rattle.kit_base.specs.Bytes.{be}
use Rattle.kit_base.specs.Limits.{longest_message}
use Rattle.hex.specs.Hex.{encode_lower}
use Rattle.flick_texts.specs.declared.sums.Sums.{Sums}
use Rattle.flick_texts.specs.TypeText.{numbered}

-- so many messages, from message i on
abbrev pub messages_from : (ℕ → List ℕ) → ℕ → ℕ → List (List ℕ)
messages_from message_of i zero = []
messages_from message_of i (suc n) = message_of i ∷ messages_from message_of (suc i) n

-- a message above the limit
abbrev pub is_long : List ℕ → Bool
is_long m = nat_lt longest_message (length m)

-- how many messages are above the limit
abbrev pub count_long : List (List ℕ) → ℕ
count_long [] = 0
count_long (m ∷ ms) = (if is_long m then 1 else 0) + count_long ms

-- the octets of the others, in order
abbrev pub octets_of : List (List ℕ) → List ℕ
octets_of [] = []
octets_of (m ∷ ms) = (if is_long m then [] else m) ++ octets_of ms

-- a fold after one octet more
unfoldable pub folded_with : ℕ → ℕ → ℕ
folded_with f o = (f * 31 + o) % 2 ^ 32

-- a fold after octets
abbrev pub folded : ℕ → List ℕ → ℕ
folded f [] = f
folded f (o ∷ os) = folded (folded_with f o) os

-- the line of these counts, the fold in eight hexadecimal digits
abbrev pub counts_line : ℕ → ℕ → ℕ → ℕ → List ℕ
counts_line all long octets fold =
    numbered (codes "made ") all (numbered (codes " long ") long (numbered (codes " octets ") octets
    (codes " fold " ++ (encode_lower (be 4 fold) ++ codes "\n"))))

-- the line of what is counted of messages
abbrev pub made_line : List (List ℕ) → List ℕ
made_line ms = counts_line (length ms) (count_long ms) (length (octets_of ms)) (folded 0 (octets_of ms))

-- ---- what is counted on the way

-- a message that is there where it is within the limit; else it is above it, and nothing is there
abbrev pub IsMade : Bool → List ℕ → List ℕ → Type 0
IsMade true m done = (done ≡ m) × (length m ≤ longest_message)
IsMade false m done = (done ≡ []) × (longest_message < length m)

-- sums of messages, and the messages that are left, make up what is counted of all
pub record Counts (s : Sums) (left all : List (List ℕ)) : Type 0 where
  pub long : s.long + count_long left ≡ count_long all
  pub octets : s.octets + length (octets_of left) ≡ length (octets_of all)
  pub fold : folded s.fold (octets_of left) ≡ folded 0 (octets_of all)

-- one message more is counted
pub record Counted (m : List ℕ) (old new : Sums) : Type 0 where
  pub long : new.long ≡ old.long + (if is_long m then 1 else 0)
  pub octets : new.octets ≡ old.octets + length (octets_of (m ∷ []))
  pub fold : new.fold ≡ folded old.fold (octets_of (m ∷ []))
