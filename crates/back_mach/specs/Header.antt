-- The header of a message: its first six words.
use Rattle.std.specs.Prelude.{◌≡◌, ℕ, ◌+◌, ◌^◌, List, [], ◌∷◌, Bool, ◌==◌, nat_lt}
use Rattle.wire_def.specs.declared.fault.HeadErr.{HeadErr}
use Rattle.wire_def.specs.declared.fault.HeadErr.TheVariants.{Size, Complex}
use Rattle.wire_def.specs.Grammar.{Reader, Spelling, Stopping, map_got, both, tested, StopsInOrder, TestedSpells, TestedStops}
use Rattle.back_mach.specs.declared.header.MachHeader.{MachHeader}
use Rattle.head_kit.specs.Words.{IsWord, WordStops}
use Rattle.back_mach.specs.Words.{words, WordSpells, read_word}

-- the octets of a header: the bits, the size, the remote port, the local port, the sequence number and the id
abbrev pub header_octets : MachHeader → List ℕ
header_octets h = words (h.bits ∷ h.size ∷ h.remote ∷ h.local ∷ h.sequence ∷ h.id ∷ [])

-- each number fits its word
pub record HasWords (h : MachHeader) : Type 0 where
  pub bits : IsWord h.bits
  pub size : IsWord h.size
  pub remote : IsWord h.remote
  pub local : IsWord h.local
  pub sequence : IsWord h.sequence
  pub id : IsWord h.id

-- six words, whatever they are
unfoldable pub SixSpell : Spelling MachHeader
SixSpell p o h = (o ≡ header_octets h) × HasWords h

-- bit 31 of the bits is 0, so that neither rights nor memory come with the message
abbrev pub is_simple : MachHeader → Bool
is_simple h = nat_lt h.bits (2 ^ 31)

-- the size is this number of octets
abbrev pub has_size : ℕ → MachHeader → Bool
has_size n h = h.size == n

-- six words without bit 31
abbrev pub SimpleSpells : Spelling MachHeader
SimpleSpells = TestedSpells SixSpell is_simple

-- the header of a message of so many octets
abbrev pub HeaderSpells : ℕ → Spelling MachHeader
HeaderSpells n = TestedSpells SimpleSpells (has_size n)

-- ---- where it stops

-- the first of six words that is cut off
unfoldable pub SixStop : Stopping HeadErr
SixStop =
    StopsInOrder WordSpells WordStops (λ bits.
    StopsInOrder WordSpells WordStops (λ size.
    StopsInOrder WordSpells WordStops (λ remote.
    StopsInOrder WordSpells WordStops (λ local.
    StopsInOrder WordSpells WordStops (λ sequence.
    WordStops)))))

-- fewer octets than a header has, or bit 31, at the bits
abbrev pub SimpleStops : Stopping HeadErr
SimpleStops = TestedStops SixSpell SixStop is_simple Complex (λ p. p)

-- that, or another size than that of the message, at the size
abbrev pub HeaderStops : ℕ → Stopping HeadErr
HeaderStops n = TestedStops SimpleSpells SimpleStops (has_size n) Size (λ p. p + 4)

-- ---- reading it

-- six words, in their order
abbrev pub Values : Type 0
Values = ℕ × (ℕ × (ℕ × (ℕ × (ℕ × ℕ))))

-- the header that has these words
abbrev pub header_in : Values → MachHeader
header_in x = record { bits = x.0; size = x.1.0; remote = x.1.1.0; local = x.1.1.1.0; sequence = x.1.1.1.1.0; id = x.1.1.1.1.1 }

-- six words, one after the other
unfoldable pub read_six : Reader HeadErr MachHeader
read_six p o = map_got header_in
    (both read_word (λ bits. both read_word (λ size. both read_word (λ remote.
    both read_word (λ local. both read_word (λ sequence. read_word))))) p o)

-- a header's words, if bit 31 is not among its bits
unfoldable pub read_simple : Reader HeadErr MachHeader
read_simple = tested read_six is_simple Complex (λ p. p)

-- the header of a message of so many octets
unfoldable pub read_header : ℕ → Reader HeadErr MachHeader
read_header n = tested read_simple (has_size n) Size (λ p. p + 4)
