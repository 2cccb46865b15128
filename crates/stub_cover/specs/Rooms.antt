-- Rooms: how many octets are ensured, for each residue of the position by 8.
use Rattle.std.specs.Prelude.{ℕ, zero, suc, ◌+◌, ◌-◌, ◌%◌, min, max, Bool, true, ◌&&◌, Option, Some, None, is_some, option_map, nat_le, nat_eq, if◌then◌else◌}
use Rattle.wire_def.specs.Scalars.{gap}
use Rattle.cast_stub.specs.Parts.{on_some}
use Rattle.stub_flat.specs.Residues.{Residues}

-- a room for each residue to which a way leads
abbrev pub Rooms : Type 0
Rooms = ℕ → Option ℕ

-- the lesser room, where none is no way
abbrev pub lesser : Option ℕ → Option ℕ → Option ℕ
lesser None b = b
lesser (Some x) None = Some x
lesser (Some x) (Some y) = Some (min x y)

-- the least room of the ways to each residue
abbrev pub least : Rooms → Rooms → Rooms
least R S r = lesser (R r) (S r)

-- no way to any residue
abbrev pub no_rooms : Rooms
no_rooms r = None

-- one residue with a room
abbrev pub only_room : ℕ → ℕ → Rooms
only_room n x r = if nat_eq r n then Some x else None

-- the same room at each residue of a set
abbrev pub on : Residues → ℕ → Rooms
on S x r = if S r then Some x else None

-- the residues to which a way leads
abbrev pub reached : Rooms → Residues
reached R r = is_some (R r)

-- each room at least so great
abbrev pub raised : ℕ → Rooms → Rooms
raised n R r = option_map (λ x. max x n) (R r)

-- each room so great
abbrev pub set : ℕ → Rooms → Rooms
set n R r = option_map (λ x. n) (R r)

-- whether a room, if there is one, has so many octets
abbrev pub has : ℕ → Option ℕ → Bool
has n None = true
has n (Some x) = nat_le n x

-- whether the first so many rooms have so many octets
abbrev pub have_first : ℕ → ℕ → Rooms → Bool
have_first zero n R = true
have_first (suc k) n R = has n (R k) && have_first k n R

-- the rooms behind so many octets, which each room must have
abbrev pub took : ℕ → Rooms → Option Rooms
took n R = if have_first 8 n R then Some (λ r. option_map (λ x. x - n) (R ((r + 8 - n % 8) % 8))) else None

-- the rooms behind zeros up to a multiple, from one residue and its room
abbrev pub padded_one : ℕ → ℕ → Option ℕ → Option Rooms
padded_one k a None = Some no_rooms
padded_one k a (Some x) = if nat_le (gap k a) x then Some (only_room ((k + gap k a) % 8) (x - gap k a)) else None

-- the rooms behind zeros up to a multiple, from the first so many residues
abbrev pub padded_first : ℕ → ℕ → Rooms → Option Rooms
padded_first zero a R = Some no_rooms
padded_first (suc k) a R = on_some (padded_one k a (R k)) (λ S. option_map (least S) (padded_first k a R))

-- the rooms behind zeros up to a multiple
abbrev pub padded : ℕ → Rooms → Option Rooms
padded a R = padded_first 8 a R

-- the least of the first so many rooms, if there is one
abbrev pub least_first : ℕ → Rooms → Option ℕ
least_first zero R = None
least_first (suc k) R = lesser (R k) (least_first k R)
