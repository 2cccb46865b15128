-- Sets of residues of a position by 8.
use Rattle.std.specs.Prelude.{ℕ, zero, suc, ◌+◌, ◌-◌, ◌%◌, Bool, true, false, ◌&&◌, ◌||◌, not, nat_eq, if◌then◌else◌}
use Rattle.wire_def.specs.Scalars.{gap}

-- which of the residues 0 to 7 are in it
abbrev pub Residues : Type 0
Residues = ℕ → Bool

abbrev pub only : ℕ → Residues
only n r = nat_eq r n

abbrev pub every : Residues
every r = true

abbrev pub none : Residues
none r = false

-- those of one or the other
abbrev pub sum : Residues → Residues → Residues
sum S T r = S r || T r

-- those to which octets lead
abbrev pub moved : ℕ → Residues → Residues
moved n S r = S ((r + 8 - n % 8) % 8)

-- whether one of the first so many residues is in a set, and an align leads from it to r
abbrev pub comes : ℕ → ℕ → Residues → ℕ → Bool
comes zero a S r = false
comes (suc k) a S r = (S k && nat_eq ((k + gap k a) % 8) r) || comes k a S r

-- those to which an align leads
abbrev pub aligned : ℕ → Residues → Residues
aligned a S r = comes 8 a S r

-- whether the first so many residues that are in one set are in another
abbrev pub within_first : ℕ → Residues → Residues → Bool
within_first zero S T = true
within_first (suc k) S T = (not (S k) || T k) && within_first k S T

abbrev pub is_within : Residues → Residues → Bool
is_within S T = within_first 8 S T

-- how many of the first so many residues are in it
abbrev pub size_first : ℕ → Residues → ℕ
size_first zero S = 0
size_first (suc k) S = (if S k then 1 else 0) + size_first k S

-- a set, with what a way leads to from it, so many times at most
abbrev pub closing : ℕ → (Residues → Residues) → Residues → Residues
closing zero f S = S
closing (suc n) f S = if is_within (f S) S then S else closing n f (sum S (f S))

-- the least set with S that a way does not leave
abbrev pub closed : (Residues → Residues) → Residues → Residues
closed f S = closing (8 - size_first 8 S) f S

-- the only residue of a set, if there is one
abbrev pub single_first : ℕ → Residues → ℕ
single_first zero S = 0
single_first (suc k) S = if S k then k else single_first k S
