-- Parts that the heads of several formats are made of.
use Rattle.std.specs.Prelude.{◌≡◌, ℕ, ◌+◌, ◌<◌, List, length, take, drop, nat_lt, if◌then◌else◌}
use Rattle.wire_def.specs.declared.fault.HeadErr.{HeadErr}
use Rattle.wire_def.specs.declared.fault.HeadErr.TheVariants.{Short}
use Rattle.wire_def.specs.Grammar.{got, stop, Reader, Spelling, Stopping}

-- so many octets
abbrev pub BodySpells : ℕ → Spelling (List ℕ)
BodySpells n p o body = (o ≡ body) × (length body ≡ n)

-- fewer octets than so many
abbrev pub BodyStops : ℕ → Stopping HeadErr
BodyStops n p o k at = (length o < n) × (k ≡ Short) × (at ≡ p)

-- the first so many octets
unfoldable pub read_body : ℕ → Reader HeadErr (List ℕ)
read_body n p o = if nat_lt (length o) n then stop Short p else got (take n o) (p + n) (drop n o)
