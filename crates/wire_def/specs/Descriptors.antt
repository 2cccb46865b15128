-- The short descriptors of Mach messages.
use Rattle.std.specs.Prelude.{ℕ, ◌+◌, ◌*◌, List, Option, None, Some, nat_lt, if◌then◌else◌, ◌&&◌}
use Rattle.kit_base.specs.Bytes.{le}

-- a short descriptor, where these fit: name, size and number, and the flag of data that are in the message
abbrev pub descriptor : ℕ → ℕ → ℕ → Option (List ℕ)
descriptor name size n = if nat_lt name 256 && (nat_lt size 256 && nat_lt n 4096)
    then Some (le 4 (name + size * 256 + n * 65536 + 268435456)) else None
