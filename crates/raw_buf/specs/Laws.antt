-- What the calls of a buffer do together.
use Rattle.std.specs.Prelude.{◌≡◌, ◌+◌, ◌≤◌, ◌++◌, ℕ, List, length, take, drop}
use Rattle.kit_base.specs.Bytes.{written}
use Rattle.raw_buf.specs.Buf.{Buf, Ensures}

-- octets that were put into the space, and then ensured and advanced over, are done
abbrev pub PutsAreDone : Type 0
PutsAreDone = (front octets : List ℕ) (off n m : ℕ) (put ensured : Buf) → off + length octets ≤ length front
    → put.front ≡ written front off octets → Ensures n put ensured → off + length octets ≤ m
    → take (length octets) (drop (length put.done + off) (put.done ++ take m ensured.front)) ≡ octets
