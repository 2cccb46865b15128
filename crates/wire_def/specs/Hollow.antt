-- Types without octets.
use Rattle.std.specs.Prelude.{◌≡◌, ◌↔◌, ℕ, Bool, true, false, ◌&&◌, []}
use Rattle.mint.specs.Types.{Ty, void_type, group_type, Tys, no_fields, field}
use Rattle.mint.specs.Values.{Val}
use Rattle.mint.specs.Sound.{IsSound}
use Rattle.mint.specs.Typed.{IsWellTyped}
use Rattle.wire_def.specs.declared.encoding.Encoding.{Encoding}
use Rattle.wire_def.specs.Send.{send}

-- a type without octets
abbrev mutual
  pub is_hollow : Ty → Bool
  is_hollow void_type = true
  is_hollow (group_type ts) = are_hollow ts
  is_hollow _ = false

  -- the same of fields
  pub are_hollow : Tys → Bool
  are_hollow no_fields = true
  are_hollow (field t ts) = is_hollow t && are_hollow ts

-- nothing is sent for any value of a type without octets, and something for each value of any other
abbrev pub HollowIsEmpty : Encoding → Type 0
HollowIsEmpty e = (t : Ty) → IsSound t → (p : ℕ) (v : Val) → IsWellTyped t v → (is_hollow t ≡ true) ↔ (send e t p v ≡ [])
