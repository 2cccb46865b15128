-- What the pass promises of the code that it makes from a given one.
use Rattle.std.specs.Prelude.{◌≡◌, ℕ, ◌≤◌, [], None, IfSome}
use Rattle.mint.specs.Types.{Ty}
use Rattle.mint.specs.Typed.{IsOf}
use Rattle.mint.specs.Values.{Val}
use Rattle.wire_def.specs.declared.encoding.Encoding.{Encoding}
use Rattle.wire_def.specs.declared.head.Head.{Head}
use Rattle.cast_stub.specs.declared.send.SendCode.{SendCode}
use Rattle.cast_stub.specs.Block.{code_seen}
use Rattle.cast_stub.specs.Framed.{IsFramed}
use Rattle.cast_stub.specs.Meaning.{cost}
use Rattle.hoist.specs.Regions.{regions, roles}
use Rattle.hoist.specs.Rows.{RowsEnsured}
use Rattle.hoist.specs.SpanSizes.{sizes}

-- a lead of chunks, code that goes through the type, at most one patch, and no codes to call
abbrev pub IsGiven : Ty → SendCode → Type 0
IsGiven t code = (code.subs ≡ []) × (n : ℕ) × IsFramed n t (code_seen code.ops)

-- each big row is ensured by the length of its list
abbrev pub EnsuresRows : Encoding → Ty → SendCode → Type 0
EnsuresRows e t code = RowsEnsured (roles (sizes e)) t None (code_seen code.ops)

-- at most one look at the buffer for each region, however the first chunks are taken for a lead
abbrev pub IsSparing : Encoding → Ty → SendCode → SendCode → Type 0
IsSparing e t given code = (n : ℕ) (h : Head) (v : Val) → IsFramed n t (code_seen given.ops) → IsOf t v
    → IfSome (cost code h v) (λ c. c.checks ≤ regions (sizes e) n t v)
