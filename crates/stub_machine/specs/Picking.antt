-- Which body a number has.
use Rattle.std.specs.Prelude.{◌≡◌, ℕ, ◌<◌, ℤ, List, [], length, Option, None, Some, slice_get}
use Rattle.mint.specs.Values.{Val}
use Rattle.wire_def.specs.declared.head.Head.{Head}
use Rattle.cast_stub.specs.declared.send.SendOp.{SendOp}
use Rattle.cast_stub.specs.Block.{cases_seen}
use Rattle.cast_stub.specs.Steps.{Calls, case_steps, code_steps}

-- a body by its place, or none of them: whatever calls do, a switch does on that number what the
-- body does, or what it does without bodies
abbrev pub PickedAt : List (ℤ × List SendOp) → ℤ → Option ℕ → Type 0
PickedAt cases n None = (c : Calls) (h : Head) (o : Option (List SendOp)) (w : Val)
    → case_steps c h (cases_seen cases o) n w ≡ case_steps c h (cases_seen [] o) n w
PickedAt cases n (Some i) = (i < length cases)
    × ((c : Calls) (h : Head) (o : Option (List SendOp)) (w : Val) (d : ℤ × List SendOp)
    → slice_get cases i ≡ Some d → case_steps c h (cases_seen cases o) n w ≡ code_steps c h d.1 w)
