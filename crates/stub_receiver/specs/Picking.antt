-- Which body a number has.
use Rattle.std.specs.Prelude.{◌≡◌, ℤ, List, Option, None, Some}
use Rattle.cast_stub.specs.declared.recv.RecvOp.{RecvOp}
use Rattle.cast_stub.specs.RecvBlock.{code_seen, cases_seen}
use Rattle.cast_stub.specs.Draft.{Draft}
use Rattle.cast_stub.specs.Fill.{Callees, fill, fill_case}
use Rattle.cast_stub.specs.Runs.{Place, Run, strays}

-- what a body does, or that there is none
abbrev pub picked : Callees → Option (List RecvOp) → Draft → Place → Run Draft
picked c None d s = strays
picked c (Some b) d s = fill c (code_seen b) d s

-- whatever calls do, a switch does on the number what the body does
abbrev pub Picks : List (ℤ × List RecvOp) → Option (List RecvOp) → ℤ → Option (List RecvOp) → Type 0
Picks cases other n body = (c : Callees) (d : Draft) (s : Place) → fill_case c (cases_seen cases other) n d s ≡ picked c body d s
