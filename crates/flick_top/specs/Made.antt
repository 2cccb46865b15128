-- The engine that is left after a command.
use Rattle.std.specs.Prelude.{◌≡◌, ℕ, List, [], Option, Some, None, Ok, IsSomeAnd}
use Rattle.flick_engine.specs.declared.wire.Wire.{Wire}
use Rattle.flick_engine.specs.Backs.{back_in}
use Rattle.aoi.specs.Plain.{PlainUnit}
use Rattle.pres.specs.Faults.{bind_fault}
use Rattle.stub_codes.specs.declared.stub.Stub.{Stub}
use Rattle.stub_codes.specs.Stubs.{Coded, IsCoded}
use Rattle.flick_top.specs.declared.command.Command.{Command}
use Rattle.flick_top.specs.declared.command.Command.TheVariants.{Over, Bridge}
use Rattle.flick_top.specs.declared.command.Named.{Named}
use Rattle.flick_top.specs.Dispatch.{Files}
use Rattle.flick_top.specs.Command.{word_at}
use Rattle.flick_top.specs.File.{FileSays, IsOf}

-- the codes of the operations of an engine, if there is one
abbrev pub codes_of : Option Coded → List Stub
codes_of None = []
codes_of (Some e) = e.stubs

-- an engine of a unit whose messages have a format, each of whose codes is that of its operation
abbrev pub IsEngineOver : PlainUnit → Wire → Coded → Type 0
IsEngineOver u w e = IsOf u w e × IsCoded e

-- where the file that words name is bound, this is an engine of its unit
abbrev pub IsEngineOf : Option Coded → Named → List (List ℕ) → Files → Type 0
IsEngineOf made n words files =
    (u : PlainUnit) → FileSays n.front (files (word_at words n.file)) (Ok u) → bind_fault u (back_in n.wire) ≡ None
    → IsSomeAnd made (IsEngineOver u n.wire)

-- where a command over a back end has a file that is bound, this is an engine of the file's unit: under `bridge` that of the messages
-- that are read
abbrev pub LeavesEngine : Option Coded → Option Command → List (List ℕ) → Files → Type 0
LeavesEngine made (Some (Over action n)) words files = IsEngineOf made n words files
LeavesEngine made (Some (Bridge n to)) words files = IsEngineOf made n words files
LeavesEngine made _ words files = Unit {0}
