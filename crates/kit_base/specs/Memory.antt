-- Sources, sinks and shelves in memory, and what a shelf reports of a file.
use Rattle.std.specs.Prelude.{◌≡◌, ℕ, ◌-◌, List, [], ◌∷◌, ◌++◌, take, drop, length, Option, Some, None, Bool, Result, Ok, Err, is_err, if◌then◌else◌}
use Rattle.std.specs.Str.{bytes_eq}
use Rattle.kit_base.specs.Causes.{raised}
use Rattle.kit_base.specs.Decimal.{is_listed}
use Rattle.kit_base.specs.declared.errors.Failed.{Failed}

-- octets that are the prefix of the file at a path, where files are reported
abbrev pub HasFile : Option (List ℕ → Option (List ℕ)) → List ℕ → ℕ → List ℕ → Type 0
HasFile None path most octets = Unit {0}
HasFile (Some content) path most octets = (whole : List ℕ) × (content path ≡ Some whole) × (octets ≡ take most whole)

-- a path that has no file, where files are reported
abbrev pub LacksFile : Option (List ℕ → Option (List ℕ)) → List ℕ → Type 0
LacksFile None path = Unit {0}
LacksFile (Some content) path = content path ≡ None

-- a file: its path and its content
abbrev pub FileView : Type 0
FileView = List ℕ × List ℕ

-- the content of the first file of this path
abbrev pub content_of : List FileView → List ℕ → Option (List ℕ)
content_of [] path = None
content_of (f ∷ fs) path = if bytes_eq f.0 path then Some f.1 else content_of fs path

-- a plan: the decimal numbers of the calls that fail, from 1, and how many were made and failed so far
pub record Planned : Type 0 where
  pub fails : List (List ℕ)
  pub calls : ℕ
  pub faults : ℕ

-- a plan before the first call
abbrev pub fresh : List (List ℕ) → Planned
fresh fails = record { fails = fails; calls = 0; faults = 0 }

-- whether the next call is a listed one
abbrev pub fails_next : Planned → Bool
fails_next p = is_listed (raised p.calls 1) p.fails

-- a plan after one more fault
abbrev pub faulted : Planned → Planned
faulted p = record p { faults = raised p.faults 1 }

-- a plan after one more call, which failed or not
abbrev pub called : Planned → Bool → Planned
called p failed = record p { calls = raised p.calls 1; faults = if failed then raised p.faults 1 else p.faults }

-- a source: what is left, how much it gives at a call at most, and its plan
pub record Fed : Type 0 where
  pub left : List ℕ
  pub most : ℕ
  pub plan : Planned

-- what is left of a content after a read
abbrev pub left_after : List ℕ → Result ℕ Failed → List ℕ
left_after left (Ok n) = drop n left
left_after left (Err e) = left

-- a source after a call that answered so
abbrev pub fed : Fed → Result ℕ Failed → Fed
fed s result = record s { left = left_after s.left result; plan = called s.plan (is_err result) }

-- a sink that fails only where no room is left
pub record Held : Type 0 where
  pub held : List ℕ
  pub faults : ℕ

-- a sink: what it holds, how much it takes at a call at most, and its plan
pub record Taken : Type 0 where
  pub held : List ℕ
  pub most : ℕ
  pub plan : Planned

-- what is held after a write of this piece
abbrev pub held_after : List ℕ → List ℕ → Result ℕ Failed → List ℕ
held_after held piece (Ok n) = held ++ take n piece
held_after held piece (Err e) = held

-- a sink after a call that was given this piece and answered so
abbrev pub taken : Taken → List ℕ → Result ℕ Failed → Taken
taken s piece result = record s { held = held_after s.held piece result; plan = called s.plan (is_err result) }

-- how many octets still fit after these
abbrev pub room_of : List ℕ → ℕ
room_of held = 16777216 - length held

-- a shelf: its files in order, and its plan
pub record Shelved : Type 0 where
  pub files : List FileView
  pub plan : Planned
