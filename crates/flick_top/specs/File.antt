-- What the content of a file comes to: a unit, and what is made of it over a back end, or what is said instead.
use Rattle.std.specs.Prelude.{◌≡◌, ℕ, List, [], length, nat_le, MatchBool, Option, Some, None, Result, Ok, Err, IsOkAnd}
use Rattle.kit_base.specs.Limits.{longest_file}
use Rattle.wire_def.specs.declared.encoding.Back.{Back}
use Rattle.flick_engine.specs.declared.wire.Wire.{Wire}
use Rattle.flick_engine.specs.Backs.{back_in, minor_in}
use Rattle.idl_lex.specs.declared.kinds.Front.{Front}
use Rattle.aoi.specs.Plain.{PlainUnit, plain, IsSoundPlain}
use Rattle.aoi.specs.Units.{Parts}
use Rattle.pres.specs.declared.errors.BindErr.{BindErr}
use Rattle.pres.specs.Bindings.{Binding, IsBinding}
use Rattle.pres.specs.Faces.{faces}
use Rattle.pres.specs.Faults.{bind_fault}
use Rattle.pres.specs.Made.{all_made}
use Rattle.stub_codes.specs.declared.stub.Stub.{Stub}
use Rattle.stub_codes.specs.Stubs.{Coded}
use Rattle.flick_top.specs.declared.report.Report.{Report}
use Rattle.flick_top.specs.declared.report.Report.TheVariants.{NoFile, TooLarge, Bind}
use Rattle.flick_top.specs.Fronts.{Read, UnitOf}

-- what the content of a file says, where there is the file
abbrev pub FileSays : Front → Option (List ℕ) → Read → Type 0
FileSays front None read = read ≡ Err NoFile
FileSays front (Some text) read = MatchBool (nat_le (length text) longest_file) (UnitOf front text read) (read ≡ Err TooLarge)

-- what was read, as a plain tree
abbrev pub plainly : Result Parts Report → Read
plainly (Ok u) = Ok (plain u)
plainly (Err report) = Err report

-- a unit that was read is sound
abbrev pub IsSoundly : Result Parts Report → Type 0
IsSoundly (Ok u) = IsSoundPlain (plain u)
IsSoundly (Err report) = Unit {0}

-- an engine, or what is said instead
abbrev pub Reported : Type 0
Reported = Result Coded Report

-- the codes of an engine, or none
abbrev pub codes_in : Reported → List Stub
codes_in (Ok e) = e.stubs
codes_in (Err report) = []

-- a unit over a back end: a binding whose nodes are those that the unit makes
pub record IsOver (u : PlainUnit) (k : Back) (b : Binding) : Type 0 where
  pub stands : IsBinding b
  pub unit : b.unit ≡ u
  pub back : b.back ≡ k
  pub nodes : faces b.nodes b.shapes ≡ all_made u k

-- an engine of a unit whose messages have a format
abbrev pub IsOf : PlainUnit → Wire → Coded → Type 0
IsOf u w e = IsOver u (back_in w) e.binding × (e.minor ≡ minor_in w)

-- a unit that has this reason against it; or else the engine that is given is of the unit, and these are its codes
abbrev pub BindSays : List Stub → PlainUnit → Wire → Option BindErr → Reported → Type 0
BindSays codes u w (Some e) reported = reported ≡ Err (Bind e)
BindSays codes u w None reported = IsOkAnd reported (λ e. IsOf u w e × (e.stubs ≡ codes))

-- what was read, with messages of a format
abbrev pub BoundSays : List Stub → Wire → Read → Reported → Type 0
BoundSays codes w (Err report) reported = reported ≡ Err report
BoundSays codes w (Ok u) reported = BindSays codes u w (bind_fault u (back_in w)) reported
