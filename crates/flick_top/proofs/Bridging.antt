-- What a file comes to with messages of two formats: engines of one unit, or what is said instead.
use Rattle.std.proofs.Common.{◌≡◌, ◌+◌, ℕ, List, [], Option, Some, None, Result, Ok, Err, IfOk, refl, sym, ap, ◌∙◌, subst}
use Rattle.kit_base.specs.Limits.{longest_file}
use Rattle.kit_base.specs.Memory.{HasFile, LacksFile}
use Rattle.idl_lex.specs.declared.kinds.Front.{Front}
use Rattle.aoi.specs.Plain.{PlainUnit}
use Rattle.pres.specs.declared.errors.BindErr.{BindErr}
use Rattle.pres.specs.Faults.{bind_fault}
use Rattle.stub_codes.specs.declared.stub.Stub.{Stub}
use Rattle.stub_codes.specs.Stubs.{Coded}
use Rattle.flick_engine.specs.declared.wire.Wire.{Wire}
use Rattle.flick_engine.specs.Backs.{back_in}
use Rattle.flick_bridge.specs.Bridged.{Bridging}
use Rattle.flick_top.specs.declared.command.Named.{Named}
use Rattle.flick_top.specs.declared.file.NoBridge.{NoBridge}
use Rattle.flick_top.specs.declared.job.Job.TheVariants as jobs
use Rattle.flick_top.specs.declared.prepared.Prepared.{Prepared}
use Rattle.flick_top.specs.declared.report.Report.{Report}
use Rattle.flick_top.specs.declared.report.Report.TheVariants.{NoFile}
use Rattle.flick_top.specs.Dispatch.{Files, IsMadeIn, IsMadeOf, IsSecond, bridging_task, Bridges, BridgesFile, bridge_of, IsBridge, IsBridgeOf}
use Rattle.flick_top.specs.File.{Reported, FileSays, BindSays, BoundSays, IsOf, codes_in}
use Rattle.flick_top.specs.Fronts.{Read}
use Rattle.flick_top.specs.Made.{codes_of}
use Rattle.flick_top.specs.Task.{Task, report_task, answering_task, engine_of, task_in}
use Rattle.flick_top.proofs.FilesSay.{file_says}
use Rattle.flick_top.proofs.Front.{reported-decides}

-- ---- units

bound_unit : (codes : List Stub) (u : PlainUnit) (w : Wire) (x : Option BindErr) (e : Coded) → BindSays codes u w x (Ok e)
    → e.binding.unit ≡ u
bound_unit codes u w (Some x) e is = absurd (cc is)
bound_unit codes u w None e (over, same) = over.0.unit

says_unit : (codes : List Stub) (w : Wire) (read : Read) (e : Coded) → BoundSays codes w read (Ok e) → read ≡ Ok e.binding.unit
says_unit codes w (Err report) e is = absurd (cc is)
says_unit codes w (Ok u) e says = ap (λ (v : PlainUnit). Ok v) (sym (bound_unit codes u w (bind_fault u (back_in w)) e says))

-- the engines of a bridge are of one unit
pub bridging_stands : (e : Coded) (to : Wire) (x : Coded) → IsSecond e to (Ok x) → e.binding.unit ≡ x.binding.unit
bridging_stands e to x is = sym (bound_unit x.stubs e.binding.unit to (bind_fault e.binding.unit (back_in to)) x is)

-- what a content comes to in a second format is what the unit of the first engine comes to
pub second_is : (codes others : List Stub) (front : Front) (w to : Wire) (content : Option (List ℕ)) (e : Coded) (second : Reported)
    → IsMadeIn codes front w content (Ok e) → IsMadeIn others front to content second → BoundSays others to (Ok e.binding.unit) second
second_is codes others front w to content e second (read, says, bound) (other, also, there) =
    let same : other ≡ Ok e.binding.unit = file_says front content other read also says ∙ says_unit codes w read e bound in
    subst (λ (r : Read). BoundSays others to r second) same there

-- so it is of what was made, whatever it is
pub units_agree : (front : Front) (w to : Wire) (content : Option (List ℕ)) (first : Reported) (e : Coded) (second : Reported)
    → first ≡ Ok e → IsMadeIn (codes_in first) front w content first → IsMadeIn (codes_in second) front to content second
    → IsSecond e to second
units_agree front w to content first e second is made other =
    second_is e.stubs (codes_in second) front w to content e second
    (subst (λ (r : Reported). IsMadeIn (codes_in r) front w content r) is made) other

pub units_match : (e : Coded) (to : Wire) (second : Reported) → IsSecond e to second
    → IfOk second (λ x. e.binding.unit ≡ x.binding.unit)
units_match e to (Ok x) is = bridging_stands e to x is
units_match e to (Err report) is = tt

-- ---- bridges

-- a bridge, or why there is none, of engines that were made
pub bridge-made : (n : Named) (to : Wire) (content : Option (List ℕ)) (first : Reported) (e : Coded) (second : Reported)
    (made : Result Bridging NoBridge) → first ≡ Ok e → IsMadeIn (codes_in first) n.front n.wire content first
    → IsMadeIn (codes_in second) n.front to content second → made ≡ bridge_of e second → IsBridgeOf n to content made
bridge-made n to content first e second made is one other same =
    let there = subst (λ (r : Reported). IsMadeIn (codes_in r) n.front n.wire content r) is one in
    (Ok e, there, (second, units_agree n.front n.wire to content first e second is one other, same))

-- what is said where no first engine was made
pub bridge-said : (n : Named) (to : Wire) (content : Option (List ℕ)) (first : Reported) (report : Report) (made : Result Bridging NoBridge)
    → first ≡ Err report → IsMadeIn (codes_in first) n.front n.wire content first
    → made ≡ Err (record { report = report; engine = None }) → IsBridgeOf n to content made
bridge-said n to content first report made is one same =
    (Err report, subst (λ (r : Reported). IsMadeIn (codes_in r) n.front n.wire content r) is one, same)

-- the prefix that a shelf gave makes the bridge of its file
pub bridge-decides : (n : Named) (to : Wire) (shelf : Option Files) (files : Files) (path part : List ℕ) (made : Result Bridging NoBridge)
    → HasFile shelf path (1 + longest_file) part → shelf ≡ Some files → IsBridgeOf n to (Some part) made
    → IsBridgeOf n to (files path) made
bridge-decides n to shelf files path part made has known (reported, (read, says, bound), is) =
    (reported, (read, reported-decides n.front shelf files path part read has known says, bound), is)

-- what is said where there is no file
pub bridge-absent : (n : Named) (to : Wire) (shelf : Option Files) (files : Files) (path : List ℕ) → LacksFile shelf path
    → shelf ≡ Some files → IsBridgeOf n to (files path) (Err (record { report = NoFile; engine = None }))
bridge-absent n to shelf files path lacks known =
    let none : files path ≡ None = subst (λ (o : Option Files). LacksFile o path) known lacks in
    let says : FileSays n.front (files path) (Err NoFile) =
    subst (λ (c : Option (List ℕ)). FileSays n.front c (Err NoFile)) (sym none) refl in (Err NoFile, (Err NoFile, says, refl), refl)

-- ---- tasks

codes_known : (e : Coded) (second : Reported) (p : Prepared) → task_in p [] ≡ bridging_task e second → codes_of (engine_of p) ≡ e.stubs
codes_known e (Ok x) p is = ap (λ (t : Task). codes_of t.engine) is
codes_known e (Err report) p is = ap (λ (t : Task). codes_of t.engine) is

-- what is prepared of a bridge that was made, or of what is said in its place
abbrev pub prepared_of : (made : Result Bridging NoBridge) → Task
prepared_of (Ok s) = answering_task [] (jobs.Bridge s)
prepared_of (Err none) = report_task none.report none.engine

made_task : (e : Coded) (second : Reported) → prepared_of (bridge_of e second) ≡ bridging_task e second
made_task e (Ok x) = refl
made_task e (Err report) = refl

bridged_task : (to : Wire) (reported : Reported) (made : Result Bridging NoBridge) (p : Prepared)
    → IsBridge to reported made → task_in p [] ≡ prepared_of made
    → (codes_of (engine_of p) ≡ codes_in reported) × Bridges to reported (task_in p [])
bridged_task to (Ok e) made p (second, is, same) task =
    let known = task ∙ ap prepared_of same ∙ made_task e second in
    (codes_known e second p known, (second, is, known))
bridged_task to (Err report) made p is task =
    let known = task ∙ ap prepared_of is in (ap (λ (t : Task). codes_of t.engine) known, known)

pub bridge-prepared : (n : Named) (to : Wire) (content : Option (List ℕ)) (made : Result Bridging NoBridge) (p : Prepared)
    → IsBridgeOf n to content made → task_in p [] ≡ prepared_of made → BridgesFile (codes_of (engine_of p)) n to content (task_in p [])
bridge-prepared n to content made p (reported, one, is) task =
    let (codes, bridges) = bridged_task to reported made p is task in
    (reported, subst (λ (s : List Stub). IsMadeOf s n content reported) (sym codes) one, bridges)
