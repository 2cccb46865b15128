-- Structs of numbers whose fields are read in order, without a draft.
use Rattle.std.specs.Prelude.{◌≡◌, Bool, true, false, ℕ, List, [], ◌∷◌, ◌++◌, length, drop, map, Option, None, Some, Result, Ok, Err}
use Rattle.mint.specs.declared.node.Node.{Node}
use Rattle.mint.specs.declared.value.Value.{Value}
use Rattle.mint.specs.Types.{unfolded, fields_at, type_at}
use Rattle.mint.specs.Values.{Val, num, group, Vals, no_more, val, seen}
use Rattle.cast_stub.specs.declared.recv.Get.{Get}
use Rattle.cast_stub.specs.Draft.{Draft, done, fields, Drafts, no_draft, draft, fresh, all_fresh}
use Rattle.cast_stub.specs.Fill.{all_got, settled}
use Rattle.cast_stub.specs.Into.{needed, passed}
use Rattle.cast_stub.specs.Runs.{Place, Run, gives, refuses, then_run}
use Rattle.stub_receiver.specs.declared.errors.Halt.{Halt}
use Rattle.stub_receiver.specs.declared.errors.Halt.TheVariants.{Refused, NoMemory}
use Rattle.stub_receiver.specs.declared.flat.Read.{Read}
use Rattle.stub_receiver.specs.declared.flat.Read.TheVariants as read

-- the path of a field, of a struct that is the whole value or its one field
abbrev pub flat_path : Bool → ℕ → List ℕ
flat_path false n = n ∷ []
flat_path true n = 0 ∷ n ∷ []

-- the draft of such a struct
abbrev pub flat_draft : Bool → Drafts → Draft
flat_draft false ds = fields ds
flat_draft true ds = fields (draft (fields ds) no_draft)

-- the value of such a struct
abbrev pub flat_value : Bool → Vals → Val
flat_value false vs = group vs
flat_value true vs = group (val (group vs) no_more)

-- fields that were read, before others
abbrev pub read_before : List Val → Drafts → Drafts
read_before [] ds = ds
read_before (v ∷ vs) ds = draft (done v) (read_before vs ds)

-- a struct of which the first fields were read
abbrev pub read_so_far : List Node → Bool → List ℕ → List Val → Draft
read_so_far nodes nested ids vs = flat_draft nested (read_before vs (all_fresh (fields_at (unfolded nodes) (drop (length vs) ids))))

-- what a get has done to a struct of which the first fields were read
abbrev pub Reads : List Node → Bool → List ℕ → List Val → Place → Run Draft → Read → Type 0
Reads nodes nested ids vs s x (read.Number n) = x ≡ gives (read_so_far nodes nested ids (vs ++ num n ∷ [])) s
Reads nodes nested ids vs s x read.Passed = x ≡ gives (read_so_far nodes nested ids vs) s
Reads nodes nested ids vs s x read.Refused = x ≡ refuses
Reads nodes nested ids vs s x read.Other = Unit {0}

-- what gets have done: each field was read, or a test failed; with None nothing is told
abbrev pub ReadsAll : Bool → Place → Run Draft → Result (Option (List Value)) Halt → Type 0
ReadsAll nested s x (Ok None) = Unit {0}
ReadsAll nested s x (Ok (Some vs)) = x ≡ gives (flat_draft nested (read_before (map seen vs) no_draft)) s
ReadsAll nested s x (Err Refused) = x ≡ refuses
ReadsAll nested s x (Err NoMemory) = Unit {0}

-- the same of the whole value
abbrev pub ReadsWhole : Place → Run Draft → Result (Option Value) Halt → Type 0
ReadsWhole s x (Ok None) = Unit {0}
ReadsWhole s x (Ok (Some v)) = settled x ≡ gives (seen v) s
ReadsWhole s x (Err Refused) = x ≡ refuses
ReadsWhole s x (Err NoMemory) = Unit {0}

-- the run of a take on a value of a node, of which nothing was read
abbrev pub take_run : List Node → ℕ → List Get → ℕ → Place → Run Val
take_run nodes size gets id s = settled (then_run (all_got gets (fresh (type_at nodes id)) s) (passed size))

-- the run of a need, and of a take after it
abbrev pub flat_run : List Node → ℕ → ℕ → List Get → ℕ → Place → Run Val
flat_run nodes wanted size gets id s = then_run (needed wanted (fresh (type_at nodes id)) s)
    (λ d t. settled (then_run (all_got gets d t) (passed size)))
