-- The procedures that are the operations of a unit.
use Rattle.std.specs.Prelude.{◌≡◌, ◌≢◌, ◌≤◌, ℕ, suc, List, map, flat_map, take, length, slice_index, slice_index_or}
use Rattle.wire_def.specs.declared.encoding.Back.TheVariants as back
use Rattle.aoi.specs.Plain.{PlainInterface, PlainOperation}
use Rattle.pres.specs.declared.ops.Op.{Op}
use Rattle.pres.specs.Bindings.{Binding}
use Rattle.pres.specs.Offers.{operations}
use Rattle.back_xdr.specs.declared.procedures.Procedure.{Procedure}

-- the numbers of an interface's procedures
abbrev pub numbers : PlainInterface → List ℕ
numbers i = map (λ (op : PlainOperation). op.proc_no) (operations back.Xdr i)

-- the procedure of an interface with a number
abbrev pub procedure_in : PlainInterface → ℕ → Procedure
procedure_in i n = record { program = i.program; version = i.version; number = n }

-- the procedures of an interface
abbrev pub procedures_of : PlainInterface → List Procedure
procedures_of i = map (procedure_in i) (numbers i)

-- the procedures of interfaces, in the order of the operations that they offer
abbrev pub procedures : List PlainInterface → List Procedure
procedures is = flat_map procedures_of is

-- how many procedures the interfaces before a place have
abbrev pub before : ℕ → List PlainInterface → ℕ
before k is = length (procedures (take k is))

-- the procedure that is an operation
abbrev pub procedure_of : Binding → ℕ → Procedure
procedure_of b op = slice_index_or (procedures b.unit.interfaces) op (record { program = 0; version = 0; number = 0 })

-- the interfaces that operations are of, by their numbers
abbrev pub homes : List Op → List ℕ
homes ops = map (λ (o : Op). o.interface) ops

-- the numbers from a first place to this one are the same, and the one before them is another
pub record IsFirst (js : List ℕ) (place first : ℕ) : Type 0 where
  pub within : first ≤ place
  pub same : (k : ℕ) → first ≤ k → k ≤ place → slice_index js k ≡ slice_index js place
  pub apart : (k : ℕ) → suc k ≡ first → slice_index js k ≢ slice_index js place
