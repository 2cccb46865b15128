-- The exceptions that operations raise.
use Rattle.std.specs.Prelude.{◌≡◌, ◌++◌, ◌+◌, ◌<◌, ◌^◌, length, ℕ, suc, List, [], ◌∷◌, map, Option, Some, None, String, if◌then◌else◌, slice_index_or}
use Rattle.std.specs.BTreeMap.{BTreeMap, get_by_text}
use Rattle.std.specs.List.{AllZip}
use Rattle.std.specs.Option.{option_map_or}
use Rattle.std.specs.Str.{bytes_eq}
use Rattle.wire_def.specs.declared.encoding.Back.{Back}
use Rattle.aoi.specs.Plain.{PlainRaise, PlainOperation, PlainInterface}
use Rattle.pres.specs.Bindings.{Binding, IsBinding}
use Rattle.pres.specs.Offers.{gets_null}
use Rattle.pres.specs.Tables.{text_of}

-- the operations of an interface as its file has them, and none for a procedure that it gets
abbrev pub sources_of : Back → PlainInterface → List (Option PlainOperation)
sources_of b i = map (λ op. Some op) i.ops ++ (if gets_null b i then None ∷ [] else [])

-- those of all interfaces, in the order of the operations of the back end
abbrev pub sources : Back → List PlainInterface → List (Option PlainOperation)
sources b [] = []
sources b (i ∷ is) = sources_of b i ++ sources b is

-- the operation of a number, as its file has it
abbrev pub source : Binding → ℕ → Option PlainOperation
source b k = slice_index_or (sources b.back b.unit.interfaces) k None

-- the exceptions of an operation as its file has it
abbrev pub raises_of : Option PlainOperation → List PlainRaise
raises_of op = option_map_or (λ op. op.raises) op []

-- the exceptions of an operation
abbrev pub raises : Binding → ℕ → List PlainRaise
raises b k = raises_of (source b k)

-- the place, from k on, of the first exception whose name a string is
abbrev pub raise_from : List ℕ → ℕ → List PlainRaise → Option ℕ
raise_from s k [] = None
raise_from s k (r ∷ rs) = if bytes_eq (text_of r.name) s then Some k else raise_from s (suc k) rs

-- the place, from k on, of the first name that a string is
abbrev pub number_from : List ℕ → ℕ → List (List ℕ) → Option ℕ
number_from s k [] = None
number_from s k (n ∷ ns) = if bytes_eq (text_of n) s then Some k else number_from s (suc k) ns

-- the names of exceptions
abbrev pub names_in : List PlainRaise → List (List ℕ)
names_in rs = map (λ (r : PlainRaise). r.name) rs

module _ {Y : Type 0} where
  -- what finds names: a map of the strings that they are, or none where one is long
  abbrev pub IsTable : List (List ℕ) → Option (BTreeMap (String Y) ℕ) → Type 0
  IsTable names None = length names + 1 < 2 ^ 32
  IsTable names (Some m) = (s : List ℕ) → get_by_text m s ≡ number_from s 1 names

-- names among which the number of each exception is found
abbrev pub FindsRaises : List PlainRaise → List (List ℕ) → Type 0
FindsRaises rs names = (s : List ℕ) → number_from s 1 names ≡ raise_from s 1 rs

-- names for each operation, among which its exceptions are found
abbrev pub FindEach : List (Option PlainOperation) → List (List (List ℕ)) → Type 0
FindEach ops tables = AllZip (λ op names. FindsRaises (raises_of op) names) ops tables

-- tables in place of others: they find the exceptions of more operations, after those that the others find
pub record FindMore (ops : List (Option PlainOperation)) (old new : List (List (List ℕ))) : Type 0 where
  pub found : (before : List (Option PlainOperation)) → FindEach before old → FindEach (before ++ ops) new

-- a binding, with tables that find the exceptions of its operations
pub record IsBound (b : Binding) (tables : List (List (List ℕ))) : Type 0 where
  pub stands : IsBinding b
  pub finds : FindEach (sources b.back b.unit.interfaces) tables
