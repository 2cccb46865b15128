-- What a call of the machine has done.
use Rattle.std.specs.Prelude.{◌≡◌, Bool, true, false, Option, None, Some, Result, Ok, Err, ℕ, ◌+◌, List, ℤ, drop}
use Rattle.mint.specs.Types.{Ty}
use Rattle.wire_def.specs.declared.encoding.Encoding.{Encoding}
use Rattle.wire_def.specs.Laws.{BeginsWith}
use Rattle.raw_buf.specs.View.{View}
use Rattle.cast_stub.specs.Got as stub
use Rattle.cast_stub.specs.Runs.{Place, Run, gives, refuses}
use Rattle.mint.specs.Row.{Numbers}
use Rattle.mint.specs.Values.{Val, seen}
use Rattle.stub_receiver.specs.declared.recv.Got.{Got}
use Rattle.stub_receiver.specs.declared.recv.Got.TheVariants.{Value, Not}
use Rattle.stub_receiver.specs.declared.errors.Halt.{Halt}
use Rattle.stub_receiver.specs.declared.errors.Halt.TheVariants.{Refused, NoMemory}

-- where a view is
abbrev pub place_of : View → Place
place_of v = record { pos = v.pos; left = drop v.pos v.octets; near = v.near; tests = v.tests }

-- what was given, or that a test failed
abbrev pub Ran : {A : Type 0} → Result (Unit {0}) Halt → A → Place → Run A → Type 0
Ran (Ok u) d s x = x ≡ gives d s
Ran (Err Refused) d s x = x ≡ refuses
Ran (Err NoMemory) d s x = Unit {0}

-- the same of what a call answers
abbrev pub Gave : {X A : Type 0} → (X → A) → Result X Halt → Place → Run A → Type 0
Gave view (Ok y) s x = x ≡ gives (view y) s
Gave view (Err Refused) s x = x ≡ refuses
Gave view (Err NoMemory) s x = Unit {0}

-- what was done where no memory is taken, or that a test failed
abbrev pub Tested : {A : Type 0} → Bool → A → Place → Run A → Type 0
Tested true d s x = x ≡ gives d s
Tested false d s x = x ≡ refuses

-- the same of what a call answers
abbrev pub Took : {X A : Type 0} → (X → A) → Option X → Place → Run A → Type 0
Took view (Some y) s x = x ≡ gives (view y) s
Took view None s x = x ≡ refuses

-- the numbers of a row, or that one of them may not be in the row
abbrev pub AreRead : Result Numbers Halt → Option (List ℤ) → Type 0
AreRead (Ok r) x = x ≡ Some r.numbers
AreRead (Err Refused) x = x ≡ None
AreRead (Err NoMemory) x = Unit {0}

-- a test, as an answer
abbrev pub IsTested : Bool → Result (Unit {0}) Halt → Type 0
IsTested true result = result ≡ Ok tt
IsTested false result = result ≡ Err Refused

-- a number that may be there, as an answer
abbrev pub IsFound : Option ℤ → Result ℤ Halt → Type 0
IsFound (Some n) result = result ≡ Ok n
IsFound None result = result ≡ Err Refused

-- what a whole run answers is what the code gives: a value, the place after it and the tests, or none
abbrev pub IsGot : Got → View → stub.Got → Type 0
IsGot (Value v) new x = x ≡ stub.given (seen v) new.pos new.tests
IsGot Not new x = x ≡ stub.not_given

-- the value that the first octets of the rest spell, which are passed; or that none spell one
abbrev pub IsSpelled : Encoding → Ty → Got → View → View → Type 0
IsSpelled e t (Value v) old new = (used : ℕ) × (new.pos ≡ old.pos + used) × BeginsWith e t old.pos (drop old.pos old.octets) (seen v) used
IsSpelled e t Not old new = (v : Val) (used : ℕ) → BeginsWith e t old.pos (drop old.pos old.octets) v used → ⊥
