-- Runs of code that receives: where a run is, and how it ends.
use Rattle.std.specs.Prelude.{ℕ, List, Option, None, Some}
use Rattle.cast_stub.specs.Draft.{Draft}

-- where a run is: the position, the octets that are left, how many of them are known to be there,
-- and the tests so far; a number of tests that has reached 2^64 - 1 stays there
pub record Place : Type 0 where
  pub pos : ℕ
  pub left : List ℕ
  pub near : ℕ
  pub tests : ℕ

-- what a run gives, that a test failed, or that the code looks where no test was or does not suit
-- what it fills
pub data Run (A : Type 0) : Type 0 where
  gives : A → Place → Run A
  refuses : Run A
  strays : Run A

-- what runs from a place
abbrev pub Going : Type 0 → Type 0
Going A = Place → Run A

-- what is done to a draft
abbrev pub Filler : Type 0
Filler = Draft → Place → Run Draft

-- a run, and another from where it ends, if it gives something
abbrev pub then_run : {A B : Type 0} → Run A → (A → Place → Run B) → Run B
then_run (gives x s) f = f x s
then_run refuses f = refuses
then_run strays f = strays

-- a run, with a function on what it gives
abbrev pub map_run : {A B : Type 0} → (A → B) → Run A → Run B
map_run f (gives x s) = gives (f x) s
map_run f refuses = refuses
map_run f strays = strays

-- the run on something that is there; it strays where it is not
abbrev pub if_some : {A B : Type 0} → Option A → (A → Run B) → Run B
if_some None f = strays
if_some (Some x) f = f x

-- the run on something that passed its test; it refuses where it did not
abbrev pub if_passed : {A B : Type 0} → Option A → (A → Run B) → Run B
if_passed None f = refuses
if_passed (Some x) f = f x

-- a run that does not stray
abbrev pub Holds : {A : Type 0} → Run A → Type 0
Holds (gives x s) = Unit {0}
Holds refuses = Unit {0}
Holds strays = ⊥
