-- Laws of files of replies, and of the answers by them.
use Rattle.std.specs.Prelude.{◌≡◌, ℕ, List, Result}
use Rattle.pres.specs.Bindings.{Binding}
use Rattle.flick_serve.specs.Given.{Given, FileGives}
use Rattle.flick_serve.specs.Served.{IsServed}

-- what a file gives is determined
abbrev pub IsGivenOnce : Type 0
IsGivenOnce = (b : Binding) (text : List ℕ) (x y : Result Given ℕ) → FileGives b text x → FileGives b text y → x ≡ y

-- a file gives replies, or has a first line that is wrong
abbrev pub IsGivenSomehow : Type 0
IsGivenSomehow = (b : Binding) (text : List ℕ) → (x : Result Given ℕ) × FileGives b text x

-- the answer to a line is determined
abbrev pub IsServedOnce : Type 0
IsServedOnce = (b : Binding) (m : ℕ) (text line a c : List ℕ) → IsServed b m text line a → IsServed b m text line c → a ≡ c
