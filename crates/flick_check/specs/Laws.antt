-- Laws of the answers of `check`.
use Rattle.std.specs.Prelude.{◌≡◌, ℕ, List}
use Rattle.stub_codes.specs.Stubs.{Coded}
use Rattle.flick_check.specs.Checked.{IsChecked}

-- the answers to a file are determined
abbrev pub IsCheckedOnce : Type 0
IsCheckedOnce = (e : Coded) (text a b : List ℕ) → IsChecked e text a → IsChecked e text b → a ≡ b

-- each file has answers
abbrev pub IsCheckedSomehow : Type 0
IsCheckedSomehow = (e : Coded) (text : List ℕ) → (a : List ℕ) × IsChecked e text a
