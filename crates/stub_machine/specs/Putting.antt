-- What a call that stores octets has done.
use Rattle.std.specs.Prelude.{◌≡◌, ℕ, List, [], ◌∷◌, length, Option, None, Some}
use Rattle.kit_base.specs.Bytes.{written}
use Rattle.raw_buf.specs.Buf.{Buf, stored}
use Rattle.cast_stub.specs.Puts.{Cells}

-- how many octets there are, if they are there
abbrev pub octets_in : Option (List ℕ) → ℕ
octets_in None = 0
octets_in (Some o) = length o

-- the octets are stored at a place of the space
abbrev pub Writes : Buf → Buf → ℕ → Option (List ℕ) → Type 0
Writes old new off None = ⊥
Writes old new off (Some o) = (new.done ≡ old.done) × (new.front ≡ written old.front off o)
    × (new.tally ≡ stored old.tally) × (new.spent ≡ stored old.spent)

-- each octet that was put is in the space
abbrev pub Over : Cells → List ℕ → Type 0
Over [] f = Unit {0}
Over (c ∷ cs) [] = ⊥
Over (None ∷ cs) (b ∷ f) = Over cs f
Over (Some x ∷ cs) (b ∷ f) = (b ≡ x) × Over cs f

abbrev pub OverAll : Option Cells → List ℕ → Type 0
OverAll None f = ⊥
OverAll (Some cs) f = Over cs f
