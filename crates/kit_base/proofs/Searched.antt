-- What was searched stays searched when more is read after it.
use Rattle.std.proofs.Common.{◌≡◌, ℕ, ◌≤◌, List, length, take, sym, ◌∙◌, ap, subst}
use Rattle.std.proofs.lemmas.List.{take-take}
use Rattle.kit_base.specs.Lines.{HasNoEnd}

pub searched-after : (old new : List ℕ) (n : ℕ) → take (length old) new ≡ old → n ≤ length old → HasNoEnd (take n old)
    → HasNoEnd (take n new)
searched-after old new n front within none =
    let same : take n old ≡ take n new = ap (take n) (sym front) ∙ take-take n (length old) new within in
    subst HasNoEnd same none
