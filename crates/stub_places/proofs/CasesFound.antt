-- A number that is found among cases has a case.
use Rattle.std.proofs.Common.{◌≡◌, ℕ, ◌+◌, ℤ, Bool, true, false, List, [], ◌∷◌, Option, Some, None, is_some, if◌then◌else◌, refl}
use Rattle.std.specs.List.{position_from}
use Rattle.std.specs.Ordering.{int_eq}
use Rattle.cast_stub.specs.declared.send.SendOp.{SendOp}
use Rattle.cast_stub.specs.Block.{cases_seen}
use Rattle.stub_flat.specs.Places.{has_case}

chosen : (b : Bool) (k : ℕ) (o : Option ℕ) (h : Bool) → is_some o ≡ h → is_some (if b then Some k else o) ≡ (if b then true else h)
chosen true k o h e = refl
chosen false k o h e = e

pub case_found : (n : ℤ) (k : ℕ) (cases : List (ℤ × List SendOp)) (last : Option (List SendOp))
    → is_some (position_from (λ (e : ℤ × List SendOp). int_eq n e.0) k cases) ≡ has_case n (cases_seen cases last)
case_found n k [] None = refl
case_found n k [] (Some body) = refl
case_found n k (c ∷ cs) last =
    chosen (int_eq n c.0) k (position_from (λ (e : ℤ × List SendOp). int_eq n e.0) (k + 1) cs) (has_case n (cases_seen cs last))
    (case_found n (k + 1) cs last)
