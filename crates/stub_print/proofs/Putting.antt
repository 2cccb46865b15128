-- Texts put one after the other.
use Rattle.std.proofs.Common.{◌≡◌, ℕ, Result, Ok, Err, OnOk, List, [], ◌∷◌, ◌++◌, sym, ap, ◌∙◌, append_assoc}
use Rattle.stub_print.specs.Putting.{IsPut}

-- octets that are appended are put
pub appended : (old piece new : List ℕ) → new ≡ old ++ piece → IsPut old (λ rest. piece ++ rest) new
appended old piece new is rest = sym (append_assoc old piece rest) ∙ ap (λ z. z ++ rest) (sym is)

-- an octet and then others
pub appended_after : (old mid new : List ℕ) (c : ℕ) (piece : List ℕ) → mid ≡ old ++ (c ∷ []) → new ≡ mid ++ piece
    → IsPut old (λ rest. c ∷ (piece ++ rest)) new
appended_after old mid new c piece first last rest =
    sym (append_assoc old (c ∷ []) (piece ++ rest)) ∙ ap (λ z. z ++ (piece ++ rest)) (sym first) ∙ appended mid piece new last rest

-- a text after a text
pub put_then : (old mid new : List ℕ) (f g : List ℕ → List ℕ) → IsPut old f mid → IsPut mid g new → IsPut old (λ rest. f (g rest)) new
put_then old mid new f g h k rest = h (g rest) ∙ k rest

-- the same where the last may be refused
pub then_put : {E : Type 0} (r : Result (Unit {0}) E) (old mid new : List ℕ) (f g : List ℕ → List ℕ) → IsPut old f mid
    → OnOk r (IsPut mid g new)
    → OnOk r (IsPut old (λ rest. f (g rest)) new)
then_put (Ok u) old mid new f g h k = put_then old mid new f g h k
then_put (Err e) old mid new f g h k = tt
