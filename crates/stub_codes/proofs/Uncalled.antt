-- Code without calls of some types, each at the place of its number.
use Rattle.std.proofs.Common.{◌≡◌, ℕ, List, [], Option, Some, Result, Ok, Err, IfOk, ◌∷◌, ◌++◌, length, slice_get, refl, subst}
use Rattle.kit_base.specs.declared.errors.NoMemory.{NoMemory}
use Rattle.cast_stub.specs.declared.send.SendCode.{SendCode}
use Rattle.cast_stub.specs.declared.send.SendOp.{SendOp}
use Rattle.copy_inline.specs.Inlined.{Does, Goes, Turns}
use Rattle.stub_codes.specs.Lowered.{AreBodies, IsBody}
use Rattle.stub_codes.proofs.Chained.{grown}

pub is_body : (all : List (List SendOp)) (id : ℕ) (r : Result SendCode NoMemory) → IfOk r (λ c. Does all id c) → IfOk r (λ c. c.subs ≡ [])
    → IfOk r (λ c. Goes all id c) → IfOk r (λ c. Turns all id c) → IfOk r (IsBody all id)
is_body all id (Ok code) steps subs follows turned = record { steps = steps; subs = subs; follows = follows; turned = turned }
is_body all id (Err e) steps subs follows turned = tt

-- one place more
pub one_body_more : (all : List (List SendOp)) (bodies : List (Option SendCode)) (o : Option SendCode) (id : ℕ) → length bodies ≡ id
    → AreBodies all bodies → ((code : SendCode) → o ≡ Some code → IsBody all id code) → AreBodies all (bodies ++ o ∷ [])
one_body_more all bodies o id many each last k code found =
    grown (λ (i : ℕ) (x : Option SendCode). (c : SendCode) → x ≡ Some c → IsBody all i c) bodies o id many
    (λ i x there c is. each i c (subst (λ (y : Option SendCode). slice_get bodies i ≡ Some y) is there)) last k (Some code) found code refl
