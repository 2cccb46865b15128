-- The arm that is found among the arms of a choice, by induction on the arms.
use Rattle.std.proofs.Common.{◌≡◌, ℕ, ℤ, List, [], ◌∷◌, Option, None, Some, refl, int_eq, Bool, true, false, cond}
use Rattle.std.specs.Prelude.{MatchBool}
use Rattle.mint.specs.Values.{Val}
use Rattle.mint.specs.Types.{Ty, at, arms_at}
use Rattle.mint.specs.Arms.{arm_found}
use Rattle.mint.specs.Typed.{IsOf, IsOfArm}
use Rattle.wire_def.specs.declared.encoding.Encoding.{Encoding}
use Rattle.wire_def.specs.Send.{send, send_arm}

-- the arm that is found
module _ (us : List Ty) (n : ℤ) where
  typed_at : (b : Bool) (j : ℕ) (rest found : Option ℕ) (v : Val) (R : Type 0) (i : ℕ) → cond b (Some j) rest ≡ Some i
      → MatchBool b (IsOf (at us j) v) R → (rest ≡ Some i → R → IsOf (at us i) v)
      → IsOf (at us i) v
  typed_at true j rest found v R i e h more =
      let same : j ≡ i = cc in
      rw same at h
  typed_at false j rest found v R i e h more = more e h

  pub arm_typed : (arms : List (ℤ × ℕ)) (o : Option ℕ) (v : Val) (i : ℕ) → arm_found arms o n ≡ Some i → IsOfArm (arms_at us arms o) n v
      → IsOf (at us i) v
  arm_typed [] None v i e h = absurd h
  arm_typed [] (Some j) v i e h =
      let same : j ≡ i = cc in
      rw same at h
  arm_typed (a ∷ arms) o v i e h = typed_at (int_eq n a.0) a.1 (arm_found arms o n) None v (IsOfArm (arms_at us arms o) n v) i e h
      (λ f g. arm_typed arms o v i f g)

  none_at : (b : Bool) (j : ℕ) (rest : Option ℕ) (v : Val) (R : Type 0) → cond b (Some j) rest ≡ None
      → MatchBool b (IsOf (at us j) v) R → (rest ≡ None → R → ⊥)
      → ⊥
  none_at true j rest v R e h more = absurd cc
  none_at false j rest v R e h more = more e h

  pub arm_none : (arms : List (ℤ × ℕ)) (o : Option ℕ) (v : Val) → arm_found arms o n ≡ None → IsOfArm (arms_at us arms o) n v → ⊥
  arm_none [] None v e h = h
  arm_none [] (Some j) v e h = absurd cc
  arm_none (a ∷ arms) o v e h = none_at (int_eq n a.0) a.1 (arm_found arms o n) v (IsOfArm (arms_at us arms o) n v) e h
      (λ f g. arm_none arms o v f g)

  sent_at : (e : Encoding) (b : Bool) (j : ℕ) (rest : Option ℕ) (p : ℕ) (v : Val) (x : List ℕ) (i : ℕ)
      → cond b (Some j) rest ≡ Some i → (rest ≡ Some i → x ≡ send e (at us i) p v)
      → cond b (send e (at us j) p v) x ≡ send e (at us i) p v
  sent_at e true j rest p v x i is more =
      let same : j ≡ i = cc in
      rw same refl
  sent_at e false j rest p v x i is more = more is

  pub arm_sent : (e : Encoding) (arms : List (ℤ × ℕ)) (o : Option ℕ) (p : ℕ) (v : Val) (i : ℕ) → arm_found arms o n ≡ Some i
      → send_arm e (arms_at us arms o) n p v ≡ send e (at us i) p v
  unfolding send
  arm_sent e [] None p v i is = absurd cc
  arm_sent e [] (Some j) p v i is =
      let same : j ≡ i = cc in
      rw same refl
  arm_sent e (a ∷ arms) o p v i is = sent_at e (int_eq n a.0) a.1 (arm_found arms o n) p v (send_arm e (arms_at us arms o) n p v) i is
      (λ f. arm_sent e arms o p v i f)
