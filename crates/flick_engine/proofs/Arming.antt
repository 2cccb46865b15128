-- The arms of what comes back from an operation, by induction on the arms.
use Rattle.std.proofs.Common.{◌≡◌, ◌≢◌, ◌+◌, ◌<◌, ◌≤◌, ℕ, suc, ℤ, pos, negsuc, Bool, true, false, List, [], ◌∷◌, length, Option, Some, None, refl, sym, ap, ◌∙◌, subst, int_eq, cond, arith}
use Rattle.std.specs.Prelude.{is_some, IsTrue, unwrap_or, MatchBool, Result, Ok, Err, OnErr, OnOk}
use Rattle.std.proofs.lemmas.Bool.{ltb-true, lt-ltb}
use Rattle.std.proofs.lemmas.Bool.Decides.{Decides-int_eq}
use Rattle.mint.specs.declared.kind.Kind.TheVariants as kind
use Rattle.mint.specs.Typed.{IsOf, IsOfArm, IsWellTyped}
use Rattle.mint.specs.Types.{Ty, void_type, choice_type, Arms, no_other, others, arm_type, number}
use Rattle.mint.specs.Values.{Val, arm, arm_in, weight}
use Rattle.mint.specs.Kinds.{in_range}
use Rattle.cast_stub.specs.Draft.{type_of_arm}
use Rattle.aoi.specs.Plain.{PlainRaise, PlainOperation}
use Rattle.pres.specs.Faces.{Face, arm_types_of, type_of}
use Rattle.pres.specs.Offers.{raised, reply_of}
use Rattle.stub_machine.specs.declared.errors.SendErr.{SendErr}
use Rattle.stub_machine.specs.declared.errors.SendErr.TheVariants as send
use Rattle.stub_codes.specs.Stubs.{Coded, IsCoveredReply, IsSparingReply}
use Rattle.wire_def.specs.declared.head.Head.{Head}
use Rattle.flick_engine.specs.declared.errors.MarshalErr.{MarshalErr}
use Rattle.flick_engine.specs.declared.errors.MarshalErr.TheVariants as marshal
use Rattle.flick_engine.specs.Costs.{IsCoveredAnswer, IsSparingAnswer}
use Rattle.flick_engine.specs.Messages.{ended}
use Rattle.flick_engine.specs.Replies.{IsChoice, arm_type_in}

-- ---- a message is too long where its code is

ok_still : (r : Result (Unit {0}) SendErr) (P : Type 0) → OnOk r P → OnOk (ended r) P
ok_still (Ok x) P h = h
ok_still (Err why) P h = tt

err_still : (r : Result (Unit {0}) SendErr) (P : Type 0) → OnErr r P → OnErr (ended r) P
err_still (Ok x) P h = tt
err_still (Err why) P h = h

both_ok : (r : Result (Unit {0}) SendErr) (P Q : Type 0) → OnOk r P → OnOk r Q → OnOk r (P × Q)
both_ok (Ok x) P Q p q = (p, q)
both_ok (Err why) P Q p q = tt

long_still : (r : Result (Unit {0}) SendErr) → ended r ≡ Err marshal.Long → r ≡ Err send.Long
long_still (Ok x) e = absurd (cc e)
long_still (Err send.Long) e = refl
long_still (Err send.NoMemory) e = absurd (cc e)

module _ (r : Result (Unit {0}) SendErr) (q : Result (Unit {0}) MarshalErr) (is : q ≡ ended r) where
  pub ok_so : (P : Type 0) → OnOk r P → OnOk q P
  ok_so P h = subst (λ (z : Result (Unit {0}) MarshalErr). OnOk z P) (sym is) (ok_still r P h)

  pub both_so : (P Q : Type 0) → OnOk r P → OnOk r Q → OnOk q (P × Q)
  both_so P Q a b = ok_so (P × Q) (both_ok r P Q a b)

  pub err_so : (P : Type 0) → OnErr r P → OnErr q P
  err_so P h = subst (λ (z : Result (Unit {0}) MarshalErr). OnErr z P) (sym is) (err_still r P h)

  pub long_so : q ≡ Err marshal.Long → r ≡ Err send.Long
  long_so e = long_still r (sym is ∙ e)

-- ---- the type of an arm

-- a value of an arm is one of its type, and the other way round
module _ (n : ℤ) (v : Val) where
  typed_at : (b : Bool) (t : Ty) (x : Option Ty) (R : Type 0) → MatchBool b (IsOf t v) R → (R → (u : Ty) × (x ≡ Some u) × IsOf u v)
      → (u : Ty) × (cond b (Some t) x ≡ Some u) × IsOf u v
  typed_at true t x R h more = (t, refl, h)
  typed_at false t x R h more = more h

  pub arm_is : (arms : Arms) → IsOfArm arms n v → (u : Ty) × (type_of_arm arms n ≡ Some u) × IsOf u v
  arm_is no_other h = absurd h
  arm_is (others t) h = (t, refl, h)
  arm_is (arm_type m t arms) h = typed_at (int_eq n m) t (type_of_arm arms n) (IsOfArm arms n v) h (λ f. arm_is arms f)

  of_at : (b : Bool) (t u : Ty) (x : Option Ty) (R : Type 0) → cond b (Some t) x ≡ Some u → IsOf u v → (x ≡ Some u → R)
      → MatchBool b (IsOf t v) R
  of_at true t u x R is h more =
      let same : u ≡ t = cc in
      subst (λ (s : Ty). IsOf s v) same h
  of_at false t u x R is h more = more is

  pub is_arm : (arms : Arms) (u : Ty) → type_of_arm arms n ≡ Some u → IsOf u v → IsOfArm arms n v
  is_arm no_other u is h = absurd cc
  is_arm (others t) u is h =
      let same : u ≡ t = cc in
      subst (λ (s : Ty). IsOf s v) same h
  is_arm (arm_type m t arms) u is h = of_at (int_eq n m) t u (type_of_arm arms n) (IsOfArm arms n v) is h (λ f. is_arm arms u f h)

-- ---- what comes back from an operation

pub reply_choice : (fs : List Face) (p : PlainOperation) → IsChoice (type_of (reply_of fs p))
reply_choice fs p = (_, refl)

-- the type of an arm that there is
pub some_type : (x : Option Ty) → IsTrue (is_some x) → x ≡ Some (unwrap_or x void_type)
some_type None h = absurd cc
some_type (Some t) h = refl

pub type_some : (x : Option Ty) (t : Ty) → x ≡ Some t → (unwrap_or x void_type ≡ t) × IsTrue (is_some x)
type_some None t e = absurd cc
type_some (Some u) t e = (cc, refl)

-- ---- a reply's value

-- an arm of the reply, its number a word, and a value of it
pub record IsArmOf (t : Ty) (v : Val) : Type 0 where
  pub number : ℕ
  pub value : Val
  pub is : v ≡ arm (pos number) value
  pub fits : number < 4294967296
  pub type : Ty
  pub there : arm_type_in t number ≡ Some type
  pub typed : IsWellTyped type value

arm_of_choice : (arms : Arms) (v : Val) → IsWellTyped (choice_type (number kind.U32) arms) v
    → IsArmOf (choice_type (number kind.U32) arms) v
arm_of_choice arms (arm (pos k) w) typed =
    let (u, there, of) = arm_is (pos k) w arms typed.is_of.1 in
    record {
      number = k;
      value = w;
      is = refl;
      fits = ltb-true k 4294967296 typed.is_of.0;
      type = u;
      there = there;
      typed = record { is_of = of; light = omega (arith, typed.light) };
    }
arm_of_choice arms (arm (negsuc k) w) typed = absurd (omega (arith, ltb-true k 0 typed.is_of.0))
arm_of_choice arms _ typed = absurd typed.is_of

pub reply_arm : (t : Ty) (v : Val) → IsChoice t → IsWellTyped t v → IsArmOf t v
reply_arm t v (arms, is) typed =
    subst (λ (s : Ty). IsArmOf s v) (sym is) (arm_of_choice arms v (subst (λ (s : Ty). IsWellTyped s v) is typed))

choice_of_arm : (arms : Arms) (k : ℕ) (u : Ty) (w : Val) → k < 4294967296 → type_of_arm arms (pos k) ≡ Some u → IsOf u w
    → weight w ≤ 138412032
    → IsWellTyped (choice_type (number kind.U32) arms) (arm (pos k) w)
choice_of_arm arms k u w fits there of light =
    record { is_of = (lt-ltb k 4294967296 fits, is_arm (pos k) w arms u there of); light = omega (arith, light) }

-- a light value of an arm of the reply is a value of the reply
pub arm_reply : (t : Ty) (k : ℕ) (u : Ty) (w : Val) → IsChoice t → k < 4294967296 → arm_type_in t k ≡ Some u → IsOf u w
    → weight w ≤ 138412032 → IsWellTyped t (arm (pos k) w)
arm_reply t k u w (arms, is) fits there of light =
    subst
    (λ (s : Ty).
    IsWellTyped s (arm (pos k) w)) (sym is)
    (choice_of_arm arms k u w fits (ap (λ (s : Ty). arm_type_in s k) (sym is) ∙ there) of light)

-- ---- the arms that there are

not_same : (n k : ℕ) → n ≡ k → int_eq (pos n) (pos k) ≡ false → ⊥
not_same n k same is =
    let one : int_eq (pos n) (pos k) ≡ true = (Decides-int_eq (pos n) (pos k)).1 (ap (λ (m : ℕ). pos m) same) in
    cc

arm_step : (b : Bool) (n k : ℕ) (t : Ty) (x : Option Ty) → int_eq (pos n) (pos k) ≡ b → (n ≢ k → IsTrue (is_some x))
    → IsTrue (is_some (cond b (Some t) x))
arm_step true n k t x is more = refl
arm_step false n k t x is more = more (λ same. not_same n k same is)

-- the k-th exception has an arm, where there are so many
raised_there : (fs : List Face) (rs : List PlainRaise) (k n : ℕ) → k ≤ n → n < k + length rs
    → IsTrue (is_some (type_of_arm (arm_types_of (raised fs k rs)) (pos n)))
raised_there fs [] k n least most = absurd (omega (arith, least, most))
raised_there fs (r ∷ rs) k n least most =
    arm_step (int_eq (pos n) (pos k)) n k _ _ refl
    (λ other. raised_there fs rs (suc k) n (omega (arith, least, other)) (omega (arith, most)))

pub arm_there : (fs : List Face) (p : PlainOperation) (k : ℕ) → k ≤ length p.raises
    → IsTrue (is_some (arm_type_in (type_of (reply_of fs p)) k))
arm_there fs p k most =
    arm_step (int_eq (pos k) (pos 0)) k 0 _ _ refl (λ other. raised_there fs p.raises 1 k (omega (arith, other)) (omega (arith, most)))

-- ---- the arm of a value that is a reply's

unsome : (x y : ℤ × Val) → Some x ≡ Some y → x ≡ y
unsome x y e = cc

none_some : (x : ℤ × Val) → None ≡ Some x → ⊥
none_some x e = absurd cc

unpos : (m k : ℕ) → pos m ≡ pos k → m ≡ k
unpos m k e = cc

arm_value : (t : Ty) (v : Val) (n : ℤ) (w : Val) → Some (n, w) ≡ arm_in v → (a : IsArmOf t v) → (n ≡ pos a.number) × (w ≡ a.value)
arm_value t v n w e a =
    let same = unsome (n, w) (pos a.number, a.value) (e ∙ ap arm_in a.is) in
    (ap (λ (q : ℤ × Val). q.0) same, ap (λ (q : ℤ × Val). q.1) same)

pub no_arm : (t : Ty) (v : Val) → IsChoice t → IsWellTyped t v → None ≡ arm_in v → ⊥
no_arm t v choice typed e =
    let a = reply_arm t v choice typed in
    none_some (pos a.number, a.value) (e ∙ ap arm_in a.is)

pub no_word : (t : Ty) (v : Val) (n : ℤ) (w : Val) → IsChoice t → IsWellTyped t v → Some (n, w) ≡ arm_in v → in_range kind.U32 n ≡ false → ⊥
no_word t v n w choice typed e far =
    let a = reply_arm t v choice typed in
    let near : in_range kind.U32 n ≡ true = ap (in_range kind.U32) (arm_value t v n w e a).0 ∙ lt-ltb a.number 4294967296 a.fits in
    absurd cc

-- the arm of a reply's value: the reply has it, and the value within is of its type
pub record IsPut (t : Ty) (k : ℕ) (w v : Val) : Type 0 where
  pub there : IsTrue (is_some (arm_type_in t k))
  pub typed : IsWellTyped (unwrap_or (arm_type_in t k) void_type) w
  pub is : v ≡ arm (pos k) w

is_put : (t : Ty) (v : Val) (a : IsArmOf t v) (k : ℕ) (w : Val) → a.number ≡ k → w ≡ a.value → IsPut t k w v
is_put t v a k w same is =
    let there : arm_type_in t k ≡ Some a.type = ap (arm_type_in t) (sym same) ∙ a.there in
    let some = type_some (arm_type_in t k) a.type there in
    record {
      there = some.1;
      typed =
          subst (λ (u : Ty). IsWellTyped u w) (sym some.0) (subst (λ (x : Val). IsWellTyped a.type x) (sym is) a.typed);
      is = a.is ∙ ap (λ (n : ℕ). arm (pos n) a.value) same ∙ ap (arm (pos k)) (sym is);
    }

pub put_arm : (t : Ty) (v : Val) (n : ℤ) (k : ℕ) (w : Val) → IsChoice t → IsWellTyped t v → Some (n, w) ≡ arm_in v → n ≡ pos k
    → IsPut t k w v
put_arm t v n k w choice typed e is =
    let a = reply_arm t v choice typed in
    let (same, inner) = arm_value t v n w e a in
    let numbers : pos a.number ≡ pos k = sym same ∙ is in
    is_put t v a k w (unpos a.number k numbers) inner

-- ---- what is said of the code of the arm that a value is of

pub covered-as : (x y : Coded) (m op k : ℕ) (h : Head) (v w : Val) → y ≡ x → v ≡ arm (pos k) w → IsCoveredReply y op k m h w
    → IsCoveredAnswer x m op h v
covered-as x y m op k h v w same is covered =
    subst (λ (z : Val). IsCoveredAnswer x m op h z) (sym is) (subst (λ (c : Coded). IsCoveredReply c op k m h w) same covered)

pub sparing-as : (x y : Coded) (m op k : ℕ) (h : Head) (v w : Val) → y ≡ x → v ≡ arm (pos k) w → IsSparingReply y op k m h w
    → IsSparingAnswer x m op h v
sparing-as x y m op k h v w same is sparing =
    subst (λ (z : Val). IsSparingAnswer x m op h z) (sym is) (subst (λ (c : Coded). IsSparingReply c op k m h w) same sparing)
