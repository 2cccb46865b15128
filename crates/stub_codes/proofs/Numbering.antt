-- The arm of a number stands at the place of the number among the arms of a reply's node, by induction on the arms.
use Rattle.std.proofs.Common.{◌≡◌, ◌≢◌, ◌<◌, ◌≤◌, ◌+◌, ℕ, zero, suc, ℤ, pos, Bool, true, false, List, [], ◌∷◌, length, Option, Some, None, refl, sym, ap, ◌∙◌, subst, int_eq, cond, arith}
use Rattle.std.specs.Prelude.{◌↔◌, is_some, IsTrue, option_map, slice_get, unwrap_or}
use Rattle.std.proofs.lemmas.Bool.Decides.{Decides-int_eq}
use Rattle.mint.specs.declared.node.Node.TheVariants as node
use Rattle.mint.specs.declared.node.Tag.{Tag}
use Rattle.mint.specs.Types.{Ty, void_type, choice_type, Arms, no_other, others, arm_type, Scalar, ArmsBelow}
use Rattle.mint.specs.Types as types
use Rattle.cast_stub.specs.Draft.{type_of_arm}
use Rattle.aoi.specs.Plain.{PlainRaise, PlainOperation}
use Rattle.pres.specs.Bindings.{Binding, IsBinding}
use Rattle.pres.specs.Faces.{Face, arm_types_of, type_of}
use Rattle.pres.specs.Offers.{raised, answer_of, reply_of, type_faces}
use Rattle.stub_codes.specs.Replies.{reply_type, arm_type_in, HasArm}
use Rattle.stub_codes.specs.Replies as replies
use Rattle.stub_codes.proofs.ReplyTypes.{are_the_replies}

-- ---- the arm at a place

-- the type of the arm at a place
abbrev placed_type : Arms → ℕ → Option Ty
placed_type no_other k = None
placed_type (others t) k = None
placed_type (arm_type n t arms) zero = Some t
placed_type (arm_type n t arms) (suc k) = placed_type arms k

-- where the first arm has this number, it is that of the number, and where it has another it is not
first_is : (b : Bool) (x y : Option Ty) → b ≡ true → cond b x y ≡ x
first_is true x y is = refl
first_is false x y is = absurd cc

first_not : (b : Bool) (x y : Option Ty) → b ≡ false → cond b x y ≡ y
first_not true x y is = absurd cc
first_not false x y is = refl

equal : (n m : ℕ) → n ≡ m → int_eq (pos n) (pos m) ≡ true
equal n m same = (Decides-int_eq (pos n) (pos m)).1 (ap (λ (k : ℕ). pos k) same)

unpos : (m n : ℕ) → pos m ≡ pos n → m ≡ n
unpos m n e = cc

never : (b : Bool) (n m : ℕ) → int_eq (pos n) (pos m) ≡ b → n ≢ m → b ≡ false
never true n m is other = absurd (other (unpos n m ((Decides-int_eq (pos n) (pos m)).0 is)))
never false n m is other = refl

differ : (n m : ℕ) → n ≢ m → int_eq (pos n) (pos m) ≡ false
differ n m other = never (int_eq (pos n) (pos m)) n m refl other

-- exceptions have numbers from j up
raised_placed : (fs : List Face) (rs : List PlainRaise) (j k n : ℕ) → n ≡ j + k
    → type_of_arm (arm_types_of (raised fs j rs)) (pos n) ≡ placed_type (arm_types_of (raised fs j rs)) k
raised_placed fs [] j k n is = refl
raised_placed fs (r ∷ rs) j zero n is = first_is (int_eq (pos n) (pos j)) _ _ (equal n j (omega (arith, is)))
raised_placed fs (r ∷ rs) j (suc k) n is =
    first_not (int_eq (pos n) (pos j)) _ _ (differ n j (λ (same : n ≡ j). omega (arith, is, same)))
    ∙ raised_placed fs rs (suc j) k n (omega (arith, is))

-- and the answer has number 0
reply_placed : (fs : List Face) (p : PlainOperation) (k : ℕ)
    → arm_type_in (type_of (reply_of fs p)) k
    ≡ placed_type (arm_type (pos 0) (type_of (answer_of fs p)) (arm_types_of (raised fs 1 p.raises))) k
reply_placed fs p zero = refl
reply_placed fs p (suc k) =
    first_not (int_eq (pos (suc k)) (pos 0)) _ _ (differ (suc k) 0 (λ (same : suc k ≡ 0). omega (arith, same)))
    ∙ raised_placed fs p.raises 1 k (suc k) (omega arith)

-- the arms of a node, by their places
node_placed : (us : List Ty) (arms : List (ℤ × ℕ)) (o : Option ℕ) (k : ℕ)
    → placed_type (types.arms_at us arms o) k ≡ option_map (λ (a : ℤ × ℕ). types.at us a.1) (slice_get arms k)
node_placed us [] None k = refl
node_placed us [] (Some i) k = refl
node_placed us (a ∷ arms) o zero = refl
node_placed us (a ∷ arms) o (suc k) = node_placed us arms o k

same_arms : (s r : Scalar) (x y : Arms) → choice_type s x ≡ choice_type r y → x ≡ y
same_arms s r x y e = cc

-- ---- how many arms there are

raised_few : (fs : List Face) (rs : List PlainRaise) (j k : ℕ) → IsTrue (is_some (placed_type (arm_types_of (raised fs j rs)) k))
    → k < length rs
raised_few fs [] j k there = absurd cc
raised_few fs (r ∷ rs) j zero there = omega arith
raised_few fs (r ∷ rs) j (suc k) there = let less = raised_few fs rs (suc j) k there in omega (arith, less)

reply_few : (fs : List Face) (p : PlainOperation) (k : ℕ)
    → IsTrue (is_some (placed_type (arm_type (pos 0) (type_of (answer_of fs p)) (arm_types_of (raised fs 1 p.raises))) k))
    → k ≤ length p.raises
reply_few fs p zero there = omega arith
reply_few fs p (suc k) there = let less = raised_few fs p.raises 1 k there in omega (arith, less)

-- a reply has an arm for its answer and for each of the exceptions, and no more
pub few_arms : (fs : List Face) (p : PlainOperation) (t : Ty) → t ≡ type_of (reply_of fs p) → (k : ℕ) → IsTrue (is_some (arm_type_in t k))
    → k ≤ length p.raises
few_arms fs p t same k has =
    reply_few fs p k (subst (λ (x : Option Ty). IsTrue (is_some x)) (ap (λ (s : Ty). arm_type_in s k) same ∙ reply_placed fs p k) has)

-- ---- the arms of a reply's node

module _ {A B : Type 0} (f : A → B) where
  within : (xs : List A) (k : ℕ) → IsTrue (is_some (option_map f (slice_get xs k))) → k < length xs
  within [] k there = absurd cc
  within (x ∷ xs) zero there = omega arith
  within (x ∷ xs) (suc k) there = let less = within xs k there in omega (arith, less)

  inside : (xs : List A) (k : ℕ) → k < length xs → IsTrue (is_some (option_map f (slice_get xs k)))
  inside [] k less = absurd (omega (arith, less))
  inside (x ∷ xs) zero less = refl
  inside (x ∷ xs) (suc k) less = inside xs k (omega (arith, less))

-- the arms of a node come before it
arm_before : (arms : List (ℤ × ℕ)) (id k : ℕ) (a : ℤ × ℕ) → ArmsBelow id arms → slice_get arms k ≡ Some a → a.1 < id
arm_before [] id k a below is = absurd cc
arm_before (x ∷ arms) id zero a below is =
    let same : x ≡ a = cc in
    subst (λ (y : ℤ × ℕ). y.1 < id) same below.0
arm_before (x ∷ arms) id (suc k) a below is = arm_before arms id k a below.1 is

module _ (b : Binding) (op : ℕ) (stands : IsBinding b) (h : op < length b.ops) where
  -- there is an answer
  pub answered : HasArm b op 0
  answered =
      let (i, p, is, same) = are_the_replies b op stands h in
      subst (λ (x : Option Ty). IsTrue (is_some x))
      (sym (ap (λ (s : Ty). arm_type_in s 0) same ∙ reply_placed (type_faces b.unit) p 0)) refl

  module _ (us : List Ty) (tag : Tag) (arms : List (ℤ × ℕ)) (o : Option ℕ)
      (node_is : reply_type b op ≡ types.level us (node.Choice tag arms o)) where
    -- the type of the arm of a number is that of the node at the place
    arm_is : (k : ℕ) → arm_type_in (reply_type b op) k ≡ option_map (λ (a : ℤ × ℕ). types.at us a.1) (slice_get arms k)
    arm_is k =
        let (i, p, is, same) = are_the_replies b op stands h in
        let fs = type_faces b.unit in
        let all : types.arms_at us arms o ≡ arm_type (pos 0) (type_of (answer_of fs p)) (arm_types_of (raised fs 1 p.raises)) =
        same_arms _ _ _ _ (sym node_is ∙ same) in
        ap (λ (s : Ty). arm_type_in s k) same ∙ reply_placed fs p k ∙ ap (λ (x : Arms). placed_type x k) (sym all)
        ∙ node_placed us arms o k

    -- as many arms as the node has
    pub many_arms : (k : ℕ) → HasArm b op k ↔ k < length arms
    many_arms k = (
      λ (has : HasArm b op k). within (λ (a : ℤ × ℕ). types.at us a.1) arms k
          (subst (λ (x : Option Ty). IsTrue (is_some x)) (arm_is k) has),
      λ (less : k < length arms). subst (λ (x : Option Ty). IsTrue (is_some x)) (sym (arm_is k))
          (inside (λ (a : ℤ × ℕ). types.at us a.1) arms k less),
    )

    -- the type of an arm is that of the node at its place
    pub type_there : (k : ℕ) (a : ℤ × ℕ) → slice_get arms k ≡ Some a → types.at us a.1 ≡ replies.arm_type b op k
    type_there k a found =
        sym (ap (λ (x : Option Ty). unwrap_or x void_type)
        (arm_is k ∙ ap (option_map (λ (y : ℤ × ℕ). types.at us y.1)) found))

    -- and the node comes before that of the reply
    pub node_there : (id n : ℕ) (k : ℕ) (a : ℤ × ℕ) → id < n → ArmsBelow id arms → slice_get arms k ≡ Some a → a.1 < n
    node_there id n k a most below found = let less = arm_before arms id k a below found in omega (arith, less, most)
