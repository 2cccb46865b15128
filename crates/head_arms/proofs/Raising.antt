-- What comes back from an operation has an arm for its answer and for each exception, by induction on the interfaces.
use Rattle.std.proofs.Common.{◌≡◌, ◌<◌, ◌≤◌, ◌&&◌, Bool, true, false, not, ℕ, zero, suc, ℤ, pos, List, [], ◌∷◌, ◌++◌, map, length, Option, Some, None, refl, sym, ap, ◌∙◌, subst, arith, nat_le, slice_get, slice_index_or}
use Rattle.std.specs.List.{AllByRecursion, list_all}
use Rattle.std.specs.Prelude.{if◌then◌else◌}
use Rattle.std.proofs.lemmas.Bool.{leb-true, not-false, and_parts}
use Rattle.std.proofs.lemmas.List.{map-append}
use Rattle.std.proofs.lemmas.Simd.{map-map}
use Rattle.mint.specs.declared.node.Node.{Node}
use Rattle.mint.specs.declared.node.Node.TheVariants as node
use Rattle.mint.specs.declared.node.Tag.{Tag}
use Rattle.mint.specs.Sound.{IsSound, arm_numbers, are_arms, are_tagged, is_armless, is_labelled, rise_from}
use Rattle.mint.specs.Typed.{is_scalar}
use Rattle.mint.specs.Types.{Ty, Scalar, Arms, choice_type, type_at}
use Rattle.mint.specs.Types as types
use Rattle.mint.proofs.Measuring.{sound_taken}
use Rattle.wire_def.specs.declared.encoding.Back.{Back}
use Rattle.aoi.specs.Plain.{PlainInterface, PlainOperation}
use Rattle.pres.specs.declared.ops.Op.{Op}
use Rattle.pres.specs.Bindings.{Binding, IsBinding, IsPlaced}
use Rattle.pres.specs.Faces.{Face, at, faces, type_of, arm_types_of}
use Rattle.pres.specs.Offers.{Offer, operations, offer, offers_from, offer_at, answer_of, reply_of, raised, type_faces, null_operation, gets_null}
use Rattle.pres.specs.Raises.{raises, raises_of, source, sources, sources_of}
use Rattle.pres.proofs.Facing.{type_at-face}
use Rattle.head_arms.specs.Raised.{exceptions}
use Rattle.pres.proofs.SoundUnit.{raised_count}

-- ---- the operations that have messages

-- an operation as its messages are made
abbrev pub made_of : Option PlainOperation → PlainOperation
made_of None = null_operation
made_of (Some p) = p

pub raises_made : (s : Option PlainOperation) → raises_of s ≡ (made_of s).raises
raises_made None = refl
raises_made (Some p) = refl

own_made : (ops : List PlainOperation) → map made_of (map (λ (p : PlainOperation). Some p) ops) ≡ ops
own_made [] = refl
own_made (p ∷ ops) = ap (λ (l : List PlainOperation). p ∷ l) (own_made ops)

gotten_made : (t : Bool) → map made_of (if t then None ∷ [] else []) ≡ (if t then null_operation ∷ [] else [])
gotten_made true = refl
gotten_made false = refl

pub all_made_of : (k : Back) (i : PlainInterface) → map made_of (sources_of k i) ≡ operations k i
all_made_of k i =
    map-append made_of (map (λ (p : PlainOperation). Some p) i.ops) (if gets_null k i then None ∷ [] else [])
    ∙ ap (λ (l : List PlainOperation). l ++ map made_of (if gets_null k i then None ∷ [] else [])) (own_made i.ops)
    ∙ ap (λ (l : List PlainOperation). i.ops ++ l) (gotten_made (gets_null k i))

-- ---- what comes back from them

abbrev reply_in : Offer → Face
reply_in x = x.reply

abbrev reply_from : List Face → Option PlainOperation → Face
reply_from fs s = reply_of fs (made_of s)

first_replies : (fs : List Face) (k : Back) (n : ℕ) (i : PlainInterface)
    → map reply_in (map (offer fs k n) (operations k i)) ≡ map (reply_from fs) (sources_of k i)
first_replies fs k n i = map-map reply_in (offer fs k n) (operations k i) ∙ ap (map (reply_of fs)) (sym (all_made_of k i))
    ∙ map-map (reply_of fs) made_of (sources_of k i)

replies : (fs : List Face) (k : Back) (n : ℕ) (is : List PlainInterface)
    → map reply_in (offers_from fs k n is) ≡ map (reply_from fs) (sources k is)
replies fs k n [] = refl
replies fs k n (i ∷ is) =
    map-append reply_in (map (offer fs k n) (operations k i)) (offers_from fs k (suc n) is)
    ∙ ap (λ (l : List Face). l ++ map reply_in (offers_from fs k (suc n) is)) (first_replies fs k n i)
    ∙ ap (λ (l : List Face). map (reply_from fs) (sources_of k i) ++ l) (replies fs k (suc n) is)
    ∙ sym (map-append (reply_from fs) (sources_of k i) (sources k is))

-- the number of the node of a reply
abbrev pub reply_at : List Op → ℕ → ℕ
reply_at os n = slice_index_or (map (λ (o : Op). o.reply) os) n 0

face_there : (gs : List Face) (os : List Op) (n : ℕ) → n < length os
    → slice_get (map reply_in (map (offer_at gs) os)) n ≡ Some (at gs (reply_at os n))
face_there gs [] n h = absurd (omega (arith, h))
face_there gs (o ∷ os) zero h = refl
face_there gs (o ∷ os) (suc n) h = face_there gs os n (omega (arith, h))

pub there : {A B : Type 0} (f : A → B) (xs : List A) (n : ℕ) (d : A) (y : B) → slice_get (map f xs) n ≡ Some y
    → f (slice_index_or xs n d) ≡ y
there f [] n d y e = absurd cc
there f (x ∷ xs) zero d y e = cc
there f (x ∷ xs) (suc n) d y e = there f xs n d y e

placed : (b : Binding) (os : List Op) (n : ℕ) → AllByRecursion (IsPlaced b) os → n < length os → reply_at os n < length b.nodes
placed b [] n all h = absurd (omega (arith, h))
placed b (o ∷ os) zero all h = all.0.reply
placed b (o ∷ os) (suc n) all h = placed b os n all.1 (omega (arith, h))

-- ---- the arms of its node

-- an answer, and exceptions
abbrev arms_of : List Face → Option PlainOperation → Arms
arms_of fs s = types.arm_type (pos 0) (type_of (answer_of fs (made_of s))) (arm_types_of (raised fs 1 (made_of s).raises))

same_arms : (s r : Scalar) (x y : Arms) → choice_type s x ≡ choice_type r y → x ≡ y
same_arms s r x y e = cc

node_count : (us : List Ty) (arms : List (ℤ × ℕ)) (o : Option ℕ) → length (arm_numbers (types.arms_at us arms o)) ≡ length arms
node_count us [] None = refl
node_count us [] (Some i) = refl
node_count us (a ∷ arms) o = ap suc (node_count us arms o)

-- a sound choice has few arms
few : (s : Scalar) (arms : Arms) → IsSound (choice_type s arms) → length (arm_numbers arms) ≤ 4096
few s arms sound =
    let ns : List ℤ = arm_numbers arms in
    let a = and_parts (is_labelled s) (are_arms s arms) (not-false _ (sound_taken (choice_type s arms) sound).labelled) in
    let b = and_parts (are_tagged s ns) (not (is_armless arms)) a.1 in
    let c = and_parts (nat_le (length ns) 4096) (rise_from None ns && list_all (is_scalar s) ns) b.0 in
    leb-true (length ns) 4096 c.0

module _ (b : Binding) (op : ℕ) (stands : IsBinding b) (h : op < length b.ops) where
  -- the node of the reply is a choice of the answer and of the exceptions
  reply_is : (s : Scalar) × (type_at b.nodes (reply_at b.ops op) ≡ choice_type s (arms_of (type_faces b.unit) (source b op)))
  reply_is =
      let fs : List Face = type_faces b.unit in
      let all = ap (map reply_in) stands.offered ∙ replies fs b.back 0 b.unit.interfaces in
      let here = ap (λ (l : List Face). slice_get l op) (sym all) ∙ face_there (faces b.nodes b.shapes) b.ops op h in
      let same : reply_from fs (source b op) ≡ at (faces b.nodes b.shapes) (reply_at b.ops op) =
      there (reply_from fs) (sources b.back b.unit.interfaces) op None (at (faces b.nodes b.shapes) (reply_at b.ops op)) here in
      (_, type_at-face b.nodes b.shapes (reply_at b.ops op) stands.named ∙ ap type_of (sym same))

  count_is : (s : Scalar) (arms : Arms) → type_at b.nodes (reply_at b.ops op) ≡ choice_type s arms
      → length (arm_numbers arms) ≡ suc (exceptions b op)
  count_is s arms is =
      let same : arms ≡ arms_of (type_faces b.unit) (source b op) = same_arms _ _ _ _ (sym is ∙ reply_is.1) in
      ap (λ (x : Arms). length (arm_numbers x)) same
      ∙ ap suc (raised_count (type_faces b.unit) 1 (made_of (source b op)).raises ∙ ap length (sym (raises_made (source b op))))

-- no other node has such a type
only_choice : (n : Node) (us : List Ty) (s : Scalar) (arms : Arms) → types.level us n ≡ choice_type s arms
    → ((tag : Tag) (as_ : List (ℤ × ℕ)) (o : Option ℕ) → n ≡ node.Choice tag as_ o → ⊥) → ⊥
only_choice node.Void us s arms e other = cc
only_choice (node.Num k) us s arms e other = cc
only_choice (node.Enum ns) us s arms e other = cc
only_choice (node.Text c) us s arms e other = cc
only_choice (node.Row k c) us s arms e other = cc
only_choice (node.Group ids) us s arms e other = cc
only_choice (node.Items i c) us s arms e other = cc
only_choice (node.Choice tag as_ o) us s arms e other = other tag as_ o refl
only_choice (node.Maybe i) us s arms e other = cc

there_is : {A : Type 0} (xs : List A) (n : ℕ) → n < length xs → None ≡ slice_get xs n → ⊥
there_is [] n h e = absurd (omega (arith, h))
there_is (x ∷ xs) zero h e = cc
there_is (x ∷ xs) (suc n) h e = there_is xs n (omega (arith, h)) e

module _ (b : Binding) (op r : ℕ) (stands : IsBinding b) (h : op < length b.ops) (is : r ≡ reply_at b.ops op) where
  -- the node of the reply is there
  pub reply_there : None ≡ slice_get b.nodes r → ⊥
  reply_there e =
      let less = placed b b.ops op stands.placed h in
      there_is b.nodes r (omega (arith, less, is)) e

  -- and is a choice
  pub reply_chooses : (n : Node) (us : List Ty) → type_at b.nodes r ≡ types.level us n
      → ((tag : Tag) (arms : List (ℤ × ℕ)) (o : Option ℕ) → n ≡ node.Choice tag arms o → ⊥) → ⊥
  reply_chooses n us level other =
      let same : types.level us n ≡ type_at b.nodes (reply_at b.ops op) = sym level ∙ ap (type_at b.nodes) is in
      only_choice n us (reply_is b op stands h).0 (arms_of (type_faces b.unit) (source b op)) (same ∙ (reply_is b op stands h).1) other

  -- with one arm more than exceptions
  pub many_arms : (n : Node) (us : List Ty) (tag : Tag) (arms : List (ℤ × ℕ)) (o : Option ℕ) → type_at b.nodes r ≡ types.level us n
      → n ≡ node.Choice tag arms o → length arms ≡ suc (exceptions b op)
  many_arms n us tag arms o level choice =
      let same : type_at b.nodes (reply_at b.ops op) ≡ types.level us (node.Choice tag arms o) =
      ap (type_at b.nodes) (sym is) ∙ level ∙ ap (types.level us) choice in
      sym (node_count us arms o) ∙ count_is b op stands h (types.scalar_of tag) (types.arms_at us arms o) same

  -- and no more than a choice may have
  pub few_arms : (n : Node) (us : List Ty) (tag : Tag) (arms : List (ℤ × ℕ)) (o : Option ℕ) → type_at b.nodes r ≡ types.level us n
      → n ≡ node.Choice tag arms o → IsSound (type_at b.nodes r) → length arms ≤ 4096
  few_arms n us tag arms o level choice sound =
      let most = few (types.scalar_of tag) (types.arms_at us arms o) (subst IsSound (level ∙ ap (types.level us) choice) sound) in
      omega (arith, most, node_count us arms o)
