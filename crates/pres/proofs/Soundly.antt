-- The nodes that sound types make are regular, and their blank values weigh something, by induction on the type.
use Rattle.std.proofs.Common.{◌≡◌, Bool, true, false, ◌&&◌, ℕ, zero, suc, ◌<◌, ◌≤◌, ℤ, List, [], ◌∷◌, length, take, nat_lt, nat_le, if◌then◌else◌, Option, None, refl, sym, ap, ◌∙◌, subst, arith, true≢false, slice_index_or}
use Rattle.std.specs.Prelude.{int_lt}
use Rattle.std.specs.List.{list_all, list_any}
use Rattle.std.specs.Ordering.{int_eq}
use Rattle.std.proofs.lemmas.Bool.{ltb-true, and_parts}
use Rattle.std.proofs.lemmas.List.{take-take}
use Rattle.mint.specs.declared.kind.Kind.TheVariants as kind
use Rattle.mint.specs.Kinds.{in_range}
use Rattle.mint.specs.Typed.{is_scalar}
use Rattle.mint.specs.Blank.{blank}
use Rattle.mint.specs.Values.{weight}
use Rattle.mint.specs.Types as mint
use Rattle.mint.specs.Types.{text}
use Rattle.mint.specs.Sound.{is_labelled, is_armless, arm_numbers, rise_from}
use Rattle.aoi.specs.Shapes as aoi
use Rattle.aoi.specs.Sound.{are_distinct, are_different, names_of, numbers_of, has_member, has_arm, name_in, unfolded, is_tag, is_of_tag, is_some_count, is_sound_enum, is_sound_union, or_void, is_sound_type, are_sound, are_sound_arms}
use Rattle.pres.specs.Faces.{ItemList, Sign, number, item, Face, nothing, choice, Arms, no_other, other, arm, at, labels_of, scalar_of, type_of, arm_types_of}
use Rattle.pres.specs.Made.{made, made_inside, made_after}
use Rattle.pres.specs.Offers.{sign_in, put_arm, face_of, arms_of}
use Rattle.pres.specs.Regular.{is_ranged, IsRegular, AreRegular}
use Rattle.pres.proofs.Measures.{at_take}
use Rattle.pres.proofs.Rises.{same_number, labels_there, put_number, put_numbers, numbers_longer, numbers_all, numbers_rise}
use Rattle.pres.proofs.Regular.{regular_both, regular_one, enum_labels, enum_regular, open_text, array_regular, array_weighs}

-- ---- choices

put_arm-numbers : (n : ℤ) (f : Face) (arms : Arms)
    → arm_numbers (arm_types_of (put_arm n f arms)) ≡ put_number n (arm_numbers (arm_types_of arms))
put_arm-numbers n f no_other = refl
put_arm-numbers n f (other g) = refl
put_arm-numbers n f (arm m g arms) = by (int_lt n m) refl (put_arm-numbers n f arms) where
  by : (t : Bool) → int_lt n m ≡ t → arm_numbers (arm_types_of (put_arm n f arms)) ≡ put_number n (arm_numbers (arm_types_of arms))
      → arm_numbers (arm_types_of (put_arm n f (arm m g arms))) ≡ put_number n (arm_numbers (arm_types_of (arm m g arms)))
  by true e ih = rw e refl
  by false e ih = rw e (ap (λ z. m ∷ z) ih)

arms_numbers : (fs : List Face) (arms : aoi.Arms) → arm_numbers (arm_types_of (arms_of fs arms)) ≡ put_numbers (numbers_of arms)
arms_numbers fs aoi.no_default = refl
arms_numbers fs (aoi.default s) = refl
arms_numbers fs (aoi.arm n s arms) = put_arm-numbers n (face_of fs s) (arms_of fs arms) ∙ ap (put_number n) (arms_numbers fs arms)

put_arm-armed : (n : ℤ) (f : Face) (arms : Arms) → is_armless (arm_types_of (put_arm n f arms)) ≡ false
put_arm-armed n f no_other = refl
put_arm-armed n f (other g) = refl
put_arm-armed n f (arm m g arms) = by (int_lt n m) where
  by : (t : Bool) → is_armless (arm_types_of (if t then arm n f (arm m g arms) else arm m g (put_arm n f arms))) ≡ false
  by true = refl
  by false = refl

armed : (fs : List Face) (arms : aoi.Arms) → has_arm arms ≡ true → is_armless (arm_types_of (arms_of fs arms)) ≡ false
armed fs aoi.no_default h = absurd (true≢false (sym h))
armed fs (aoi.default s) h = refl
armed fs (aoi.arm n s arms) h = put_arm-armed n (face_of fs s) (arms_of fs arms)

arm_weighs : (s : Sign) (arms : Arms) → is_armless (arm_types_of arms) ≡ false → 1 ≤ weight (blank (type_of (choice s arms)))
arm_weighs s no_other h = absurd (true≢false h)
arm_weighs s (other f) h = omega arith
arm_weighs s (arm n f arms) h = omega arith

-- what is in a list of numbers in range is in range
ranged_in : (ls : List ℤ) (n : ℤ) → list_all (in_range kind.I32) ls ≡ true → list_any (λ l. int_eq l n) ls ≡ true
    → in_range kind.I32 n ≡ true
ranged_in [] n a h = absurd (true≢false (sym h))
ranged_in (l ∷ ls) n a h = by (int_eq l n) refl (and_parts (in_range kind.I32 l) _ a) (ranged_in ls n) where
  by : (t : Bool) → int_eq l n ≡ t → (in_range kind.I32 l ≡ true) × (list_all (in_range kind.I32) ls ≡ true)
      → (list_all (in_range kind.I32) ls ≡ true
      → list_any (λ l. int_eq l n) ls ≡ true → in_range kind.I32 n ≡ true) → in_range kind.I32 n ≡ true
  by true e p ih = subst (λ z. in_range kind.I32 z ≡ true) (same_number l n e) p.0
  by false e p ih = ih p.1 (rw e at h)

-- the sign that a tag stands for
abbrev tag_sign : aoi.Shape → Sign
tag_sign (aoi.number k) = number k
tag_sign (aoi.enumeration items) = item items
tag_sign _ = number kind.U32

all_of : (tag : aoi.Shape) (ns : List ℤ) → is_tag tag ≡ true → is_labelled (scalar_of (tag_sign tag)) ≡ true
    → list_all (is_of_tag tag) ns ≡ true
    → list_all (is_scalar (scalar_of (tag_sign tag))) ns ≡ true
all_of tag [] t l h = refl
all_of (aoi.number k) (n ∷ ns) t l h = let p = and_parts (in_range k n) _ h in rw (p.0, all_of (aoi.number k) ns t l p.1) refl
all_of (aoi.enumeration items) (n ∷ ns) t l h =
    let p = and_parts (list_any (λ i. int_eq i.1 n) items) _ h in
    let there : list_any (λ m. int_eq m n) (labels_of items) ≡ true = labels_there items n p.0 in
    let range : in_range kind.I32 n ≡ true =
    ranged_in (labels_of items) n ((and_parts (list_all (in_range kind.I32) (labels_of items)) _ l).0)
    there in
    rw (range, there, all_of (aoi.enumeration items) ns t l p.1) refl
all_of aoi.void (n ∷ ns) t l h = absurd (true≢false (sym t))
all_of (aoi.text c) (n ∷ ns) t l h = absurd (true≢false (sym t))
all_of (aoi.array s c) (n ∷ ns) t l h = absurd (true≢false (sym t))
all_of (aoi.structure ms) (n ∷ ns) t l h = absurd (true≢false (sym t))
all_of (aoi.choice s arms) (n ∷ ns) t l h = absurd (true≢false (sym t))
all_of (aoi.optional s) (n ∷ ns) t l h = absurd (true≢false (sym t))
all_of (aoi.named k) (n ∷ ns) t l h = absurd (true≢false (sym t))

tag_labelled : (tag : aoi.Shape) (arms : mint.Arms)
    → (aoi_sound : (items : ItemList) → tag ≡ aoi.enumeration items → is_sound_enum items ≡ true)
    → is_ranged (mint.choice_type (scalar_of (tag_sign tag)) arms) ≡ true
    → is_labelled (scalar_of (tag_sign tag)) ≡ true
tag_labelled (aoi.number k) arms s r = refl
tag_labelled (aoi.enumeration items) arms s r = enum_labels items (s items refl) r
tag_labelled aoi.void arms s r = refl
tag_labelled (aoi.text c) arms s r = refl
tag_labelled (aoi.array t c) arms s r = refl
tag_labelled (aoi.structure ms) arms s r = refl
tag_labelled (aoi.choice t others_) arms s r = refl
tag_labelled (aoi.optional t) arms s r = refl
tag_labelled (aoi.named k) arms s r = refl

choice_regular : (fs : List Face) (tag : aoi.Shape) (arms : aoi.Arms)
    → ((items : ItemList) → tag ≡ aoi.enumeration items → is_sound_enum items ≡ true) → is_sound_union tag arms ≡ true
    → IsRegular (type_of (choice (tag_sign tag) (arms_of fs arms)))
choice_regular fs tag arms enums sound =
    let ns : List ℤ = numbers_of arms in
    let x = and_parts (((is_tag tag && has_arm arms) && nat_le (length ns) 4096) && list_all (is_of_tag tag) ns) (are_different ns) sound in
    let y = and_parts ((is_tag tag && has_arm arms) && nat_le (length ns) 4096) (list_all (is_of_tag tag) ns) x.0 in
    let z = and_parts (is_tag tag && has_arm arms) (nat_le (length ns) 4096) y.0 in
    let w = and_parts (is_tag tag) (has_arm arms) z.0 in
    let listed = arms_numbers fs arms in
    let few : nat_le (length (put_numbers ns)) 4096 ≡ true = rw (numbers_longer ns) z.1 in
    let rise : rise_from None (put_numbers ns) ≡ true = numbers_rise ns x.1 in
    let there : is_armless (arm_types_of (arms_of fs arms)) ≡ false = armed fs arms w.1 in
    record {
      fit = refl;
      full = refl;
      labelled = λ r.
          let labels = tag_labelled tag (arm_types_of (arms_of fs arms)) enums r in
          let all : list_all (is_scalar (scalar_of (tag_sign tag))) (put_numbers ns) ≡ true = numbers_all _ ns
          ∙ all_of tag ns w.0 labels y.1 in
          rw (labels, listed, few, rise, all, there) refl;
    }

-- ---- types

-- types before a limit, each sound over those before it, and what they stand for
pub record Standing (ss : List aoi.Shape) (fs : List Face) (l : ℕ) : Type 0 where
  pub sound : (k : ℕ) → k < l → is_sound_type ss k (slice_index_or ss k aoi.void) ≡ true
  pub named : (k : ℕ) → k < l → at fs k ≡ face_of (take k fs) (slice_index_or ss k aoi.void)
  pub weigh : (k : ℕ) → k < l → 1 ≤ weight (blank (type_of (at fs k)))

own_sign : (gs : List Face) (s : aoi.Shape) → is_tag s ≡ true → sign_in (face_of gs s) ≡ tag_sign s
own_sign gs (aoi.number k) t = refl
own_sign gs (aoi.enumeration items) t = refl
own_sign gs aoi.void t = absurd (true≢false (sym t))
own_sign gs (aoi.text c) t = absurd (true≢false (sym t))
own_sign gs (aoi.array s c) t = absurd (true≢false (sym t))
own_sign gs (aoi.structure ms) t = absurd (true≢false (sym t))
own_sign gs (aoi.choice s arms) t = absurd (true≢false (sym t))
own_sign gs (aoi.optional s) t = absurd (true≢false (sym t))
own_sign gs (aoi.named k) t = absurd (true≢false (sym t))

-- what follows names, once there is one or none
sign_follows : (n : ℕ) (ss : List aoi.Shape) (gs : List Face) (l : ℕ) (s : aoi.Shape) (o : Option ℕ) → name_in s ≡ o
    → ((k : ℕ) → k < l → at gs k ≡ face_of (take k gs) (slice_index_or ss k aoi.void))
    → ((k : ℕ) → k < l → is_tag (unfolded n ss k (slice_index_or ss k aoi.void)) ≡ true
    → sign_in (face_of (take k gs) (slice_index_or ss k aoi.void)) ≡ tag_sign (unfolded n ss k (slice_index_or ss k aoi.void)))
    → is_tag (unfolded (suc n) ss l s) ≡ true
    → sign_in (face_of gs s) ≡ tag_sign (unfolded (suc n) ss l s)
sign_follows n ss gs l (aoi.named k) o is named ih t = by (nat_lt k l) refl where
  by : (b : Bool) → nat_lt k l ≡ b → sign_in (at gs k)
      ≡ tag_sign (if nat_lt k l then unfolded n ss k (slice_index_or ss k aoi.void) else aoi.named k)
  by true e = let lt : k < l = ltb-true k l e in rw e (ap sign_in (named k lt) ∙ ih k lt (rw e at t))
  by false e = absurd (true≢false (sym (rw e at t)))
sign_follows n ss gs l aoi.void o is named ih t = own_sign gs aoi.void t
sign_follows n ss gs l (aoi.number k) o is named ih t = own_sign gs (aoi.number k) t
sign_follows n ss gs l (aoi.enumeration items) o is named ih t = own_sign gs (aoi.enumeration items) t
sign_follows n ss gs l (aoi.text c) o is named ih t = own_sign gs (aoi.text c) t
sign_follows n ss gs l (aoi.array s c) o is named ih t = own_sign gs (aoi.array s c) t
sign_follows n ss gs l (aoi.structure ms) o is named ih t = own_sign gs (aoi.structure ms) t
sign_follows n ss gs l (aoi.choice s arms) o is named ih t = own_sign gs (aoi.choice s arms) t
sign_follows n ss gs l (aoi.optional s) o is named ih t = own_sign gs (aoi.optional s) t

named_front : (ss : List aoi.Shape) (gs : List Face) (k : ℕ)
    → ((j : ℕ) → j < k → at gs j ≡ face_of (take j gs) (slice_index_or ss j aoi.void)) → (j : ℕ) → j < k
    → at (take k gs) j ≡ face_of (take j (take k gs)) (slice_index_or ss j aoi.void)
named_front ss gs k named j lt =
    let cut : take j (take k gs) ≡ take j gs = take-take j k gs (omega (arith, lt)) in
    at_take gs k j lt ∙ named j lt ∙ ap (λ z. face_of z (slice_index_or ss j aoi.void)) (sym cut)

sign_is : (n : ℕ) (ss : List aoi.Shape) (gs : List Face) (l : ℕ) (s : aoi.Shape)
    → ((k : ℕ) → k < l → at gs k ≡ face_of (take k gs) (slice_index_or ss k aoi.void)) → is_tag (unfolded n ss l s) ≡ true
    → sign_in (face_of gs s) ≡ tag_sign (unfolded n ss l s)
sign_is zero ss gs l s named t = own_sign gs s t
sign_is (suc n) ss gs l s named t =
    sign_follows n ss gs l s (name_in s) refl named
    (λ k lt u.
    sign_is n ss (take k gs) k (slice_index_or ss k aoi.void) (named_front ss gs k (λ j less. named j (omega (arith, less, lt)))) u) t

-- an enum that is reached by names is sound
enum_is : (n : ℕ) (ss : List aoi.Shape) (l : ℕ) (s : aoi.Shape) (items : ItemList)
    → ((k : ℕ) → k < l → is_sound_type ss k (slice_index_or ss k aoi.void) ≡ true) → is_sound_type ss l s ≡ true
    → unfolded n ss l s ≡ aoi.enumeration items
    → is_sound_enum items ≡ true
enum_is zero ss l s items sounds h is = subst (λ z. is_sound_type ss l z ≡ true) is h
enum_is (suc n) ss l (aoi.named k) items sounds h is =
    let lt : k < l = ltb-true k l h in
    let on : unfolded n ss k (slice_index_or ss k aoi.void) ≡ aoi.enumeration items = rw h at is in
    enum_is n ss k (slice_index_or ss k aoi.void) items (λ j less. sounds j (omega (arith, less, lt))) (sounds k lt) on
enum_is (suc n) ss l aoi.void items sounds h is = absurd (true≢false (sym h))
enum_is (suc n) ss l (aoi.number k) items sounds h is = subst (λ z. is_sound_type ss l z ≡ true) is h
enum_is (suc n) ss l (aoi.enumeration js) items sounds h is = subst (λ z. is_sound_type ss l z ≡ true) is h
enum_is (suc n) ss l (aoi.text c) items sounds h is = subst (λ z. is_sound_type ss l z ≡ true) is h
enum_is (suc n) ss l (aoi.array s c) items sounds h is = subst (λ z. is_sound_type ss l z ≡ true) is h
enum_is (suc n) ss l (aoi.structure ms) items sounds h is = subst (λ z. is_sound_type ss l z ≡ true) is h
enum_is (suc n) ss l (aoi.choice s arms) items sounds h is = subst (λ z. is_sound_type ss l z ≡ true) is h
enum_is (suc n) ss l (aoi.optional s) items sounds h is = subst (λ z. is_sound_type ss l z ≡ true) is h

union_regular : (ss : List aoi.Shape) (fs : List Face) (l : ℕ) (tag : aoi.Shape) (arms : aoi.Arms) → Standing ss fs l
    → is_sound_type ss l tag ≡ true → is_sound_union (unfolded l ss l tag) arms ≡ true
    → IsRegular (type_of (choice (sign_in (face_of fs tag)) (arms_of fs arms)))
union_regular ss fs l tag arms st h u =
    let below : aoi.Shape = unfolded l ss l tag in
    let ns : List ℤ = numbers_of arms in
    let x = and_parts (((is_tag below && has_arm arms) && nat_le (length ns) 4096) && list_all (is_of_tag below) ns) (are_different ns) u in
    let y = and_parts ((is_tag below && has_arm arms) && nat_le (length ns) 4096) (list_all (is_of_tag below) ns) x.0 in
    let z = and_parts (is_tag below && has_arm arms) (nat_le (length ns) 4096) y.0 in
    let w = and_parts (is_tag below) (has_arm arms) z.0 in
    let same : sign_in (face_of fs tag) ≡ tag_sign below = sign_is l ss fs l tag st.named w.0 in
    subst
    (λ s. IsRegular (type_of (choice s (arms_of fs arms)))) (sym same) (choice_regular fs below arms (λ items is.
    enum_is l ss l tag items st.sound h is) u)

union_weighs : (fs : List Face) (below : aoi.Shape) (s : Sign) (arms : aoi.Arms) → is_sound_union below arms ≡ true
    → 1 ≤ weight (blank (type_of (choice s (arms_of fs arms))))
union_weighs fs below s arms u =
    let ns : List ℤ = numbers_of arms in
    let x = and_parts (((is_tag below && has_arm arms) && nat_le (length ns) 4096) && list_all (is_of_tag below) ns) (are_different ns) u in
    let y = and_parts ((is_tag below && has_arm arms) && nat_le (length ns) 4096) (list_all (is_of_tag below) ns) x.0 in
    let z = and_parts (is_tag below && has_arm arms) (nat_le (length ns) 4096) y.0 in
    let w = and_parts (is_tag below) (has_arm arms) z.0 in
    arm_weighs s (arms_of fs arms) (armed fs arms w.1)

void_regular : IsRegular (type_of nothing)
void_regular = record { fit = refl; full = refl; labelled = λ r. refl }

mutual
  pub made_regular : (ss : List aoi.Shape) (fs : List Face) (l : ℕ) (s : aoi.Shape) → Standing ss fs l → is_sound_type ss l s ≡ true
      → AreRegular (made fs s)
  made_regular ss fs l aoi.void st h = absurd (true≢false (sym h))
  made_regular ss fs l (aoi.number k) st h = (record { fit = refl; full = refl; labelled = λ r. refl }, tt)
  made_regular ss fs l (aoi.enumeration items) st h = (enum_regular items h, tt)
  made_regular ss fs l (aoi.text c) st h = (open_text c h, tt)
  made_regular ss fs l (aoi.array s c) st h =
      let p = and_parts (is_some_count c) (is_sound_type ss l s) h in
      array_regular c (face_of fs s) (made fs s) p.0 (made_weighs ss fs l s st p.1) (made_regular ss fs l s st p.1)
  made_regular ss fs l (aoi.structure ms) st h =
      let p = and_parts (has_member ms && are_distinct (names_of ms)) (are_sound ss l ms) h in
      regular_one (made_inside fs ms) _ (inside_regular ss fs l ms st p.1) (record { fit = refl; full = refl; labelled = λ r. refl })
  made_regular ss fs l (aoi.choice tag arms) st h =
      let p = and_parts (is_sound_type ss l tag && is_sound_union (unfolded l ss l tag) arms) (are_sound_arms ss l arms) h in
      let q = and_parts (is_sound_type ss l tag) (is_sound_union (unfolded l ss l tag) arms) p.0 in
      regular_one (made_after fs arms) _ (after_regular ss fs l arms st p.1) (union_regular ss fs l tag arms st q.0 q.1)
  made_regular ss fs l (aoi.optional s) st h =
      regular_one (made fs s) _ (made_regular ss fs l s st h) (record { fit = refl; full = refl; labelled = λ r. refl })
  made_regular ss fs l (aoi.named k) st h = tt

  pub made_weighs : (ss : List aoi.Shape) (fs : List Face) (l : ℕ) (s : aoi.Shape) → Standing ss fs l → is_sound_type ss l s ≡ true
      → 1 ≤ weight (blank (type_of (face_of fs s)))
  made_weighs ss fs l aoi.void st h = absurd (true≢false (sym h))
  made_weighs ss fs l (aoi.number k) st h = omega arith
  made_weighs ss fs l (aoi.enumeration items) st h = omega arith
  made_weighs ss fs l (aoi.text c) st h = omega arith
  made_weighs ss fs l (aoi.array s c) st h = array_weighs c (face_of fs s)
  made_weighs ss fs l (aoi.structure aoi.no_more) st h = absurd (true≢false (sym h))
  made_weighs ss fs l (aoi.structure (aoi.member n s ms)) st h =
      let p = and_parts (true && are_distinct (names_of (aoi.member n s ms))) (are_sound ss l (aoi.member n s ms)) h in
      let q = and_parts (is_sound_type ss l s) (are_sound ss l ms) p.1 in
      let w = made_weighs ss fs l s st q.0 in
      omega (arith, w)
  made_weighs ss fs l (aoi.choice tag arms) st h =
      let p = and_parts (is_sound_type ss l tag && is_sound_union (unfolded l ss l tag) arms) (are_sound_arms ss l arms) h in
      let q = and_parts (is_sound_type ss l tag) (is_sound_union (unfolded l ss l tag) arms) p.0 in
      union_weighs fs (unfolded l ss l tag) (sign_in (face_of fs tag)) arms q.1
  made_weighs ss fs l (aoi.optional s) st h = omega arith
  made_weighs ss fs l (aoi.named k) st h = st.weigh k (ltb-true k l h)

  pub inside_regular : (ss : List aoi.Shape) (fs : List Face) (l : ℕ) (ms : aoi.Members) → Standing ss fs l → are_sound ss l ms ≡ true
      → AreRegular (made_inside fs ms)
  inside_regular ss fs l aoi.no_more st h = tt
  inside_regular ss fs l (aoi.member n s ms) st h =
      let p = and_parts (is_sound_type ss l s) (are_sound ss l ms) h in
      regular_both (made fs s) (made_inside fs ms) (made_regular ss fs l s st p.0) (inside_regular ss fs l ms st p.1)

  pub after_regular : (ss : List aoi.Shape) (fs : List Face) (l : ℕ) (arms : aoi.Arms) → Standing ss fs l → are_sound_arms ss l arms ≡ true
      → AreRegular (made_after fs arms)
  after_regular ss fs l aoi.no_default st h = tt
  after_regular ss fs l (aoi.default s) st h = void_or ss fs l s h (made_regular ss fs l s st)
  after_regular ss fs l (aoi.arm n s arms) st h =
      let p = and_parts (or_void s (is_sound_type ss l s)) (are_sound_arms ss l arms) h in
      regular_both (made_after fs arms) (made fs s) (after_regular ss fs l arms st p.1)
      (void_or ss fs l s p.0 (made_regular ss fs l s st))

  pub void_or : (ss : List aoi.Shape) (fs : List Face) (l : ℕ) (s : aoi.Shape) → or_void s (is_sound_type ss l s) ≡ true
      → (is_sound_type ss l s ≡ true → AreRegular (made fs s))
      → AreRegular (made fs s)
  void_or ss fs l aoi.void h f = (void_regular, tt)
  void_or ss fs l (aoi.number k) h f = f h
  void_or ss fs l (aoi.enumeration items) h f = f h
  void_or ss fs l (aoi.text c) h f = f h
  void_or ss fs l (aoi.array s c) h f = f h
  void_or ss fs l (aoi.structure ms) h f = f h
  void_or ss fs l (aoi.choice tag arms) h f = f h
  void_or ss fs l (aoi.optional s) h f = f h
  void_or ss fs l (aoi.named k) h f = f h
