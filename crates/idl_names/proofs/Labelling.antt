-- Unions of sound arms are sound, by induction on the arms and on their numbers.
use Rattle.std.proofs.Common.{◌≡◌, ℕ, ℤ, zero, suc, ◌<◌, ◌≤◌, Bool, true, false, not, ◌||◌, nat_lt, nat_le, List, [], ◌∷◌, ◌++◌, length, map, drop, refl, sym, ap, subst, ◌∙◌, arith}
use Rattle.std.specs.Prelude.{Ok}
use Rattle.std.specs.List.{list_any, list_all}
use Rattle.std.specs.Ordering.{int_eq}
use Rattle.std.proofs.lemmas.Bool.{or_parts, and_parts, and_from, leb-false, le-leb, lt-ltb, not-false}
use Rattle.std.proofs.lemmas.List.{length-append}
use Rattle.std.proofs.lemmas.List.Folds.{list_all-append}
use Rattle.kit_base.specs.Limits.{most_labels}
use Rattle.mint.specs.declared.kind.Kind.{Kind}
use Rattle.aoi.specs.declared.faults.NameFault.TheVariants.{Label, Limit}
use Rattle.aoi.specs.Shapes.{Shape, void, number, enumeration, text, array, structure, choice, optional, named, Arms, arms_of}
use Rattle.aoi.specs.Sound.{unfolded, is_sound_type, are_sound_arms, is_sound_union, is_tag, is_of_tag, or_void, has_arm, numbers_of, are_different}
use Rattle.idl_names.specs.declared.uses.Tag.{Tag}
use Rattle.idl_names.specs.declared.uses.Tag.TheVariants as tag
use Rattle.idl_names.specs.declared.uses.Use.{Use}
use Rattle.idl_names.specs.declared.uses.Use.TheVariants.{Number, Declared}
use Rattle.idl_names.specs.Answers.{refused}
use Rattle.idl_names.specs.Lists.{is_some_list}
use Rattle.idl_names.specs.Uses.{shape_of_use, tag_of_use, is_other}
use Rattle.idl_names.specs.Labels.{is_of, numbered}
use Rattle.idl_names.specs.Arms.{arms_for, with_arm}
use Rattle.idl_names.proofs.Parts.{then_ok, refused_ok, ok_same}
use Rattle.idl_names.proofs.Standing.{UseIs, Ends, use_sound}
use Rattle.idl_names.proofs.Forming.{some_push}
use Rattle.idl_names.proofs.Different.{different_push}

-- ---- labels

pub record NumbersAre (labels : List (ℕ × ℤ)) (t : Tag) (ns : List ℤ) : Type 0 where
  pub different : are_different ns ≡ true
  pub few : length ns ≤ most_labels
  pub all : list_all (is_of labels t) ns ≡ true

all_push : (p : ℤ → Bool) (ns : List ℤ) (n : ℤ) → list_all p ns ≡ true → p n ≡ true → list_all p (ns ++ n ∷ []) ≡ true
all_push p [] n a b = and_from _ _ b refl
all_push p (m ∷ ns) n a b = let h = and_parts (p m) (list_all p ns) a in and_from _ _ h.0 (all_push p ns n h.1 b)

-- what labels after others make
pub record Longer (labels : List (ℕ × ℤ)) (t : Tag) (old new : List ℤ) : Type 0 where
  pub more : List ℤ
  pub grown : new ≡ old ++ more
  pub are : NumbersAre labels t new

pub number_added : (labels : List (ℕ × ℤ)) (t : Tag) (d : ℕ) (ns out : List ℤ) (n : ℤ) → NumbersAre labels t ns
    → numbered labels t d ns n ≡ Ok out
    → Longer labels t ns out × (is_some_list out ≡ true)
number_added labels t d ns out n are h =
    let bad = not (is_of labels t n) || list_any (int_eq n) ns in
    let b = then_ok (refused Label d bad) _ out h in
    let c = then_ok (refused Limit d (nat_le most_labels (length ns))) _ out b.rest in
    let parts = or_parts (not (is_of labels t n)) (list_any (int_eq n) ns) (refused_ok Label d bad b.given b.first) in
    let room = leb-false most_labels (length ns) (refused_ok Limit d _ c.given c.first) in
    let count = length-append ns (n ∷ []) in
    let same = ok_same (ns ++ n ∷ []) out c.rest in
    let all : NumbersAre labels t (ns ++ n ∷ []) = record {
      different = different_push ns n are.different parts.1;
      few = omega (arith, room, count);
      all = all_push (is_of labels t) ns n are.all (not-false _ parts.0);
    } in (
      record { more = n ∷ []; grown = sym same; are = subst (NumbersAre labels t) same all },
      subst (λ z. is_some_list z ≡ true) same (some_push ns n),
    )

pub joined : {A : Type 0} (xs ys zs : List A) → (xs ++ ys) ++ zs ≡ xs ++ (ys ++ zs)
joined [] ys zs = refl
joined (x ∷ xs) ys zs = ap (λ w. x ∷ w) (joined xs ys zs)

pub nothing_more : {A : Type 0} (xs : List A) → xs ≡ xs ++ []
nothing_more [] = refl
nothing_more (x ∷ xs) = ap (λ w. x ∷ w) (nothing_more xs)

-- ---- arms

pub or_void_true : (s : Shape) (b : Bool) → b ≡ true → or_void s b ≡ true
or_void_true void b h = refl
or_void_true (number k) b h = h
or_void_true (enumeration items) b h = h
or_void_true (text c) b h = h
or_void_true (array s c) b h = h
or_void_true (structure ms) b h = h
or_void_true (choice s arms) b h = h
or_void_true (optional s) b h = h
or_void_true (named k) b h = h

abbrev pub good : List Shape → Shape → Bool
good types s = or_void s (is_sound_type types (length types) s)

abbrev pub Arm_ : Type 0
Arm_ = ℤ × Shape

-- the arms so far, one for each number
pub record ArmsAre (types : List Shape) (labels : List (ℕ × ℤ)) (t : Tag) (ns : List ℤ) (list : List Arm_) : Type 0 where
  pub numbers : NumbersAre labels t ns
  pub arms : map (λ a. a.0) list ≡ ns
  pub sound : list_all (λ a. good types a.1) list ≡ true

numbers_back : (s : Shape) (ns : List ℤ) → map (λ a. a.0) (arms_for s ns) ≡ ns
numbers_back s [] = refl
numbers_back s (n ∷ ns) = ap (λ z. n ∷ z) (numbers_back s ns)

all_good : (types : List Shape) (s : Shape) (ns : List ℤ) → good types s ≡ true → list_all (λ a. good types a.1) (arms_for s ns) ≡ true
all_good types s [] h = refl
all_good types s (n ∷ ns) h = and_from _ _ h (all_good types s ns h)

after_them : (arms : List Arm_) (old more : List ℤ) → map (λ a. a.0) arms ≡ old → drop (length arms) (old ++ more) ≡ more
after_them [] old more h = ap (λ z. z ++ more) (sym h)
after_them (a ∷ arms) old more h =
    subst (λ z. drop (suc (length arms)) (z ++ more) ≡ more) h (after_them arms (map (λ a. a.0) arms) more refl)

firsts : (arms more : List Arm_) → map (λ a. a.0) (arms ++ more) ≡ map (λ a. a.0) arms ++ map (λ a. a.0) more
firsts [] more = refl
firsts (a ∷ arms) more = ap (λ z. a.0 ∷ z) (firsts arms more)

pub arms_added : (types : List Shape) (labels : List (ℕ × ℤ)) (t : Tag) (ns new : List ℤ) (arms : List Arm_) (s : Shape)
    → ArmsAre types labels t ns arms → Longer labels t ns new → good types s ≡ true
    → ArmsAre types labels t new (with_arm new arms s)
arms_added types labels t ns new arms s are longer sound =
    let rest : drop (length arms) new ≡ longer.more = ap (drop (length arms)) longer.grown ∙ after_them arms ns longer.more are.arms in
    record {
      numbers = longer.are;
      arms = firsts arms (arms_for s (drop (length arms) new))
          ∙ ap (λ z. map (λ a. a.0) arms ++ z) (numbers_back s (drop (length arms) new) ∙ rest) ∙ ap (λ z.
          z ++ longer.more) are.arms ∙ sym longer.grown;
      sound =
          list_all-append
          (λ a.
          good types a.1) arms (arms_for s (drop (length arms) new))
          ∙ and_from _ _ are.sound (all_good types s (drop (length arms) new) sound);
    }

-- ---- the tag

-- a type's end fits a tag
pub record Fits (labels : List (ℕ × ℤ)) (t : Tag) (end_ : Shape) : Type 0 where
  pub tag : is_tag end_ ≡ true
  pub of : (n : ℤ) → is_of labels t n ≡ true → is_of_tag end_ n ≡ true

pub number_ends : (n : ℕ) (types : List Shape) (limit : ℕ) (k : Kind) → unfolded n types limit (number k) ≡ number k
number_ends zero types limit k = refl
number_ends (suc n) types limit k = refl

pub named_ends : (types : List Shape) (n limit k : ℕ) (e : Shape) → limit ≤ n → k < limit → Ends types k e
    → unfolded n types limit (named k) ≡ e
named_ends types zero limit k e is lt ends = absurd (omega (arith, is, lt))
named_ends types (suc n) limit k e is lt ends =
    let yes : nat_lt k limit ≡ true = lt-ltb k limit lt in
    let le : k ≤ n = omega (arith, is, lt) in
    rw yes (ends n le)

use_fits : (types : List Shape) (labels : List (ℕ × ℤ)) (u : Use) → UseIs types labels u → is_other (tag_of_use u) ≡ false
    → Fits labels (tag_of_use u) (unfolded (length types) types (length types) (shape_of_use u))
use_fits types labels (Number k) is ok = subst (Fits labels (tag.Number k)) (sym (number_ends (length types) types (length types) k))
    (record { tag = refl; of = λ n h. h })
use_fits types labels (Declared k (tag.Number kind)) is ok =
    subst (Fits labels (tag.Number kind)) (sym (named_ends types (length types) (length types) k (number kind) (omega arith) is.0 is.1))
    (record { tag = refl; of = λ n h. h })
use_fits types labels (Declared k (tag.Enum j)) is ok =
    subst (Fits labels (tag.Enum j))
    (sym (named_ends types (length types) (length types) k (enumeration is.1.items) (omega arith) is.0 is.1.ends))
    (record { tag = refl; of = is.1.numbers })
use_fits types labels (Declared k tag.Other) is ok = absurd cc

-- ---- the union

all_of : (p q : ℤ → Bool) (ns : List ℤ) → ((n : ℤ) → p n ≡ true → q n ≡ true) → list_all p ns ≡ true → list_all q ns ≡ true
all_of p q [] f h = refl
all_of p q (n ∷ ns) f h = let parts = and_parts (p n) (list_all p ns) h in and_from _ _ (f n parts.0) (all_of p q ns f parts.1)

abbrev pub NoNumbers : Arms → Type 0
NoNumbers o = numbers_of o ≡ []

numbers_arms : (arms : List Arm_) (o : Arms) → NoNumbers o → numbers_of (arms_of arms o) ≡ map (λ a. a.0) arms
numbers_arms [] o h = h
numbers_arms (a ∷ arms) o h = ap (λ z. a.0 ∷ z) (numbers_arms arms o h)

sound_arms : (types : List Shape) (arms : List Arm_) (o : Arms) → list_all (λ a. good types a.1) arms ≡ true
    → are_sound_arms types (length types) o ≡ true
    → are_sound_arms types (length types) (arms_of arms o) ≡ true
sound_arms types [] o a b = b
sound_arms types (x ∷ arms) o a b = let parts =
    and_parts (good types x.1) (list_all (λ a. good types a.1) arms) a in and_from _ _ parts.0 (sound_arms types arms o parts.1 b)

pub some_arm : (arms : List Arm_) (o : Arms) → is_some_list (map (λ a. a.0) arms) ≡ true → has_arm (arms_of arms o) ≡ true
some_arm [] o h = absurd cc
some_arm (a ∷ arms) o h = refl

pub record OtherIs (types : List Shape) (o : Arms) : Type 0 where
  pub numbers : NoNumbers o
  pub sound : are_sound_arms types (length types) o ≡ true

pub choice_sound : (types : List Shape) (labels : List (ℕ × ℤ)) (u : Use) (ns : List ℤ) (arms : List Arm_) (o : Arms) → UseIs types labels u
    → is_other (tag_of_use u) ≡ false → ArmsAre types labels (tag_of_use u) ns arms → OtherIs types o → has_arm (arms_of arms o) ≡ true
    → is_sound_type types (length types) (choice (shape_of_use u) (arms_of arms o)) ≡ true
choice_sound types labels u ns arms o used fit are last has =
    let t = tag_of_use u in
    let fits = use_fits types labels u used fit in
    let numbers : numbers_of (arms_of arms o) ≡ ns = numbers_arms arms o last.numbers ∙ are.arms in
    let end_ = unfolded (length types) types (length types) (shape_of_use u) in
    let few : nat_le (length (numbers_of (arms_of arms o))) most_labels
    ≡ true = ap (λ z. nat_le (length z) most_labels) numbers ∙ le-leb _ _ are.numbers.few in
    let all : list_all (is_of_tag end_) (numbers_of (arms_of arms o)) ≡ true = ap (list_all (is_of_tag end_)) numbers
    ∙ all_of (is_of labels t) (is_of_tag end_) ns fits.of are.numbers.all in
    let different : are_different (numbers_of (arms_of arms o)) ≡ true = ap are_different numbers ∙ are.numbers.different in
    let whole : is_sound_union end_ (arms_of arms o)
    ≡ true = and_from _ _ (and_from _ _ (and_from _ _ (and_from _ _ fits.tag has) few) all) different in
    and_from _ _ (and_from _ _ (use_sound types labels u used) whole) (sound_arms types arms o are.sound last.sound)
