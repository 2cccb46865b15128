-- Enums whose items were numbered are sound, and their labels are the numbers of their items.
use Rattle.std.proofs.Common.{◌≡◌, ℕ, ℤ, suc, ◌+◌, ◌-◌, ◌<◌, ◌≤◌, Bool, true, false, not, ◌||◌, ◌&&◌, ◌==◌, nat_le, List, [], ◌∷◌, ◌++◌, length, map, ◌≢◌, refl, sym, ap, ◌⊎◌, inl, inr, ◌∙◌, arith, if◌then◌else◌}
use Rattle.std.specs.Prelude.{Ok}
use Rattle.std.specs.List.{list_any}
use Rattle.std.specs.Ordering.{int_eq}
use Rattle.std.proofs.lemmas.Bool.{not_from_false, and_from, leb-false, le-leb, ne_eqb, eq-eqb}
use Rattle.std.proofs.lemmas.Bool.Decides.{Decides-int_eq}
use Rattle.std.proofs.lemmas.List.{length-append}
use Rattle.std.proofs.lemmas.List.Folds.{list_any-append}
use Rattle.kit_base.specs.Limits.{most_labels}
use Rattle.aoi.specs.declared.faults.NameFault.TheVariants.{Limit}
use Rattle.aoi.specs.Sound.{is_sound_enum, are_distinct, count_different}
use Rattle.idl_names.specs.Answers.{Answer, and_then, refused}
use Rattle.idl_names.specs.Lists.{is_some_list}
use Rattle.idl_names.specs.Labels.{is_label, labelled}
use Rattle.idl_names.proofs.Parts.{then_ok, refused_ok, ok_same}
use Rattle.idl_names.proofs.Different.{count_push, any_last}

abbrev pub Item_ : Type 0
Item_ = List ℕ × ℤ

abbrev pub numbers : List Item_ → List ℤ
numbers items = map (λ i. i.1) items

abbrev pub names : List Item_ → List (List ℕ)
names items = map (λ i. i.0) items

-- the labels of the k-th type are the numbers so far, and those of other types are as they were
pub record LabelsAre (k place : ℕ) (base labels : List (ℕ × ℤ)) (ns : List ℤ) : Type 0 where
  pub own : (n : ℤ) → is_label k n labels ≡ list_any (int_eq n) ns
  pub others : (j : ℕ) (n : ℤ) → j ≢ k → is_label j n labels ≡ is_label j n base
  pub count : length labels ≡ place + count_different ns
  pub few : count_different ns ≤ most_labels

-- ---- one more label

label_last : (j k : ℕ) (n m : ℤ) (labels : List (ℕ × ℤ))
    → is_label j n (labels ++ (k, m) ∷ []) ≡ (is_label j n labels || (j == k && int_eq n m))
label_last j k n m labels =
    list_any-append (λ l. j == l.0 && int_eq n l.1) labels ((k, m) ∷ []) ∙ ap (λ z.
    is_label j n labels || z) (or_nothing (j == k && int_eq n m))
  where
    or_nothing : (b : Bool) → (b || false) ≡ b
    or_nothing true = refl
    or_nothing false = refl

other_label : (j k : ℕ) (n m : ℤ) (labels : List (ℕ × ℤ)) → (j == k) ≡ false → is_label j n (labels ++ (k, m) ∷ []) ≡ is_label j n labels
other_label j k n m labels ne = label_last j k n m labels ∙ rw ne (or_false (is_label j n labels))
  where
    or_false : (b : Bool) → (b || false) ≡ b
    or_false true = refl
    or_false false = refl

-- labels that have a number more, or had it
abbrev pub Labelled : ℕ → ℕ → List (ℕ × ℤ) → List (ℕ × ℤ) → ℤ → Type 0
Labelled k place old new n = ((is_label k n old ≡ true) × (new ≡ old))
    ⊎ ((is_label k n old ≡ false) × (new ≡ old ++ (k, n) ∷ []) × (length old - place < most_labels))

absorbed : (x y : Bool) → (y ≡ true → x ≡ true) → x ≡ (x || y)
absorbed true y f = refl
absorbed false true f = f refl
absorbed false false f = refl

abbrev new_one : Bool → ℕ
new_one b = if b then 0 else 1

pub labels_added : (k place : ℕ) (base old new : List (ℕ × ℤ)) (ns : List ℤ) (n : ℤ) → LabelsAre k place base old ns
    → Labelled k place old new n
    → LabelsAre k place base new (ns ++ n ∷ [])
labels_added k place base old new ns n are (inl (had, same)) =
    let there : list_any (int_eq n) ns ≡ true = sym (are.own n) ∙ had in
    let more : count_different (ns ++ n ∷ []) ≡ count_different ns + 0 = count_push ns n ∙ ap (λ b. count_different ns + new_one b) there in
    record {
      own =
          λ m. ap (is_label k m) same ∙ are.own m ∙ absorbed (list_any (int_eq m) ns) (int_eq m n) (λ t.
          ap (λ z. list_any (int_eq z) ns) ((Decides-int_eq m n).0 t) ∙ there) ∙ sym (any_last (int_eq m) ns n);
      others = λ j m ne. ap (is_label j m) same ∙ are.others j m ne;
      count = ap length same ∙ omega (arith, are.count, more);
      few = omega (arith, are.few, more);
    }
labels_added k place base old new ns n are (inr (none, grown, room)) =
    let absent : list_any (int_eq n) ns ≡ false = sym (are.own n) ∙ none in
    let more : count_different (ns ++ n ∷ []) ≡ count_different ns + 1 = count_push ns n
    ∙ ap (λ b. count_different ns + new_one b) absent in
    let longer : length new ≡ length old + 1 = ap length grown ∙ length-append old ((k, n) ∷ []) in
    let self : (k == k) ≡ true = eq-eqb k k refl in
    record {
      own =
          λ m.
          ap (is_label k m) grown ∙ label_last k k m n old
          ∙ rw self (ap (λ z. z || int_eq m n) (are.own m)) ∙ sym (any_last (int_eq m) ns n);
      others = λ j m ne. ap (is_label j m) grown ∙ other_label j k m n old (ne_eqb j k ne) ∙ are.others j m ne;
      count = omega (arith, longer, are.count, more);
      few = omega (arith, are.count, room, more);
    }

abbrev given : List (ℕ × ℤ) → Answer (List (ℕ × ℤ))
given labels = Ok labels

label_by : (b : Bool) (d k place : ℕ) (old new : List (ℕ × ℤ)) (n : ℤ) → is_label k n old ≡ b
    → (if b then given old else and_then (refused Limit d (nat_le most_labels (length old - place))) (λ _. given (old ++ (k, n) ∷ [])))
    ≡ given new
    → Labelled k place old new n
label_by true d k place old new n is h = inl (is, sym (ok_same old new h))
label_by false d k place old new n is h =
    let a = then_ok (refused Limit d (nat_le most_labels (length old - place))) (λ _. given (old ++ (k, n) ∷ [])) new h in
    let few = leb-false most_labels (length old - place) (refused_ok Limit d _ a.given a.first) in
    inr (is, sym (ok_same (old ++ (k, n) ∷ []) new a.rest), few)

pub label_is : (d k place : ℕ) (old new : List (ℕ × ℤ)) (n : ℤ) → labelled d k place old n ≡ Ok new → Labelled k place old new n
label_is d k place old new n h = label_by (is_label k n old) d k place old new n refl h

-- ---- the enum

some_length : (items : List Item_) → is_some_list items ≡ true → not (length items == 0) ≡ true
some_length [] h = absurd cc
some_length (i ∷ items) h = not_from_false _ (ne_eqb (suc (length items)) 0 (omega arith))

pub enum_sound : (items : List Item_) → is_some_list items ≡ true → count_different (numbers items) ≤ most_labels
    → are_distinct (names items) ≡ true
    → is_sound_enum items ≡ true
enum_sound items some few different = and_from _ _ (and_from _ _ (some_length items some) (le-leb _ _ few)) different
