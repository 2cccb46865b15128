-- Numbers of arms and of items, and names that are followed; unions, by induction on the arms; arrays of arrays.
use Rattle.std.proofs.Common.{◌≡◌, ℕ, suc, ◌+◌, ◌-◌, ◌<◌, ◌≤◌, ℤ, get_or, take, drop, nat_lt, true, false, if◌then◌else◌, sym, subst, ◌∙◌, length-drop, arith, List, [], ◌∷◌, map, Option, Some, None, Bool, not, ◌||◌, ◌&&◌, ◌==◌, length, refl, ap}
use Rattle.std.specs.List.{list_all, list_any}
use Rattle.std.specs.Ordering.{int_eq}
use Rattle.std.proofs.Math.Seq.{drop-cons, take-length}
use Rattle.std.proofs.lemmas.Bool.{ne_eqb, lt-ltb}
use Rattle.std.proofs.lemmas.List.{get_or-map}
use Rattle.std.specs.Option.{is_some}
use Rattle.mint.specs.declared.kind.Count.{Count}
use Rattle.aoi.specs.declared.types.Ty.{Ty}
use Rattle.aoi.specs.declared.types.Field.{Field}
use Rattle.aoi.specs.Shapes.{Shape, array, arrayed, choice, void, seen, shapes, arms_seen, members, default_of}
use Rattle.aoi.specs.Sound.{numbers_of, has_arm, are_sound_labels, is_sound_union, count_different, is_some_count, name_in, unfolded, or_void, is_sound_type, are_sound_arms, has_member}

pub numbers_seen : (arms : List (ℤ × Ty)) (other : Option Shape) → numbers_of (arms_seen arms other) ≡ map (λ a. a.0) arms
numbers_seen [] None = refl
numbers_seen [] (Some s) = refl
numbers_seen (a ∷ arms) other = ap (λ z. a.0 ∷ z) (numbers_seen arms other)

pub arm_there : (arms : List (ℤ × Ty)) (other : Option Shape) → has_arm (arms_seen arms other) ≡ (not (length arms == 0) || is_some other)
arm_there [] None = refl
arm_there [] (Some s) = refl
arm_there (a ∷ arms) other = let some : (suc (length arms) == 0) ≡ false = ne_eqb _ _ (omega arith) in rw some refl

pub union_is : (tag : Shape) (arms : List (ℤ × Ty)) (other : Option Shape) (r there : Bool)
    → r ≡ are_sound_labels tag there (map (λ a. a.0) arms) → there ≡ has_arm (arms_seen arms other)
    → r ≡ is_sound_union tag (arms_seen arms other)
union_is tag arms other r there a b =
    a ∙ ap (λ z. are_sound_labels tag z (map (λ a. a.0) arms)) b
    ∙ ap (are_sound_labels tag (has_arm (arms_seen arms other))) (sym (numbers_seen arms other))

abbrev Item : Type 0
Item = List ℕ × ℤ

abbrev nums : List Item → List ℤ
nums items = map (λ i. i.1) items

at_most_1 : (b : Bool) (n : ℕ) → n ≡ (if b then 0 else 1) → n ≤ 1
at_most_1 true n e = omega (arith, e)
at_most_1 false n e = omega (arith, e)

drop_at : (items : List Item) (i : ℕ) (d : Item) → i < length items → drop i items ≡ get_or items i d ∷ drop (i + 1) items
drop_at items i d lt = let next : i + 1 ≡ suc i = omega arith in rw next (drop-cons items i d lt)

rest_is : (items : List Item) (i : ℕ) → take (length items - i) (drop i items) ≡ drop i items
rest_is items i = let n : length items - i ≡ length (drop i items) = sym (length-drop i items) in rw n (take-length (drop i items))

pub count_on : (items : List Item) (i : ℕ) (item : Item) (count new total : ℕ)
    → total ≡ count + count_different (nums (drop i items)) → count ≤ i → i < length items → item ≡ get_or items i item
    → new ≡ (if list_any (λ m. int_eq m item.1) (nums (take (length items - (i + 1)) (drop (i + 1) items))) then 0 else 1)
    → (total ≡ count + new + count_different (nums (drop (i + 1) items))) × (count + new ≤ i + 1)
count_on items i item count new total is le lt item_is new_is =
    let cut : drop i items ≡ item ∷ drop (i + 1) items = drop_at items i item lt ∙ ap (λ z. z ∷ drop (i + 1) items) (sym item_is) in
    let one : new ≡ (if list_any (λ m. int_eq m item.1) (nums (drop (i + 1) items)) then 0 else 1) =
    subst (λ z. new ≡ (if list_any (λ m. int_eq m item.1) (nums z) then 0 else 1)) (rest_is items (i + 1)) new_is in
    let whole : count_different (nums (drop i items)) ≡ new + count_different (nums (drop (i + 1) items)) =
    ap (λ z. count_different (nums z)) cut ∙ ap (λ z. z + count_different (nums (drop (i + 1) items))) (sym one) in
    (omega (arith, is, whole), omega (arith, le, at_most_1 _ new one))

pub follow_on : (types : List (List ℕ × Ty)) (v s : Shape) (n i left k : ℕ) (d : List ℕ × Ty)
    → v ≡ unfolded (n - i) (shapes types) left s → i < n → Some k ≡ name_in s → k < left → left ≤ length types
    → (k ≤ length types) × (v ≡ unfolded (n - (i + 1)) (shapes types) k (seen (get_or types k d).1))
follow_on types v s n i left k d is lt name_is below within =
    let more : n - i ≡ suc (n - (i + 1)) = omega arith in
    let yes : nat_lt k left ≡ true = lt-ltb k left below in
    let named : name_in s ≡ Some k = sym name_is in
    let inside : k < length types = omega (arith, below, within) in
    let there : get_or (shapes types) k void ≡ seen (get_or types k d).1 = get_or-map (λ t. seen t.1) types k d void inside in
    let one : unfolded (n - i) (shapes types) left s ≡ unfolded (n - (i + 1)) (shapes types) k (get_or (shapes types) k void) =
    rw (more, named, yes) refl in
    (omega (arith, inside), is ∙ one ∙ ap (unfolded (n - (i + 1)) (shapes types) k) there)

pub member_there : (fields : List Field) → has_member (members fields) ≡ not (length fields == 0)
member_there [] = refl
member_there (f ∷ fields) = let some : (suc (length fields) == 0) ≡ false = ne_eqb _ _ (omega arith) in rw some refl

regrouped : (a b c : Bool) → (a && (b && c)) ≡ ((a && b) && c)
regrouped true b c = refl
regrouped false b c = refl

arrays_sound : (types : List Shape) (limit : ℕ) (s : Shape) (cs : List Count)
    → is_sound_type types limit (arrayed s cs) ≡ (list_all is_some_count cs && is_sound_type types limit s)
arrays_sound types limit s [] = refl
arrays_sound types limit s (c ∷ cs) = ap (λ z. is_some_count c && z) (arrays_sound types limit s cs)
    ∙ regrouped (is_some_count c) (list_all is_some_count cs) (is_sound_type types limit s)

pub arrays_are : (types : List Shape) (limit : ℕ) (s : Shape) (c : Count) (cs : List Count) (r a b i j : Bool)
    → r ≡ (a && j) → j ≡ (b && i) → a ≡ is_some_count c → b ≡ list_all is_some_count cs → i ≡ is_sound_type types limit s
    → r ≡ is_sound_type types limit (array (arrayed s cs) c)
arrays_are types limit s c cs r a b i j r_is j_is a_is b_is i_is =
    r_is ∙ ap (λ z. z && j) a_is
    ∙ ap (λ z. is_some_count c && z) (j_is ∙ ap (λ z. z && i) b_is ∙ ap (λ z. list_all is_some_count cs && z) i_is
    ∙ sym (arrays_sound types limit s cs))

alone : (b : Bool) → b ≡ (true && b)
alone b = refl

pub arms_split : (types : List Shape) (limit : ℕ) (arms : List (ℤ × Ty)) (other : Option Shape)
    → are_sound_arms types limit (arms_seen arms other)
    ≡ (are_sound_arms types limit (arms_seen arms None) && are_sound_arms types limit (default_of other))
arms_split types limit [] other = refl
arms_split types limit (a ∷ arms) other =
    ap (λ z. or_void (seen a.1) (is_sound_type types limit (seen a.1)) && z) (arms_split types limit arms other)
    ∙ regrouped (or_void (seen a.1) (is_sound_type types limit (seen a.1))) (are_sound_arms types limit (arms_seen arms None))
    (are_sound_arms types limit (default_of other))

pub choice_is : (types : List Shape) (limit : ℕ) (tag below : Shape) (arms : List (ℤ × Ty)) (other : Option Shape) (r a b c d e : Bool)
    → r ≡ (a && b && e) → e ≡ (c && d) → a ≡ is_sound_type types limit tag
    → b ≡ is_sound_union below (arms_seen arms other) → below ≡ unfolded limit types limit tag
    → c ≡ are_sound_arms types limit (arms_seen arms None) → d ≡ are_sound_arms types limit (default_of other)
    → r ≡ is_sound_type types limit (choice tag (arms_seen arms other))
choice_is types limit tag below arms other r a b c d e r_is e_is a_is b_is below_is c_is d_is =
    let arms_are : e ≡ are_sound_arms types limit (arms_seen arms other) =
    e_is
    ∙ ap (λ z. z && d) c_is ∙ ap (λ z.
    are_sound_arms types limit (arms_seen arms None) && z) d_is ∙ sym (arms_split types limit arms other) in
    let labels : b ≡ is_sound_union (unfolded limit types limit tag) (arms_seen arms other) = b_is
    ∙ ap (λ z. is_sound_union z (arms_seen arms other)) below_is in
    r_is ∙ ap (λ z. z && b && e) a_is ∙ ap (λ z. is_sound_type types limit tag && z && e) labels
    ∙ ap (λ z. is_sound_type types limit tag && is_sound_union (unfolded limit types limit tag) (arms_seen arms other) && z) arms_are
