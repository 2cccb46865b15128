-- What a table keeps of its nodes stays true when a node is put after them, by induction on the nodes.
use Rattle.std.proofs.Common.{FitsSigned, pos, negsuc, ◌≡◌, Bool, true, false, cond, ltb, nat_lt, nat_le, ◌&&◌, not, ℕ, zero, suc, ◌+◌, ◌*◌, ◌<◌, ◌≤◌, ℤ, List, [], ◌∷◌, ◌++◌, length, get_or, map, Option, None, Some, option_map, slice_get, refl, sym, ap, ◌∙◌, ◌⊎◌, inl, inr, length-append, suc-mul, arith}
use Rattle.std.specs.List.{list_all, AllByRecursion}
use Rattle.std.proofs.lemmas.Bool.{ltb-true, ltb-false, leb-false, lt-ltb, and_parts}
use Rattle.std.proofs.lemmas.List.{get_or-map, length-map, map-append}
use Rattle.std.proofs.lemmas.Option.{slice_get-map}
use Rattle.std.specs.Int.{w32}
use Rattle.mint.specs.declared.kind.Kind.TheVariants as kind
use Rattle.mint.specs.Kinds.{in_range}
use Rattle.mint.specs.declared.errors.MintErr.{MintErr}
use Rattle.mint.specs.declared.errors.MintErr.TheVariants as err
use Rattle.mint.specs.declared.node.Node.{Node}
use Rattle.mint.specs.declared.node.Node.TheVariants as node
use Rattle.mint.specs.declared.size.Size.{Size}
use Rattle.mint.specs.Values.{Val, arm, weight, weights}
use Rattle.mint.specs.Types.{Scalar, Ty, void_type, scalar_type, array_type, group_type, items_type, choice_type, maybe_type, at, fields_at, others_at, arms_at, level, unfolded_from, unfolded, type_at, AreBelow, ArmsBelow, IsBelow, HasChildrenBelow, IsTable}
use Rattle.mint.specs.Blank.{blank, blank_arm, copies, depth}
use Rattle.mint.specs.Sound.{arm_numbers, are_tagged, are_arms, is_armless, is_unfit, is_empty, is_mislabelled, level_refusal, is_below, children_below, refusal, IsSound, AreSound, ArmsSound}
use Rattle.mint.specs.Measured.{size_of, AreMeasured}
use Rattle.mint.proofs.Unfolding.{unfolded-push}

-- ---- what a level that is not refused has

pub record Taken (t : Ty) : Type 0 where
  pub fit : is_unfit t ≡ false
  pub full : is_empty t ≡ false
  pub labelled : is_mislabelled t ≡ false
  pub shallow : depth t ≤ 32
  pub light : weight (blank t) ≤ 1048576

five : (a b c d e : Bool)
    → cond a (Some err.Kind) (cond b (Some err.Empty) (cond c (Some err.Labels) (cond d (Some err.Deep) (cond e (Some err.Heavy) None))))
    ≡ None
    → (a ≡ false) × (b ≡ false) × (c ≡ false) × (d ≡ false) × (e ≡ false)
five true b c d e h = absurd cc
five false true c d e h = absurd cc
five false false true d e h = absurd cc
five false false false true e h = absurd cc
five false false false false true h = absurd cc
five false false false false false h = (refl, refl, refl, refl, refl)

pub level_taken : (t : Ty) → level_refusal t ≡ None → Taken t
level_taken t h =
    let s = five (is_unfit t) (is_empty t) (is_mislabelled t) (nat_lt 32 (depth t)) (nat_lt 1048576 (weight (blank t))) h in
    record { fit = s.0; full = s.1; labelled = s.2; shallow = ltb-false 32 (depth t) s.3; light = ltb-false 1048576 (weight (blank t)) s.4 }

pub sound_level : (t : Ty) → IsSound t → level_refusal t ≡ None
sound_level void_type h = h
sound_level (scalar_type s) h = h
sound_level (array_type a) h = h
sound_level (group_type ts) h = h.0
sound_level (items_type c t) h = h.0
sound_level (choice_type s arms) h = h.0
sound_level (maybe_type t) h = h.0

pub sound_taken : (t : Ty) → IsSound t → Taken t
sound_taken t h = level_taken t (sound_level t h)

-- ---- children below

are_below : (k : ℕ) (is : List ℕ) → list_all (λ i. nat_lt i k) is ≡ true → AreBelow k is
are_below k [] h = tt
are_below k (i ∷ is) h = let s = and_parts (nat_lt i k) (list_all (λ j. nat_lt j k) is) h in (ltb-true i k s.0, are_below k is s.1)

arms_below : (k : ℕ) (arms : List (ℤ × ℕ)) → list_all (λ a. nat_lt a.1 k) arms ≡ true → ArmsBelow k arms
arms_below k [] h = tt
arms_below k (a ∷ arms) h = let s =
    and_parts (nat_lt a.1 k) (list_all (λ b. nat_lt b.1 k) arms) h in (ltb-true a.1 k s.0, arms_below k arms s.1)

other_below : (k : ℕ) (o : Option ℕ) → is_below k o ≡ true → IsBelow k o
other_below k None h = tt
other_below k (Some i) h = ltb-true i k h

pub below_taken : (k : ℕ) (n : Node) → children_below k n ≡ true → HasChildrenBelow k n
below_taken k node.Void h = tt
below_taken k (node.Num x) h = tt
below_taken k (node.Enum ns) h = tt
below_taken k (node.Text c) h = tt
below_taken k (node.Row x c) h = tt
below_taken k (node.Group ids) h = are_below k ids h
below_taken k (node.Items i c) h = ltb-true i k h
below_taken k (node.Choice t arms o) h = let s =
    and_parts (list_all (λ a. nat_lt a.1 k) arms) (is_below k o) h in (arms_below k arms s.0, other_below k o s.1)
below_taken k (node.Maybe i) h = ltb-true i k h

-- ---- a node that is not refused

pub record Admitted (nodes : List Node) (n : Node) : Type 0 where
  pub room : length nodes < 65536
  pub below : HasChildrenBelow (length nodes) n
  pub level : level_refusal (level (unfolded nodes) n) ≡ None

two : (a b : Bool) (r : Option MintErr) → cond a (Some err.Many) (cond (not b) (Some err.Forward) r) ≡ None
    → (a ≡ false) × (b ≡ true) × (r ≡ None)
two true b r h = absurd cc
two false false r h = absurd cc
two false true r h = (refl, refl, h)

pub admitted : (nodes : List Node) (n : Node) → refusal nodes n ≡ None → Admitted nodes n
admitted nodes n h =
    let s = two (nat_le 65536 (length nodes)) (children_below (length nodes) n) (level_refusal (level (unfolded nodes) n)) h in
    record { room = leb-false 65536 (length nodes) s.0; below = below_taken (length nodes) n s.1; level = s.2 }

-- ---- soundness

sound_at : (ts : List Ty) (i : ℕ) → AllByRecursion IsSound ts → i < length ts → IsSound (at ts i)
sound_at [] i all h = absurd (omega arith)
sound_at (t ∷ ts) zero all h = all.0
sound_at (t ∷ ts) (suc i) all h = sound_at ts i all.1 (omega arith)

fields_sound : (ts : List Ty) (is : List ℕ) → AllByRecursion IsSound ts → AreBelow (length ts) is → AreSound (fields_at ts is)
fields_sound ts [] all below = tt
fields_sound ts (i ∷ is) all below = (sound_at ts i all below.0, fields_sound ts is all below.1)

arms_sound : (ts : List Ty) (arms : List (ℤ × ℕ)) (o : Option ℕ) → AllByRecursion IsSound ts
    → ArmsBelow (length ts) arms → IsBelow (length ts) o
    → ArmsSound (arms_at ts arms o)
arms_sound ts [] None all below last = tt
arms_sound ts [] (Some i) all below last = sound_at ts i all last
arms_sound ts (a ∷ arms) o all below last = (sound_at ts a.1 all below.0, arms_sound ts arms o all below.1 last)

level_sound : (ts : List Ty) (n : Node) → AllByRecursion IsSound ts → HasChildrenBelow (length ts) n → level_refusal (level ts n) ≡ None
    → IsSound (level ts n)
level_sound ts node.Void all below h = h
level_sound ts (node.Num x) all below h = h
level_sound ts (node.Enum ns) all below h = h
level_sound ts (node.Text c) all below h = h
level_sound ts (node.Row x c) all below h = h
level_sound ts (node.Group ids) all below h = (h, fields_sound ts ids all below)
level_sound ts (node.Items i c) all below h = (h, sound_at ts i all below)
level_sound ts (node.Choice t arms o) all below h = (h, arms_sound ts arms o all below.0 below.1)
level_sound ts (node.Maybe i) all below h = (h, sound_at ts i all below)

all-push : (P : Ty → Type 0) (ts : List Ty) (t : Ty) → AllByRecursion P ts → P t → AllByRecursion P (ts ++ t ∷ [])
all-push P [] t all h = (h, tt)
all-push P (u ∷ ts) t all h = (all.0, all-push P ts t all.1 h)

-- ---- the table

length_from : (ts : List Ty) (nodes : List Node) → length (unfolded_from ts nodes) ≡ length ts + length nodes
unfolding unfolded_from
length_from ts [] = omega arith
length_from ts (n ∷ nodes) = omega (arith, length_from (ts ++ level ts n ∷ []) nodes, length-append ts (level ts n ∷ []))

pub length-unfolded : (nodes : List Node) → length (unfolded nodes) ≡ length nodes
unfolding unfolded
length-unfolded nodes = omega (arith, length_from [] nodes)

pub found : (nodes : List Node) (n m : Node) (k : ℕ) → slice_get (nodes ++ n ∷ []) k ≡ Some m
    → (slice_get nodes k ≡ Some m) ⊎ ((k ≡ length nodes) × (n ≡ m))
found [] n m zero is = inr (refl, cc)
found [] n m (suc k) is = absurd cc
found (x ∷ nodes) n m zero is = inl is
found (x ∷ nodes) n m (suc k) is = elim (found nodes n m k is) [ inl there ↦ inl there | inr last ↦ inr (ap suc last.0, last.1) ]

IsTable-push : (nodes : List Node) (n : Node) → IsTable nodes → HasChildrenBelow (length nodes) n → IsTable (nodes ++ n ∷ [])
IsTable-push nodes n table below k m is =
    elim (found nodes n m k is) [ inl there ↦ table k m there | inr last ↦ rw (last.0, ← last.1) below ]

pub measured_none : AreMeasured [] []
unfolding unfolded unfolded_from
measured_none = record { table = λ k n is. absurd cc; many = omega arith; measured = refl; sound = tt }

pub measured-push : (nodes : List Node) (sizes : List Size) (n : Node) (s : Size) → AreMeasured nodes sizes
    → refusal nodes n ≡ None → s ≡ size_of (level (unfolded nodes) n)
    → AreMeasured (nodes ++ n ∷ []) (sizes ++ s ∷ [])
measured-push nodes sizes n s are h is =
    let a : Admitted nodes n = admitted nodes n h in
    let t : Ty = level (unfolded nodes) n in
    let many = length-unfolded nodes in
    record {
      table = IsTable-push nodes n are.table a.below;
      many = omega (arith, length-append nodes (n ∷ []), a.room);
      measured = rw (unfolded-push nodes n, map-append, ← are.measured, is) refl;
      sound =
          rw (unfolded-push nodes n)
          (all-push IsSound (unfolded nodes) t are.sound (level_sound (unfolded nodes) n are.sound (rw many a.below) a.level));
    }

-- the size that is kept of a node
pub size_kept : {A : Type 0} (f : A → Node) (g : A → Size) (es : List A) (i : ℕ) (e : A)
    → AreMeasured (map f es) (map g es) → i < length es → e ≡ get_or es i e
    → g e ≡ size_of (type_at (map f es) i)
size_kept f g es i e are h is =
    let many : length (unfolded (map f es)) ≡ length es = length-unfolded (map f es) ∙ length-map es f in
    ap g is ∙ sym (get_or-map g es i e (g e) h) ∙ ap (λ z. get_or z i (g e)) are.measured
    ∙ get_or-map size_of (unfolded (map f es)) i void_type (g e) (rw many h)

pub size_small : (nodes : List Node) (sizes : List Size) (i : ℕ) → AreMeasured nodes sizes → i < length nodes → Taken (type_at nodes i)
size_small nodes sizes i are h = sound_taken (type_at nodes i) (sound_at (unfolded nodes) i are.sound (rw (length-unfolded nodes) h))

pub found_below : (nodes : List Node) (i : ℕ) (n : Node) → slice_get nodes i ≡ Some n → i < length nodes
found_below [] i n is = absurd cc
found_below (m ∷ nodes) zero n is = omega arith
found_below (m ∷ nodes) (suc i) n is = let less = found_below nodes i n is in omega arith

pub sound_found : (nodes : List Node) (sizes : List Size) (i : ℕ) (n : Node) → AreMeasured nodes sizes → slice_get nodes i ≡ Some n
    → IsSound (type_at nodes i)
sound_found nodes sizes i n are is = sound_at (unfolded nodes) i are.sound (rw (length-unfolded nodes) (found_below nodes i n is))

at_sound : (ts : List Ty) (i : ℕ) → AllByRecursion IsSound ts → IsSound (at ts i)
at_sound [] i all = refl
at_sound (t ∷ ts) zero all = all.0
at_sound (t ∷ ts) (suc i) all = at_sound ts i all.1

-- the type of each number is sound, also where there is no such node
pub each_sound : (nodes : List Node) (sizes : List Size) → AreMeasured nodes sizes → (i : ℕ) → IsSound (type_at nodes i)
each_sound nodes sizes are i = at_sound (unfolded nodes) i are.sound

get_there : {A : Type 0} (es : List A) (i : ℕ) (e : A) → i < length es → e ≡ get_or es i e → slice_get es i ≡ Some e
get_there [] i e h is = absurd (omega arith)
get_there (d ∷ es) zero e h is = ap Some (sym is)
get_there (d ∷ es) (suc i) e h is = get_there es i e (omega arith) is

-- what is found at a place
pub entry_there : {A : Type 0} (f : A → Node) (es fs : List A) (i : ℕ) (e : A) → es ≡ fs → true ≡ ltb i (length es) → e ≡ get_or es i e
    → slice_get (map f fs) i ≡ Some (f e)
entry_there f es fs i e same h is =
    rw (← same) (slice_get-map f es i ∙ ap (option_map f) (get_there es i e (ltb-true i (length es) (sym h)) is))

get_past : {A : Type 0} (es : List A) (i : ℕ) → length es ≤ i → slice_get es i ≡ None
get_past [] i h = refl
get_past (d ∷ es) zero h = absurd (omega arith)
get_past (d ∷ es) (suc i) h = get_past es i (omega arith)

pub entry_past : {A : Type 0} (f : A → Node) (es fs : List A) (i : ℕ) → es ≡ fs → length es ≤ i → slice_get (map f fs) i ≡ None
entry_past f es fs i same h = rw (← same) (slice_get-map f es i ∙ ap (option_map f) (get_past es i h))

-- ---- the arms of a choice

pub arms_below_at : (k : ℕ) (arms : List (ℤ × ℕ)) (i : ℕ) (d : ℤ × ℕ) → ArmsBelow k arms → i < length arms → (get_or arms i d).1 < k
arms_below_at k [] i d below h = absurd (omega arith)
arms_below_at k (a ∷ arms) zero d below h = below.0
arms_below_at k (a ∷ arms) (suc i) d below h = arms_below_at k arms i d below.1 (omega arith)

pub arms_first : (ts : List Ty) (arms : List (ℤ × ℕ)) (o : Option ℕ) (s : Scalar) (a : ℤ × ℕ) → Some a ≡ slice_get arms 0
    → blank_arm s (arms_at ts arms o) ≡ arm a.0 (blank (at ts a.1))
arms_first ts [] o s a is = absurd cc
arms_first ts (b ∷ arms) o s a is = let same : a ≡ b = cc in rw same refl

pub arms_none : (ts : List Ty) (arms : List (ℤ × ℕ)) (o : Option ℕ) → None ≡ slice_get arms 0 → arms_at ts arms o ≡ others_at ts o
arms_none ts [] o is = refl
arms_none ts (b ∷ arms) o is = absurd cc

pub numbers_listed : (ts : List Ty) (arms : List (ℤ × ℕ)) (o : Option ℕ) → arm_numbers (arms_at ts arms o) ≡ map (λ a. a.0) arms
numbers_listed ts [] None = refl
numbers_listed ts [] (Some i) = refl
numbers_listed ts (a ∷ arms) o = ap (λ z. a.0 ∷ z) (numbers_listed ts arms o)

pub weights-copies : (n : ℕ) (v : Val) → weights (copies n v) ≡ n * weight v
weights-copies zero v = omega arith
weights-copies (suc n) v = omega (arith, weights-copies n v, suc-mul n (weight v))

-- whether arms are those of a tag
pub are_arms_is : (s : Scalar) (ts : List Ty) (listed arms : List (ℤ × ℕ)) (o : Option ℕ) (b : Bool) → listed ≡ arms
    → b ≡ are_tagged s (map (λ a. a.0) listed)
    → are_arms s (arms_at ts arms o) ≡ (b && not (is_armless (arms_at ts arms o)))
are_arms_is s ts listed arms o b same is = rw (is, same, numbers_listed ts arms o) refl

pub armed : (ts : List Ty) (arms : List (ℤ × ℕ)) (o : Option ℕ) → 0 < length arms → is_armless (arms_at ts arms o) ≡ false
armed ts [] o h = absurd (omega arith)
armed ts (a ∷ arms) o h = refl

-- what fits a signed word of 32 bits is in range
pub label_ranged : (n : ℤ) → FitsSigned w32 n → in_range kind.I32 n ≡ true
label_ranged (pos n) h = lt-ltb n 2147483648 h.sfits
label_ranged (negsuc n) h = lt-ltb n 2147483648 h.sfits

pub ruleset ranged_labels = (label_ranged)
