-- Numbers that are put into drafts.
use Rattle.std.proofs.Common.{◌≡◌, ℕ, ℤ, List, [], ◌∷◌, Option, None, Some, option_map, refl, sym, ap, subst, ◌∙◌, Bool, true, false, if◌then◌else◌}
use Rattle.std.specs.Int.{Width}
use Rattle.mint.specs.declared.node.Node.{Node}
use Rattle.mint.specs.declared.value.Value.TheOpen.{Value-F}
use Rattle.mint.specs.declared.value.Value.TheVariants as value
use Rattle.mint.specs.declared.value.Value.TheFolds.{fold-roll-Value}
use Rattle.mint.specs.Types.{Scalar, number, Array, Ty, void_type, scalar_type, array_type, group_type, items_type, choice_type, maybe_type, type_at, at, arms_at, level, unfolded, scalar_of}
use Rattle.mint.specs.Typed.{is_scalar}
use Rattle.mint.specs.declared.node.Node.TheVariants as node
use Rattle.mint.specs.declared.node.Tag.{Tag}
use Rattle.mint.specs.Arms.{arm_found}
use Rattle.std.specs.Ordering.{int_eq}
use Rattle.mint.specs.Values.{Val, num, absent, seen, seen_level}
use Rattle.wire_def.specs.Scalars.{is_signed, number_of}
use Rattle.wire_def.specs.Arrays.{kind_of}
use Rattle.cast_stub.specs.Parts.{on_some}
use Rattle.cast_stub.specs.Draft.{Draft, raw, done, tagged, type_of_arm}
use Rattle.cast_stub.specs.Into.{is_digit, num_into, tag_into, arm_draft}
use Rattle.cast_stub.specs.Runs.{Place, gives, refuses, if_passed, Holds}
use Rattle.stub_receiver.specs.Ran.{Took}
use Rattle.stub_receiver.specs.declared.draft.Filling.{Filling}
use Rattle.stub_receiver.specs.declared.draft.Filling.TheVariants as filling
use Rattle.stub_receiver.specs.Drawn.{array_at, drawn, scalar_in, passing, digit_passing}
use Rattle.stub_receiver.proofs.Drafting.{drawn-Raw, drawn-Digit, no_node, drawing}

pub seen-Num : (n : ℤ) → seen (value.Num n) ≡ num n
seen-Num n = ap seen (sym (value.rolls-Num n)) ∙ fold-roll-Value Val seen_level (Value-F.Num n)

passed_so : (b : Bool) (z : ℤ) (s : Place) (o : Option ℤ) → (if b then Some z else None) ≡ o
    → Took (λ n. done (num n)) o s (if b then gives (done (num z)) s else refuses)
passed_so true z s (Some n) e =
    let same : z ≡ n = cc in
    ap (λ (y : ℤ). gives (done (num y)) s) same
passed_so true z s None e = absurd cc
passed_so false z s (Some n) e = absurd cc
passed_so false z s None e = refl

pub scalar_taken : (T : Ty) (x : Width) (m : ℕ) (s : Place) (o : Option ℤ) → on_some (scalar_in T) (passing x m) ≡ o
    → Holds (num_into x m (raw T) s)
    → Took (λ n. done (num n)) o s (num_into x m (raw T) s)
scalar_taken (scalar_type t) x m s o e h = passed_so (is_scalar t (number_of (is_signed t) x m)) (number_of (is_signed t) x m) s o e
scalar_taken void_type x m s o e h = absurd h
scalar_taken (array_type a) x m s o e h = absurd h
scalar_taken (group_type ts) x m s o e h = absurd h
scalar_taken (items_type c t) x m s o e h = absurd h
scalar_taken (choice_type t a) x m s o e h = absurd h
scalar_taken (maybe_type t) x m s o e h = absurd h

-- a number of a scalar
pub num_read : (ns : List Node) (old : Filling) (id : ℕ) (x : Width) (m : ℕ) (o : Option ℤ) (s : Place)
    → old ≡ filling.Raw id → on_some (scalar_in (type_at ns id)) (passing x m) ≡ o → Holds (num_into x m (drawn ns old) s)
    → Took (λ n. done (num n)) o s (num_into x m (drawn ns old) s)
num_read ns old id x m o s is e h =
    let same : drawn ns old ≡ raw (type_at ns id) = ap (drawn ns) is ∙ drawn-Raw ns id in
    subst (λ (d : Draft). Took (λ n. done (num n)) o s (num_into x m d s)) (sym same)
    (scalar_taken (type_at ns id) x m s o e (subst (λ (d : Draft). Holds (num_into x m d s)) same h))

pub digit_read : (ns : List Node) (old : Filling) (id : ℕ) (x : Width) (m : ℕ) (o : Option ℤ) (s : Place)
    → old ≡ filling.Digit id → digit_passing (array_at ns id) x m ≡ o
    → Took (λ n. done (num n)) o s (num_into x m (drawn ns old) s)
digit_read ns old id x m o s is e =
    let a : Array = array_at ns id in
    subst (λ (d : Draft). Took (λ n. done (num n)) o s (num_into x m d s)) (sym (ap (drawn ns) is ∙ drawn-Digit ns id))
    (passed_so (is_digit a (number_of (is_signed (number (kind_of a))) x m)) (number_of (is_signed (number (kind_of a))) x m) s o e)

pub seen-None : seen (value.Opt None) ≡ absent
seen-None = ap seen (sym (value.rolls-Opt None)) ∙ fold-roll-Value Val seen_level (Value-F.Opt None)

-- ---- the number of a union

found_type : (us : List Ty) (arms : List (ℤ × ℕ)) (other : Option ℕ) (n : ℤ)
    → type_of_arm (arms_at us arms other) n ≡ option_map (at us) (arm_found arms other n)
found_type us [] None n = refl
found_type us [] (Some i) n = refl
found_type us (a ∷ arms) other n = decided (int_eq n a.0) (found_type us arms other n) where
  decided : (b : Bool) → type_of_arm (arms_at us arms other) n ≡ option_map (at us) (arm_found arms other n)
      → (if b then Some (at us a.1) else type_of_arm (arms_at us arms other) n)
      ≡ option_map (at us) (if b then Some a.1 else arm_found arms other n)
  decided true h = refl
  decided false h = h

passed_tag : (b : Bool) (z n : ℤ) (f : ℤ → Option Draft) (s : Place) → (if b then Some z else None) ≡ Some n
    → (if b then if_passed (f z) (λ d. gives d s) else refuses) ≡ if_passed (f n) (λ d. gives d s)
passed_tag true z n f s e = let same : z ≡ n = cc in ap (λ (y : ℤ). if_passed (f y) (λ d. gives d s)) same
passed_tag false z n f s e = absurd cc

tag_taken : (us : List Ty) (t : Scalar) (arms : List (ℤ × ℕ)) (other : Option ℕ) (x : Width) (m : ℕ) (n : ℤ) (o : Option ℕ) (s : Place)
    → passing x m t ≡ Some n → arm_found arms other n ≡ o
    → tag_into x m (raw (choice_type t (arms_at us arms other))) s ≡ if_passed (option_map (λ i. tagged n (at us i)) o) (λ d. gives d s)
tag_taken us t arms other x m n o s e f =
    passed_tag (is_scalar t (number_of (is_signed t) x m)) (number_of (is_signed t) x m) n (arm_draft (arms_at us arms other)) s e
    ∙ ap (λ (z : Option Ty). if_passed (option_map (tagged n) z) (λ d. gives d s)) (found_type us arms other n ∙ ap (option_map (at us)) f)
    ∙ ends o where
      ends : (z : Option ℕ)
          → if_passed (option_map (tagged n) (option_map (at us) z)) (λ d. gives d s)
          ≡ if_passed (option_map (λ i. tagged n (at us i)) z) (λ d. gives d s)
      ends None = refl
      ends (Some i) = refl

module _ (ns : List Node) (old : Filling) (id : ℕ) (nd : Node) (tag : Tag) (arms : List (ℤ × ℕ)) (other : Option ℕ)
    (x : Width) (m : ℕ) (n : ℤ) (s : Place) (is : old ≡ filling.Raw id) (leveled : type_at ns id ≡ level (unfolded ns) nd)
    (choice : nd ≡ node.Choice tag arms other) (passes : passing x m (scalar_of tag) ≡ Some n) where
  whole : drawn ns old ≡ raw (choice_type (scalar_of tag) (arms_at (unfolded ns) arms other))
  whole = ap (drawn ns) is ∙ drawn-Raw ns id ∙ ap raw (leveled ∙ ap (level (unfolded ns)) choice)

  pub tag_found : (item : ℕ) (new : Filling) → arm_found arms other n ≡ Some item → drawn ns new ≡ tagged n (type_at ns item)
      → tag_into x m (drawn ns old) s ≡ gives (drawn ns new) s
  tag_found item new found made = ap (λ (d : Draft). tag_into x m d s) whole
      ∙ tag_taken (unfolded ns) (scalar_of tag) arms other x m n (Some item) s passes found ∙ ap (λ (d : Draft). gives d s) (sym made)

  pub tag_missing : arm_found arms other n ≡ None → tag_into x m (drawn ns old) s ≡ refuses
  tag_missing found =
      ap (λ (d : Draft). tag_into x m d s) whole ∙ tag_taken (unfolded ns) (scalar_of tag) arms other x m n None s passes found

pub ruleset getting = (drawing, no_node, seen-None)
