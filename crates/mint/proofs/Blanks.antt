-- Blank values, field by field and copy by copy, by induction on the values and on the number of copies.
use Rattle.std.proofs.Common.{◌≡◌, ℕ, zero, suc, List, [], ◌++◌, refl, sym, ap, ◌∙◌, replicate, ◌≤◌, length, drop, append-nil, Result, Ok, Err, IfOk, ℤ, Option, None, Some, slice_get}
use Rattle.std.proofs.Math.ListN.{drop_of_length-le}
use Rattle.kit_base.specs.declared.errors.NoMemory.{NoMemory}
use Rattle.mint.specs.declared.value.Value.{Value}
use Rattle.mint.specs.Types.{Scalar, Ty, at, arms_at, others_at}
use Rattle.mint.proofs.Measuring.{arms_first, arms_none}
use Rattle.mint.specs.Values.{seen, void, arm, Val, Vals, no_more, val, vals_of, list_of}
use Rattle.mint.specs.Blank.{blank, blank_arm, blank_scalar, copies}

pub vals_of-list_of : (vs : Vals) → vals_of (list_of vs) ≡ vs
vals_of-list_of no_more = refl
vals_of-list_of (val v vs) = ap (val v) (vals_of-list_of vs)

pub all_listed : (ws : List Val) (vs : Vals) → ws ≡ list_of vs → vals_of ws ≡ vs
all_listed ws vs is = ap vals_of is ∙ vals_of-list_of vs

vals_of-replicate : (n : ℕ) (v : Val) → vals_of (replicate n v) ≡ copies n v
vals_of-replicate zero v = refl
vals_of-replicate (suc n) v = ap (val v) (vals_of-replicate n v)

pub all_copies : (ws : List Val) (n : ℕ) (v : Val) → ws ≡ replicate n v → vals_of ws ≡ copies n v
all_copies ws n v is = ap vals_of is ∙ vals_of-replicate n v

-- what was made so far is all where nothing is left
pub all_made : (F : List ℕ → List Val) (ws : List Val) (xs ys : List ℕ) (i : ℕ) → xs ≡ ys → length xs ≤ i → F [] ≡ []
    → ws ++ F (drop i xs) ≡ F xs
    → ws ≡ F ys
all_made F ws xs ys i same h none is =
    let end : F (drop i xs) ≡ [] = ap F (drop_of_length-le xs h) ∙ none in
    sym (append-nil ws) ∙ ap (λ z. ws ++ z) (sym end) ∙ is ∙ ap F same

-- what is made for an arm
pub arm_made : (r : Result Value NoMemory) (v w : Val) → IfOk r (λ x. seen x ≡ v) → w ≡ v → IfOk r (λ x. seen x ≡ w)
arm_made (Ok x) v w h is = h ∙ sym is
arm_made (Err e) v w h is = tt

pub first_made : (r : Result Value NoMemory) (ts : List Ty) (arms : List (ℤ × ℕ)) (o : Option ℕ) (s : Scalar) (a : ℤ × ℕ) (n : ℤ) (x : Val)
    → IfOk r (λ v. seen v ≡ arm n x) → Some a ≡ slice_get arms 0 → n ≡ a.0 → x ≡ blank (at ts a.1)
    → IfOk r (λ v. seen v ≡ blank_arm s (arms_at ts arms o))
first_made r ts arms o s a n x h is tag inner = arm_made r (arm n x) _ h (rw (tag, inner) (arms_first ts arms o s a is))

pub other_made : (r : Result Value NoMemory) (ts : List Ty) (arms : List (ℤ × ℕ)) (o : Option ℕ) (s : Scalar) (i : ℕ) (n : ℤ) (x : Val)
    → IfOk r (λ v. seen v ≡ arm n x) → None ≡ slice_get arms 0 → o ≡ Some i → n ≡ blank_scalar s → x ≡ blank (at ts i)
    → IfOk r (λ v. seen v ≡ blank_arm s (arms_at ts arms o))
other_made r ts arms o s i n x h none is tag inner =
    arm_made r (arm n x) _ h (rw (tag, inner) (ap (blank_arm s) (arms_none ts arms o none) ∙ ap (λ z. blank_arm s (others_at ts z)) is))

pub none_made : (ts : List Ty) (arms : List (ℤ × ℕ)) (o : Option ℕ) (s : Scalar) → None ≡ slice_get arms 0 → o ≡ None
    → void ≡ blank_arm s (arms_at ts arms o)
none_made ts arms o s none is = sym (ap (blank_arm s) (arms_none ts arms o none) ∙ ap (λ z. blank_arm s (others_at ts z)) is)
