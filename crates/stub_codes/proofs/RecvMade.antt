-- What loops, arms and values behind flags read, with how many tests; and the value of a part that was read.
use Rattle.std.proofs.Common.{◌≡◌, ℕ, zero, suc, ◌+◌, ◌≤◌, ℤ, List, [], ◌∷◌, map, Option, None, Some, option_map, refl, sym, ap, ◌∙◌, subst, arith, map-id}
use Rattle.mint.specs.Types.{Array, Ty, array_type, items_type}
use Rattle.mint.specs.Blank.{least}
use Rattle.mint.specs.Values.{Val, num, num_in, row, group, items, arm, absent, present, Vals, val, vals_of, arm_in}
use Rattle.wire_def.specs.Arrays.{count_of, kind_of}
use Rattle.cast_stub.specs.Draft.{Draft, raw, digit, listed, lined, tagged, flagged, done, fields, Drafts, no_draft, draft, fresh, settle, settles}
use Rattle.cast_stub.specs.Fill.{at_field, within, field_at, part, settled, settled_number, runs, fill_items, fill_row, fill_each, fill_arm, fill_present}
use Rattle.cast_stub.specs.Met.{of_some, of_each, of_present}
use Rattle.cast_stub.specs.Parts.{on_some, at, field, elements_in}
use Rattle.cast_stub.specs.Runs.{Place, Run, gives, refuses, strays, Going, Filler, map_run, if_some}
use Rattle.stub_codes.proofs.RecvGiven.{Gives, gives_then, gives_map, gives_to, gives_some}

-- a filler that reads a value, with so many tests
abbrev pub Made : (Val → ℕ) → Place → Draft → Place → Type 0
Made h s x u = (w : Val) × (x ≡ done w) × (u.tests ≤ s.tests + h w)

abbrev pub Fills : (Val → ℕ) → Filler → Type 0
Fills h f = (d : Draft) (s : Place) → Gives (f d s) (Made h s)

-- the part at a path was read, with so many tests
abbrev pub MadeAt : List ℕ → (Val → ℕ) → Place → Draft → Place → Type 0
MadeAt p h s x u = (w : Val) × (part p x ≡ Some (done w)) × (u.tests ≤ s.tests + h w)

pub field_fills : (n : ℕ) (p : List ℕ) (h : Val → ℕ) (f : Filler) → ((d : Draft) (s : Place) → Gives (f d s) (MadeAt p h s)) → (ds : Drafts)
    (s : Place)
    → Gives (at_field n f ds s) (λ es u. (w : Val) × (on_some (field_at n es) (part p) ≡ Some (done w)) × (u.tests ≤ s.tests + h w))
field_fills n p h f g no_draft s = tt
field_fills zero p h f g (draft d ds) s =
    gives_map (λ x. draft x ds) (f d s)
    (λ es u. (w : Val) × (on_some (field_at zero es) (part p) ≡ Some (done w)) × (u.tests ≤ s.tests + h w)) (g d s)
field_fills (suc n) p h f g (draft d ds) s =
    gives_map (draft d) (at_field n f ds s)
    (λ es u. (w : Val) × (on_some (field_at (suc n) es) (part p) ≡ Some (done w)) × (u.tests ≤ s.tests + h w)) (field_fills n p h f g ds s)

pub within_fills : (p : List ℕ) (h : Val → ℕ) (f : Filler) → Fills h f → (d : Draft) (s : Place) → Gives (within p f d s) (MadeAt p h s)
within_fills [] h f g d s =
    gives_to (f d s) (Made h s) (MadeAt [] h s) (g d s) (λ (x : Draft) (u : Place) k. (k.0, ap Some k.1, k.2))
within_fills (n ∷ p) h f g (fields ds) s =
    gives_map fields (at_field n (within p f) ds s) (MadeAt (n ∷ p) h s) (field_fills n p h (within p f) (within_fills p h f g) ds s)
within_fills (n ∷ p) h f g _ s = tt

-- so many tests for the value that a draft settles to
abbrev pub By : (Val → ℕ) → Filler → Type 0
By g f = (d : Draft) (s : Place) → Gives (f d s) (λ x u. (v : Val) → settle x ≡ Some v → u.tests ≤ s.tests + g v)

pub settled_by : (g : Val → ℕ) (s : Place) (x : Run Draft) → Gives x (λ y u. (v : Val) → settle y ≡ Some v → u.tests ≤ s.tests + g v)
    → Gives (settled x) (λ v u. u.tests ≤ s.tests + g v)
settled_by g s (gives y u) h = gives_some (settle y) (λ v. gives v u) (λ v t. t.tests ≤ s.tests + g v) (λ (v : Val) is. h v is)
settled_by g s refuses h = tt
settled_by g s strays h = tt

pub number_of : (v : Val) (n : ℤ) → num_in v ≡ Some n → v ≡ num n
number_of (num m) n e = let same : m ≡ n = cc in ap num same
number_of (row k ns) n e = absurd cc
number_of (group vs) n e = absurd cc
number_of (items vs) n e = absurd cc
number_of (arm m v) n e = absurd cc
number_of absent n e = absurd cc
number_of (present v) n e = absurd cc
number_of _ n e = absurd cc

pub number_by : (g : Val → ℕ) (s : Place) (x : Run Draft) → Gives x (λ y u. (v : Val) → settle y ≡ Some v → u.tests ≤ s.tests + g v)
    → Gives (settled_number x) (λ n u. u.tests ≤ s.tests + g (num n))
number_by g s x h =
    gives_then (settled x) (λ v t. if_some (num_in v) (λ n. gives n t)) (λ v u. u.tests ≤ s.tests + g v)
    (λ n u. u.tests ≤ s.tests + g (num n)) (settled_by g s x h)
    (λ (v : Val) (t : Place) le.
    gives_some (num_in v) (λ n. gives n t) (λ n u. u.tests ≤ s.tests + g (num n))
    (λ (n : ℤ) is. subst (λ (w : Val). t.tests ≤ s.tests + g w) (number_of v n is) le))

pub runs_by : {A : Type 0} (to : A → Val) (g : Val → ℕ) (f : Going A) → ((s : Place) → Gives (f s) (λ a u. u.tests ≤ s.tests + g (to a)))
    → (n : ℕ) (s : Place) → Gives (runs f n s) (λ xs u. u.tests ≤ s.tests + of_each g (vals_of (map to xs)))
runs_by to g f h zero s = none s.tests where
  none : (k : ℕ) → k ≤ k + 0
  none k = omega arith
runs_by {A} to g f h (suc n) s =
    gives_then (f s) (λ x t. map_run (λ xs. x ∷ xs) (runs f n t)) (λ a u. u.tests ≤ s.tests + g (to a))
    (λ xs u. u.tests ≤ s.tests + of_each g (vals_of (map to xs))) (h s)
    (λ (x : A) (t : Place) le.
    gives_map (λ xs. x ∷ xs) (runs f n t) (λ xs u. u.tests ≤ s.tests + of_each g (vals_of (map to xs)))
    (gives_to (runs f n t) (λ xs u. u.tests ≤ t.tests + of_each g (vals_of (map to xs)))
    (λ xs u. u.tests ≤ s.tests + of_each g (vals_of (map to (x ∷ xs)))) (runs_by to g f h n t)
    (λ (xs : List A) (u : Place) k. omega (arith, le, k))))

-- the tests of all turns
abbrev pub in_turns : (Val → ℕ) → Val → ℕ
in_turns g w = of_some (elements_in w) (of_each g)

pub items_by : (g : Val → ℕ) (f : Filler) → By g f → (t : Ty) (n : ℕ) (s : Place) → Gives (fill_items f t n s) (Made (in_turns g) s)
items_by g f h t n s =
    let one : Going Val = λ u. settled (f (fresh t) u) in
    gives_map (λ vs. done (items (vals_of vs))) (runs one n s) (Made (in_turns g) s)
    (gives_to (runs one n s) (λ vs u. u.tests ≤ s.tests + of_each g (vals_of (map (λ v. v) vs)))
    (λ vs u. Made (in_turns g) s (done (items (vals_of vs))) u)
    (runs_by (λ v. v) g one (λ (u : Place). settled_by g u (f (fresh t) u) (h (fresh t) u)) n s)
    (λ (vs : List Val) (u : Place) le.
    (items (vals_of vs), refl, subst (λ (l : List Val). u.tests ≤ s.tests + of_each g (vals_of l)) (map-id vs) le)))

pub line_by : (g : Val → ℕ) (f : Filler) → By g f → (a : Array) (n : ℕ) (s : Place) → Gives (fill_row f a n s) (Made (in_turns g) s)
line_by g f h a n s =
    let one : Going ℤ = λ u. settled_number (f (digit a) u) in
    gives_map (λ ns. done (row (kind_of a) ns)) (runs one n s) (Made (in_turns g) s)
    (gives_to (runs one n s) (λ ns u. u.tests ≤ s.tests + of_each g (vals_of (map num ns)))
    (λ ns u. Made (in_turns g) s (done (row (kind_of a) ns)) u)
    (runs_by num g one (λ (u : Place). number_by g u (f (digit a) u) (h (digit a) u)) n s)
    (λ (ns : List ℤ) (u : Place) le. (row (kind_of a) ns, refl, le)))

pub each_by : (g : Val → ℕ) (f : Filler) → By g f → Fills (in_turns g) (fill_each f)
each_by g f h (raw (items_type c t)) = items_by g f h t (least c)
each_by g f h (raw (array_type a)) = line_by g f h a (least (count_of a))
each_by g f h (listed t n) = items_by g f h t n
each_by g f h (lined a n) = line_by g f h a n
each_by g f h _ = λ (s : Place). tt

pub arm_by : (g : ℤ → Val → ℕ) (f : ℤ → Filler) → ((n : ℤ) → By (g n) (f n))
    → Fills (λ w. of_some (arm_in w) (λ a. g a.0 a.1)) (fill_arm f)
arm_by g f h (tagged n t) = λ (s : Place).
    gives_map (λ v. done (arm n v)) (settled (f n (fresh t) s)) (Made (λ w. of_some (arm_in w) (λ a. g a.0 a.1)) s)
    (gives_to (settled (f n (fresh t) s)) (λ v u. u.tests ≤ s.tests + g n v)
    (λ v u. Made (λ w. of_some (arm_in w) (λ a. g a.0 a.1)) s (done (arm n v)) u) (settled_by (g n) s (f n (fresh t) s) (h n (fresh t) s))
    (λ (v : Val) (u : Place) le. (arm n v, refl, le)))
arm_by g f h _ = λ (s : Place). tt

pub present_by : (g : Val → ℕ) (f : Filler) → By g f → Fills (of_present g) (fill_present f)
present_by g f h (flagged t) = λ (s : Place).
    gives_map (λ v. done (present v)) (settled (f (fresh t) s)) (Made (of_present g) s)
    (gives_to (settled (f (fresh t) s)) (λ v u. u.tests ≤ s.tests + g v) (λ v u. Made (of_present g) s (done (present v)) u)
    (settled_by g s (f (fresh t) s) (h (fresh t) s)) (λ (v : Val) (u : Place) le. (present v, refl, le)))
present_by g f h (done absent) = λ (s : Place). (absent, refl, none s.tests) where
  none : (k : ℕ) → k ≤ k + 0
  none k = omega arith
present_by g f h _ = λ (s : Place). tt

pub some_is : {A : Type 0} (a b : A) → Some a ≡ Some b → a ≡ b
some_is a b e = cc

pub field_settled : (n : ℕ) (ds : Drafts) (vs : Vals) (d : Draft) → field_at n ds ≡ Some d → settles ds ≡ Some vs
    → (v : Val) × (field n vs ≡ Some v) × (settle d ≡ Some v)
field_settled n no_draft vs d e f = absurd cc
field_settled n (draft x ds) vs d e f = by_first n (settle x) (settles ds) refl refl (λ k ws. field_settled k ds ws d) e f where
  by_first : (k : ℕ) (a : Option Val) (z : Option Vals) → settle x ≡ a → settles ds ≡ z
      → ((k : ℕ) (ws : Vals) → field_at k ds ≡ Some d → settles ds ≡ Some ws → (v : Val) × (field k ws ≡ Some v) × (settle d ≡ Some v))
      → field_at k (draft x ds) ≡ Some d → on_some a (λ v. on_some z (λ ws. Some (val v ws))) ≡ Some vs
      → (v : Val) × (field k vs ≡ Some v) × (settle d ≡ Some v)
  by_first k None z g h inner e f = absurd cc
  by_first k (Some v) None g h inner e f = absurd cc
  by_first zero (Some v) (Some ws) g h inner e f =
      let here : x ≡ d = some_is x d e in
      let whole : val v ws ≡ vs = some_is (val v ws) vs f in
      (v, sym (ap (field zero) whole), sym (ap settle here) ∙ g)
  by_first (suc k) (Some v) (Some ws) g h inner e f =
      let whole : val v ws ≡ vs = some_is (val v ws) vs f in
      let rest = inner k ws e h in
      (rest.0, sym (ap (field (suc k)) whole) ∙ rest.1, rest.2)

pub group_of : (ds : Drafts) (v : Val) → settle (fields ds) ≡ Some v → (vs : Vals) × (settles ds ≡ Some vs) × (v ≡ group vs)
group_of ds v e = by_all (settles ds) refl e where
  by_all : (z : Option Vals) → settles ds ≡ z → option_map group z ≡ Some v → (vs : Vals) × (settles ds ≡ Some vs) × (v ≡ group vs)
  by_all None f e = absurd cc
  by_all (Some vs) f e = (vs, f, sym (some_is (group vs) v e))

-- the value of a part that was read
pub settled_at : (p : List ℕ) (x : Draft) (v w : Val) → part p x ≡ Some (done w) → settle x ≡ Some v → at p v ≡ Some w
settled_at [] x v w e f =
    let same : x ≡ done w = some_is x (done w) e in
    sym f ∙ ap settle same
settled_at (n ∷ p) (fields ds) v w e f = by_field (field_at n ds) refl (λ d z. settled_at p d z w) e where
  by_field : (z : Option Draft) → field_at n ds ≡ z
      → ((d : Draft) (u : Val) → part p d ≡ Some (done w) → settle d ≡ Some u → at p u ≡ Some w) → on_some z (part p) ≡ Some (done w)
      → at (n ∷ p) v ≡ Some w
  by_field None g inner e = absurd cc
  by_field (Some d) g inner e =
      let whole = group_of ds v f in
      let one = field_settled n ds whole.0 d g whole.1 in
      ap (at (n ∷ p)) whole.2 ∙ ap (λ (z : Option Val). on_some z (at p)) one.1 ∙ inner d one.0 e one.2
settled_at (n ∷ p) (raw t) v w e f = absurd cc
settled_at (n ∷ p) (digit a) v w e f = absurd cc
settled_at (n ∷ p) (listed t m) v w e f = absurd cc
settled_at (n ∷ p) (lined a m) v w e f = absurd cc
settled_at (n ∷ p) (tagged m t) v w e f = absurd cc
settled_at (n ∷ p) (flagged t) v w e f = absurd cc
settled_at (n ∷ p) (done u) v w e f = absurd cc
