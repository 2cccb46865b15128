-- Code whose calls are replaced gives the same, by induction on the depth of calls and the code.
use Rattle.std.proofs.Common.{◌≡◌, ℕ, zero, suc, ◌+◌, ◌*◌, ℤ, List, [], ◌∷◌, Option, Some, None, refl, sym, ap, subst, ◌∙◌, Bool, true, false, if◌then◌else◌}
use Rattle.std.specs.Ordering.{int_eq}
use Rattle.mint.specs.Types.{Ty, array_type, items_type, Array}
use Rattle.mint.specs.Values.{Val, num_in, row, items, arm, present, absent, vals_of}
use Rattle.wire_def.specs.Arrays.{kind_of, count_of}
use Rattle.mint.specs.Blank.{least}
use Rattle.cast_stub.specs.RecvBlock.{Recv, finish, need, need_row, skip_any, skip_zero, pass, desc, row_block, row_wide, each, switch, if_there, call, Cases, no_default, default, case}
use Rattle.cast_stub.specs.RecvAppend.{rebase}
use Rattle.cast_stub.specs.Draft.{Draft, raw, digit, listed, lined, tagged, flagged, done, fields, Drafts, no_draft, draft, fresh, length_in}
use Rattle.cast_stub.specs.Fill.{all_got, at_field, within, part, settled, settled_number, runs, fill_items, fill_row, fill_each, fill_arm, fill_present, Callees, fill, fill_case}
use Rattle.cast_stub.specs.Into.{needed, passed, skipped, all_zero, desc_into, row_into, wide_into}
use Rattle.cast_stub.specs.Runs.{Place, Run, gives, refuses, strays, Filler, Going, then_run, map_run, if_some}
use Rattle.cast_stub.specs.Got.{called}
use Rattle.cast_stub.proofs.RecvAppending.{fill-append}
use Rattle.cast_stub.specs.Runs.{Holds}
use Rattle.cast_stub.proofs.RecvParts.{replaced, within_is, no_part}
use Rattle.copy_inline.specs.RecvSpliced.{spliced, cases_spliced, spliced_or_stop, inlined}
use Rattle.cast_stub.proofs.RecvRebasing.{fill-rebase}

-- where the first does not stray the second is the same
abbrev pub Below : {A : Type 0} → Run A → Run A → Type 0
Below x y = Holds x → y ≡ x

same_below : {A : Type 0} (x : Run A) → Below x x
same_below x h = refl

below_then : {A B : Type 0} (x y : Run A) (f g : A → Place → Run B) → Below x y → ((a : A) (t : Place) → Below (f a t) (g a t))
    → Below (then_run x f) (then_run y g)
below_then (gives a t) y f g h k held = ap (λ z. then_run z g) (h tt) ∙ k a t held
below_then refuses y f g h k held = ap (λ z. then_run z g) (h tt)
below_then strays y f g h k held = absurd held

below_map : {A B : Type 0} (h : A → B) (x y : Run A) → Below x y → Below (map_run h x) (map_run h y)
below_map h (gives a t) y e held = ap (map_run h) (e tt)
below_map h refuses y e held = ap (map_run h) (e tt)
below_map h strays y e held = absurd held

below_settled : (x y : Run Draft) → Below x y → Below (settled x) (settled y)
below_settled (gives d t) y e held = ap settled (e tt)
below_settled refuses y e held = ap settled (e tt)
below_settled strays y e held = absurd held

below_runs : {A : Type 0} (f g : Going A) → ((s : Place) → Below (f s) (g s)) → (n : ℕ) (s : Place) → Below (runs f n s) (runs g n s)
below_runs f g h zero s = same_below (gives [] s)
below_runs {A} f g h (suc n) s = below_then (f s) (g s) (λ x t. map_run (λ xs. x ∷ xs) (runs f n t))
    (λ x t. map_run (λ xs. x ∷ xs) (runs g n t)) (h s)
    (λ (a : A) (t : Place). below_map (λ xs. a ∷ xs) (runs f n t) (runs g n t) (below_runs f g h n t))

-- ---- fillers

abbrev AreBelow : Filler → Filler → Type 0
AreBelow f g = (d : Draft) (s : Place) → Below (f d s) (g d s)

below_field : (f g : Filler) → AreBelow f g → (n : ℕ) (ds : Drafts) (s : Place) → Below (at_field n f ds s) (at_field n g ds s)
below_field f g h n no_draft s = λ held. absurd held
below_field f g h zero (draft d ds) s = below_map (λ x. draft x ds) (f d s) (g d s) (h d s)
below_field f g h (suc n) (draft d ds) s = below_map (draft d) (at_field n f ds s) (at_field n g ds s) (below_field f g h n ds s)

below_within : (p : List ℕ) (f g : Filler) → AreBelow f g → AreBelow (within p f) (within p g)
below_within [] f g h d s = h d s
below_within (n ∷ p) f g h (fields ds) s = below_map fields (at_field n (within p f) ds s) (at_field n (within p g) ds s)
    (below_field (within p f) (within p g) (below_within p f g h) n ds s)
below_within (n ∷ p) f g h _ s = λ held. absurd held

module _ (f g : Filler) (h : AreBelow f g) where
  below_items : (t : Ty) (n : ℕ) (s : Place) → Below (fill_items f t n s) (fill_items g t n s)
  below_items t n s =
      below_map (λ vs. done (items (vals_of vs))) (runs (λ u. settled (f (fresh t) u)) n s) (runs (λ u. settled (g (fresh t) u)) n s)
      (below_runs (λ u. settled (f (fresh t) u)) (λ u. settled (g (fresh t) u))
      (λ (u : Place). below_settled (f (fresh t) u) (g (fresh t) u) (h (fresh t) u)) n s)

  below_row : (a : Array) (n : ℕ) (s : Place) → Below (fill_row f a n s) (fill_row g a n s)
  below_row a n s = below_map (λ ns. done (row (kind_of a) ns)) (runs (λ u. settled_number (f (digit a) u)) n s)
      (runs (λ u. settled_number (g (digit a) u)) n s)
      (below_runs (λ u. settled_number (f (digit a) u)) (λ u. settled_number (g (digit a) u))
      (λ (u : Place). below_then (settled (f (digit a) u)) (settled (g (digit a) u)) (λ v s. if_some (num_in v) (λ n. gives n s))
      (λ v s. if_some (num_in v) (λ n. gives n s))
      (below_settled (f (digit a) u) (g (digit a) u) (h (digit a) u))
      (λ (v : Val) (w : Place). same_below (if_some (num_in v) (λ n. gives n w)))) n s)

  below_each : AreBelow (fill_each f) (fill_each g)
  below_each (raw (items_type c t)) s = below_items t (least c) s
  below_each (raw (array_type a)) s = below_row a (least (count_of a)) s
  below_each (listed t n) s = below_items t n s
  below_each (lined a n) s = below_row a n s
  below_each _ s = λ held. absurd held

  below_present : AreBelow (fill_present f) (fill_present g)
  below_present (flagged t) s = below_map (λ v. done (present v)) (settled (f (fresh t) s)) (settled (g (fresh t) s))
      (below_settled (f (fresh t) s) (g (fresh t) s) (h (fresh t) s))
  below_present (done absent) s = same_below (gives (done absent) s)
  below_present _ s = λ held. absurd held

below_arm : (f g : ℤ → Filler) → ((n : ℤ) → AreBelow (f n) (g n)) → AreBelow (fill_arm f) (fill_arm g)
below_arm f g h (tagged n t) s = below_map (λ v. done (arm n v)) (settled (f n (fresh t) s)) (settled (g n (fresh t) s))
    (below_settled (f n (fresh t) s) (g n (fresh t) s) (h n (fresh t) s))
below_arm f g h _ s = λ held. absurd held

below_if : (b : Bool) (x x' y y' : Run Draft) → Below x x' → Below y y' → Below (if b then x else y) (if b then x' else y')
below_if true x x' y y' h k = h
below_if false x x' y y' h k = k

-- ---- code with its calls replaced

module _ (c e : Callees) (code : ℕ → Recv) (agree : (k : ℕ) → AreBelow (c k) (fill e (code k))) where
  called_below : (k : ℕ) (p : List ℕ) → AreBelow (within p (c k)) (fill e (rebase p (code k)))
  called_below k p d s = either (part p d) refl where
    either : (o : Option Draft) → part p d ≡ o → Below (within p (c k) d s) (fill e (rebase p (code k)) d s)
    either None is = λ held. absurd (subst Holds (no_part (c k) s p d is) held)
    either (Some x) is =
        subst (λ (z : Run Draft). Below z (fill e (rebase p (code k)) d s)) (sym (within_is (c k) x s p d is))
        (subst (λ (z : Run Draft). Below (then_run (c k x s) (replaced p d)) z) (sym (fill-rebase e p (code k) d x s is))
        (below_then (c k x s) (fill e (code k) x s) (replaced p d) (replaced p d) (agree k x s)
        (λ (y : Draft) (t : Place). same_below (replaced p d y t))))

  after : (x y : Run Draft) (r : Recv) → Below x y → AreBelow (fill c r) (fill e (spliced code r))
      → Below (then_run x (fill c r)) (then_run y (fill e (spliced code r)))
  after x y r h k = below_then x y (fill c r) (fill e (spliced code r)) h k

  mutual
    spliced_same : (b : Recv) → AreBelow (fill c b) (fill e (spliced code b))
    spliced_same finish d s = same_below (gives d s)
    spliced_same (need n r) d s = after (needed n d s) (needed n d s) r (same_below (needed n d s)) (spliced_same r)
    spliced_same (need_row p u k r) d s =
        let x : Run Draft = if_some (part p d) (λ x. if_some (length_in x) (λ n. needed (n * u + k) d s)) in
        after x x r (same_below x) (spliced_same r)
    spliced_same (skip_any a r) d s =
        after (skipped (λ o. true) a d s) (skipped (λ o. true) a d s) r (same_below (skipped (λ o. true) a d s)) (spliced_same r)
    spliced_same (skip_zero a r) d s =
        after (skipped all_zero a d s) (skipped all_zero a d s) r (same_below (skipped all_zero a d s)) (spliced_same r)
    spliced_same (pass n gs r) d s =
        below_then (all_got gs d s) (all_got gs d s) (λ x t. then_run (passed n x t) (fill c r))
        (λ x t. then_run (passed n x t) (fill e (spliced code r))) (same_below (all_got gs d s))
        (λ (x : Draft) (t : Place). after (passed n x t) (passed n x t) r (same_below (passed n x t)) (spliced_same r))
    spliced_same (desc p name size mul r) d s = after (within p (desc_into name size mul) d s) (within p (desc_into name size mul) d s) r
        (same_below (within p (desc_into name size mul) d s)) (spliced_same r)
    spliced_same (row_block p o r) d s =
        after (within p (row_into o) d s) (within p (row_into o) d s) r (same_below (within p (row_into o) d s)) (spliced_same r)
    spliced_same (row_wide p o r) d s =
        after (within p (wide_into o) d s) (within p (wide_into o) d s) r (same_below (within p (wide_into o) d s)) (spliced_same r)
    spliced_same (each p b r) d s = after (within p (fill_each (fill c b)) d s) (within p (fill_each (fill e (spliced code b))) d s) r
        (below_within p (fill_each (fill c b)) (fill_each (fill e (spliced code b)))
        (below_each (fill c b) (fill e (spliced code b)) (spliced_same b)) d s) (spliced_same r)
    spliced_same (switch p cs r) d s =
        after (within p (fill_arm (fill_case c cs)) d s) (within p (fill_arm (fill_case e (cases_spliced code cs))) d s) r
        (below_within p (fill_arm (fill_case c cs)) (fill_arm (fill_case e (cases_spliced code cs)))
        (below_arm (fill_case c cs) (fill_case e (cases_spliced code cs)) (case_same cs)) d s) (spliced_same r)
    spliced_same (if_there p b r) d s =
        after (within p (fill_present (fill c b)) d s) (within p (fill_present (fill e (spliced code b))) d s) r
        (below_within p (fill_present (fill c b)) (fill_present (fill e (spliced code b)))
        (below_present (fill c b) (fill e (spliced code b)) (spliced_same b)) d s) (spliced_same r)
    spliced_same (call k p r) d s =
        subst (λ (z : Run Draft). Below (then_run (within p (c k) d s) (fill c r)) z)
        (sym (fill-append e (rebase p (code k)) (spliced code r) d s))
        (after (within p (c k) d s) (fill e (rebase p (code k)) d s) r (called_below k p d s) (spliced_same r))

    case_same : (cs : Cases) (n : ℤ) → AreBelow (fill_case c cs n) (fill_case e (cases_spliced code cs) n)
    case_same no_default n d s = λ held. absurd held
    case_same (default b) n d s = spliced_same b d s
    case_same (case m b cs) n d s = below_if (int_eq n m) (fill c b d s) (fill e (spliced code b) d s) (fill_case c cs n d s)
        (fill_case e (cases_spliced code cs) n d s) (spliced_same b d s) (case_same cs n d s)

sub_below : (c e : Callees) (code : ℕ → Recv) (o : Option Recv) (d : Draft) (s : Place) → ((k : ℕ) → AreBelow (c k) (fill e (code k)))
    → Below (if_some o (λ b. fill c b d s)) (fill e (spliced_or_stop code o) d s)
sub_below c e code None d s agree = λ held. absurd held
sub_below c e code (Some b) d s agree = spliced_same c e code agree b d s

-- a code that is called, and the same with its calls replaced
pub agrees : (subs : ℕ → Option Recv) (e : Callees) (n : ℕ) (k : ℕ) → AreBelow (called subs n k) (fill e (inlined subs n k))
agrees subs e zero k d s = λ held. absurd held
agrees subs e (suc n) k d s = sub_below (called subs n) e (inlined subs n) (subs k) d s (agrees subs e n)
