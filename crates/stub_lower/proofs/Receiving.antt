-- The code of a node reads its values, over those of its parts.
use Rattle.std.proofs.Common.{◌≡◌, ℕ, zero, suc, ◌+◌, ◌<◌, ◌≤◌, ℤ, pos, negsuc, List, [], ◌∷◌, Option, Some, None, option_map, refl, sym, ap, subst, ◌∙◌, arith, Bool, true, false, if◌then◌else◌}
use Rattle.std.specs.List.{AllByRecursion}
use Rattle.std.proofs.Common.{is_some}
use Rattle.std.specs.Ordering.{int_eq}
use Rattle.mint.specs.declared.kind.Count.{Count}
use Rattle.mint.specs.declared.kind.Count.TheVariants.{Exactly}
use Rattle.mint.specs.declared.node.Node.{Node}
use Rattle.mint.specs.declared.node.Node.TheVariants as node
use Rattle.mint.specs.Blank.{depth, fields_depth, arms_depth, least}
use Rattle.mint.specs.Types.{Scalar, number, label, text, row_of, Ty, scalar_type, items_type, choice_type, maybe_type, at, fields_at, Arms, no_other, others, arm_type, arms_at, scalar_of, level, HasChildrenBelow, ArmsBelow, IsBelow}
use Rattle.mint.specs.Typed.{has_arm}
use Rattle.mint.specs.Values.{Val, num, group, items, arm, absent, present, Vals, no_more, val, vals_of}
use Rattle.wire_def.specs.declared.encoding.Encoding.{Encoding}
use Rattle.wire_def.specs.declared.fault.FaultKind.{FaultKind}
use Rattle.wire_def.specs.declared.fault.FaultKind.TheVariants.{BadValue}
use Rattle.wire_def.specs.Grammar.{Reading, got, stop, Reader, AreOctets, then_on, map_got, both, times, tested}
use Rattle.wire_def.specs.Send.{flag}
use Rattle.wire_def.specs.Lone.{read_lone}
use Rattle.wire_def.specs.Arrays.{counted, read_count}
use Rattle.wire_def.specs.Reading.{read, read_fields, read_arm, read_tag, read_after}
use Rattle.cast_stub.specs.declared.recv.Get.{Get}
use Rattle.cast_stub.specs.declared.recv.Get.TheVariants as get
use Rattle.cast_stub.specs.Parts.{on_some}
use Rattle.cast_stub.specs.RecvBlock.{Recv, finish, each, switch, if_there}
use Rattle.cast_stub.specs.RecvAppend.{append}
use Rattle.cast_stub.specs.Draft.{Draft, raw, listed, tagged, flagged, done, fields, Drafts, no_draft, draft, fresh, all_fresh, settle, settles, type_of_arm}
use Rattle.cast_stub.specs.Fill.{settled, runs, at_field, within, fill_each, fill_items, fill_arm, fill_present, Callees, fill, fill_case}
use Rattle.cast_stub.specs.Into.{arm_draft, flag_draft}
use Rattle.cast_stub.specs.Runs.{Place, Run, gives, refuses, strays, Filler, if_passed, then_run, map_run}
use Rattle.cast_stub.proofs.RecvAppending.{fill-append}
use Rattle.cast_stub.specs.Layouts.{order_of, scalar_width}
use Rattle.wire_def.specs.Places.{IsPlace}
use Rattle.stub_lower.specs.Items.{number_at}
use Rattle.stub_lower.specs.RecvCodes.{scalar_code, count_code, tag_code, flag_code, call_here, calls_from, cases_at, node_code, number_code, number_get}
use Rattle.stub_lower.proofs.Agreeing.{Agrees, Same, Settles, agrees-then, agrees-map, agrees-read, agrees-given, agrees-finish, agrees-settled, agrees-runs, agrees-ends}
use Rattle.stub_lower.proofs.RecvEncoded.{taken, Takes, Reads, reads-wider, After, after_placed, LonesRead, count-reads, then_gives}
use Rattle.stub_lower.proofs.RecvPass.{pass_ends}
use Rattle.stub_lower.proofs.RecvArrays.{ArraysRead}

-- code before other code
append-agrees : {A B : Type 0} (K : ℕ → Type 0) (P : Draft → A → Type 0) (Q : Draft → B → Type 0) (c : Callees) (a b : Recv) (d : Draft)
    (s : Place) (r : Reading FaultKind A) (g : A → Reader FaultKind B) → Agrees K P (fill c a d s) r
    → ((x : Draft) (y : A) (t : Place) → P x y → K t.pos → AreOctets t.left → Agrees K Q (fill c b x t) (g y t.pos t.left))
    → Agrees K Q (fill c (append a b) d s) (then_on r g)
append-agrees K P Q c a b d s r g first after =
    subst (λ (x : Run Draft). Agrees K Q x (then_on r g)) (sym (fill-append c a b d s))
    (agrees-then K K P Q (fill c a d s) r (fill c b) g first after)

map_map : {A B C : Type 0} (f : B → C) (g : A → B) (x : Run A) → map_run f (map_run g x) ≡ map_run (λ a. f (g a)) x
map_map f g (gives a s) = refl
map_map f g refuses = refl
map_map f g strays = refl

module _ (e : Encoding) (lone : LonesRead e) (array : ArraysRead e) (us : List Ty) (c : Callees) (n b : ℕ)
    (child : (i : ℕ) (s : Place) → i < b → depth (at us i) ≤ n → IsPlace e s.pos → AreOctets s.left
    → Agrees (IsPlace e) Settles (c i (fresh (at us i)) s) (read e (at us i) s.pos s.left)) where
  -- a scalar by itself
  scalar-reads : (t : Scalar) (g : Get) (d : Draft) (f : ℤ → Option Draft) (s : Place) → IsPlace e s.pos → AreOctets s.left
      → Takes e t (number_at e) g d f
      → Reads (IsPlace e) (fill c (scalar_code e t g) d s) (read_lone e t s.pos s.left) f
  scalar-reads t g d f s here oct does =
      reads-wider (After e t) (IsPlace e) (fill c (scalar_code e t g) d s) (read_lone e t s.pos s.left) f (lone c t g d f s here oct does)
      (after_placed e t)

  -- a call on the current value
  here-reads : (i : ℕ) (s : Place) → i < b → depth (at us i) ≤ n → IsPlace e s.pos → AreOctets s.left
      → Agrees (IsPlace e) Settles (fill c (call_here i) (fresh (at us i)) s) (read e (at us i) s.pos s.left)
  here-reads i s below low here oct =
      agrees-finish (IsPlace e) Settles (c i (fresh (at us i)) s) (read e (at us i) s.pos s.left) c (child i s below low here oct)

  -- ---- a struct: fields that were read come before those that were not

  -- drafts before them leave each of the others to be reached at its number
  Reaches : ℕ → (Drafts → Drafts) → Type 0
  Reaches j front = (k : ℕ) (f : Filler) (ds : Drafts) (s : Place) → at_field (j + k) f (front ds) s ≡ map_run front (at_field k f ds s)

  -- and are values before them
  Holds : (Drafts → Drafts) → (Vals → Vals) → Type 0
  Holds front back = (ds : Drafts) (vs : Vals) → settles ds ≡ Some vs → settles (front ds) ≡ Some (back vs)

  reaches_more : (j : ℕ) (front : Drafts → Drafts) (y : Draft) → Reaches j front → Reaches (suc j) (λ ds. front (draft y ds))
  unfolding Reaches
  reaches_more j front y h k f ds s =
      let next : suc j + k ≡ j + suc k = omega arith in
      ap (λ (i : ℕ). at_field i f (front (draft y ds)) s) next ∙ h (suc k) f (draft y ds) s ∙ map_map front (draft y) (at_field k f ds s)

  holds_more : (front : Drafts → Drafts) (back : Vals → Vals) (y : Draft) (v : Val) → settle y ≡ Some v → Holds front back
      → Holds (λ ds. front (draft y ds)) (λ vs. back (val v vs))
  unfolding Holds
  holds_more front back y v is h ds vs e =
      h (draft y ds) (val v vs) (ap (λ (o : Option Val). on_some o (λ w. on_some (settles ds) (λ ws. Some (val w ws)))) is
      ∙ ap (λ (o : Option Vals). on_some o (λ ws. Some (val v ws))) e)

  call_at : (i j : ℕ) (r : Recv) (front : Drafts → Drafts) (d : Draft) (ds : Drafts) (s : Place) → Reaches j front
      → within (j ∷ []) (c i) (fields (front (draft d ds))) s ≡ map_run (λ x. fields (front (draft x ds))) (c i d s)
  unfolding Reaches
  call_at i j r front d ds s h =
      let here : j ≡ j + 0 = omega arith in
      ap (map_run fields)
      (ap (λ (m : ℕ). at_field m (c i) (front (draft d ds)) s) here ∙ h 0 (c i) (draft d ds) s ∙ map_map front (λ x. draft x ds) (c i d s))
      ∙ map_map fields (λ x. front (draft x ds)) (c i d s)

  fields-read : (is : List ℕ) (j : ℕ) (front : Drafts → Drafts) (back : Vals → Vals) (s : Place) → Reaches j front → Holds front back
      → AllByRecursion (λ i. i < b) is → fields_depth (fields_at us is) ≤ n → IsPlace e s.pos → AreOctets s.left
      → Agrees (IsPlace e) (λ (d : Draft) (vs : Vals). settle d ≡ Some (group (back vs)))
      (fill c (calls_from j is) (fields (front (all_fresh (fields_at us is)))) s) (read_fields e (fields_at us is) s.pos s.left)
  unfolding read Holds
  fields-read [] j front back s reach hold below low here oct = (ap (option_map group) (hold no_draft no_more refl), refl, refl, here, oct)
  fields-read (i ∷ is) j front back s reach hold below low here oct =
      subst (λ (x : Run Draft). Agrees (IsPlace e) (λ (d : Draft) (vs : Vals). settle d ≡ Some (group (back vs)))
      (then_run x (fill c (calls_from (suc j) is))) (read_fields e (fields_at us (i ∷ is)) s.pos s.left))
      (sym (call_at i j (calls_from (suc j) is) front (fresh (at us i)) (all_fresh (fields_at us is)) s reach))
      (agrees-read (IsPlace e) Pairs (λ (d : Draft) (vs : Vals). settle d ≡ Some (group (back vs)))
      (then_run (map_run (λ x. fields (front (draft x (all_fresh (fields_at us is))))) (c i (fresh (at us i)) s))
      (fill c (calls_from (suc j) is)))
      (both (read e (at us i)) (λ v q o. read_fields e (fields_at us is) q o) s.pos s.left) (λ x. val x.0 x.1)
      (agrees-then (IsPlace e) (IsPlace e) Opened Pairs
      (map_run (λ x. fields (front (draft x (all_fresh (fields_at us is))))) (c i (fresh (at us i)) s)) (read e (at us i) s.pos s.left)
      (fill c (calls_from (suc j) is)) (λ v q o. map_got (λ y. (v, y)) (read_fields e (fields_at us is) q o))
      (agrees-given (IsPlace e) Settles Opened (c i (fresh (at us i)) s) (read e (at us i) s.pos s.left)
      (λ x. fields (front (draft x (all_fresh (fields_at us is)))))
      (child i s below.0 (omega arith) here oct) (λ (x : Draft) (v : Val) is_v. (x, refl, is_v)))
      (λ (d : Draft) (v : Val) (t : Place) opened k o.
      subst (λ (y : Draft). Agrees (IsPlace e) Pairs (fill c (calls_from (suc j) is) y t)
      (map_got (λ y. (v, y)) (read_fields e (fields_at us is) t.pos t.left))) (sym opened.1)
      (agrees-read (IsPlace e) (λ (y : Draft) (vs : Vals). settle y ≡ Some (group (back (val v vs)))) Pairs
      (fill c (calls_from (suc j) is) (fields (front (draft opened.0 (all_fresh (fields_at us is))))) t)
      (read_fields e (fields_at us is) t.pos t.left) (λ y. (v, y))
      (fields-read is (suc j) (λ ds. front (draft opened.0 ds)) (λ vs. back (val v vs)) t (reaches_more j front opened.0 reach)
      (holds_more front back opened.0 v opened.2 hold) below.1 (omega arith) k o)
      (λ (y : Draft) (vs : Vals) h. h))))
      (λ (d : Draft) (x : Val × Vals) h. h)) where
        Pairs : Draft → Val × Vals → Type 0
        Pairs d x = settle d ≡ Some (group (back (val x.0 x.1)))

        Opened : Draft → Val → Type 0
        Opened d v = (x : Draft) × (d ≡ fields (front (draft x (all_fresh (fields_at us is))))) × (settle x ≡ Some v)

  map_same : {A : Type 0} (x : Run A) → x ≡ map_run (λ y. y) x
  map_same (gives y t) = refl
  map_same refuses = refl
  map_same strays = refl

  reach_first : Reaches 0 (λ ds. ds)
  unfolding Reaches
  reach_first k f ds s =
      let same : 0 + k ≡ k = omega arith in
      ap (λ (m : ℕ). at_field m f ds s) same ∙ map_same (at_field k f ds s)

  hold_first : Holds (λ ds. ds) (λ vs. vs)
  unfolding Holds
  hold_first ds vs h = h

  -- ---- a list

  items-read : (x : Count) (i : ℕ) (s : Place) → i < b → depth (at us i) ≤ n → IsPlace e s.pos → AreOctets s.left
      → Agrees (IsPlace e) Settles (fill c (append (count_code e x) (each [] (call_here i) finish)) (raw (items_type x (at us i))) s)
      (read e (items_type x (at us i)) s.pos s.left)
  unfolding read
  items-read x i s below low here oct =
      agrees-read (IsPlace e) Whole Settles
      (fill c (append (count_code e x) (each [] (call_here i) finish)) (raw (items_type x (at us i))) s)
      (both (read_count e x) (λ m. times (read e (at us i)) m) s.pos s.left) (λ y. items (vals_of y.1))
      (append-agrees (IsPlace e) Opens Whole c (count_code e x) (each [] (call_here i) finish) (raw (items_type x (at us i))) s
      (read_count e x s.pos s.left)
      (λ m q o. map_got (λ y. (m, y)) (times (read e (at us i)) m q o))
      (count-reads e lone c (listed (at us i)) (raw (items_type x (at us i))) s here oct x (IsPlace e) Opens (after_placed e counted)
      (λ (m : ℕ) is. here) (λ (m : ℕ) (u : Place). refl) (λ (m : ℕ) (f : Filler) (t : Place). refl) fixed)
      (λ (d : Draft) (m : ℕ) (t : Place) opens k o.
      agrees-read (IsPlace e) Listed Whole (fill c (each [] (call_here i) finish) d t) (times (read e (at us i)) m t.pos t.left)
      (λ y. (m, y))
      (subst (λ (z : Run Draft). Agrees (IsPlace e) Listed (then_run z (fill c finish)) (times (read e (at us i)) m t.pos t.left))
      (sym (opens (fill c (call_here i)) t))
      (agrees-finish (IsPlace e) Listed (fill_items (fill c (call_here i)) (at us i) m t) (times (read e (at us i)) m t.pos t.left) c
      (agrees-given (IsPlace e) Same Listed (runs (λ u. settled (fill c (call_here i) (fresh (at us i)) u)) m t)
      (times (read e (at us i)) m t.pos t.left) (λ vs. done (items (vals_of vs)))
      (agrees-runs (IsPlace e) (λ u. settled (fill c (call_here i) (fresh (at us i)) u)) (read e (at us i)) m t
      (λ (u : Place) p q. agrees-settled (IsPlace e) (fill c (call_here i) (fresh (at us i)) u) (read e (at us i) u.pos u.left)
      (here-reads i u below low p q)) k o)
      (λ (vs : List Val) (ws : List Val) same. ap (λ (l : List Val). Some (items (vals_of l))) same))))
      (λ (y : Draft) (vs : List Val) h. h)))
      (λ (d : Draft) (y : ℕ × List Val) h. h) where
        Whole : Draft → ℕ × List Val → Type 0
        Whole d y = settle d ≡ Some (items (vals_of y.1))

        Listed : Draft → List Val → Type 0
        Listed d vs = settle d ≡ Some (items (vals_of vs))

        Opens : Draft → ℕ → Type 0
        Opens d m = (f : Filler) (t : Place) → fill_each f d t ≡ fill_items f (at us i) m t

        fixed : (m : ℕ) → x ≡ Exactly m → Opens (raw (items_type x (at us i))) m
        fixed m same f t = ap (λ (y : Count). fill_items f (at us i) (least y) t) same

  -- ---- a union

  arms-read : (arms : List (ℤ × ℕ)) (other : Option ℕ) (m : ℤ) (T : Ty) (s : Place) → ArmsBelow b arms → IsBelow b other
      → arms_depth (arms_at us arms other) ≤ n → type_of_arm (arms_at us arms other) m ≡ Some T → IsPlace e s.pos → AreOctets s.left
      → Agrees (IsPlace e) Settles (fill_case c (cases_at arms other) m (fresh T) s) (read_arm e (arms_at us arms other) m s.pos s.left)
  unfolding read
  arms-read [] None m T s below last low is here oct = absurd cc
  arms-read [] (Some i) m T s below last low is here oct =
      let same : at us i ≡ T = cc in
      subst (λ (t : Ty). Agrees (IsPlace e) Settles (fill c (call_here i) (fresh t) s) (read e (at us i) s.pos s.left)) same
      (here-reads i s last low here oct)
  arms-read (a ∷ arms) other m T s below last low is here oct =
      either (int_eq m a.0) is (here-reads a.1 s below.0 (omega (arith, low)) here oct)
      (λ h. arms-read arms other m T s below.1 last (omega (arith, low)) h here oct) where
        either : (t : Bool) → (if t then Some (at us a.1) else type_of_arm (arms_at us arms other) m) ≡ Some T
            → Agrees (IsPlace e) Settles (fill c (call_here a.1) (fresh (at us a.1)) s) (read e (at us a.1) s.pos s.left)
            → (type_of_arm (arms_at us arms other) m ≡ Some T
            → Agrees (IsPlace e) Settles (fill_case c (cases_at arms other) m (fresh T) s)
            (read_arm e (arms_at us arms other) m s.pos s.left))
            → Agrees (IsPlace e) Settles (if t then fill c (call_here a.1) (fresh T) s else fill_case c (cases_at arms other) m (fresh T) s)
            (if t then read e (at us a.1) s.pos s.left else read_arm e (arms_at us arms other) m s.pos s.left)
        either true h first rest =
            let same : at us a.1 ≡ T = cc in
            subst (λ (t : Ty). Agrees (IsPlace e) Settles (fill c (call_here a.1) (fresh t) s) (read e (at us a.1) s.pos s.left)) same first
        either false h first rest = rest h

  -- a number has an arm where it has a type
  has-type : (A : Arms) (z : ℤ) → has_arm A z ≡ is_some (type_of_arm A z)
  has-type no_other z = refl
  has-type (others t) z = refl
  has-type (arm_type m t arms) z = decided (int_eq z m) (has-type arms z) where
    decided : (g : Bool) → has_arm arms z ≡ is_some (type_of_arm arms z)
        → (if g then true else has_arm arms z) ≡ is_some (if g then Some t else type_of_arm arms z)
    decided true h = refl
    decided false h = h

  -- the number of a union
  tag-reads : (t : Scalar) (A : Arms) (s : Place) → IsPlace e s.pos → AreOctets s.left
      → Agrees (IsPlace e) (λ (d : Draft) (z : ℤ). (T : Ty) × (d ≡ tagged z T) × (type_of_arm A z ≡ Some T))
      (fill c (tag_code e t) (raw (choice_type t A)) s) (read_tag e t A s.pos s.left)
  tag-reads t A s here oct =
      let r = scalar-reads t (get.Tag (number_at e) [] (scalar_width e t) (order_of e)) (raw (choice_type t A)) (arm_draft A) s here oct
      (λ (u : Place) o. refl) in
      agrees-ends (IsPlace e) Tags (fill c (tag_code e t) (raw (choice_type t A)) s)
      (tested (read_lone e t) (has_arm A) BadValue (λ q. q) s.pos s.left) (read_tag e t A s.pos s.left)
      (pass_ends t (has_arm A) BadValue e s.pos s.left)
      (subst (λ (x : Run Draft). Agrees (IsPlace e) Tags x (tested (read_lone e t) (has_arm A) BadValue (λ q. q) s.pos s.left)) (sym r.is)
      (agrees-then (IsPlace e) (IsPlace e) Same Tags r.number (read_lone e t s.pos s.left) (taken (arm_draft A))
      (λ z q o. if has_arm A z then got z q o else stop BadValue s.pos) r.agrees
      (λ (z : ℤ) (y : ℤ) (u : Place) same k o. subst
      (λ (w : ℤ). Agrees (IsPlace e) Tags (taken (arm_draft A) z u) (if has_arm A w then got w u.pos u.left else stop BadValue s.pos)) same
      (subst (λ (g : Bool). Agrees (IsPlace e) Tags (taken (arm_draft A) z u) (if g then got z u.pos u.left else stop BadValue s.pos))
      (sym (has-type A z)) (held z u k o (type_of_arm A z) refl))))) where
        Tags : Draft → ℤ → Type 0
        Tags d z = (T : Ty) × (d ≡ tagged z T) × (type_of_arm A z ≡ Some T)

        held : (z : ℤ) (u : Place) → IsPlace e u.pos → AreOctets u.left → (g : Option Ty) → type_of_arm A z ≡ g
            → Agrees (IsPlace e) Tags (if_passed (option_map (tagged z) g) (λ d. gives d u))
            (if is_some g then got z u.pos u.left else stop BadValue s.pos)
        held z u k o (Some T) is = ((T, refl, is), refl, refl, k, o)
        held z u k o None is = tt

  choice-read : (t : Scalar) (arms : List (ℤ × ℕ)) (other : Option ℕ) (s : Place) → ArmsBelow b arms → IsBelow b other
      → arms_depth (arms_at us arms other) ≤ n → IsPlace e s.pos → AreOctets s.left
      → Agrees (IsPlace e) Settles
      (fill c (append (tag_code e t) (switch [] (cases_at arms other) finish)) (raw (choice_type t (arms_at us arms other))) s)
      (read e (choice_type t (arms_at us arms other)) s.pos s.left)
  unfolding read
  choice-read t arms other s below last low here oct =
      agrees-read (IsPlace e) Whole Settles
      (fill c (append (tag_code e t) (switch [] (cases_at arms other) finish)) (raw (choice_type t A)) s)
      (both (read_tag e t A) (λ m q o. read_arm e A m q o) s.pos s.left) (λ x. arm x.0 x.1)
      (append-agrees (IsPlace e) Tags Whole c (tag_code e t) (switch [] (cases_at arms other) finish) (raw (choice_type t A)) s
      (read_tag e t A s.pos s.left) (λ m q o. map_got (λ y. (m, y)) (read_arm e A m q o))
      (tag-reads t A s here oct)
      (λ (d : Draft) (m : ℤ) (u : Place) tag k o.
      subst (λ (x : Draft). Agrees (IsPlace e) Whole (fill c (switch [] (cases_at arms other) finish) x u)
      (map_got (λ y. (m, y)) (read_arm e A m u.pos u.left))) (sym tag.1)
      (agrees-finish (IsPlace e) Whole (fill_arm (fill_case c (cases_at arms other)) (tagged m tag.0) u)
      (map_got (λ y. (m, y)) (read_arm e A m u.pos u.left)) c
      (agrees-map (IsPlace e) Same Whole (settled (fill_case c (cases_at arms other) m (fresh tag.0) u)) (read_arm e A m u.pos u.left)
      (λ v. done (arm m v)) (λ y. (m, y))
      (agrees-settled (IsPlace e) (fill_case c (cases_at arms other) m (fresh tag.0) u) (read_arm e A m u.pos u.left)
      (arms-read arms other m tag.0 u below last low tag.2 k o))
      (λ (v : Val) (w : Val) same. ap (λ (x : Val). Some (arm m x)) same)))))
      (λ (d : Draft) (x : ℤ × Val) h. h) where
        A : Arms
        A = arms_at us arms other

        Whole : Draft → ℤ × Val → Type 0
        Whole d x = settle d ≡ Some (arm x.0 x.1)

        Tags : Draft → ℤ → Type 0
        Tags d z = (T : Ty) × (d ≡ tagged z T) × (type_of_arm A z ≡ Some T)

  -- ---- an optional value

  maybe-read : (i : ℕ) (s : Place) → i < b → depth (at us i) ≤ n → IsPlace e s.pos → AreOctets s.left
      → Agrees (IsPlace e) Settles (fill c (append (flag_code e) (if_there [] (call_here i) finish)) (raw (maybe_type (at us i))) s)
      (read e (maybe_type (at us i)) s.pos s.left)
  unfolding read
  maybe-read i s below low here oct =
      let r = scalar-reads flag (get.Flag (number_at e) [] (scalar_width e flag) (order_of e)) (raw (maybe_type (at us i)))
      (flag_draft (at us i)) s here oct (λ (u : Place) o. refl) in
      agrees-read (IsPlace e) Whole Settles
      (fill c (append (flag_code e) (if_there [] (call_here i) finish)) (raw (maybe_type (at us i))) s)
      (both (read_lone e flag) (λ m. read_after (read e (at us i)) m) s.pos s.left) (λ x. x.1)
      (append-agrees (IsPlace e) Flags Whole c (flag_code e) (if_there [] (call_here i) finish) (raw (maybe_type (at us i))) s
      (read_lone e flag s.pos s.left) (λ m q o. map_got (λ y. (m, y)) (read_after (read e (at us i)) m q o))
      (subst (λ (x : Run Draft). Agrees (IsPlace e) Flags x (read_lone e flag s.pos s.left)) (sym r.is)
      (flagged_so r.number (read_lone e flag s.pos s.left) r.agrees))
      (λ (d : Draft) (m : ℤ) (u : Place) is k o. after d m u is k o))
      (λ (d : Draft) (x : ℤ × Val) h. h) where
        Whole : Draft → ℤ × Val → Type 0
        Whole d x = settle d ≡ Some x.1

        Flags : Draft → ℤ → Type 0
        Flags d z = flag_draft (at us i) z ≡ Some d

        one_flag : (z : ℤ) (t : Place) → IsPlace e t.pos → AreOctets t.left
            → Agrees (IsPlace e) Flags (taken (flag_draft (at us i)) z t) (got z t.pos t.left)
        one_flag (pos zero) t k o = (refl, refl, refl, k, o)
        one_flag (pos (suc m)) t k o = (refl, refl, refl, k, o)
        one_flag (negsuc m) t k o = (refl, refl, refl, k, o)

        flagged_so : (x : Run ℤ) (r : Reading FaultKind ℤ) → Agrees (IsPlace e) Same x r
            → Agrees (IsPlace e) Flags (then_run x (taken (flag_draft (at us i)))) r
        flagged_so (gives z t) (got y q o) h =
            subst (λ (w : ℤ). Agrees (IsPlace e) Flags (taken (flag_draft (at us i)) z t) (got w q o)) h.0
            (subst (λ (m : ℕ). Agrees (IsPlace e) Flags (taken (flag_draft (at us i)) z t) (got z m o)) h.1
            (subst (λ (l : List ℕ). Agrees (IsPlace e) Flags (taken (flag_draft (at us i)) z t) (got z t.pos l)) h.2
            (one_flag z t (subst (IsPlace e) (sym h.1) h.3) (subst AreOctets (sym h.2) h.4))))
        flagged_so (gives z t) (stop x at) h = absurd h
        flagged_so refuses (stop x at) h = tt
        flagged_so refuses (got y q o) h = absurd h
        flagged_so strays (stop x at) h = absurd h
        flagged_so strays (got y q o) h = absurd h

        there : (m : ℤ) (u : Place) → IsPlace e u.pos → AreOctets u.left
            → Agrees (IsPlace e) Whole (fill c (if_there [] (call_here i) finish) (flagged (at us i)) u)
            (map_got (λ y. (m, y)) (map_got present (read e (at us i) u.pos u.left)))
        there m u k o =
            agrees-finish (IsPlace e) Whole (fill_present (fill c (call_here i)) (flagged (at us i)) u)
            (map_got (λ y. (m, y)) (map_got present (read e (at us i) u.pos u.left))) c
            (agrees-read (IsPlace e) Settles Whole (fill_present (fill c (call_here i)) (flagged (at us i)) u)
            (map_got present (read e (at us i) u.pos u.left)) (λ y. (m, y))
            (agrees-map (IsPlace e) Same Settles (settled (fill c (call_here i) (fresh (at us i)) u)) (read e (at us i) u.pos u.left)
            (λ v. done (present v)) present
            (agrees-settled (IsPlace e) (fill c (call_here i) (fresh (at us i)) u) (read e (at us i) u.pos u.left)
            (here-reads i u below low k o))
            (λ (v : Val) (w : Val) same. ap (λ (x : Val). Some (present x)) same))
            (λ (d : Draft) (v : Val) h. h))

        after : (d : Draft) (m : ℤ) (u : Place) → Flags d m → IsPlace e u.pos → AreOctets u.left
            → Agrees (IsPlace e) Whole (fill c (if_there [] (call_here i) finish) d u)
            (map_got (λ y. (m, y)) (read_after (read e (at us i)) m u.pos u.left))
        after d (pos zero) u is k o =
            let same : done absent ≡ d = cc in
            subst
            (λ (x : Draft). Agrees (IsPlace e) Whole (fill c (if_there [] (call_here i) finish) x u) (got (pos 0, absent) u.pos u.left))
            same (refl, refl, refl, k, o)
        after d (pos (suc m)) u is k o =
            let same : flagged (at us i) ≡ d = cc in
            subst (λ (x : Draft). Agrees (IsPlace e) Whole (fill c (if_there [] (call_here i) finish) x u)
            (map_got (λ y. (pos (suc m), y)) (map_got present (read e (at us i) u.pos u.left)))) same (there (pos (suc m)) u k o)
        after d (negsuc m) u is k o =
            let same : flagged (at us i) ≡ d = cc in
            subst (λ (x : Draft). Agrees (IsPlace e) Whole (fill c (if_there [] (call_here i) finish) x u)
            (map_got (λ y. (negsuc m, y)) (map_got present (read e (at us i) u.pos u.left)))) same (there (negsuc m) u k o)

  -- ---- every node

  number-read : (t : Scalar) (s : Place) → IsPlace e s.pos → AreOctets s.left
      → Agrees (IsPlace e) Settles (fill c (number_code e t) (raw (scalar_type t)) s) (read e (scalar_type t) s.pos s.left)
  unfolding read
  number-read t s here oct =
      let r = scalar-reads t (number_get e t) (raw (scalar_type t)) (λ z. Some (done (num z))) s here oct (λ (u : Place) o. refl) in
      subst (λ (x : Run Draft). Agrees (IsPlace e) Settles x (map_got num (read_lone e t s.pos s.left)))
      (sym (r.is ∙ then_gives r.number (λ z. done (num z))))
      (agrees-map (IsPlace e) Same Settles r.number (read_lone e t s.pos s.left) (λ z. done (num z)) num r.agrees
      (λ (x : ℤ) (y : ℤ) same. ap (λ (z : ℤ). Some (num z)) same))

  pub node-reads : (m : Node) (s : Place) → HasChildrenBelow b m → depth (level us m) ≤ suc n → IsPlace e s.pos → AreOctets s.left
      → Agrees (IsPlace e) Settles (fill c (node_code e m) (fresh (level us m)) s) (read e (level us m) s.pos s.left)
  unfolding read
  node-reads node.Void s below low here oct = (refl, refl, refl, here, oct)
  node-reads (node.Num k) s below low here oct = number-read (number k) s here oct
  node-reads (node.Enum ls) s below low here oct = number-read (label ls) s here oct
  node-reads (node.Text x) s below low here oct = array c (text x) s here oct
  node-reads (node.Row k x) s below low here oct = array c (row_of k x) s here oct
  node-reads (node.Group is) s below low here oct =
      agrees-read (IsPlace e) (λ (d : Draft) (vs : Vals). settle d ≡ Some (group vs)) Settles
      (fill c (calls_from 0 is) (fields (all_fresh (fields_at us is))) s) (read_fields e (fields_at us is) s.pos s.left) group
      (fields-read is 0 (λ ds. ds) (λ vs. vs) s reach_first hold_first below (omega (arith, low)) here oct)
      (λ (d : Draft) (vs : Vals) h. h)
  node-reads (node.Items i x) s below low here oct = items-read x i s below (omega (arith, low)) here oct
  node-reads (node.Choice t arms other) s below low here oct =
      choice-read (scalar_of t) arms other s below.0 below.1 (omega (arith, low)) here oct
  node-reads (node.Maybe i) s below low here oct = maybe-read i s below (omega (arith, low)) here oct
