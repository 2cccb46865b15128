-- What a tree shows is what is read of it, by mutual induction on faces, their parts and their arms.
use Rattle.std.proofs.Common.{◌≡◌, ℤ, Bool, true, false, Option, Some, None, option_map, option_and_then, refl, sym, ap, ◌∙◌, ◌==◌, MatchBool, int_eq, arith, is_some}
use Rattle.std.proofs.lemmas.Bool.Decides.{nat_tests}
use Rattle.std.specs.Prelude.{if◌then◌else◌}
use Rattle.std.specs.Option.{IsSomeAnd}
use Rattle.mint.specs.Values.{Val, void, num, row, group, items, arm, absent, present, Vals, no_more, val}
use Rattle.pres.specs.Faces.{Face, Parts, no_parts, part, Arms, type_of}
use Rattle.pres.specs.Faces as face
use Rattle.serde_json.specs.Data.{Data, Items, no_items, item, Members}
use Rattle.serde_json.specs.Data as json
use Rattle.json_shape.proofs.Options.{mapped_from, stepped_from, tested_from, one_some}
use Rattle.serde_json.specs.Find.{as_null}
use Rattle.wire_def.specs.Arrays.{kind_of}
use Rattle.json_shape.specs.Scalars.{sign_in, array_in}
use Rattle.json_shape.specs.Presents.{size, count, is_arm, member_of, tag_in, after_tag, Presents, Shows, ShowEach, ShowInOrder, ShowByName, ShowsArm}
use Rattle.json_shape.specs.Gives.{Gives}
use Rattle.json_shape.specs.declared.errors.ShapeErr.{ShapeErr}
use Rattle.json_shape.specs.declared.errors.ShapeErr.TheVariants as errors
use Rattle.mint.specs.Types.{Ty}
use Rattle.mint.specs.Typed.{IsWellTyped}
use Rattle.std.specs.Prelude.{Err}
use Rattle.json_shape.specs.Reading.{before, each, value_of, in_order, by_name, after}

both : (a : Option Val) (b : Option Vals) (v : Val) (vs : Vals) → a ≡ Some v → b ≡ Some vs → before a b ≡ Some (val v vs)
both a b v vs p q = rw (p, q) refl

each_shown : (P : Data → Val → Type 0) (f : Data → Option Val) → ((j : Data) (v : Val) → P j v → f j ≡ Some v) → (js : Items) (vs : Vals)
    → ShowEach P js vs
    → each f js ≡ Some vs
each_shown P f one no_items no_more h = refl
each_shown P f one (item j js) (val v vs) h = both (f j) (each f js) v vs (one j v h.0) (each_shown P f one js vs h.1)
each_shown P f one _ _ h = absurd h

member_shown : (P : Data → Val → Type 0) (f : Data → Option Val) → ((j : Data) (v : Val) → P j v → f j ≡ Some v)
    → (o : Option Data) (v : Val) → IsSomeAnd o (λ j. P j v)
    → option_and_then f o ≡ Some v
member_shown P f one None v h = absurd h
member_shown P f one (Some j) v h = one j v h

object_shown : (ps : Parts) (ms : Members) (vs : Vals) → size ms ≡ count ps → by_name ps ms ≡ Some vs
    → (if size ms == count ps then by_name ps ms else None) ≡ Some vs
object_shown ps ms vs same h =
    let test : (size ms == count ps) ≡ true = grind (arith, nat_tests, same) in
    rw test h

choice_shown : (arms : Arms) (ms : Members) (tag : Option ℤ) (n : ℤ) (v : Val) → is_arm ms ≡ true → tag ≡ Some n
    → after arms n (after_tag ms) ≡ Some v
    → (if is_arm ms then option_and_then (λ (m : ℤ). option_map (arm m) (after arms m (after_tag ms))) tag else None) ≡ Some (arm n v)
choice_shown arms ms tag n v known is h = rw (known, is, h) refl

arm_shown : (b : Bool) (P Q : Type 0) (x y : Option Val) (v : Val) → (P → x ≡ Some v) → (Q → y ≡ Some v) → MatchBool b P Q
    → (if b then x else y) ≡ Some v
arm_shown true P Q x y v f g h = f h
arm_shown false P Q x y v f g h = g h

-- the first of values and the others
halves : (a : Option Val) (b : Option Vals) (v : Val) (vs : Vals) → before a b ≡ Some (val v vs) → (a ≡ Some v) × (b ≡ Some vs)
halves None b v vs h = absurd cc
halves (Some w) None v vs h = absurd cc
halves (Some w) (Some ws) v vs h =
    let same : val w ws ≡ val v vs = one_some (val w ws) (val v vs) h in
    (cc, cc)

never_less : (a : Option Val) (b : Option Vals) → before a b ≡ Some no_more → ⊥
never_less None b h = cc
never_less (Some w) None h = cc
never_less (Some w) (Some ws) h = cc

mutual
  unfolding value_of

  pub shown : (f : Face) (j : Data) (v : Val) → Shows f j v → value_of f j ≡ Some v
  shown face.nothing json.null void h = refl
  shown (face.scalar s) j (num n) h = ap (option_map num) h
  shown (face.numbers a) j (row k ns) h = rw (h.0, h.1) refl
  shown (face.values ps) (json.array js) (group vs) h = ap (option_map group) (in_order_shown ps js vs h)
  shown (face.members ps) (json.object ms) (group vs) h = ap (option_map group) (object_shown ps ms vs h.0 (by_name_shown ps ms vs h.1))
  shown (face.list c f) (json.array js) (items vs) h = ap (option_map items) (each_shown (Shows f) (value_of f) (shown f) js vs h)
  shown (face.choice s arms) (json.object ms) (arm n v) h =
      choice_shown arms ms (tag_in s ms) n v h.0 h.1 (after_shown arms n (after_tag ms) v h.2)
  shown (face.maybe f) (json.array no_items) absent h = refl
  shown (face.maybe f) (json.array (item j no_items)) (present v) h = ap (option_map present) (shown f j v h)
  shown _ _ _ h = absurd h

  in_order_shown : (ps : Parts) (js : Items) (vs : Vals) → ShowInOrder ps js vs → in_order ps js ≡ Some vs
  in_order_shown no_parts no_items no_more h = refl
  in_order_shown (part n f ps) (item j js) (val v vs) h =
      both (value_of f j) (in_order ps js) v vs (shown f j v h.0) (in_order_shown ps js vs h.1)
  in_order_shown _ _ _ h = absurd h

  by_name_shown : (ps : Parts) (ms : Members) (vs : Vals) → ShowByName ps ms vs → by_name ps ms ≡ Some vs
  by_name_shown no_parts ms no_more h = refl
  by_name_shown (part n f ps) ms (val v vs) h =
      both (option_and_then (value_of f) (member_of n ms)) (by_name ps ms) v vs
      (member_shown (Shows f) (value_of f) (shown f) (member_of n ms) v h.0) (by_name_shown ps ms vs h.1)
  by_name_shown _ _ _ h = absurd h

  after_shown : (arms : Arms) (n : ℤ) (j : Data) (v : Val) → ShowsArm arms n j v → after arms n j ≡ Some v
  after_shown face.no_other n j v h = absurd h
  after_shown (face.other f) n j v h = shown f j v h
  after_shown (face.arm m f arms) n j v h =
      arm_shown (int_eq n m) (Shows f j v) (ShowsArm arms n j v) (value_of f j) (after arms n j) v (shown f j v)
      (after_shown arms n j v) h

each_found : (P : Data → Val → Type 0) (f : Data → Option Val) → ((j : Data) (v : Val) → f j ≡ Some v → P j v) → (js : Items) (vs : Vals)
    → each f js ≡ Some vs
    → ShowEach P js vs
each_found P f one no_items no_more h = tt
each_found P f one no_items (val v vs) h = absurd cc
each_found P f one (item j js) no_more h = absurd (never_less (f j) (each f js) h)
each_found P f one (item j js) (val v vs) h =
    let two = halves (f j) (each f js) v vs h in
    (one j v two.0, each_found P f one js vs two.1)

member_found : (P : Data → Val → Type 0) (f : Data → Option Val) → ((j : Data) (v : Val) → f j ≡ Some v → P j v)
    → (o : Option Data) (v : Val) → option_and_then f o ≡ Some v
    → IsSomeAnd o (λ j. P j v)
member_found P f one None v h = absurd cc
member_found P f one (Some j) v h = one j v h

object_found : (ps : Parts) (ms : Members) (vs : Vals) → (if size ms == count ps then by_name ps ms else None) ≡ Some vs
    → (size ms ≡ count ps) × (by_name ps ms ≡ Some vs)
object_found ps ms vs h =
    let two = tested_from (size ms == count ps) (by_name ps ms) vs h in
    (grind (arith, nat_tests, two.0), two.1)

arm_found : (b : Bool) (P Q : Type 0) (x y : Option Val) (v : Val) → (x ≡ Some v → P) → (y ≡ Some v → Q) → (if b then x else y) ≡ Some v
    → MatchBool b P Q
arm_found true P Q x y v f g h = f h
arm_found false P Q x y v f g h = g h

-- no value of another sort is read
mutual
  unfolding value_of

  pub found : (f : Face) (j : Data) (v : Val) → value_of f j ≡ Some v → Shows f j v
  found face.nothing json.null v h = let e : void ≡ v = cc in rw (← e) tt
  found face.nothing _ v h = absurd cc
  found (face.scalar s) j v h =
      let (n, is, e) = mapped_from num (sign_in s j) v h in
      rw (← e) is
  found (face.numbers a) j v h =
      let (ns, is, e) = mapped_from (row (kind_of a)) (array_in a j) v h in
      rw (← e) (refl, is)
  found (face.values ps) (json.array js) v h =
      let (vs, is, e) = mapped_from group (in_order ps js) v h in
      rw (← e) (in_order_found ps js vs is)
  found (face.values ps) _ v h = absurd cc
  found (face.members ps) (json.object ms) v h =
      let (vs, is, e) = mapped_from group (if size ms == count ps then by_name ps ms else None) v h in
      let two = object_found ps ms vs is in
      rw (← e) (two.0, by_name_found ps ms vs two.1)
  found (face.members ps) _ v h = absurd cc
  found (face.list c f) (json.array js) v h =
      let (vs, is, e) = mapped_from items (each (value_of f) js) v h in
      rw (← e) (each_found (Shows f) (value_of f) (found f) js vs is)
  found (face.list c f) _ v h = absurd cc
  found (face.choice s arms) (json.object ms) v h =
      let known =
      tested_from (is_arm ms) (option_and_then (λ (n : ℤ). option_map (arm n) (after arms n (after_tag ms))) (tag_in s ms)) v h in
      let (n, is, there) = stepped_from (λ (n : ℤ). option_map (arm n) (after arms n (after_tag ms))) (tag_in s ms) v known.1 in
      let (w, is_w, e) = mapped_from (arm n) (after arms n (after_tag ms)) v there in
      rw (← e) (known.0, is, after_found arms n (after_tag ms) w is_w)
  found (face.choice s arms) _ v h = absurd cc
  found (face.maybe f) (json.array no_items) v h = let e : absent ≡ v = cc in rw (← e) tt
  found (face.maybe f) (json.array (item j no_items)) v h =
      let (w, is, e) = mapped_from present (value_of f j) v h in
      rw (← e) (found f j w is)
  found (face.maybe f) (json.array (item j (item k js))) v h = absurd cc
  found (face.maybe f) _ v h = absurd cc

  in_order_found : (ps : Parts) (js : Items) (vs : Vals) → in_order ps js ≡ Some vs → ShowInOrder ps js vs
  in_order_found no_parts no_items no_more h = tt
  in_order_found no_parts no_items (val v vs) h = absurd cc
  in_order_found no_parts (item j js) vs h = absurd cc
  in_order_found (part n f ps) no_items vs h = absurd cc
  in_order_found (part n f ps) (item j js) no_more h = absurd (never_less (value_of f j) (in_order ps js) h)
  in_order_found (part n f ps) (item j js) (val v vs) h =
      let two = halves (value_of f j) (in_order ps js) v vs h in
      (found f j v two.0, in_order_found ps js vs two.1)

  by_name_found : (ps : Parts) (ms : Members) (vs : Vals) → by_name ps ms ≡ Some vs → ShowByName ps ms vs
  by_name_found no_parts ms no_more h = tt
  by_name_found no_parts ms (val v vs) h = absurd cc
  by_name_found (part n f ps) ms no_more h = absurd (never_less (option_and_then (value_of f) (member_of n ms)) (by_name ps ms) h)
  by_name_found (part n f ps) ms (val v vs) h =
      let two = halves (option_and_then (value_of f) (member_of n ms)) (by_name ps ms) v vs h in
      (member_found (Shows f) (value_of f) (found f) (member_of n ms) v two.0, by_name_found ps ms vs two.1)

  after_found : (arms : Arms) (n : ℤ) (j : Data) (v : Val) → after arms n j ≡ Some v → ShowsArm arms n j v
  after_found face.no_other n j v h = absurd cc
  after_found (face.other f) n j v h = found f j v h
  after_found (face.arm m f arms) n j v h =
      arm_found (int_eq n m) (Shows f j v) (ShowsArm arms n j v) (value_of f j) (after arms n j) v (found f j v)
      (after_found arms n j v) h

pub null_read : (j : Data) → true ≡ is_some (as_null j) → value_of face.nothing j ≡ Some void
unfolding value_of
null_read json.null h = refl
null_read _ h = absurd cc

pub null_missed : (j : Data) → false ≡ is_some (as_null j) → value_of face.nothing j ≡ None
unfolding value_of
null_missed json.null h = absurd cc
null_missed _ h = refl

-- a light value of the type that is read is presented, and no other one is
pub read_presents : (f : Face) (j : Data) (v : Val) (t : Ty) → t ≡ type_of f → value_of f j ≡ Some v → IsWellTyped t v → Presents f j v
read_presents f j v t same is typed = record { shows = found f j v is; typed = rw same at typed }

pub none_presented : (f : Face) (j : Data) → value_of f j ≡ None → (v : Val) → ¬ Presents f j v
none_presented f j none v p = let is = sym none ∙ shown f j v p.shows in absurd cc

pub misfit_presented : (f : Face) (j : Data) (w : Val) (t : Ty) → t ≡ type_of f → value_of f j ≡ Some w → ¬ IsWellTyped t w → (v : Val)
    → ¬ Presents f j v
misfit_presented f j w t same is misfit v p =
    let one : v ≡ w = one_some v w (sym (shown f j v p.shows) ∙ is) in
    misfit (rw (same, ← one) p.typed)

pub shape_gives_none : {X A : Type 0} (seen_by : X → A) (e : ShapeErr) (there : Option A) → Gives seen_by (Err e) there → e ≡ errors.Shape
    → there ≡ None
shape_gives_none seen_by errors.Shape there h is = h
shape_gives_none seen_by errors.NoMemory there h is = absurd cc
