-- The tree that is written for a value shows it, by mutual induction on faces, their parts and their arms.
use Rattle.std.proofs.Common.{◌≡◌, ℕ, ◌+◌, ℤ, List, Bool, true, false, not, int_eq, Some, None, MatchBool, Ordering, Less, Equal, Greater, nat_cmp, bytes_eq, refl, sym, ◌∙◌, arith}
use Rattle.std.specs.Prelude.{if◌then◌else◌}
use Rattle.std.specs.Ordering.{match_ordering}
use Rattle.std.specs.Cmp.Lexicographic.{slice_cmp}
use Rattle.std.proofs.lemmas.Slice.Eq.{bytes_eq-Decides}
use Rattle.std.proofs.lemmas.Str.{encodes_same}
use Rattle.mint.specs.Values.{Val, void, num, row, group, items, arm, absent, present, Vals, no_more, val}
use Rattle.mint.specs.Typed.{IsOf, AreOf, IsOfArm, Each}
use Rattle.aoi.specs.Sound.{are_distinct}
use Rattle.pres.specs.Faces.{Face, Parts, no_parts, part, Arms, type_of, types_of, arm_types_of}
use Rattle.pres.specs.Faces as face
use Rattle.serde_json.specs.Data.{Data, Members, no_members, member, put}
use Rattle.serde_json.specs.Find.{get_member}
use Rattle.serde_json.proofs.Views.{get_member-put, get_member-put_other}
use Rattle.json_shape.specs.Named.{is_named_sign, names_of, is_named, are_parts_named, are_arms_named}
use Rattle.json_shape.specs.Presents.{size, count, member_of, ShowEach, Shows, ShowInOrder, ShowByName, ShowsArm}
use Rattle.json_shape.specs.Texts.{text_of}
use Rattle.json_shape.specs.Written.{items_json, json_of, in_order_json, by_name_json, after_json}
use Rattle.wire_def.proofs.ScalarGrammar.{left_true, right_true}
use Rattle.json_shape.proofs.WrittenScalars.{sign_written, array_written, is_name}
use Rattle.std.proofs.lemmas.Bool.{not-true, or_parts}
use Rattle.wire_def.proofs.Typing.{match_both}

each_shows : (f : Face) (P : Val → Type 0) → ((v : Val) → P v → Shows f (json_of f v) v) → (vs : Vals) → Each P vs
    → ShowEach (Shows f) (items_json (json_of f) vs) vs
each_shows f P one no_more h = tt
each_shows f P one (val v vs) h = (one v h.0, each_shows f P one vs h.1)

-- ---- members of objects

-- a member of another name stays
pub other_member : (m n : List ℕ) (d : Data) (ms : Members) → bytes_eq m n ≡ false → member_of m (put (text_of n) d ms) ≡ member_of m ms
other_member m n d ms h =
    get_member-put_other (text_of m) (text_of n) d ms
    (λ e. let same : bytes_eq m n ≡ true = (bytes_eq-Decides m n).1 (encodes_same m n e) in absurd cc)

one_more : (ps : Parts) (ms : Members) (vs : Vals) (n : List ℕ) (d : Data) → is_name (names_of ps) n ≡ false → ShowByName ps ms vs
    → ShowByName ps (put (text_of n) d ms) vs
one_more no_parts ms no_more n d h shows = tt
one_more no_parts ms (val v vs) n d h shows = absurd shows
one_more (part m f ps) ms no_more n d h shows = absurd shows
one_more (part m f ps) ms (val v vs) n d h shows =
    let two = or_parts (bytes_eq m n) (is_name (names_of ps) n) h in
    (rw (other_member m n d ms two.0) shows.0, one_more ps ms vs n d two.1 shows.1)

-- no part has the name
missing : (ps : Parts) (vs : Vals) (q : List ℕ) → is_name (names_of ps) q ≡ false → member_of q (by_name_json ps vs) ≡ None
missing no_parts vs q h = refl
missing (part m f ps) no_more q h = refl
missing (part m f ps) (val v vs) q h =
    let two = or_parts (bytes_eq m q) (is_name (names_of ps) q) h in
    other_member q m (json_of f v) (by_name_json ps vs) (swapped m q two.0) ∙ missing ps vs q two.1 where
      swapped : (a b : List ℕ) → bytes_eq a b ≡ false → bytes_eq b a ≡ false
      swapped a b h = step (bytes_eq b a) refl where
        step : (t : Bool) → bytes_eq b a ≡ t → t ≡ false
        step false is = refl
        step true is = let same : bytes_eq a b ≡ true = (bytes_eq-Decides a b).1 (sym ((bytes_eq-Decides b a).0 is)) in absurd cc

pub size-put : (k : List ℕ) (d : Data) (ms : Members) → get_member k ms ≡ None → size (put k d ms) ≡ size ms + 1
size-put k d no_members h = refl
size-put k d (member l e ms) h = step (slice_cmp nat_cmp k l) h (size-put k d ms) where
  step : (o : Ordering) → match_ordering o (get_member k ms) (Some e) (get_member k ms) ≡ None
      → (get_member k ms ≡ None → size (put k d ms) ≡ size ms + 1)
      → size (match_ordering o (member k d (member l e ms)) (member l d ms) (member l e (put k d ms))) ≡ size ms + 1 + 1
  step Less h more = refl
  step Equal h more = absurd cc
  step Greater h more = omega (arith, more h)

sizes : (ps : Parts) (vs : Vals) → are_distinct (names_of ps) ≡ true → AreOf (types_of ps) vs → size (by_name_json ps vs) ≡ count ps
sizes no_parts no_more h typed = refl
sizes no_parts (val v vs) h typed = absurd typed
sizes (part n f ps) no_more h typed = absurd typed
sizes (part n f ps) (val v vs) h typed =
    let new = not-true (is_name (names_of ps) n) (left_true (not (is_name (names_of ps) n)) (are_distinct (names_of ps)) h) in
    let rest = sizes ps vs (right_true (not (is_name (names_of ps) n)) (are_distinct (names_of ps)) h) typed.1 in
    omega (arith, size-put (text_of n) (json_of f v) (by_name_json ps vs) (missing ps vs n new), rest)

-- ---- trees

chosen : (b : Bool) (f : Face) (arms : Arms) (n : ℤ) (x y : Data) (v : Val) → MatchBool b (Shows f x v) (ShowsArm arms n y v)
    → MatchBool b (Shows f (if b then x else y) v) (ShowsArm arms n (if b then x else y) v)
chosen true f arms n x y v h = h
chosen false f arms n x y v h = h

mutual
  pub shows_written : (f : Face) (v : Val) → is_named f ≡ true → IsOf (type_of f) v → Shows f (json_of f v) v
  shows_written face.nothing void named h = tt
  shows_written (face.scalar s) (num n) named h = sign_written s n named h
  shows_written (face.numbers a) (row k ns) named h = array_written a k ns h
  shows_written (face.values ps) (group vs) named h = in_order_written ps vs named h
  shows_written (face.members ps) (group vs) named h =
      let distinct = left_true (are_distinct (names_of ps)) (are_parts_named ps) named in
      (sizes ps vs distinct h, by_name_written ps vs distinct (right_true (are_distinct (names_of ps)) (are_parts_named ps) named) h)
  shows_written (face.list c f) (items vs) named h = each_shows f (IsOf (type_of f)) (λ v k. shows_written f v named k) vs h.1
  shows_written (face.choice s arms) (arm n v) named h = (
    refl,
    sign_written s n (left_true (is_named_sign s) (are_arms_named arms) named) h.0,
    after_written arms n v
        (right_true (is_named_sign s) (are_arms_named arms) named) h.1,
  )
  shows_written (face.maybe f) absent named h = tt
  shows_written (face.maybe f) (present v) named h = shows_written f v named h
  shows_written _ _ named h = absurd h

  in_order_written : (ps : Parts) (vs : Vals) → are_parts_named ps ≡ true → AreOf (types_of ps) vs → ShowInOrder ps (in_order_json ps vs) vs
  in_order_written no_parts no_more named h = tt
  in_order_written (part n f ps) (val v vs) named h = (
    shows_written f v (left_true (is_named f) (are_parts_named ps) named) h.0,
    in_order_written ps vs
        (right_true (is_named f) (are_parts_named ps) named) h.1,
  )
  in_order_written _ _ named h = absurd h

  by_name_written : (ps : Parts) (vs : Vals) → are_distinct (names_of ps) ≡ true → are_parts_named ps ≡ true → AreOf (types_of ps) vs
      → ShowByName ps (by_name_json ps vs) vs
  by_name_written no_parts no_more distinct named h = tt
  by_name_written (part n f ps) (val v vs) distinct named h =
      let new = not-true (is_name (names_of ps) n) (left_true (not (is_name (names_of ps) n)) (are_distinct (names_of ps)) distinct) in
      let here = shows_written f v (left_true (is_named f) (are_parts_named ps) named) h.0 in
      let rest =
      by_name_written ps vs (right_true (not (is_name (names_of ps) n)) (are_distinct (names_of ps)) distinct)
      (right_true (is_named f) (are_parts_named ps) named) h.1 in (
        rw (get_member-put (text_of n) (json_of f v) (by_name_json ps vs)) here,
        one_more ps (by_name_json ps vs) vs n
            (json_of f v) new rest,
      )
  by_name_written _ _ distinct named h = absurd h

  after_written : (arms : Arms) (n : ℤ) (v : Val) → are_arms_named arms ≡ true → IsOfArm (arm_types_of arms) n v
      → ShowsArm arms n (after_json arms n v) v
  after_written face.no_other n v named h = absurd h
  after_written (face.other f) n v named h = shows_written f v named h
  after_written (face.arm m f arms) n v named h =
      chosen (int_eq n m) f arms n (json_of f v) (after_json arms n v) v
      (match_both (int_eq n m) h (λ k. shows_written f v (left_true (is_named f) (are_arms_named arms) named) k) (λ k.
      after_written arms n v (right_true (is_named f) (are_arms_named arms) named) k))
