-- Values as they are read, and of a choice the arm that is found, by induction on the arms.
use Rattle.std.proofs.Common.{◌≡◌, ℕ, ◌+◌, ◌-◌, ◌<◌, ◌≤◌, List, length, drop, cond, refl, arith}
use Rattle.std.specs.Prelude.{if◌then◌else◌}
use Rattle.wire_def.specs.declared.encoding.Encoding.{Encoding}
use Rattle.wire_def.specs.declared.encoding.Encoding.TheVariants.{Xdr, CdrBig, CdrLittle, Mach}
use Rattle.wire_def.specs.Lone.{filling, read_any, read_desc, read_item, read_lone, read_pass, scalar_word}
use Rattle.wire_def.specs.declared.fault.FaultKind.TheVariants.{Short, BadValue}
use Rattle.std.proofs.Common.{ℤ, pos, negsuc, Option, Some, None, Bool, map, int_eq, is_some, zero, suc, add-one, sub-one, sym, ap, append_assoc, [], ◌∷◌, ◌++◌, true, false}
use Rattle.std.proofs.lemmas.Int.{to_z-of_z}
use Rattle.std.proofs.lemmas.List.{append-nil}
use Rattle.wire_def.specs.declared.fault.FaultKind.{FaultKind}
use Rattle.mint.specs.declared.kind.Kind.{Kind}
use Rattle.mint.specs.declared.kind.Kind.TheVariants as kind
use Rattle.mint.specs.declared.kind.Count.{Count}
use Rattle.mint.specs.declared.value.Value.{Value, Arm, the_lemmas}
use Rattle.std.proofs.Common.{rules, Box, Global, get_or}
use Rattle.std.proofs.Math.Seq.{drop-cons}
use Rattle.std.proofs.lemmas.List.{drop_all}
use Rattle.mint.specs.Values.{Val, Vals, no_more, val, arm, present, seen}
use Rattle.mint.specs.Types.{row_of, number, Scalar, Ty, Tys, field, at, fields_at, arms_at, choice_type, maybe_type}
use Rattle.mint.specs.Arms.{arm_found}
use Rattle.mint.specs.Typed.{has_arm}
use Rattle.mint.proofs.Seen.{seen-Some, joined, joined-no_more, joined_one, all_seen-push}
use Rattle.wire_def.specs.Send.{flag}
use Rattle.mint.proofs.Arms.{arm_below}
use Rattle.wire_def.specs.Reading.{read, read_fields, read_arm}
use Rattle.wire_def.specs.Arrays.{read_element, read_octet, read_zeros}
use Rattle.wire_def.specs.Grammar.{Reader, Reading, got, stop, then_on, map_got, times, tested}
use Rattle.plain_wire.specs.Readers.{any_octet, lists, read_armed}
use Rattle.wire_def.specs.Scalars.{read_scalar, scalar_place}

-- what was read before, and what is still read
abbrev pub with_prefix : {A : Type 0} → List A → Reading FaultKind (List A) → Reading FaultKind (List A)
with_prefix front reading = map_got (λ xs. front ++ xs) reading

pub times_octets : (e : Encoding) (k : Kind) (c : Count) (n p : ℕ) (o : List ℕ) → k ≡ kind.Octet
    → times (read_element e (row_of k c)) n p o ≡ times any_octet n p o
unfolding read_element
times_octets e k c n p o is = rw is refl

pub times_numbers : (e : Encoding) (k : Kind) (c : Count) (n p : ℕ) (o : List ℕ) → (k ≡ kind.Octet → ⊥)
    → times (read_element e (row_of k c)) n p o ≡ times (read_scalar e (number k)) n p o
unfolding read_element
times_numbers e kind.Octet c n p o other = absurd (other refl)
times_numbers e k c n p o other = refl

pub ruleset elements = (times_octets, times_numbers)

pub no_zeros : (fault : FaultKind) (p : ℕ) (o : List ℕ) → read_zeros 0 fault p o ≡ got tt p o
unfolding read_zeros
no_zeros fault p o = refl

-- a pad octet is an octet that is 0

pub zeros_more : (fault : FaultKind) (n p : ℕ) (o : List ℕ) (x : ℤ) (q : ℕ) (rest : List ℕ) → 0 < n
    → any_octet p o ≡ got x q rest → x ≡ pos 0
    → read_zeros n fault p o ≡ read_zeros (n - 1) fault q rest
unfolding read_zeros read_octet
zeros_more fault zero p o x q rest h e is = absurd (omega arith)
zeros_more fault (suc n) p [] x q rest h e is = absurd cc
zeros_more fault (suc n) p (zero ∷ o) x q rest h e is =
    let there : p + 1 ≡ q = cc in
    let after : o ≡ rest = cc in
    rw (sub-one, there, after) refl
zeros_more fault (suc n) p (suc b ∷ o) x q rest h e is = absurd cc

pub zeros_bad : (fault : FaultKind) (n p : ℕ) (o : List ℕ) (x : ℤ) (q : ℕ) (rest : List ℕ) → 0 < n
    → any_octet p o ≡ got x q rest → (x ≡ pos 0 → ⊥)
    → read_zeros n fault p o ≡ stop fault p
unfolding read_zeros read_octet
zeros_bad fault zero p o x q rest h e other = absurd (omega arith)
zeros_bad fault (suc n) p [] x q rest h e other = absurd cc
zeros_bad fault (suc n) p (zero ∷ o) x q rest h e other =
    let same : x ≡ pos 0 = cc in
    absurd (other same)
zeros_bad fault (suc n) p (suc b ∷ o) x q rest h e other = refl

pub zeros_stop : (fault : FaultKind) (n p : ℕ) (o : List ℕ) (k : FaultKind) (at : ℕ) → 0 < n → any_octet p o ≡ stop k at
    → read_zeros n fault p o ≡ stop k at
unfolding read_zeros read_octet
zeros_stop fault zero p o k at h e = absurd (omega arith)
zeros_stop fault (suc n) p [] k at h e =
    let which : Short ≡ k = cc in
    let there : p ≡ at = cc in
    rw (← which, ← there) refl
zeros_stop fault (suc n) p (b ∷ o) k at h e = absurd cc

pub ruleset pads = (no_zeros, zeros_more, zeros_bad, zeros_stop)

module _ {A : Type 0} (r : Reader FaultKind A) (front : List A) where
  pub front_got : (k p : ℕ) (o : List ℕ) (x : A) (q : ℕ) (rest : List ℕ) → r p o ≡ got x q rest
      → with_prefix front (times r (suc k) p o) ≡ with_prefix (front ++ x ∷ []) (times r k q rest)
  front_got k p o x q rest is = rw is (same (times r k q rest)) where
    same : (t : Reading FaultKind (List A)) → with_prefix front (map_got (λ xs. x ∷ xs) t) ≡ with_prefix (front ++ x ∷ []) t
    same (got xs m b) = ap (λ z. got z m b) (sym (append_assoc front (x ∷ []) xs))
    same (stop k' at) = refl

  pub front_stop : (k p : ℕ) (o : List ℕ) (f : FaultKind) (at : ℕ) → r p o ≡ stop f at → with_prefix front (times r (suc k) p o) ≡ stop f at
  front_stop k p o f at is = rw is refl

  pub front_none : (p : ℕ) (o : List ℕ) → with_prefix front (times r 0 p o) ≡ got front p o
  front_none p o = ap (λ z. got z p o) (append-nil front)

module _ (e : Encoding) (front : Vals) (t : Ty) (ts : Tys) (p : ℕ) (o : List ℕ) where
  pub fields_got : (v : Val) (q : ℕ) (rest : List ℕ) → read e t p o ≡ got v q rest
      → map_got (joined front) (read_fields e (field t ts) p o) ≡ map_got (joined (joined front (val v no_more))) (read_fields e ts q rest)
  unfolding read
  fields_got v q rest is = rw is (same (read_fields e ts q rest)) where
    same : (r : Reading FaultKind Vals) → map_got (joined front)
        (map_got (λ (x : Val × Vals). val x.0 x.1) (map_got (λ vs. (v, vs)) r)) ≡ map_got (joined (joined front (val v no_more))) r
    same (got vs m b) = ap (λ z. got z m b) (sym (joined_one front v vs))
    same (stop k at) = refl

  pub fields_stop : (k : FaultKind) (at : ℕ) → read e t p o ≡ stop k at
      → map_got (joined front) (read_fields e (field t ts) p o) ≡ stop k at
  unfolding read
  fields_stop k at is = rw is refl

-- one more of n
pub front_next : {A : Type 0} (r : Reader FaultKind A) (front : List A) (k j p : ℕ) (o : List ℕ) (x : A) (q : ℕ) (rest : List ℕ)
    → k ≡ suc j → r p o ≡ got x q rest
    → with_prefix front (times r k p o) ≡ with_prefix (front ++ x ∷ []) (times r j q rest)
front_next r front k j p o x q rest more is = rw more (front_got r front j p o x q rest is)

pub map-push : (xs : List Value) (x : Value) → map seen (xs ++ x ∷ []) ≡ map seen xs ++ seen x ∷ []
map-push [] x = refl
map-push (y ∷ xs) x = ap (λ z. seen y ∷ z) (map-push xs x)

-- the arm that is found is read
arm_at : (e : Encoding) (us : List Ty) (b : Bool) (j : ℕ) (rest : Option ℕ) (x : Reading FaultKind Val) (i p : ℕ) (o : List ℕ)
    → cond b (Some j) rest ≡ Some i → (rest ≡ Some i → x ≡ read e (at us i) p o)
    → cond b (read e (at us j) p o) x ≡ read e (at us i) p o
arm_at e us true j rest x i p o is more =
    let same : j ≡ i = cc in
    rw same refl
arm_at e us false j rest x i p o is more = more is

pub arm_read : (e : Encoding) (us : List Ty) (arms : List (ℤ × ℕ)) (other : Option ℕ) (n : ℤ) (i p : ℕ) (o : List ℕ)
    → arm_found arms other n ≡ Some i
    → read_arm e (arms_at us arms other) n p o ≡ read e (at us i) p o
unfolding read
arm_read e us [] None n i p o is = absurd cc
arm_read e us [] (Some j) n i p o is =
    let same : j ≡ i = cc in
    rw same refl
arm_read e us (a ∷ arms) other n i p o is =
    arm_at e us (int_eq n a.0) a.1 (arm_found arms other n) (read_arm e (arms_at us arms other) n p o) i p o is
    (λ f. arm_read e us arms other n i p o f)

has_at : (b : Bool) (j : ℕ) (rest found : Option ℕ) (c : Bool) → cond b (Some j) rest ≡ found → (rest ≡ found → c ≡ is_some found)
    → cond b true c ≡ is_some found
has_at true j rest found c is more = rw (← is) refl
has_at false j rest found c is more = more is

pub arm_is_there : (us : List Ty) (arms : List (ℤ × ℕ)) (other : Option ℕ) (n : ℤ) (found : Option ℕ) → arm_found arms other n ≡ found
    → has_arm (arms_at us arms other) n ≡ is_some found
arm_is_there us [] None n found is = rw (← is) refl
arm_is_there us [] (Some j) n found is = rw (← is) refl
arm_is_there us (a ∷ arms) other n found is = has_at (int_eq n a.0) a.1 (arm_found arms other n) found (has_arm (arms_at us arms other) n)
    is (λ f. arm_is_there us arms other n found f)

module _ (e : Encoding) (s : Scalar) (arms : List (ℤ × ℕ)) (other : Option ℕ) (p : ℕ) (o : List ℕ) where
  -- a number with an arm, without one, or none
  pub tag_got : (n : ℤ) (q : ℕ) (rest : List ℕ) (i : ℕ) → read_scalar e s p o ≡ got n q rest → arm_found arms other n ≡ Some i
      → read_armed e s arms other p o ≡ got n q rest
  tag_got n q rest i tag found = rw (tag, found) refl

  pub tag_none : (n : ℤ) (q : ℕ) (rest : List ℕ) → read_scalar e s p o ≡ got n q rest → arm_found arms other n ≡ None
      → read_armed e s arms other p o ≡ stop BadValue (scalar_place e s p)
  tag_none n q rest tag found = rw (tag, found) refl

  pub tag_stop : (k : FaultKind) (place : ℕ) → read_scalar e s p o ≡ stop k place → read_armed e s arms other p o ≡ stop k place
  tag_stop k place tag = rw tag refl

pub ruleset tags = (to_z-of_z, tag_got, tag_none, tag_stop)

-- where a tag has no descriptor
pub pass_read : (e : Encoding) (s : Scalar) (test : ℤ → Bool) (p : ℕ) (o : List ℕ) → (e ≡ Mach → ⊥)
    → read_pass e s test BadValue p o ≡ tested (read_scalar e s) test BadValue (scalar_place e s) p o
pass_read Xdr s test p o h = refl
pass_read CdrBig s test p o h = refl
pass_read CdrLittle s test p o h = refl
pass_read Mach s test p o h = absurd (h refl)

pub ruleset passes = (pass_read)

-- two tests that say the same, by themselves and in an item
module _ (test same : ℤ → Bool) (is : (n : ℤ) → test n ≡ same n) where
  tested_same : (r : Reader FaultKind ℤ) (place : ℕ → ℕ) (p : ℕ) (o : List ℕ)
      → tested r test BadValue place p o ≡ tested r same BadValue place p o
  tested_same r place p o = on (r p o) where
    on : (x : Reading FaultKind ℤ) → then_on x
        (λ n q rest. if test n then got n q rest else stop BadValue (place p)) ≡ then_on x (λ n q rest.
        if same n then got n q rest else stop BadValue (place p))
    on (got n q rest) = rw is refl
    on (stop k at) = refl

  item_same : (s : Scalar) (r r' : Reader FaultKind ℤ) → ((q : ℕ) (b : List ℕ) → r q b ≡ r' q b) → (p : ℕ) (o : List ℕ)
      → read_item s r p o ≡ read_item s r' p o
  item_same s r r' each p o = on (read_desc (scalar_word s) p o) where
    inside : Unit {0} → Reading FaultKind ℤ → Reading FaultKind (Unit {0} × (ℤ × Unit {0}))
    inside u x = map_got (λ y. (u, y)) (then_on x (λ n q b. map_got (λ y. (n, y)) (read_any (filling s) q b)))

    number_in : Unit {0} × (ℤ × Unit {0}) → ℤ
    number_in y = y.1.0

    on : (x : Reading FaultKind (Unit {0}))
        → map_got number_in (then_on x (λ u q b. inside u (r q b))) ≡ map_got number_in (then_on x (λ u q b. inside u (r' q b)))
    on (got u q b) = ap (λ z. map_got number_in (inside u z)) (each q b)
    on (stop k place) = refl

  pass_same : (e : Encoding) (s : Scalar) (p : ℕ) (o : List ℕ) → read_pass e s test BadValue p o ≡ read_pass e s same BadValue p o
  pass_same Xdr s p o = tested_same (read_scalar Xdr s) (scalar_place Xdr s) p o
  pass_same CdrBig s p o = tested_same (read_scalar CdrBig s) (scalar_place CdrBig s) p o
  pass_same CdrLittle s p o = tested_same (read_scalar CdrLittle s) (scalar_place CdrLittle s) p o
  pass_same Mach s p o = item_same s (tested (read_scalar Mach s) test BadValue (scalar_place Mach s))
      (tested (read_scalar Mach s) same BadValue (scalar_place Mach s)) (tested_same (read_scalar Mach s) (scalar_place Mach s)) p o

module _ (e : Encoding) (s : Scalar) (us : List Ty) (arms : List (ℤ × ℕ)) (other : Option ℕ) (p : ℕ) (o : List ℕ) where
  -- the same tag, whether its arms are types or nodes
  same_tag : read_pass e s (has_arm (arms_at us arms other)) BadValue p o ≡ read_pass e s (lists arms other) BadValue p o
  same_tag = pass_same (has_arm (arms_at us arms other)) (lists arms other)
      (λ n. arm_is_there us arms other n (arm_found arms other n) refl) e s p o

  module _ (n : ℤ) (q : ℕ) (rest : List ℕ) (i : ℕ) (found : arm_found arms other n ≡ Some i)
      (tag : read_pass e s (lists arms other) BadValue p o ≡ got n q rest) where
    pub choice_got : (v : Val) (m : ℕ) (b : List ℕ) → read e (at us i) q rest ≡ got v m b
        → read e (choice_type s (arms_at us arms other)) p o ≡ got (arm n v) m b
    unfolding read
    choice_got v m b is = rw (same_tag, tag, arm_read e us arms other n i q rest found, is) refl

    pub choice_stop : (k : FaultKind) (place : ℕ) → read e (at us i) q rest ≡ stop k place
        → read e (choice_type s (arms_at us arms other)) p o ≡ stop k place
    unfolding read
    choice_stop k place is = rw (same_tag, tag, arm_read e us arms other n i q rest found, is) refl

  pub choice_none : (k : FaultKind) (place : ℕ) → read_pass e s (lists arms other) BadValue p o ≡ stop k place
      → read e (choice_type s (arms_at us arms other)) p o ≡ stop k place
  unfolding read
  choice_none k place is = rw (same_tag, is) refl

pub maybe_got : (e : Encoding) (t : Ty) (p : ℕ) (o : List ℕ) (n : ℤ) (q : ℕ) (rest : List ℕ) (v : Val) (m : ℕ) (b : List ℕ)
    → read_lone e flag p o ≡ got n q rest → (n ≡ pos 0 → ⊥) → read e t q rest ≡ got v m b
    → read e (maybe_type t) p o ≡ got (present v) m b
unfolding read
maybe_got e t p o (pos zero) q rest v m b first other is = absurd (other refl)
maybe_got e t p o (pos (suc n)) q rest v m b first other is = rw (first, is) refl
maybe_got e t p o (negsuc n) q rest v m b first other is = rw (first, is) refl

pub fields_next : (e : Encoding) (us : List Ty) (ids : List ℕ) (k : ℕ) (front : Vals) (p : ℕ) (o : List ℕ) (v : Val) (q : ℕ) (rest : List ℕ)
    → k < length ids → read e (at us (get_or ids k 0)) p o ≡ got v q rest
    → map_got (joined front) (read_fields e (fields_at us (drop k ids)) p o)
    ≡ map_got (joined (joined front (val v no_more))) (read_fields e (fields_at us (drop (k + 1) ids)) q rest)
fields_next e us ids k front p o v q rest h is =
    rw (add-one, drop-cons ids k 0) (fields_got e front (at us (get_or ids k 0)) (fields_at us (drop (suc k) ids)) p o v q rest is)

pub fields_broken : (e : Encoding) (us : List Ty) (ids : List ℕ) (k : ℕ) (front : Vals) (p : ℕ) (o : List ℕ) (f : FaultKind) (place : ℕ)
    → k < length ids → read e (at us (get_or ids k 0)) p o ≡ stop f place
    → map_got (joined front) (read_fields e (fields_at us (drop k ids)) p o) ≡ stop f place
fields_broken e us ids k front p o f place h is =
    rw (drop-cons ids k 0) (fields_stop e front (at us (get_or ids k 0)) (fields_at us (drop (suc k) ids)) p o f place is)

pub fields_none : (e : Encoding) (us : List Ty) (ids : List ℕ) (k : ℕ) (front : Vals) (p : ℕ) (o : List ℕ) → length ids ≤ k
    → map_got (joined front) (read_fields e (fields_at us (drop k ids)) p o) ≡ got front p o
unfolding read
fields_none e us ids k front p o h = rw (drop_all k ids h) (ap (λ z. got z p o) (joined-no_more front))

pub seen-Arm : (n : ℤ) (b : Box Value Global) → seen (Arm n b) ≡ arm n (seen b.value)
seen-Arm n b = search (rules, the_lemmas)

pub ruleset readers = (
  front_next,
  front_stop,
  front_none,
  joined-no_more,
  all_seen-push,
  map-push,
  fields_next,
  fields_broken,
  fields_none,
  arm_below,
  choice_got,
  choice_stop,
  choice_none,
  maybe_got,
  seen-Some,
)
