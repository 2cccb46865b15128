-- Gets that stand further on read the same from an earlier place, and leave the place as it is.
use Rattle.std.proofs.Common.{◌≡◌, ℕ, zero, suc, ◌+◌, ◌≤◌, ℤ, List, [], ◌∷◌, ◌++◌, length, map, take, drop, drop-drop, nat_le, Option, None, Some, Bool, true, false, if◌then◌else◌, refl, sym, ap, ◌∙◌, subst, arith, leb-true, le-leb}
use Rattle.std.specs.Int.{Width}
use Rattle.mint.specs.Types.{Scalar, number, scalar_type, array_type, items_type, choice_type, maybe_type}
use Rattle.mint.specs.declared.kind.Count.{Count}
use Rattle.mint.specs.Typed.{is_scalar}
use Rattle.mint.specs.Values.{num}
use Rattle.wire_def.specs.declared.head.Order.{Order}
use Rattle.wire_def.specs.Scalars.{is_signed, number_of}
use Rattle.wire_def.specs.Send.{flag}
use Rattle.wire_def.specs.Arrays.{count_of, kind_of}
use Rattle.wire_def.specs.Orders.{width_in, loaded}
use Rattle.cast_stub.specs.declared.recv.Get.{Get}
use Rattle.cast_stub.specs.declared.recv.Get.TheVariants as get
use Rattle.cast_stub.specs.Draft.{Draft, raw, digit, listed, lined, done, fields, Drafts, no_draft, draft}
use Rattle.cast_stub.specs.Into.{word_at, is_digit, scalar_into, num_into, arm_draft, tag_into, flag_draft, flag_into, length_of, allows, length_into, count_into, same_octets}
use Rattle.cast_stub.specs.Fill.{at_field, within, const_got, got, all_got}
use Rattle.cast_stub.specs.Runs.{Place, Run, gives, refuses, strays, Filler, then_run, map_run, if_passed}
use Rattle.cast_stub.proofs.RecvAppending.{regrouped}
use Rattle.chunker.specs.RecvChunked.{moved}

-- the first run gives something where it began, and the second the same where it began, or refuses as the first does
abbrev pub Same : {A : Type 0} → Place → Run A → Place → Run A → Type 0
Same s (gives x u) t y = (u ≡ s) × (y ≡ gives x t)
Same s refuses t y = y ≡ refuses
Same s strays t y = Unit {0}

-- a filler that looks at no octets
abbrev pub IsPlaceless : Filler → Type 0
IsPlaceless f = (d : Draft) (s t : Place) → Same s (f d s) t (f d t)

same_then : {A B : Type 0} (x y : Run A) (f g : A → Place → Run B) (s t : Place) → Same s x t y → ((a : A) → Same s (f a s) t (g a t))
    → Same s (then_run x f) t (then_run y g)
same_then (gives a u) y f g s t h k =
    subst (λ (v : Place). Same s (f a v) t (then_run y g)) (sym h.0) (subst (λ z. Same s (f a s) t (then_run z g)) (sym h.1) (k a))
same_then refuses y f g s t h k = ap (λ z. then_run z g) h
same_then strays y f g s t h k = tt

same_map : {A B : Type 0} (f : A → B) (x y : Run A) (s t : Place) → Same s x t y → Same s (map_run f x) t (map_run f y)
same_map f (gives a u) y s t h = (h.0, ap (map_run f) h.1)
same_map f refuses y s t h = ap (map_run f) h
same_map f strays y s t h = tt

same_if : {A : Type 0} (b : Bool) (x x' y y' : Run A) (s t : Place) → Same s x t x' → Same s y t y'
    → Same s (if b then x else y) t (if b then x' else y')
same_if true x x' y y' s t h g = h
same_if false x x' y y' s t h g = g

same_given : {A : Type 0} (o : Option A) (s t : Place) → Same s (if_passed o (λ a. gives a s)) t (if_passed o (λ a. gives a t))
same_given None s t = refl
same_given (Some a) s t = (refl, refl)

same_passed : {A B : Type 0} (o : Option A) (f g : A → Run B) (s t : Place) → ((a : A) → Same s (f a) t (g a))
    → Same s (if_passed o f) t (if_passed o g)
same_passed None f g s t h = refl
same_passed (Some a) f g s t h = h a

-- ---- numbers

scalar_same : (t : Scalar) (f : ℤ → Option Draft) (x : Width) (m : ℕ) (s u : Place)
    → Same s (scalar_into t f x m s) u (scalar_into t f x m u)
scalar_same t f x m s u =
    let z : ℤ = number_of (is_signed t) x m in
    same_if (is_scalar t z) (if_passed (f z) (λ d. gives d s)) (if_passed (f z) (λ d. gives d u)) refuses refuses s u
    (same_given (f z) s u) refl

pub num_same : (x : Width) (m : ℕ) → IsPlaceless (num_into x m)
num_same x m (raw (scalar_type t)) = scalar_same t (λ z. Some (done (num z))) x m
num_same x m (digit a) = λ (s t : Place).
    let z : ℤ = number_of (is_signed (number (kind_of a))) x m in
    same_if (is_digit a z) (gives (done (num z)) s) (gives (done (num z)) t) refuses refuses s t (refl, refl) refl
num_same x m _ = λ (s t : Place). tt

pub tag_same : (x : Width) (m : ℕ) → IsPlaceless (tag_into x m)
tag_same x m (raw (choice_type t arms)) = scalar_same t (arm_draft arms) x m
tag_same x m _ = λ (s t : Place). tt

pub flag_same : (x : Width) (m : ℕ) → IsPlaceless (flag_into x m)
flag_same x m (raw (maybe_type t)) = scalar_same flag (flag_draft t) x m
flag_same x m _ = λ (s t : Place). tt

length_same : (c : Count) (f : ℕ → Draft) (mul add m : ℕ) (s t : Place)
    → Same s (length_into c f mul add m s) t (length_into c f mul add m t)
length_same c f mul add m s t =
    same_passed (length_of mul add m) (λ n. if allows c n then gives (f n) s else refuses)
    (λ n. if allows c n then gives (f n) t else refuses)
    s t (λ (n : ℕ). same_if (allows c n) (gives (f n) s) (gives (f n) t) refuses refuses s t (refl, refl) refl)

pub count_same : (mul add m : ℕ) → IsPlaceless (count_into mul add m)
count_same mul add m (raw (items_type c t)) = length_same c (listed t) mul add m
count_same mul add m (raw (array_type a)) = length_same (count_of a) (lined a) mul add m
count_same mul add m _ = λ (s t : Place). tt

-- ---- parts

field_same : (n : ℕ) (f : Filler) → IsPlaceless f → (ds : Drafts) (s t : Place) → Same s (at_field n f ds s) t (at_field n f ds t)
field_same n f h no_draft = λ (s t : Place). tt
field_same zero f h (draft d ds) = λ (s t : Place). same_map (λ x. draft x ds) (f d s) (f d t) s t (h d s t)
field_same (suc n) f h (draft d ds) =
    λ (s t : Place). same_map (draft d) (at_field n f ds s) (at_field n f ds t) s t (field_same n f h ds s t)

within_same : (p : List ℕ) (f : Filler) → IsPlaceless f → IsPlaceless (within p f)
within_same [] f h d = h d
within_same (n ∷ p) f h (fields ds) =
    λ (s t : Place). same_map fields (at_field n (within p f) ds s) (at_field n (within p f) ds t) s t
    (field_same n (within p f) (within_same p f h) ds s t)
within_same (n ∷ p) f h _ = λ (s t : Place). tt

-- ---- gets further on

-- so many octets before a place, in the same octets, where all is known that is known there
pub record IsBefore (n : ℕ) (s t : Place) : Type 0 where
  pub left : s.left ≡ drop n t.left
  pub near : s.near + n ≤ t.near

further : (n off : ℕ) (s t : Place) → IsBefore n s t → drop (off + n) t.left ≡ drop off s.left
further n off s t b =
    let sum : off + n ≡ n + off = omega arith in
    ap (λ (k : ℕ). drop k t.left) sum ∙ sym (drop-drop off n t.left) ∙ sym (ap (drop off) b.left)

-- what is known there is known here
near_same : {A : Type 0} (n k j : ℕ) (x y : Run A) (s t : Place) → IsBefore n s t → j ≡ k + n → Same s x t y
    → Same s (if nat_le k s.near then x else strays) t (if nat_le j t.near then y else strays)
near_same {A} n k j x y s t b e h = by_test (nat_le k s.near) refl where
  by_test : (c : Bool) → nat_le k s.near ≡ c → Same s (if c then x else strays) t (if nat_le j t.near then y else strays)
  by_test true f =
      let here : k ≤ s.near = leb-true k s.near f in
      let far : nat_le j t.near ≡ true = le-leb j t.near (omega (arith, here, e, b.near)) in
      subst (λ (c : Bool). Same s x t (if c then y else strays)) (sym far) h
  by_test false f = tt

word_moved : (f : Width → ℕ → Filler) → ((x : Width) (m : ℕ) → IsPlaceless (f x m)) → (off : ℕ) (p : List ℕ) (w : ℕ) (o : Order) (n : ℕ)
    (d : Draft) (s t : Place) → IsBefore n s t
    → Same s (word_at off w o s (λ x m. within p (f x m) d s)) t (word_at (off + n) w o t (λ x m. within p (f x m) d t))
word_moved f h off p w o n d s t b =
    same_passed (width_in w)
    (λ x. if nat_le (off + w) s.near then within p (f x (loaded o x (take w (drop off s.left)))) d s else strays)
    (λ x. if nat_le (off + n + w) t.near then within p (f x (loaded o x (take w (drop (off + n) t.left)))) d t else strays) s t
    (λ (x : Width).
    near_same n (off + w) (off + n + w) (within p (f x (loaded o x (take w (drop off s.left)))) d s)
    (within p (f x (loaded o x (take w (drop (off + n) t.left)))) d t) s t b (sum x) (octets x))
  where
    sum : (x : Width) → off + n + w ≡ off + w + n
    sum x = omega arith

    octets : (x : Width) → Same s (within p (f x (loaded o x (take w (drop off s.left)))) d s) t
        (within p (f x (loaded o x (take w (drop (off + n) t.left)))) d t)
    octets x =
        let m = loaded o x (take w (drop off s.left)) in
        subst (λ (l : List ℕ). Same s (within p (f x m) d s) t (within p (f x (loaded o x (take w l))) d t)) (sym (further n off s t b))
        (within_same p (f x m) (h x m) d s t)

const_moved : (off : ℕ) (os : List ℕ) (n : ℕ) (d : Draft) (s t : Place) → IsBefore n s t
    → Same s (const_got off os d s) t (const_got (off + n) os d t)
const_moved off os n d s t b =
    near_same n (off + length os) (off + n + length os)
    (if same_octets os (take (length os) (drop off s.left)) then gives d s else refuses)
    (if same_octets os (take (length os) (drop (off + n) t.left)) then gives d t else refuses) s t b sum octets
  where
    sum : off + n + length os ≡ off + length os + n
    sum = omega arith

    octets : Same s (if same_octets os (take (length os) (drop off s.left)) then gives d s else refuses) t
        (if same_octets os (take (length os) (drop (off + n) t.left)) then gives d t else refuses)
    octets =
        subst
        (λ (l : List ℕ). Same s (if same_octets os (take (length os) (drop off s.left)) then gives d s else refuses) t
        (if same_octets os (take (length os) l) then gives d t else refuses)) (sym (further n off s t b))
        (same_if (same_octets os (take (length os) (drop off s.left))) (gives d s) (gives d t) refuses refuses s t (refl, refl) refl)

got_moved : (g : Get) (n : ℕ) (d : Draft) (s t : Place) → IsBefore n s t → Same s (got g d s) t (got (moved n g) d t)
got_moved (get.Num off p w o) n d s t b = word_moved num_into num_same off p w o n d s t b
got_moved (get.Tag off p w o) n d s t b = word_moved tag_into tag_same off p w o n d s t b
got_moved (get.Flag off p w o) n d s t b = word_moved flag_into flag_same off p w o n d s t b
got_moved (get.Count off p mul add w o) n d s t b =
    word_moved (λ x m. count_into mul add m) (λ x m. count_same mul add m) off p w o n d s t b
got_moved (get.Const off os) n d s t b = const_moved off os n d s t b

pub all_moved : (gs : List Get) (n : ℕ) (d : Draft) (s t : Place) → IsBefore n s t
    → Same s (all_got gs d s) t (all_got (map (moved n) gs) d t)
all_moved [] n d s t b = (refl, refl)
all_moved (g ∷ gs) n d s t b =
    same_then (got g d s) (got (moved n g) d t) (all_got gs) (all_got (map (moved n) gs)) s t (got_moved g n d s t b)
    (λ (x : Draft). all_moved gs n x s t b)

-- gets after gets
pub all-append : (gs hs : List Get) (d : Draft) (s : Place) → all_got (gs ++ hs) d s ≡ then_run (all_got gs d s) (all_got hs)
all-append [] hs d s = refl
all-append (g ∷ gs) hs d s = regrouped (got g d s) (all_got (gs ++ hs)) (all_got gs) (all_got hs) (all-append gs hs)
