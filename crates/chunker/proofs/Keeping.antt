-- Steps in the place of others from a position on: the same octets, no more room, the same steps besides, and no more stores.
use Rattle.std.proofs.Common.{◌≡◌, ℕ, zero, suc, ◌+◌, ◌-◌, ◌≤◌, max, List, [], ◌∷◌, ◌++◌, length, replicate, Option, Some, None, if◌then◌else◌, Bool, true, false, refl, sym, ap, ◌∙◌, subst, arith, append_assoc, append-nil, length-append}
use Rattle.mint.specs.Values.{Val, Vals, no_more, val, absent, present}
use Rattle.wire_def.specs.Scalars.{gap}
use Rattle.cast_stub.specs.Parts.{on_some}
use Rattle.cast_stub.specs.Steps.{Step, Room, Pad, Stored, Widened, Copied, Patched, Steps, both, over, if_present}
use Rattle.cast_stub.specs.Meaning.{patched, wrote, costs, HasRoom}
use Rattle.cast_stub.proofs.Folding.{wrote-append, costs-append}
use Rattle.cast_stub.specs.Met.{met, others}
use Rattle.chunker.proofs.Ending.{place, place-append, Leads}
use Rattle.cast_stub.proofs.Filled.{some_of}
use Rattle.cast_stub.proofs.Patched.{patched_length}

-- what is left of the room behind steps
abbrev pub spare : ℕ → ℕ → List Step → ℕ
spare p a [] = a
spare p a (Room n ∷ ss) = spare p (max n a) ss
spare p a (Pad x ∷ ss) = spare (p + gap p x) (a - gap p x) ss
spare p a (Stored os k ∷ ss) = spare (p + length os) (a - length os) ss
spare p a (Widened os k ∷ ss) = spare (p + length os) (a - length os) ss
spare p a (Copied os ∷ ss) = spare (p + length os) (a - length os) ss
spare p a (Patched at sub order ∷ ss) = spare p a ss

spare-append : (p a : ℕ) (x y : List Step) → spare p a (x ++ y) ≡ spare (place p x) (spare p a x) y
spare-append p a [] y = refl
spare-append p a (Room n ∷ x) y = spare-append p (max n a) x y
spare-append p a (Pad g ∷ x) y = spare-append (p + gap p g) (a - gap p g) x y
spare-append p a (Stored os k ∷ x) y = spare-append (p + length os) (a - length os) x y
spare-append p a (Widened os k ∷ x) y = spare-append (p + length os) (a - length os) x y
spare-append p a (Copied os ∷ x) y = spare-append (p + length os) (a - length os) x y
spare-append p a (Patched at sub order ∷ x) y = spare-append p a x y

room_split : (p a : ℕ) (x y : List Step) → HasRoom p a (x ++ y) → HasRoom p a x × HasRoom (place p x) (spare p a x) y
room_split p a [] y h = (tt, h)
room_split p a (Room n ∷ x) y h = room_split p (max n a) x y h
room_split p a (Pad g ∷ x) y h =
    let r = room_split (p + gap p g) (a - gap p g) x y h.1 in ((h.0, r.0), r.1)
room_split p a (Stored os k ∷ x) y h =
    let r = room_split (p + length os) (a - length os) x y h.1 in ((h.0, r.0), r.1)
room_split p a (Widened os k ∷ x) y h =
    let r = room_split (p + length os) (a - length os) x y h.1 in ((h.0, r.0), r.1)
room_split p a (Copied os ∷ x) y h =
    let r = room_split (p + length os) (a - length os) x y h.1 in ((h.0, r.0), r.1)
room_split p a (Patched at sub order ∷ x) y h = room_split p a x y h

room_join : (p a : ℕ) (x y : List Step) → HasRoom p a x → HasRoom (place p x) (spare p a x) y → HasRoom p a (x ++ y)
room_join p a [] y h k = k
room_join p a (Room n ∷ x) y h k = room_join p (max n a) x y h k
room_join p a (Pad g ∷ x) y h k = (h.0, room_join (p + gap p g) (a - gap p g) x y h.1 k)
room_join p a (Stored os n ∷ x) y h k = (h.0, room_join (p + length os) (a - length os) x y h.1 k)
room_join p a (Widened os n ∷ x) y h k = (h.0, room_join (p + length os) (a - length os) x y h.1 k)
room_join p a (Copied os ∷ x) y h k = (h.0, room_join (p + length os) (a - length os) x y h.1 k)
room_join p a (Patched at sub order ∷ x) y h k = room_join p a x y h k

others-append : (a b : List Step) → others (a ++ b) ≡ others a ++ others b
others-append [] b = refl
others-append (Room n ∷ a) b = ap (λ (l : List Step). Room n ∷ l) (others-append a b)
others-append (Pad x ∷ a) b = others-append a b
others-append (Stored os k ∷ a) b = others-append a b
others-append (Widened os k ∷ a) b = ap (λ (l : List Step). Widened os k ∷ l) (others-append a b)
others-append (Copied os ∷ a) b = ap (λ (l : List Step). Copied os ∷ l) (others-append a b)
others-append (Patched at sub order ∷ a) b = ap (λ (l : List Step). Patched at sub order ∷ l) (others-append a b)

pub met-append : (a b : List Step) → met (a ++ b) ≡ met a + met b
met-append [] b = let none : met b ≡ 0 + met b = omega arith in none
met-append (Room n ∷ a) b = met-append a b
met-append (Pad x ∷ a) b = let e = met-append a b in omega (arith, e)
met-append (Stored os k ∷ a) b = let e = met-append a b in omega (arith, e)
met-append (Widened os k ∷ a) b = let e = met-append a b in omega (arith, e)
met-append (Copied os ∷ a) b = met-append a b
met-append (Patched at sub order ∷ a) b = let e = met-append a b in omega (arith, e)

-- ---- where octets end

zeros_long : (g : ℕ) → length {A = ℕ} (replicate g 0) ≡ g
zeros_long zero = refl
zeros_long (suc g) = ap suc (zeros_long g)

-- octets behind octets
longer : (base : ℕ) (o os : List ℕ) (k : ℕ) (ss : List Step) (x : List ℕ) → length os ≡ k
    → base + length x ≡ place (base + length (o ++ os)) ss
    → base + length x ≡ place (base + length o + k) ss
longer base o os k ss x e f =
    let sum : base + length (o ++ os) ≡ base + length o + k = omega (arith, length-append o os, e) in
    f ∙ ap (λ (n : ℕ). place n ss) sum

wrote_place : (base : ℕ) (o : List ℕ) (ss : List Step) (x : List ℕ) → wrote base o ss ≡ Some x
    → base + length x ≡ place (base + length o) ss
wrote_place base o [] x e = let same : o ≡ x = cc in ap (λ (l : List ℕ). base + length l) (sym same)
wrote_place base o (Room n ∷ ss) x e = wrote_place base o ss x e
wrote_place base o (Pad a ∷ ss) x e = longer base o (replicate (gap (base + length o) a) 0) (gap (base + length o) a) ss x
    (zeros_long (gap (base + length o) a))
    (wrote_place base (o ++ replicate (gap (base + length o) a) 0) ss x e)
wrote_place base o (Stored os k ∷ ss) x e = longer base o os (length os) ss x refl (wrote_place base (o ++ os) ss x e)
wrote_place base o (Widened os k ∷ ss) x e = longer base o os (length os) ss x refl (wrote_place base (o ++ os) ss x e)
wrote_place base o (Copied os ∷ ss) x e = longer base o os (length os) ss x refl (wrote_place base (o ++ os) ss x e)
wrote_place base o (Patched at sub order ∷ ss) x e =
    let y = some_of (patched base at sub order o) (λ (a : List ℕ). wrote base a ss) x e in
    wrote_place base y.0 ss x y.1.1 ∙ ap (λ (n : ℕ). place (base + n) ss) (patched_length base at sub order o y.0 y.1.0)

-- ---- one list of steps in the place of another

-- from a position on
pub record Keeps (p : ℕ) (ss tt : List Step) : Type 0 where
  pub octets : (base : ℕ) (o : List ℕ) → base + length o ≡ p → (x : List ℕ) → wrote base o ss ≡ Some x → wrote base o tt ≡ Some x
  pub room : (a : ℕ) → HasRoom p a ss → HasRoom p a tt
  pub ahead : (a : ℕ) → spare p a tt ≡ spare p a ss
  pub end : place p tt ≡ place p ss
  pub rest : others tt ≡ others ss
  pub stores : (costs tt).stores ≤ met ss

stores_met : (ss : List Step) → (costs ss).stores ≤ met ss
stores_met [] = omega arith
stores_met (Room n ∷ ss) = omega (arith, stores_met ss)
stores_met (_ ∷ ss) = omega (arith, stores_met ss)

pub keeps_same : (p : ℕ) (ss : List Step) → Keeps p ss ss
keeps_same p ss = record {
  octets = λ base o e x w. w;
  room = λ a h. h;
  ahead = λ a. refl;
  end = refl;
  rest = refl;
  stores = stores_met ss;
}

pub keeps_both : (p : ℕ) (a x b y : List Step) → Keeps p a x → Keeps (place p a) b y → Keeps p (a ++ b) (x ++ y)
keeps_both p a x b y k l = record {
  octets = λ base o e z w.
      let s = some_of (wrote base o a) (λ (q : List ℕ). wrote base q b) z (sym (wrote-append base o a b) ∙ w) in
      let far : base + length s.0 ≡ place p a = wrote_place base o a s.0 s.1.0 ∙ ap (λ (n : ℕ). place n a) e in
      wrote-append base o x y
      ∙ ap (λ (q : Option (List ℕ)). on_some q (λ r. wrote base r y)) (k.octets base o e s.0 s.1.0)
      ∙ l.octets base s.0 far z s.1.1;
  room = λ n h.
      let s = room_split p n a b h in
      room_join p n x y (k.room n s.0)
      (subst (λ (m : ℕ). HasRoom m (spare p n x) y) (sym k.end)
      (subst (λ (m : ℕ). HasRoom (place p a) m y) (sym (k.ahead n)) (l.room (spare p n a) s.1)));
  ahead = λ n.
      spare-append p n x y ∙ ap (λ (m : ℕ). spare m (spare p n x) y) k.end
      ∙ ap (λ (m : ℕ). spare (place p a) m y) (k.ahead n) ∙ l.ahead (spare p n a) ∙ sym (spare-append p n a b);
  end = place-append p x y ∙ ap (λ (m : ℕ). place m y) k.end ∙ l.end ∙ sym (place-append p a b);
  rest = others-append x y ∙ ap (λ (z : List Step). z ++ others y) k.rest ∙ ap (λ (z : List Step). others a ++ z) l.rest
      ∙ sym (others-append a b);
  stores =
      let together : (costs (x ++ y)).stores ≡ (costs x).stores + (costs y).stores = ap (λ c. c.stores) (costs-append x y) in
      let all = met-append a b in
      omega (arith, together, all, k.stores, l.stores);
}

-- ---- steps that are there, at such positions

pub record There (A : ℕ → Type 0) (ss : List Step) (y : Steps) : Type 0 where
  pub made : List Step
  pub is : y ≡ Some made
  pub keeps : (p : ℕ) → A p → Keeps p ss made

abbrev pub Becomes : (ℕ → Type 0) → Steps → Steps → Type 0
Becomes A x y = (ss : List Step) → x ≡ Some ss → There A ss y

pub becomes_same : (A : ℕ → Type 0) (x : Steps) → Becomes A x x
becomes_same A x ss e = record { made = ss; is = e; keeps = λ p a. keeps_same p ss }

pub becomes_both : (A B : ℕ → Type 0) (x x' y y' : Steps) → Becomes A x x' → Leads x A B → Becomes B y y'
    → Becomes A (both x y) (both x' y')
becomes_both A B None x' y y' f g k ss e = absurd cc
becomes_both A B (Some a) x' None y' f g k ss e = absurd cc
becomes_both A B (Some a) x' (Some b) y' f g k ss e =
    let s = f a refl in
    let t = k b refl in
    let same : a ++ b ≡ ss = cc in
    record {
      made = s.made ++ t.made;
      is = ap (λ (z : Steps). both z y') s.is ∙ ap (both (Some s.made)) t.is;
      keeps = λ p at. subst (λ (l : List Step). Keeps p l (s.made ++ t.made)) same
          (keeps_both p a s.made b t.made (s.keeps p at) (t.keeps (place p a) (g a refl p at)));
    }

pub becomes_on_some : (A : ℕ → Type 0) {X : Type 0} (o : Option X) (f g : X → Steps) → ((x : X) → Becomes A (f x) (g x))
    → Becomes A (on_some o f) (on_some o g)
becomes_on_some A None f g k = λ ss e. absurd cc
becomes_on_some A (Some x) f g k = k x

pub becomes_over : (A : ℕ → Type 0) (f g : Val → Steps) → ((w : Val) → Becomes A (f w) (g w)) → ((w : Val) → Leads (f w) A A)
    → (vs : Vals) → Becomes A (over f vs) (over g vs)
becomes_over A f g k l no_more = becomes_same A (Some [])
becomes_over A f g k l (val v vs) =
    becomes_both A A (f v) (g v) (over f vs) (over g vs) (k v) (l v) (becomes_over A f g k l vs)

pub becomes_present : (A : ℕ → Type 0) (f g : Val → Steps) → ((w : Val) → Becomes A (f w) (g w)) → (v : Val)
    → Becomes A (if_present f v) (if_present g v)
becomes_present A f g k absent = becomes_same A (Some [])
becomes_present A f g k (present v) = k v
becomes_present A f g k _ = becomes_same A None

-- at fewer positions
pub becomes_at : (A B : ℕ → Type 0) (x y : Steps) → ((p : ℕ) → B p → A p) → Becomes A x y → Becomes B x y
becomes_at A B x y f k ss e =
    let t = k ss e in record { made = t.made; is = t.is; keeps = λ p b. t.keeps p (f p b) }

pub becomes_if : (A : ℕ → Type 0) (t : Bool) (x x' y y' : Steps) → Becomes A x x' → Becomes A y y'
    → Becomes A (if t then x else y) (if t then x' else y')
becomes_if A true x x' y y' f g = f
becomes_if A false x x' y y' f g = g

-- ---- an open chunk, and what follows it

same_place : (p : ℕ) → p + length {A = ℕ} [] ≡ p
same_place p = omega arith

same_room : (a : ℕ) → a - length {A = ℕ} [] ≡ a
same_room a = omega arith

-- nothing in the place of an empty chunk
pub none_stored : (p k : ℕ) (o : List ℕ) → o ≡ [] → Keeps p (Stored o k ∷ []) []
none_stored p k o e =
    subst (λ (l : List ℕ). Keeps p (Stored l k ∷ []) []) (sym e) (record {
      octets = λ base q f x w. ap Some (sym (append-nil q)) ∙ w;
      room = λ a h. tt;
      ahead = λ a. sym (same_room a);
      end = sym (same_place p);
      rest = refl;
      stores = omega arith;
    })

-- with fewer stores
pub fewer_stored : (p k n : ℕ) (o : List ℕ) → n ≤ k → Keeps p (Stored o k ∷ []) (Stored o n ∷ [])
fewer_stored p k n o le = record {
  octets = λ base q f x w. w;
  room = λ a h. h;
  ahead = λ a. refl;
  end = refl;
  rest = refl;
  stores = omega (arith, le);
}

-- two chunks, of which the second and what follows become one with the first
pub two_stored : (p k n m : ℕ) (o x : List ℕ) (ss made : List Step) → m ≡ k + n → Keeps p (Stored (o ++ x) m ∷ ss) made
    → Keeps p (Stored o k ∷ Stored x n ∷ ss) made
two_stored p k n m o x ss made e keeps =
    let long : length (o ++ x) ≡ length o + length x = length-append o x in
    let far : p + length (o ++ x) ≡ p + length o + length x = omega (arith, long) in
    let less : (a : ℕ) → a - length (o ++ x) ≡ a - length o - length x = λ a. omega (arith, long) in
    record {
      octets = λ base q f y w. keeps.octets base q f y (ap (λ (l : List ℕ). wrote base l ss) (sym (append_assoc q o x)) ∙ w);
      room = λ a h.
          keeps.room a (
            omega (arith, long, h.0, h.1.0),
            subst (λ (n : ℕ). HasRoom n (a - length (o ++ x)) ss) (sym far)
                (subst (λ (n : ℕ). HasRoom (p + length o + length x) n ss) (sym (less a)) h.1.1),
          );
      ahead = λ a. keeps.ahead a ∙ ap (λ (n : ℕ). spare n (a - length (o ++ x)) ss) far
          ∙ ap (λ (n : ℕ). spare (p + length o + length x) n ss) (less a);
      end = keeps.end ∙ ap (λ (n : ℕ). place n ss) far;
      rest = keeps.rest;
      stores = omega (arith, keeps.stores, e);
    }

-- a chunk and padding that is known
pub padded_stored : (p k m a g : ℕ) (o : List ℕ) (ss made : List Step) → gap (p + length o) a ≡ g → m ≤ k + 1
    → Keeps p (Stored (o ++ replicate g 0) m ∷ ss) made
    → Keeps p (Stored o k ∷ Pad a ∷ ss) made
padded_stored p k m a g o ss made e le keeps =
    let zeros : List ℕ = replicate g 0 in
    let many : length {A = ℕ} zeros ≡ g = zeros_long g in
    let long : length (o ++ zeros) ≡ length o + g = length-append o zeros ∙ ap (λ (n : ℕ). length o + n) many in
    let same : gap (p + length o) a ≡ g = e in
    let far : p + length (o ++ zeros) ≡ p + length o + gap (p + length o) a = omega (arith, long, same) in
    let less : (b : ℕ) → b - length (o ++ zeros) ≡ b - length o - gap (p + length o) a = λ b. omega (arith, long, same) in
    record {
      octets = λ base q f y w.
          let here : base + length (q ++ o) ≡ p + length o = omega (arith, f, length-append q o) in
          let known : gap (base + length (q ++ o)) a ≡ g = ap (λ (n : ℕ). gap n a) here ∙ e in
          keeps.octets base q f y
          (ap (λ (l : List ℕ). wrote base l ss) (sym (append_assoc q o zeros))
          ∙ ap (λ (n : ℕ). wrote base (q ++ o ++ replicate n 0) ss) (sym known) ∙ w);
      room = λ b h.
          keeps.room b (
            omega (arith, long, same, h.0, h.1.0),
            subst (λ (n : ℕ). HasRoom n (b - length (o ++ zeros)) ss) (sym far)
                (subst (λ (n : ℕ). HasRoom (p + length o + gap (p + length o) a) n ss) (sym (less b)) h.1.1),
          );
      ahead = λ b. keeps.ahead b ∙ ap (λ (n : ℕ). spare n (b - length (o ++ zeros)) ss) far
          ∙ ap (λ (n : ℕ). spare (p + length o + gap (p + length o) a) n ss) (less b);
      end = keeps.end ∙ ap (λ (n : ℕ). place n ss) far;
      rest = keeps.rest;
      stores = omega (arith, keeps.stores, le);
    }

-- an empty chunk before steps
pub strip : (p : ℕ) (ss made : List Step) → Keeps p (Stored [] 0 ∷ ss) made → Keeps p ss made
strip p ss made keeps = record {
  octets = λ base o e x w. keeps.octets base o e x (ap (λ (l : List ℕ). wrote base l ss) (append-nil o) ∙ w);
  room = λ a h.
      keeps.room a (
        omega arith,
        subst (λ (n : ℕ). HasRoom n (a - length {A = ℕ} []) ss) (sym (same_place p))
            (subst (λ (n : ℕ). HasRoom p n ss) (sym (same_room a)) h),
      );
  ahead = λ a. keeps.ahead a ∙ ap (λ (n : ℕ). spare n (a - length {A = ℕ} []) ss) (same_place p)
      ∙ ap (λ (n : ℕ). spare p n ss) (same_room a);
  end = keeps.end ∙ ap (λ (n : ℕ). place n ss) (same_place p);
  rest = keeps.rest;
  stores = omega (arith, keeps.stores);
}
