-- Flats that are one list of numbers are one flat, by induction on the items.
use Rattle.std.proofs.Common.{◌≡◌, ℕ, ◌/◌, ◌%◌, ℤ, pos, negsuc, unsigned_abs, int_lt, rules, Bool, false, List, [], ◌∷◌, refl, ap, ◌∙◌, arith, if◌then◌else◌}
use Rattle.wire_def.specs.declared.head.Order.{Order}
use Rattle.wire_def.specs.declared.head.Order.TheVariants.{Big, Little}
use Rattle.cast_stub.specs.declared.put.HeadField.{HeadField}
use Rattle.cast_stub.specs.declared.put.HeadField.TheVariants.{Id, Remote, Local}
use Rattle.stub_flat.specs.Items.{Source, num, tag, flag, count, short, head, fixed, part, Items, done, octet, zeros, loop, ways, if_present, called, patched, Ways, no_way, other, way}
use Rattle.stub_flat.specs.Flat.{Flats}
use Rattle.stub_compare.specs.CompareText.{path_text, order_text, field_text, source_text, digits_text, integer_text, items_text, ways_text, list_text, flats_text}

-- the first number, and those behind it
abbrev first : List ℕ → ℕ
first [] = 0
first (n ∷ ns) = n

abbrev rest : List ℕ → List ℕ
rest [] = []
rest (n ∷ ns) = ns

-- what two texts are equal with: what they are of, and what follows
pub record Same {A : Type 0} (a b : A) (k l : List ℕ) : Type 0 where
  pub is : a ≡ b
  pub behind : k ≡ l

-- what is made of three things is the same where each is, one after another
three_same : {A B C D : Type 0} (make : A → B → C → D) (p q : A) (x y : B) (i j : C) (a b c d k l : List ℕ) → Same p q a b
    → (a ≡ b → Same x y c d) → (c ≡ d → Same i j k l) → Same (make p x i) (make q y j) k l
three_same make p q x y i j a b c d k l s second third =
    let t = second s.behind in
    let u = third t.behind in
    record { is = ap (λ z. make z x i) s.is ∙ ap (λ z. make q z i) t.is ∙ ap (λ z. make q y z) u.is; behind = u.behind }

path_same : (p q k l : List ℕ) → path_text p k ≡ path_text q l → Same p q k l
path_same [] [] k l e = record { is = refl; behind = ap rest e }
path_same [] (m ∷ q) k l e = absurd (let d : 0 ≡ 1 = ap first e in omega arith)
path_same (n ∷ p) [] k l e = absurd (let d : 1 ≡ 0 = ap first e in omega arith)
path_same (n ∷ p) (m ∷ q) k l e =
    let head : n ≡ m = ap (λ z. first (rest z)) e in
    let s = path_same p q k l (ap (λ z. rest (rest z)) e) in
    record { is = ap (λ x. x ∷ p) head ∙ ap (λ y. m ∷ y) s.is; behind = s.behind }

order_same : (o d : Order) → order_text o ≡ order_text d → o ≡ d
order_same Big Big e = refl
order_same Big Little e = absurd (omega arith)
order_same Little Big e = absurd (omega arith)
order_same Little Little e = refl

field_same : (f g : HeadField) → field_text f ≡ field_text g → f ≡ g
field_same Id Id e = refl
field_same Id Remote e = absurd (omega arith)
field_same Id Local e = absurd (omega arith)
field_same Remote Id e = absurd (omega arith)
field_same Remote Remote e = refl
field_same Remote Local e = absurd (omega arith)
field_same Local Id e = absurd (omega arith)
field_same Local Remote e = absurd (omega arith)
field_same Local Local e = refl

source_same : (a b : Source) (k l : List ℕ) → source_text a k ≡ source_text b l → Same a b k l
source_same (num p) (num q) k l e =
    let s = path_same p q k l (ap rest e) in record { is = ap num s.is; behind = s.behind }
source_same (tag p) (tag q) k l e =
    let s = path_same p q k l (ap rest e) in record { is = ap tag s.is; behind = s.behind }
source_same (flag p) (flag q) k l e =
    let s = path_same p q k l (ap rest e) in record { is = ap flag s.is; behind = s.behind }
source_same (count p m a) (count q n b) k l e =
    let s = path_same p q (m ∷ (a ∷ k)) (n ∷ (b ∷ l)) (ap rest e) in
    record {
      is = ap (λ z. count z m a) s.is ∙ ap (λ z. count q z a) (ap first s.behind)
          ∙ ap (λ z. count q n z) (ap (λ z. first (rest z)) s.behind);
      behind = ap (λ z. rest (rest z)) s.behind;
    }
source_same (short p name size m) (short q given bits n) k l e =
    let s = path_same p q (name ∷ (size ∷ (m ∷ k))) (given ∷ (bits ∷ (n ∷ l))) (ap rest e) in
    record {
      is = ap (λ z. short z name size m) s.is ∙ ap (λ z. short q z size m) (ap first s.behind)
          ∙ ap (λ z. short q given z m) (ap (λ z. first (rest z)) s.behind)
          ∙ ap (λ z. short q given bits z) (ap (λ z. first (rest (rest z))) s.behind);
      behind = ap (λ z. rest (rest (rest z))) s.behind;
    }
source_same (head f) (head g) k l e =
    record { is = ap head (field_same f g (ap (λ z. first (rest z)) e)); behind = ap (λ z. rest (rest z)) e }
source_same (num p) b k l e = absurd (omega (arith, ap first e))
source_same (tag p) b k l e = absurd (omega (arith, ap first e))
source_same (flag p) b k l e = absurd (omega (arith, ap first e))
source_same (count p m a) b k l e = absurd (omega (arith, ap first e))
source_same (short p name size m) b k l e = absurd (omega (arith, ap first e))
source_same (head f) b k l e = absurd (omega (arith, ap first e))

-- numbers of the same digits
digit_same : (n m : ℕ) → n % 4294967296 ≡ m % 4294967296 → n / 4294967296 ≡ m / 4294967296 → n ≡ m
digit_same n m low high = omega (arith, low, high)

digits_same : (n m : ℕ) (k l : List ℕ) → digits_text n k ≡ digits_text m l → Same n m k l
digits_same n m k l e =
    let third = digit_same (n / 4294967296 / 4294967296) (m / 4294967296 / 4294967296) (ap (λ z. first (rest (rest z))) e)
    (ap (λ z. first (rest (rest (rest z)))) e) in
    let second = digit_same (n / 4294967296) (m / 4294967296) (ap (λ z. first (rest z)) e) third in
    record { is = digit_same n m (ap first e) second; behind = ap (λ z. rest (rest (rest (rest z)))) e }

-- 1 for a number below 0, else 0
abbrev choice : Bool → ℕ
choice b = if b then 1 else 0

abbrev sign : ℤ → ℕ
sign z = choice (int_lt z (pos 0))

not_below : (n : ℕ) → int_lt (pos n) (pos 0) ≡ false
not_below n = search rules

sign_above : (n : ℕ) → sign (pos n) ≡ 0
sign_above n = ap choice (not_below n)

signs_same : (y z : ℤ) → sign y ≡ sign z → unsigned_abs y ≡ unsigned_abs z → y ≡ z
signs_same (pos n) (pos m) e d = ap pos d
signs_same (pos n) (negsuc m) e d = absurd (omega (arith, sign_above n, e))
signs_same (negsuc n) (pos m) e d = absurd (omega (arith, sign_above m, e))
signs_same (negsuc n) (negsuc m) e d = let same : n ≡ m = omega (arith, d) in ap negsuc same

integer_same : (y z : ℤ) (k l : List ℕ) → integer_text y k ≡ integer_text z l → Same y z k l
integer_same y z k l e =
    let s = digits_same (unsigned_abs y) (unsigned_abs z) k l (ap rest e) in
    record { is = signs_same y z (ap first e) s.is; behind = s.behind }

mutual
  items_same : (a b : Items) (k l : List ℕ) → items_text a k ≡ items_text b l → Same a b k l
  items_same done done k l e = record { is = refl; behind = ap rest e }
  items_same done (octet (fixed n) j) k l e = absurd (omega (arith, ap first e))
  items_same done (octet (part s n) j) k l e = absurd (omega (arith, ap first e))
  items_same done b k l e = absurd (omega (arith, ap first e))
  items_same (octet (fixed n) i) (octet (fixed m) j) k l e =
      let head : n ≡ m = omega (arith, ap first e) in
      let s = items_same i j k l (ap rest e) in
      record { is = ap (λ z. octet (fixed z) i) head ∙ ap (λ z. octet (fixed m) z) s.is; behind = s.behind }
  items_same (octet (fixed n) i) (octet (part s m) j) k l e = absurd (omega (arith, ap first e))
  items_same (octet (fixed n) i) b k l e = absurd (omega (arith, ap first e))
  items_same (octet (part s n) i) (octet (part t m) j) k l e =
      let c = source_same s t (items_text i k) (items_text j l) (ap (λ z. rest (rest z)) e) in
      let r = items_same i j k l c.behind in
      record {
        is = ap (λ z. octet (part z n) i) c.is ∙ ap (λ z. octet (part t z) i) (ap (λ z. first (rest z)) e)
            ∙ ap (λ z. octet (part t m) z) r.is;
        behind = r.behind;
      }
  items_same (octet (part s n) i) (octet (fixed m) j) k l e = absurd (omega (arith, ap first e))
  items_same (octet (part s n) i) b k l e = absurd (omega (arith, ap first e))
  items_same (zeros a i) (zeros b j) k l e =
      let s = items_same i j k l (ap (λ z. rest (rest z)) e) in
      record { is = ap (λ z. zeros z i) (ap (λ z. first (rest z)) e) ∙ ap (λ z. zeros b z) s.is; behind = s.behind }
  items_same (zeros a i) (octet (fixed m) j) k l e = absurd (omega (arith, ap first e))
  items_same (zeros a i) (octet (part s m) j) k l e = absurd (omega (arith, ap first e))
  items_same (zeros a i) b k l e = absurd (omega (arith, ap first e))
  items_same (loop p x i) (loop q y j) k l e =
      three_same loop p q x y i j _ _ _ _ k l (path_same p q (items_text x (items_text i k)) (items_text y (items_text j l)) (ap rest e))
      (items_same x y (items_text i k) (items_text j l)) (items_same i j k l)
  items_same (loop p x i) (octet (fixed m) j) k l e = absurd (omega (arith, ap first e))
  items_same (loop p x i) (octet (part s m) j) k l e = absurd (omega (arith, ap first e))
  items_same (loop p x i) b k l e = absurd (omega (arith, ap first e))
  items_same (ways p x i) (ways q y j) k l e =
      three_same ways p q x y i j _ _ _ _ k l (path_same p q (ways_text x (items_text i k)) (ways_text y (items_text j l)) (ap rest e))
      (ways_same x y (items_text i k) (items_text j l)) (items_same i j k l)
  items_same (ways p x i) (octet (fixed m) j) k l e = absurd (omega (arith, ap first e))
  items_same (ways p x i) (octet (part s m) j) k l e = absurd (omega (arith, ap first e))
  items_same (ways p x i) b k l e = absurd (omega (arith, ap first e))
  items_same (if_present p x i) (if_present q y j) k l e =
      three_same if_present p q x y i j _ _ _ _ k l
      (path_same p q (items_text x (items_text i k)) (items_text y (items_text j l)) (ap rest e))
      (items_same x y (items_text i k) (items_text j l)) (items_same i j k l)
  items_same (if_present p x i) (octet (fixed m) j) k l e = absurd (omega (arith, ap first e))
  items_same (if_present p x i) (octet (part s m) j) k l e = absurd (omega (arith, ap first e))
  items_same (if_present p x i) b k l e = absurd (omega (arith, ap first e))
  items_same (called n p i) (called m q j) k l e =
      let s = path_same p q (items_text i k) (items_text j l) (ap (λ z. rest (rest z)) e) in
      let u = items_same i j k l s.behind in
      record {
        is = ap (λ z. called z p i) (ap (λ z. first (rest z)) e) ∙ ap (λ z. called m z i) s.is ∙ ap (λ z. called m q z) u.is;
        behind = u.behind;
      }
  items_same (called n p i) (octet (fixed m) j) k l e = absurd (omega (arith, ap first e))
  items_same (called n p i) (octet (part s m) j) k l e = absurd (omega (arith, ap first e))
  items_same (called n p i) b k l e = absurd (omega (arith, ap first e))
  items_same (patched a z o i) (patched b y d j) k l e =
      let u = items_same i j k l (ap (λ x. rest (rest (rest (rest x)))) e) in
      record {
        is = ap (λ x. patched x z o i) (ap (λ x. first (rest x)) e) ∙ ap (λ x. patched b x o i) (ap (λ x. first (rest (rest x))) e)
            ∙ ap (λ x. patched b y x i) (order_same o d (ap (λ x. first (rest (rest (rest x)))) e)) ∙ ap (λ x. patched b y d x) u.is;
        behind = u.behind;
      }
  items_same (patched a z o i) (octet (fixed m) j) k l e = absurd (omega (arith, ap first e))
  items_same (patched a z o i) (octet (part s m) j) k l e = absurd (omega (arith, ap first e))
  items_same (patched a z o i) b k l e = absurd (omega (arith, ap first e))

  ways_same : (a b : Ways) (k l : List ℕ) → ways_text a k ≡ ways_text b l → Same a b k l
  ways_same no_way no_way k l e = record { is = refl; behind = ap rest e }
  ways_same no_way b k l e = absurd (omega (arith, ap first e))
  ways_same (other x) (other y) k l e =
      let s = items_same x y k l (ap rest e) in record { is = ap other s.is; behind = s.behind }
  ways_same (other x) b k l e = absurd (omega (arith, ap first e))
  ways_same (way m x a) (way n y b) k l e =
      three_same way m n x y a b _ _ _ _ k l (integer_same m n (items_text x (ways_text a k)) (items_text y (ways_text b l)) (ap rest e))
      (items_same x y (ways_text a k) (ways_text b l)) (ways_same a b k l)
  ways_same (way m x a) b k l e = absurd (omega (arith, ap first e))

list_same : (a b : List Items) (k l : List ℕ) → list_text a k ≡ list_text b l → Same a b k l
list_same [] [] k l e = record { is = refl; behind = ap rest e }
list_same [] (j ∷ js) k l e = absurd (omega (arith, ap first e))
list_same (i ∷ is) [] k l e = absurd (omega (arith, ap first e))
list_same (i ∷ is) (j ∷ js) k l e =
    let s = items_same i j (list_text is k) (list_text js l) (ap rest e) in
    let t = list_same is js k l s.behind in
    record { is = ap (λ z. z ∷ is) s.is ∙ ap (λ z. j ∷ z) t.is; behind = t.behind }

pub flats_same : (f g : Flats) → flats_text f [] ≡ flats_text g [] → f ≡ g
flats_same f g e =
    let s = items_same f.0 g.0 (list_text f.1 []) (list_text g.1 []) e in
    let t = list_same f.1 g.1 [] [] s.behind in
    ap (λ (z : Items). pair z f.1) s.is ∙ ap (λ (z : List Items). pair g.0 z) t.is where
      pair : Items → List Items → Flats
      pair x y = (x, y)
