-- Operations of one interface and name have one type in each binding, by induction on the interfaces.
use Rattle.std.proofs.Common.{◌≡◌, ◌+◌, ◌<◌, Bool, true, false, cond, ℕ, zero, suc, List, [], ◌∷◌, ◌++◌, map, Option, None, Some, option_map, if◌then◌else◌, refl, sym, ap, ◌∙◌, arith}
use Rattle.std.specs.Prelude.{◌==◌, ◌&&◌, slice_get, slice_index_or}
use Rattle.std.specs.List.{position_from}
use Rattle.std.specs.Str.{bytes_eq}
use Rattle.std.proofs.lemmas.Bool.{eqb-true}
use Rattle.std.proofs.lemmas.List.{map-append}
use Rattle.std.proofs.lemmas.Slice.Eq.{bytes_eq-Decides}
use Rattle.mint.specs.Types.{type_at}
use Rattle.wire_def.specs.declared.encoding.Back.{Back}
use Rattle.aoi.specs.Plain.{PlainOperation, PlainInterface, PlainUnit}
use Rattle.pres.specs.declared.ops.Op.{Op}
use Rattle.pres.specs.Bindings.{Binding, IsBinding}
use Rattle.skeleton.specs.Exchanges.{request_type, reply_type}
use Rattle.pres.specs.Faces.{Face, faces, type_of}
use Rattle.pres_pairs.specs.Laws.{PairsHaveOneType}
use Rattle.pres.specs.Offers.{Offer, null_operation, gets_null, gotten, operations, offer, offers_from, offers, offer_at, type_faces}
use Rattle.pres_pairs.specs.Pairs.{ArePaired, is_named, is_number, number_of, pair_at}
use Rattle.pres.proofs.Facing.{type_at-face}

-- ---- the first element that passes a test

abbrev first : {A : Type 0} → (A → Bool) → List A → Option A
first f [] = None
first f (x ∷ xs) = cond (f x) (Some x) (first f xs)

-- an element, or else what is behind it
abbrev or_else : {A : Type 0} → Option A → Option A → Option A
or_else None y = y
or_else (Some x) y = Some x

first-append : {A : Type 0} (f : A → Bool) (xs ys : List A) → first f (xs ++ ys) ≡ or_else (first f xs) (first f ys)
first-append f [] ys = refl
first-append f (x ∷ xs) ys = by (f x) (first-append f xs ys) where
  by : (t : Bool) → first f (xs ++ ys) ≡ or_else (first f xs) (first f ys)
      → cond t (Some x) (first f (xs ++ ys)) ≡ or_else (cond t (Some x) (first f xs)) (first f ys)
  by true e = refl
  by false e = e

first-map : {A B : Type 0} (h : A → B) (f : B → Bool) (xs : List A) → first f (map h xs) ≡ option_map h (first (λ x. f (h x)) xs)
first-map h f [] = refl
first-map h f (x ∷ xs) = by (f (h x)) (first-map h f xs) where
  by : (t : Bool) → first f (map h xs) ≡ option_map h (first (λ y. f (h y)) xs)
      → cond t (Some (h x)) (first f (map h xs)) ≡ option_map h (cond t (Some x) (first (λ y. f (h y)) xs))
  by true e = refl
  by false e = e

-- the place of an element that is the first to pass a test, where places are counted from m
record IsFirst {A : Type 0} (f : A → Bool) (m place : ℕ) (xs : List A) : Type 0 where
  index : ℕ
  item : A
  counted : place ≡ m + index
  there : slice_get xs index ≡ Some item
  found : first f xs ≡ Some item
  passes : f item ≡ true

first_at : {A : Type 0} (f : A → Bool) (m place : ℕ) (xs : List A) → position_from f m xs ≡ Some place → IsFirst f m place xs
first_at f m place [] e = absurd cc
first_at f m place (x ∷ xs) e = by (f x) refl e (first_at f (m + 1) place xs) where
  by : (t : Bool) → f x ≡ t → cond t (Some m) (position_from f (m + 1) xs) ≡ Some place
      → (position_from f (m + 1) xs ≡ Some place → IsFirst f (m + 1) place xs) → IsFirst f m place (x ∷ xs)
  by true is here more =
      let same : m ≡ place = cc in
      record {
        index = 0;
        item = x;
        counted = omega (arith, same);
        there = refl;
        found = ap (λ (t : Bool). cond t (Some x) (first f xs)) is;
        passes = is;
      }
  by false is here more =
      let h = more here in
      record {
        index = suc h.index;
        item = h.item;
        counted = omega (arith, h.counted);
        there = h.there;
        found = ap (λ (t : Bool). cond t (Some x) (first f xs)) is ∙ h.found;
        passes = h.passes;
      }

-- ---- operations that are offered

-- the operations that are offered by an interface and a name
abbrev is_offered : ℕ → List ℕ → Offer → Bool
is_offered i name x = x.interface == i && bytes_eq x.name name

-- both are there, with the same messages, or neither
abbrev Alike : Option Offer → Option Offer → Type 0
Alike None None = Unit {0}
Alike None (Some y) = ⊥
Alike (Some x) None = ⊥
Alike (Some x) (Some y) = (x.request ≡ y.request) × (x.reply ≡ y.reply)

-- where both are there, they have the same messages
record Agree (p q : Option Offer) : Type 0 where
  both : (x y : Offer) → p ≡ Some x → q ≡ Some y → (x.request ≡ y.request) × (x.reply ≡ y.reply)

none_agree : (q : Option Offer) → Agree None q
none_agree q = record { both = λ x y e f. absurd cc }

agree_none : (p : Option Offer) → Agree p None
agree_none p = record { both = λ x y e f. absurd cc }

agree_as : (p q r s : Option Offer) → p ≡ r → q ≡ s → Agree r s → Agree p q
agree_as p q r s e f h = record { both = λ x y is there. h.both x y (sym e ∙ is) (sym f ∙ there) }

same_messages : (x y v w : Offer) → (x.request ≡ y.request) × (x.reply ≡ y.reply) → x ≡ v → y ≡ w
    → (v.request ≡ w.request) × (v.reply ≡ w.reply)
same_messages x y v w h e f = (
  ap (λ (z : Offer). z.request) (sym e) ∙ h.0 ∙ ap (λ (z : Offer). z.request) f,
  ap (λ (z : Offer). z.reply) (sym e) ∙ h.1 ∙ ap (λ (z : Offer). z.reply) f,
)

agree_else : (p q r s : Option Offer) → Alike p q → Agree r s → Agree (or_else p r) (or_else q s)
agree_else None None r s h g = g
agree_else None (Some y) r s h g = absurd h
agree_else (Some x) None r s h g = absurd h
agree_else (Some x) (Some y) r s h g = record {
  both = λ v w e f. let e' : x ≡ v = cc in let f' : y ≡ w = cc in same_messages x y v w h e' f';
}

alike_agree : (p q : Option Offer) → Alike p q → Agree p q
alike_agree None q h = none_agree q
alike_agree (Some x) None h = agree_none (Some x)
alike_agree (Some x) (Some y) h = record {
  both = λ v w e f. let e' : x ≡ v = cc in let f' : y ≡ w = cc in same_messages x y v w h e' f';
}

agree_alone : (p q r s : Option Offer) → Agree p q → r ≡ None → s ≡ None → Agree (or_else p r) (or_else q s)
agree_alone None q r s h e f = agree_as r (or_else q s) None (or_else q s) e refl (none_agree (or_else q s))
agree_alone (Some x) None r s h e f = agree_as (Some x) s (Some x) None refl f (agree_none (Some x))
agree_alone (Some x) (Some y) r s h e f = h

module _ (fs : List Face) (i : ℕ) (name : List ℕ) where
  -- the first of the operations of the k-th interface
  abbrev first_in : Back → ℕ → List PlainOperation → Option Offer
  first_in b k ops = first (is_offered i name) (map (offer fs b k) ops)

  -- the first of the operations of interfaces, counted from k
  abbrev first_from : Back → ℕ → List PlainInterface → Option Offer
  first_from b k is = first (is_offered i name) (offers_from fs b k is)

  -- an interface of another number has none
  none_in : (b : Back) (k : ℕ) (ops : List PlainOperation) → (k == i) ≡ false → first_in b k ops ≡ None
  none_in b k [] e = refl
  none_in b k (op ∷ ops) e =
      ap (λ (t : Bool). cond (t && bytes_eq op.name name) (Some (offer fs b k op)) (first_in b k ops)) e ∙ none_in b k ops e

  other_number : (m : ℕ) → i < m → (m == i) ≡ false
  other_number m lt = by (m == i) refl where
    by : (t : Bool) → (m == i) ≡ t → t ≡ false
    by true is = let same : m ≡ i = eqb-true m i is in absurd (omega (arith, lt, same))
    by false is = refl

  none_from : (b : Back) (k : ℕ) (is : List PlainInterface) → i < k → first_from b k is ≡ None
  none_from b k [] lt = refl
  none_from b k (j ∷ is) lt =
      first-append (is_offered i name) (map (offer fs b k) (operations b j)) (offers_from fs b (suc k) is)
      ∙ ap (λ (p : Option Offer). or_else p (first_from b (suc k) is)) (none_in b k (operations b j) (other_number k lt))
      ∙ none_from b (suc k) is (omega (arith, lt))

  -- those that a file has are alike over two back ends
  own_alike : (b c : Back) (k : ℕ) (ops : List PlainOperation) → Alike (first_in b k ops) (first_in c k ops)
  own_alike b c k [] = tt
  own_alike b c k (op ∷ ops) = by (k == i && bytes_eq op.name name) (own_alike b c k ops) where
    by : (t : Bool) → Alike (first_in b k ops) (first_in c k ops)
        → Alike (cond t (Some (offer fs b k op)) (first_in b k ops)) (cond t (Some (offer fs c k op)) (first_in c k ops))
    by true h = (refl, refl)
    by false h = h

  -- the procedures that an interface gets
  null_agree : (b c : Back) (k : ℕ) (s t : Bool)
      → Agree (first_in b k (if s then null_operation ∷ [] else [])) (first_in c k (if t then null_operation ∷ [] else []))
  null_agree b c k false t = none_agree (first_in c k (if t then null_operation ∷ [] else []))
  null_agree b c k true false = agree_none (first_in b k (null_operation ∷ []))
  null_agree b c k true true = alike_agree (first_in b k (null_operation ∷ [])) (first_in c k (null_operation ∷ []))
      (own_alike b c k (null_operation ∷ []))

  in_parts : (b : Back) (k : ℕ) (j : PlainInterface)
      → first_in b k (operations b j) ≡ or_else (first_in b k j.ops) (first_in b k (gotten b j))
  in_parts b k j =
      ap (first (is_offered i name)) (map-append (offer fs b k) j.ops (gotten b j))
      ∙ first-append (is_offered i name) (map (offer fs b k) j.ops) (map (offer fs b k) (gotten b j))

  in_agree : (b c : Back) (k : ℕ) (j : PlainInterface) → Agree (first_in b k (operations b j)) (first_in c k (operations c j))
  in_agree b c k j =
      agree_as (first_in b k (operations b j)) (first_in c k (operations c j))
      (or_else (first_in b k j.ops) (first_in b k (gotten b j))) (or_else (first_in c k j.ops) (first_in c k (gotten c j)))
      (in_parts b k j) (in_parts c k j)
      (agree_else (first_in b k j.ops) (first_in c k j.ops) (first_in b k (gotten b j)) (first_in c k (gotten c j))
      (own_alike b c k j.ops) (null_agree b c k (gets_null b j) (gets_null c j)))

  from_parts : (b : Back) (k : ℕ) (j : PlainInterface) (is : List PlainInterface)
      → first_from b k (j ∷ is) ≡ or_else (first_in b k (operations b j)) (first_from b (suc k) is)
  from_parts b k j is = first-append (is_offered i name) (map (offer fs b k) (operations b j)) (offers_from fs b (suc k) is)

  step_agree : (b c : Back) (k : ℕ) (j : PlainInterface) (is : List PlainInterface) (t : Bool) → (k == i) ≡ t
      → Agree (first_from b (suc k) is) (first_from c (suc k) is)
      → Agree (or_else (first_in b k (operations b j)) (first_from b (suc k) is))
      (or_else (first_in c k (operations c j)) (first_from c (suc k) is))
  step_agree b c k j is true e h =
      let same : k ≡ i = eqb-true k i e in
      agree_alone (first_in b k (operations b j)) (first_in c k (operations c j)) (first_from b (suc k) is) (first_from c (suc k) is)
      (in_agree b c k j) (none_from b (suc k) is (omega (arith, same))) (none_from c (suc k) is (omega (arith, same)))
  step_agree b c k j is false e h =
      agree_as (or_else (first_in b k (operations b j)) (first_from b (suc k) is))
      (or_else (first_in c k (operations c j)) (first_from c (suc k) is)) (first_from b (suc k) is) (first_from c (suc k) is)
      (ap (λ (p : Option Offer). or_else p (first_from b (suc k) is)) (none_in b k (operations b j) e))
      (ap (λ (p : Option Offer). or_else p (first_from c (suc k) is)) (none_in c k (operations c j) e)) h

  -- the first operations that are offered over two back ends have the same messages
  offers_agree : (b c : Back) (k : ℕ) (is : List PlainInterface) → Agree (first_from b k is) (first_from c k is)
  offers_agree b c k [] = none_agree None
  offers_agree b c k (j ∷ is) =
      agree_as (first_from b k (j ∷ is)) (first_from c k (j ∷ is))
      (or_else (first_in b k (operations b j)) (first_from b (suc k) is))
      (or_else (first_in c k (operations c j)) (first_from c (suc k) is))
      (from_parts b k j is) (from_parts c k j is) (step_agree b c k j is (k == i) refl (offers_agree b c (suc k) is))

-- ---- operations of a binding

-- the first operation of a binding that has the name is the first that is offered
offered_first : (b : Binding) (i : ℕ) (name : List ℕ) (o : Op) → IsBinding b → first (is_named i name) b.ops ≡ Some o
    → first (is_offered i name) (offers b.unit b.back) ≡ Some (offer_at (faces b.nodes b.shapes) o)
offered_first b i name o stands e =
    ap (first (is_offered i name)) (sym stands.offered)
    ∙ first-map (offer_at (faces b.nodes b.shapes)) (is_offered i name) b.ops
    ∙ ap (option_map (offer_at (faces b.nodes b.shapes))) e

read_at : (f : Op → ℕ) (ops : List Op) (k : ℕ) (o : Op) → slice_get ops k ≡ Some o → slice_index_or (map f ops) k 0 ≡ f o
read_at f [] k o e = absurd cc
read_at f (x ∷ ops) zero o e = let same : x ≡ o = cc in ap f same
read_at f (x ∷ ops) (suc k) o e = read_at f ops k o e

request_is : (b : Binding) (k : ℕ) (o : Op) → IsBinding b → slice_get b.ops k ≡ Some o
    → request_type b k ≡ type_of (offer_at (faces b.nodes b.shapes) o).request
request_is b k o stands e =
    ap (λ (id : ℕ). type_at b.nodes id) (read_at (λ (x : Op). x.request) b.ops k o e)
    ∙ type_at-face b.nodes b.shapes o.request stands.named

reply_is : (b : Binding) (k : ℕ) (o : Op) → IsBinding b → slice_get b.ops k ≡ Some o
    → reply_type b k ≡ type_of (offer_at (faces b.nodes b.shapes) o).reply
reply_is b k o stands e =
    ap (λ (id : ℕ). type_at b.nodes id) (read_at (λ (x : Op). x.reply) b.ops k o e)
    ∙ type_at-face b.nodes b.shapes o.reply stands.named

-- ---- pairs

-- an operation that is the first of its interface and name, and the number of the first one elsewhere
record HasPair (b c : Binding) (op other : ℕ) (x : Option Op) : Type 0 where
  own : Op
  is : x ≡ Some own
  here : number_of b own.interface own.name ≡ Some op
  there : number_of c own.interface own.name ≡ Some other

has_pair : (b c : Binding) (op other : ℕ) (x : Option Op) → pair_at b c op x ≡ Some other → HasPair b c op other x
has_pair b c op other None e = absurd cc
has_pair b c op other (Some o) e = by (number_of b o.interface o.name) refl e where
  by_number : (k : ℕ) (t : Bool) → number_of b o.interface o.name ≡ Some k → (k == op) ≡ t
      → (if t then number_of c o.interface o.name else None) ≡ Some other → HasPair b c op other (Some o)
  by_number k true is same e = record { own = o; is = refl; here = is ∙ ap (λ (n : ℕ). Some n) (eqb-true k op same); there = e }
  by_number k false is same e = absurd cc

  by : (r : Option ℕ) → number_of b o.interface o.name ≡ r
      → (if is_number op r then number_of c o.interface o.name else None) ≡ Some other → HasPair b c op other (Some o)
  by None is e = absurd cc
  by (Some k) is e = by_number k (k == op) is refl e

-- what an operation's test says
is_its : (i : ℕ) (name : List ℕ) (o : Op) → is_named i name o ≡ true → (o.interface ≡ i) × (o.name ≡ name)
is_its i name o e = by (o.interface == i) refl (bytes_eq o.name name) refl e where
  by : (t : Bool) → (o.interface == i) ≡ t → (u : Bool) → bytes_eq o.name name ≡ u → (t && u) ≡ true
      → (o.interface ≡ i) × (o.name ≡ name)
  by true f true g e = (eqb-true o.interface i f, (bytes_eq-Decides o.name name).0 g)
  by true f false g e = absurd cc
  by false f u g e = absurd cc

item_is : (ops : List Op) (k n : ℕ) (o x : Op) → slice_get ops k ≡ Some o → slice_get ops n ≡ Some x → k ≡ 0 + n → x ≡ o
item_is ops k n o x e f same =
    let at : k ≡ n = omega (arith, same) in
    let there : slice_get ops k ≡ slice_get ops n = ap (slice_get ops) at in
    cc

-- operations that are the first of one interface and name
module _ (b c : Binding) (op other : ℕ) (stands : IsBinding b) (stands' : IsBinding c) (one : b.unit ≡ c.unit) (own x y : Op)
    (here : slice_get b.ops op ≡ Some own) (there : slice_get c.ops other ≡ Some y) (same : x ≡ own)
    (found : first (is_named own.interface own.name) b.ops ≡ Some x)
    (found' : first (is_named own.interface own.name) c.ops ≡ Some y)
    (passes : is_named own.interface own.name y ≡ true) where
  messages : ((offer_at (faces b.nodes b.shapes) own).request ≡ (offer_at (faces c.nodes c.shapes) y).request)
      × ((offer_at (faces b.nodes b.shapes) own).reply ≡ (offer_at (faces c.nodes c.shapes) y).reply)
  messages =
      let mine = offered_first b own.interface own.name own stands (found ∙ ap (λ (o : Op). Some o) same) in
      let its = offered_first c own.interface own.name y stands' found' in
      let theirs = ap (λ (u : PlainUnit). first (is_offered own.interface own.name) (offers u c.back)) one ∙ its in
      (offers_agree (type_faces b.unit) own.interface own.name b.back c.back 0 b.unit.interfaces).both
      (offer_at (faces b.nodes b.shapes) own) (offer_at (faces c.nodes c.shapes) y) mine theirs

  paired : ArePaired b c op other
  paired =
      let its = is_its own.interface own.name y passes in
      record {
        own = own;
        pair = y;
        here = here;
        there = there;
        interface = sym its.0;
        name = sym its.1;
        request = request_is b op own stands here ∙ ap type_of messages.0 ∙ sym (request_is c other y stands' there);
        reply = reply_is b op own stands here ∙ ap type_of messages.1 ∙ sym (reply_is c other y stands' there);
      }

pub pairs_have_one_type : PairsHaveOneType
pairs_have_one_type b c op other stands stands' one e =
    let has = has_pair b c op other (slice_get b.ops op) e in
    let mine = first_at (is_named has.own.interface has.own.name) 0 op b.ops has.here in
    let its = first_at (is_named has.own.interface has.own.name) 0 other c.ops has.there in
    let at : other ≡ its.index = omega (arith, its.counted) in
    let there : slice_get c.ops other ≡ Some its.item = ap (slice_get c.ops) at ∙ its.there in
    paired b c op other stands stands' one has.own mine.item its.item has.is there
    (item_is b.ops op mine.index has.own mine.item has.is mine.there mine.counted) mine.found its.found its.passes
