-- What is read of tokens of text in the usual form, by induction on items and on members.
use Rattle.std.proofs.Common.{◌≡◌, ◌==◌, ℕ, ℤ, suc, ◌<◌, ◌≤◌, ◌+◌, ◌-◌, max, List, [], ◌∷◌, ◌++◌, length, get_or, Bool, true, false, Option, Some, None, option_map, bytes_eq, refl, sym, ap, ◌∙◌, subst, arith, append_assoc, append-nil, length-append}
use Rattle.std.specs.Prelude.{if◌then◌else◌}
use Rattle.std.proofs.lemmas.Bool.Decides.{nat_tests}
use Rattle.std.proofs.lemmas.Slice.Eq.{bytes_eq-Decides}
use Rattle.json.specs.Json as text
use Rattle.json.specs.Json.{after_end_array}
use Rattle.json.proofs.Grammar.{closed_array}
use Rattle.json.specs.Token.{Token, begin_array, begin_object, end_array, end_object, key, null}
use Rattle.json.specs.Tree.{depth, items_depth, items_tokens, json_tokens, members_depth, members_tokens}
use Rattle.json.specs.Value.{items_of}
use Rattle.mint.specs.declared.kind.Count.{Count}
use Rattle.mint.specs.declared.kind.Kind.{Kind}
use Rattle.mint.specs.declared.value.Value.{Value}
use Rattle.mint.specs.declared.value.Value.TheOpen.{Value-F}
use Rattle.mint.specs.declared.value.Value.TheVariants as value
use Rattle.mint.specs.declared.value.Value.TheFolds.{fold-roll-Value}
use Rattle.mint.specs.Values.{Val, Vals, seen, seen_level, all_seen}
use Rattle.mint.specs.Values as vals
use Rattle.aoi.specs.Sound.{are_distinct}
use Rattle.pres.specs.Faces.{Face, Parts, at, parts_at, list, members, nothing, values}
use Rattle.serde_json.specs.Data.{Data, Items, Members, no_items, no_members, put}
use Rattle.serde_json.specs.Data as json
use Rattle.serde_json.specs.Read.{of_members}
use Rattle.serde_json.proofs.Views.{get_member-put}
use Rattle.json_shape.specs.Presents.{count, member_of, size}
use Rattle.json_shape.specs.Reading.{value_of, each, in_order, by_name}
use Rattle.json_shape.specs.Scalars.{each_in, number_in}
use Rattle.json_shape.specs.Texts.{text_of}
use Rattle.json_shape.specs.Usual.{listed_in, AreRead, IsRead, ItemsTaken, MembersTaken, Reads}
use Rattle.json_shape.proofs.Written.{other_member, size-put}
use Rattle.json_shape.proofs.WrittenScalars.{is_name}
use Rattle.wire_def.proofs.ScalarGrammar.{left_true, right_true}
use Rattle.std.proofs.lemmas.Bool.{not-true, or_parts}

-- ---- one after the other

-- things, each with a value, the first at place k
abbrev pub Paired : {X Y : Type 0} → (ℕ → X → Y → Type 0) → ℕ → List X → List Y → Type 0
Paired P k [] [] = Unit {0}
Paired P k (x ∷ xs) (v ∷ vs) = P k x v × Paired P (suc k) xs vs
Paired P k _ _ = ⊥

paired_push : {X Y : Type 0} (P : ℕ → X → Y → Type 0) (k : ℕ) (xs : List X) (vs : List Y) (x : X) (v : Y)
    → Paired P k xs vs → P (k + length vs) x v → Paired P k (xs ++ x ∷ []) (vs ++ v ∷ [])
paired_push P k [] [] x v h last = let e : k + 0 ≡ k = omega arith in (subst (λ (j : ℕ). P j x v) e last, tt)
paired_push P k [] (w ∷ vs) x v h last = absurd h
paired_push P k (y ∷ xs) [] x v h last = absurd h
paired_push P k (y ∷ xs) (w ∷ vs) x v h last =
    let e : k + suc (length vs) ≡ suc k + length vs = omega arith in
    (h.0, paired_push P (suc k) xs vs x v h.1 (subst (λ (j : ℕ). P j x v) e last))

-- the tokens of things
abbrev pub tokens_of : {X : Type 0} → (X → List Token) → List X → List Token
tokens_of f [] = []
tokens_of f (x ∷ xs) = f x ++ tokens_of f xs

tokens_push : {X : Type 0} → (f : X → List Token) (xs : List X) (x : X) → tokens_of f (xs ++ x ∷ []) ≡ tokens_of f xs ++ f x
tokens_push f [] x = append-nil (f x)
tokens_push f (y ∷ xs) x = ap (λ (ts : List Token). f y ++ ts) (tokens_push f xs x) ∙ sym (append_assoc (f y) (tokens_of f xs) (f x))

-- from `old` to `new` there are the tokens of things, each with a value
pub record Taken {X Y : Type 0} (f : X → List Token) (P : ℕ → X → Y → Type 0) (old new : List Token) (vs : List Y) : Type 0 where
  pub things : List X
  pub takes : old ≡ tokens_of f things ++ new
  pub paired : Paired P 0 things vs

-- one more
taken_more : {X Y : Type 0} → (f : X → List Token) (P : ℕ → X → Y → Type 0) (k : ℕ) (old now new : List Token) (vs : List Y) (x : X) (v : Y)
    → Taken f P old now vs → length vs ≡ k → now ≡ f x ++ new → P k x v → Taken f P old new (vs ++ v ∷ [])
taken_more {X} f P k old now new vs x v h many takes last = record {
  things = h.things ++ x ∷ [];
  takes = h.takes ∙ ap (λ (ts : List Token). tokens_of f h.things ++ ts) takes ∙ sym (append_assoc (tokens_of f h.things) (f x) new)
      ∙ ap (λ (ts : List Token). ts ++ new) (sym (tokens_push f h.things x));
  paired =
      let e : k ≡ 0 + length vs = omega (arith, many) in
      paired_push P 0 h.things vs x v h.paired (subst (λ (j : ℕ). P j x v) e last);
}

-- ---- items

-- an item of a list, which nests no deeper than d
pub record ItemRead {X Y : Type 0} (d : ℕ) (f : Data → Option X) (s : Y → X) (k : ℕ) (j : text.Json) (v : Y) : Type 0 where
  pub nests : depth j ≤ d
  pub read : IsRead j f (s v)

-- a part of a struct without names
abbrev pub PartRead : ℕ → List Face → List ℕ → ℕ → text.Json → Value → Type 0
PartRead d fs ids k j v = ItemRead d (value_of (at fs (get_or ids k 0))) seen k j v

-- a number of a row
abbrev pub same_number : ℤ → ℤ
same_number n = n

-- one more item
pub item_more : {X Y : Type 0} → (d : ℕ) (f : Data → Option X) (s : Y → X) (old now new : List Token) (vs : List Y) (v : Y)
    → Taken json_tokens (ItemRead d f s) old now vs → Reads d now new f (s v) → Taken json_tokens (ItemRead d f s) old new (vs ++ v ∷ [])
item_more d f s old now new vs v h one =
    taken_more json_tokens (ItemRead d f s) (length vs) old now new vs one.source v h refl one.takes
    (record { nests = one.nests; read = one.read })

-- one more part
pub part_more : (d : ℕ) (fs : List Face) (ids : List ℕ) (k : ℕ) (old now new : List Token) (vs : List Value) (v : Value)
    → Taken json_tokens (PartRead d fs ids) old now vs → length vs ≡ k → Reads d now new (value_of (at fs (get_or ids k 0))) (seen v)
    → Taken json_tokens (PartRead d fs ids) old new (vs ++ v ∷ [])
part_more d fs ids k old now new vs v h many one =
    taken_more json_tokens (PartRead d fs ids) k old now new vs one.source v h many one.takes
    (record { nests = one.nests; read = one.read })

-- items and the end of their array
closed_items : (js : List text.Json) (rest : List Token) → tokens_of json_tokens js ++ end_array ∷ rest ≡ items_tokens (items_of js) ++ rest
closed_items [] rest = refl
closed_items (j ∷ js) rest =
    append_assoc (json_tokens j) (tokens_of json_tokens js) (end_array ∷ rest)
    ∙ ap (λ (ts : List Token). json_tokens j ++ ts) (closed_items js rest)
    ∙ sym (append_assoc (json_tokens j) (items_tokens (items_of js)) rest)

-- all items, of which a function gives values
items_closed : {X Y : Type 0} → (d : ℕ) (P : ℕ → text.Json → Y → Type 0) (f : Items → Option X) (old now new : List Token) (vs : List Y)
    → (x : X) (h : Taken json_tokens P old now vs) → now ≡ end_array ∷ new
    → (items_depth (items_of h.things) ≤ d) × AreRead (items_of h.things) f x → ItemsTaken d old new f x
items_closed d P f old now new vs x h closed all = record {
  items = items_of h.things;
  takes = h.takes ∙ ap (λ (ts : List Token). tokens_of json_tokens h.things ++ ts) closed ∙ closed_items h.things new;
  nests = all.0;
  read = all.1;
}

both_below : (a b d : ℕ) → a ≤ d → b ≤ d → max a b ≤ d
both_below a b d x y = omega (arith, x, y)

each_read : (d : ℕ) (f : Face) (k : ℕ) (js : List text.Json) (vs : List Value) → Paired (ItemRead d (value_of f) seen) k js vs
    → (items_depth (items_of js) ≤ d) × AreRead (items_of js) (each (value_of f)) (all_seen vs)
each_read d f k [] [] h = (omega arith, record { trees = no_items; are = refl; gives = refl })
each_read d f k [] (v ∷ vs) h = absurd h
each_read d f k (j ∷ js) [] h = absurd h
each_read d f k (j ∷ js) (v ∷ vs) h =
    let rest = each_read d f (suc k) js vs h.1 in (
      both_below (depth j) (items_depth (items_of js)) d h.0.nests rest.0,
      record {
        trees = json.item h.0.read.tree rest.1.trees;
        are = rw (h.0.read.is, rest.1.are) refl;
        gives = rw (h.0.read.gives, rest.1.gives) refl;
      },
    )

part_shift : (d : ℕ) (fs : List Face) (i : ℕ) (ids : List ℕ) (k : ℕ) (js : List text.Json) (vs : List Value)
    → Paired (PartRead d fs (i ∷ ids)) (suc k) js vs → Paired (PartRead d fs ids) k js vs
part_shift d fs i ids k [] [] h = tt
part_shift d fs i ids k [] (v ∷ vs) h = absurd h
part_shift d fs i ids k (j ∷ js) [] h = absurd h
part_shift d fs i ids k (j ∷ js) (v ∷ vs) h =
    (record { nests = h.0.nests; read = h.0.read }, part_shift d fs i ids (suc k) js vs h.1)

parts_read : (d : ℕ) (fs : List Face) (ids : List ℕ) (js : List text.Json) (vs : List Value) → length vs ≡ length ids
    → Paired (PartRead d fs ids) 0 js vs
    → (items_depth (items_of js) ≤ d) × AreRead (items_of js) (in_order (parts_at fs [] ids)) (all_seen vs)
unfolding value_of
parts_read d fs [] [] [] l h = (omega arith, record { trees = no_items; are = refl; gives = refl })
parts_read d fs [] [] (v ∷ vs) l h = absurd h
parts_read d fs [] (j ∷ js) [] l h = absurd h
parts_read d fs [] (j ∷ js) (v ∷ vs) l h = absurd (omega (arith, l))
parts_read d fs (i ∷ ids) [] [] l h = absurd (omega (arith, l))
parts_read d fs (i ∷ ids) [] (v ∷ vs) l h = absurd h
parts_read d fs (i ∷ ids) (j ∷ js) [] l h = absurd h
parts_read d fs (i ∷ ids) (j ∷ js) (v ∷ vs) l h =
    let rest = parts_read d fs ids js vs (omega (arith, l)) (part_shift d fs i ids 0 js vs h.1) in (
      both_below (depth j) (items_depth (items_of js)) d h.0.nests rest.0,
      record {
        trees = json.item h.0.read.tree rest.1.trees;
        are = rw (h.0.read.is, rest.1.are) refl;
        gives = rw (h.0.read.gives, rest.1.gives) refl;
      },
    )

numbers_read : (k : Kind) (i : ℕ) (js : List text.Json) (ns : List ℤ) → Paired (ItemRead 0 (number_in k) same_number) i js ns
    → (items_depth (items_of js) ≤ 0) × AreRead (items_of js) (each_in k) ns
numbers_read k i [] [] h = (omega arith, record { trees = no_items; are = refl; gives = refl })
numbers_read k i [] (n ∷ ns) h = absurd h
numbers_read k i (j ∷ js) [] h = absurd h
numbers_read k i (j ∷ js) (n ∷ ns) h =
    let rest = numbers_read k (suc i) js ns h.1 in (
      both_below (depth j) (items_depth (items_of js)) 0 h.0.nests rest.0,
      record {
        trees = json.item h.0.read.tree rest.1.trees;
        are = rw (h.0.read.is, rest.1.are) refl;
        gives = rw (h.0.read.gives, rest.1.gives) refl;
      },
    )

-- all elements of a list
pub each_closed : (d : ℕ) (f : Face) (old now new : List Token) (vs : List Value)
    → Taken json_tokens (ItemRead d (value_of f) seen) old now vs → after_end_array now ≡ Some new
    → ItemsTaken d old new (each (value_of f)) (all_seen vs)
each_closed d f old now new vs h closed =
    items_closed d (ItemRead d (value_of f) seen) (each (value_of f)) old now new vs (all_seen vs) h (closed_array now new closed)
    (each_read d f 0 h.things vs h.paired)

-- all parts
pub parts_closed : (d : ℕ) (fs : List Face) (ids : List ℕ) (old now new : List Token) (vs : List Value)
    → Taken json_tokens (PartRead d fs ids) old now vs → length vs ≡ length ids → now ≡ end_array ∷ new
    → ItemsTaken d old new (in_order (parts_at fs [] ids)) (all_seen vs)
parts_closed d fs ids old now new vs h many closed =
    items_closed d (PartRead d fs ids) (in_order (parts_at fs [] ids)) old now new vs (all_seen vs) h closed
    (parts_read d fs ids h.things vs many h.paired)

-- all numbers of a row
pub numbers_closed : (k : Kind) (old now new : List Token) (ns : List ℤ)
    → Taken json_tokens (ItemRead 0 (number_in k) same_number) old now ns → after_end_array now ≡ Some new
    → ItemsTaken 0 old new (each_in k) ns
numbers_closed k old now new ns h closed =
    items_closed 0 (ItemRead 0 (number_in k) same_number) (each_in k) old now new ns ns h (closed_array now new closed)
    (numbers_read k 0 h.things ns h.paired)

-- ---- members

abbrev pub Member : Type 0
Member = List ℕ × text.Json

abbrev pub member_tokens : Member → List Token
member_tokens m = key m.0 ∷ json_tokens m.1

abbrev pub members_of : List Member → text.Members
members_of [] = text.no_members
members_of (m ∷ ms) = text.member m.0 m.1 (members_of ms)

-- a field of a struct with names, which nests no deeper than d
pub record MemberRead (d : ℕ) (fs : List Face) (names : List (List ℕ)) (ids : List ℕ) (k : ℕ) (m : Member) (v : Value) : Type 0 where
  pub key : m.0 ≡ text_of (get_or names k [])
  pub nests : depth m.1 ≤ d
  pub read : IsRead m.1 (value_of (at fs (get_or ids k 0))) (seen v)

-- one more member
pub member_more : (d : ℕ) (fs : List Face) (names : List (List ℕ)) (ids : List ℕ) (k : ℕ) (old now after new : List Token) (vs : List Value)
    → (v : Value) → Taken member_tokens (MemberRead d fs names ids) old now vs → length vs ≡ k
    → now ≡ key (text_of (get_or names k [])) ∷ after → Reads d after new (value_of (at fs (get_or ids k 0))) (seen v)
    → Taken member_tokens (MemberRead d fs names ids) old new (vs ++ v ∷ [])
member_more d fs names ids k old now after new vs v h many named one =
    let n = text_of (get_or names k []) in
    taken_more member_tokens (MemberRead d fs names ids) k old now new vs (n, one.source) v h many
    (named ∙ ap (λ (ts : List Token). key n ∷ ts) one.takes) (record { key = refl; nests = one.nests; read = one.read })

-- members and the end of their object
closed_members : (ms : List Member) (rest : List Token)
    → tokens_of member_tokens ms ++ end_object ∷ rest ≡ members_tokens (members_of ms) ++ rest
closed_members [] rest = refl
closed_members (m ∷ ms) rest =
    ap (λ (ts : List Token). key m.0 ∷ ts)
    (append_assoc (json_tokens m.1) (tokens_of member_tokens ms) (end_object ∷ rest)
    ∙ ap (λ (ts : List Token). json_tokens m.1 ++ ts) (closed_members ms rest)
    ∙ sym (append_assoc (json_tokens m.1) (members_tokens (members_of ms)) rest))

member_shift : (d : ℕ) (fs : List Face) (n : List ℕ) (names : List (List ℕ)) (i : ℕ) (ids : List ℕ) (k : ℕ) (ms : List Member)
    → (vs : List Value) → Paired (MemberRead d fs (n ∷ names) (i ∷ ids)) (suc k) ms vs → Paired (MemberRead d fs names ids) k ms vs
member_shift d fs n names i ids k [] [] h = tt
member_shift d fs n names i ids k [] (v ∷ vs) h = absurd h
member_shift d fs n names i ids k (m ∷ ms) [] h = absurd h
member_shift d fs n names i ids k (m ∷ ms) (v ∷ vs) h =
    (record { key = h.0.key; nests = h.0.nests; read = h.0.read }, member_shift d fs n names i ids (suc k) ms vs h.1)

-- none of the names is there yet
abbrev AreFree : List (List ℕ) → Members → Type 0
AreFree [] acc = Unit {0}
AreFree (n ∷ names) acc = (member_of n acc ≡ None) × AreFree names acc

free_none : (names : List (List ℕ)) → AreFree names no_members
free_none [] = tt
free_none (n ∷ names) = (refl, free_none names)

free_more : (names : List (List ℕ)) (n : List ℕ) (d : json.Data) (acc : Members) → is_name names n ≡ false → AreFree names acc
    → AreFree names (put (text_of n) d acc)
free_more [] n d acc h free = tt
free_more (m ∷ names) n d acc h free =
    let two = or_parts (bytes_eq m n) (is_name names n) h in
    (other_member m n d acc two.0 ∙ free.0, free_more names n d acc two.1 free.1)

turned : (a b : List ℕ) → bytes_eq a b ≡ false → bytes_eq b a ≡ false
turned a b h = step (bytes_eq b a) refl where
  step : (t : Bool) → bytes_eq b a ≡ t → t ≡ false
  step false is = refl
  step true is = let same : bytes_eq a b ≡ true = (bytes_eq-Decides a b).1 (sym ((bytes_eq-Decides b a).0 is)) in absurd cc

-- members that are put among others
record Found (d : ℕ) (fs : List Face) (names : List (List ℕ)) (ids : List ℕ) (ms : text.Members) (acc : Members)
    (vs : List Value) : Type 0 where
  members : Members
  nests : members_depth ms ≤ d
  are : of_members ms acc ≡ Some members
  number_of_them : size members ≡ size acc + count (parts_at fs names ids)
  gives : by_name (parts_at fs names ids) members ≡ Some (all_seen vs)
  others : (q : List ℕ) → is_name names q ≡ false → member_of q members ≡ member_of q acc

members_from : (d : ℕ) (fs : List Face) (names : List (List ℕ)) (ids : List ℕ) (ms : List Member) (vs : List Value) (acc : Members)
    → length names ≡ length ids → length vs ≡ length ids → are_distinct names ≡ true → AreFree names acc
    → Paired (MemberRead d fs names ids) 0 ms vs → Found d fs names ids (members_of ms) acc vs
unfolding value_of
members_from d fs [] [] [] [] acc l m distinct free h =
    record { members = acc; nests = omega arith; are = refl; number_of_them = omega arith; gives = refl; others = λ q none. refl }
members_from d fs [] [] [] (v ∷ vs) acc l m distinct free h = absurd h
members_from d fs [] [] (x ∷ ms) [] acc l m distinct free h = absurd h
members_from d fs [] [] (x ∷ ms) (v ∷ vs) acc l m distinct free h = absurd (omega (arith, m))
members_from d fs [] (i ∷ ids) ms vs acc l m distinct free h = absurd (omega (arith, l))
members_from d fs (n ∷ names) [] ms vs acc l m distinct free h = absurd (omega (arith, l))
members_from d fs (n ∷ names) (i ∷ ids) [] [] acc l m distinct free h = absurd (omega (arith, m))
members_from d fs (n ∷ names) (i ∷ ids) [] (v ∷ vs) acc l m distinct free h = absurd h
members_from d fs (n ∷ names) (i ∷ ids) (x ∷ ms) [] acc l m distinct free h = absurd h
members_from d fs (n ∷ names) (i ∷ ids) (x ∷ ms) (v ∷ vs) acc l m distinct free h =
    let new = not-true (is_name names n) (left_true _ (are_distinct names) distinct) in
    let t = h.0.read.tree in
    let now : Members = put (text_of n) t acc in
    let rest = members_from d fs names ids ms vs now (omega (arith, l)) (omega (arith, m)) (right_true _ (are_distinct names) distinct)
    (free_more names n t acc new free.1) (member_shift d fs n names i ids 0 ms vs h.1) in
    let here : member_of n rest.members ≡ Some t = rest.others n new ∙ get_member-put (text_of n) t acc in
    let more : size now ≡ size acc + 1 = size-put (text_of n) t acc free.0 in
    record {
      members = rest.members;
      nests = both_below (depth x.1) (members_depth (members_of ms)) d h.0.nests rest.nests;
      are = rw (h.0.read.is, h.0.key) rest.are;
      number_of_them = omega (arith, rest.number_of_them, more);
      gives = rw (here, h.0.read.gives, rest.gives) refl;
      others = λ q none. let two = or_parts (bytes_eq n q) (is_name names q) none in
          rest.others q two.1 ∙ other_member q n t acc (turned n q two.0);
    }

-- all members
pub members_closed : (d : ℕ) (fs : List Face) (names : List (List ℕ)) (ids : List ℕ) (old now new : List Token) (vs : List Value)
    → length names ≡ length ids → length vs ≡ length ids → are_distinct names ≡ true
    → Taken member_tokens (MemberRead d fs names ids) old now vs → now ≡ end_object ∷ new
    → MembersTaken d old new (count (parts_at fs names ids)) (by_name (parts_at fs names ids)) (all_seen vs)
members_closed d fs names ids old now new vs l m distinct h closed =
    let all = members_from d fs names ids h.things vs no_members l m distinct (free_none names) h.paired in
    record {
      members = members_of h.things;
      takes = h.takes ∙ ap (λ (ts : List Token). tokens_of member_tokens h.things ++ ts) closed ∙ closed_members h.things new;
      nests = all.nests;
      read = record { members = all.members; are = all.are; number = omega (arith, all.number_of_them); gives = all.gives };
    }

-- ---- values of groups, lists and rows

object_test : (n m : ℕ) (o : Option Vals) → n ≡ m → (if n == m then o else None) ≡ o
object_test n m o same = let test : (n == m) ≡ true = grind (arith, nat_tests, same) in rw test refl

pub seen-Group : (vs : List Value) → seen (value.Group vs) ≡ vals.group (all_seen vs)
seen-Group vs = ap seen (sym (value.rolls-Group vs)) ∙ fold-roll-Value Val seen_level (Value-F.Group vs)

seen-Items : (vs : List Value) → seen (value.Items vs) ≡ vals.items (all_seen vs)
seen-Items vs = ap seen (sym (value.rolls-Items vs)) ∙ fold-roll-Value Val seen_level (Value-F.Items vs)

-- a depth that is not 0 is one more than the depth within
pub within : (n d : ℕ) → 0 < d → n ≤ d - 1 → suc n ≤ d
within n d some h = omega (arith, some, h)

-- a struct with names
pub object_read : (d : ℕ) (old now new : List Token) (ps : Parts) (vs : List Value) → 0 < d → old ≡ begin_object ∷ now
    → MembersTaken (d - 1) now new (count ps) (by_name ps) (all_seen vs)
    → Reads d old new (value_of (members ps)) (seen (value.Group vs))
unfolding value_of
object_read d old now new ps vs some begins h = record {
  source = text.object h.members;
  takes = begins ∙ ap (λ (ts : List Token). begin_object ∷ ts) h.takes;
  nests = within (members_depth h.members) d some h.nests;
  read = record {
    tree = json.object h.read.members;
    is = ap (option_map json.object) h.read.are;
    gives =
        ap (option_map vals.group) (object_test (size h.read.members) (count ps) (by_name ps h.read.members) h.read.number ∙ h.read.gives)
        ∙ ap Some (sym (seen-Group vs));
  };
}

-- the items of an array, under a function of their values
array_read : {X Y : Type 0} → (d : ℕ) (old now new : List Token) (f : Items → Option X) (g : Data → Option Y) (x : X) (y : Y) → 0 < d
    → old ≡ begin_array ∷ now → ItemsTaken (d - 1) now new f x
    → ((js : Items) → f js ≡ Some x → g (json.array js) ≡ Some y) → Reads d old new g y
array_read d old now new f g x y some begins h gives = record {
  source = text.array h.items;
  takes = begins ∙ ap (λ (ts : List Token). begin_array ∷ ts) h.takes;
  nests = within (items_depth h.items) d some h.nests;
  read = record {
    tree = json.array h.read.trees;
    is = ap (option_map json.array) h.read.are;
    gives = gives h.read.trees h.read.gives;
  };
}

-- a struct without names
pub parts_taken : (d : ℕ) (old now new : List Token) (ps : Parts) (vs : List Value) → 0 < d → old ≡ begin_array ∷ now
    → ItemsTaken (d - 1) now new (in_order ps) (all_seen vs) → Reads d old new (value_of (values ps)) (seen (value.Group vs))
unfolding value_of
parts_taken d old now new ps vs some begins h =
    array_read d old now new (in_order ps) (value_of (values ps)) (all_seen vs) (seen (value.Group vs)) some begins h
    (λ js is. ap (option_map vals.group) is ∙ ap Some (sym (seen-Group vs)))

-- a list
pub list_taken : (d : ℕ) (old now new : List Token) (c : Count) (f : Face) (vs : List Value) → 0 < d → old ≡ begin_array ∷ now
    → ItemsTaken (d - 1) now new (each (value_of f)) (all_seen vs) → Reads d old new (value_of (list c f)) (seen (value.Items vs))
unfolding value_of
list_taken d old now new c f vs some begins h =
    array_read d old now new (each (value_of f)) (value_of (list c f)) (all_seen vs) (seen (value.Items vs)) some begins h
    (λ js is. ap (option_map vals.items) is ∙ ap Some (sym (seen-Items vs)))

-- a row of numbers
pub numbers_taken : (d : ℕ) (old now new : List Token) (k : Kind) (ns : List ℤ) → 0 < d → old ≡ begin_array ∷ now
    → ItemsTaken 0 now new (each_in k) ns → Reads d old new (listed_in k) ns
numbers_taken d old now new k ns some begins h =
    array_read d old now new (each_in k) (listed_in k) ns ns some begins
    (record { items = h.items; takes = h.takes; nests = omega (arith, h.nests); read = h.read }) (λ js is. is)

-- ---- values of nodes

-- null
pub null_taken : (old new : List Token) (v : Val) → old ≡ null ∷ new → v ≡ vals.void → Reads 0 old new (value_of nothing) v
unfolding value_of
null_taken old new v takes is = record {
  source = text.null;
  takes = takes;
  nests = omega arith;
  read = record { tree = json.null; is = refl; gives = ap Some (sym is) };
}

-- a value takes a token
some_token : (j : text.Json) → 0 < length (json_tokens j)
some_token text.null = omega arith
some_token (text.boolean b) = omega arith
some_token (text.number s) = omega arith
some_token (text.string s) = omega arith
some_token (text.array js) = omega arith
some_token (text.object ms) = omega arith

pub shorter : {X : Type 0} → (d : ℕ) (old new : List Token) (f : Data → Option X) (x : X) → Reads d old new f x → length new < length old
shorter d old new f x h =
    let long = ap (λ (ts : List Token). length ts) h.takes in
    omega (arith, long, length-append (json_tokens h.source) new, some_token h.source)
