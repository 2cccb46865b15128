-- The members of fields at the places of their order, by induction on the order and on the names.
use Rattle.std.proofs.Common.{◌≡◌, ℕ, zero, suc, ◌<◌, ◌+◌, List, [], ◌∷◌, length, get_or, drop, nat_cmp, Option, Some, None, option_map, option_and_then, Ordering, Less, Equal, Greater, refl, sym, ap, ◌∙◌, arith}
use Rattle.std.specs.Ordering.{match_ordering}
use Rattle.std.specs.Cmp.Lexicographic.{slice_cmp}
use Rattle.mint.specs.declared.value.Value.{Value, Void}
use Rattle.mint.specs.Values.{seen, all_seen}
use Rattle.pres.specs.Faces.{Face, at, parts_at}
use Rattle.pres.specs.KeyOrder.{key_at, put_place, order_from, key_order}
use Rattle.serde_json.specs.Data.{Data, Members, no_members, member, put}
use Rattle.json_shape.specs.Texts.{text_of}
use Rattle.json_shape.specs.Written.{json_of, by_name_json}
use Rattle.json_shape.specs.Printed.{members_at}

-- the members of names, the first of which has place k, each where the order of keys has it
abbrev pub put_from : ℕ → List (List ℕ) → (ℕ → Data) → Members
put_from k [] tree = no_members
put_from k (n ∷ ns) tree = put (text_of n) (tree k) (put_from (suc k) ns tree)

-- a member of those that are put later is before them
put_later : (names : List (List ℕ)) (tree : ℕ → Data) (i j : ℕ) (js new : List ℕ) (places : Option (List ℕ))
    → put_place names i js ≡ places
    → ((rest : List ℕ) → put_place names i js ≡ Some rest
    → put (key_at names i) (tree i) (members_at names tree js) ≡ members_at names tree rest)
    → option_map (λ (is : List ℕ). j ∷ is) places ≡ Some new
    → member (key_at names j) (tree j) (put (key_at names i) (tree i) (members_at names tree js)) ≡ members_at names tree new
put_later names tree i j js new None e deeper h = absurd cc
put_later names tree i j js new (Some rest) e deeper h =
    let same : j ∷ rest ≡ new = cc in
    ap (member (key_at names j) (tree j)) (deeper rest e) ∙ ap (members_at names tree) same

-- the member of a place is put where the order has the place
put_at : (names : List (List ℕ)) (tree : ℕ → Data) (i : ℕ) (order new : List ℕ) → put_place names i order ≡ Some new
    → put (key_at names i) (tree i) (members_at names tree order) ≡ members_at names tree new
put_at names tree i [] new h =
    let same : i ∷ [] ≡ new = cc in
    ap (members_at names tree) same
put_at names tree i (j ∷ js) new h =
    by (slice_cmp nat_cmp (key_at names i) (key_at names j)) h (λ rest. put_at names tree i js rest) where
      by : (o : Ordering) → match_ordering o (Some (i ∷ j ∷ js)) None (option_map (λ (is : List ℕ). j ∷ is) (put_place names i js))
          ≡ Some new
          → ((rest : List ℕ) → put_place names i js ≡ Some rest
          → put (key_at names i) (tree i) (members_at names tree js) ≡ members_at names tree rest)
          → match_ordering o (members_at names tree (i ∷ j ∷ js)) (member (key_at names j) (tree i) (members_at names tree js))
          (member (key_at names j) (tree j) (put (key_at names i) (tree i) (members_at names tree js))) ≡ members_at names tree new
      by Less e deeper =
          let same : i ∷ j ∷ js ≡ new = cc in
          ap (members_at names tree) same
      by Equal e deeper = absurd cc
      by Greater e deeper = put_later names tree i j js new (put_place names i js) refl deeper e

-- the first of the names from a place on, and those after it
split_at : (names : List (List ℕ)) (k : ℕ) (n : List ℕ) (ns : List (List ℕ)) → drop k names ≡ n ∷ ns
    → (n ≡ get_or names k []) × (drop (suc k) names ≡ ns)
split_at [] zero n ns h = absurd cc
split_at [] (suc k) n ns h = absurd cc
split_at (m ∷ names) zero n ns h = (cc, cc)
split_at (m ∷ names) (suc k) n ns h = split_at names k n ns h

-- the members of names, whose order is that of the places
order_at : (names : List (List ℕ)) (tree : ℕ → Data) (k : ℕ) (ns : List (List ℕ)) (order : List ℕ) → drop k names ≡ ns
    → order_from names k ns ≡ Some order → put_from k ns tree ≡ members_at names tree order
order_at names tree k [] order is h =
    let same : [] ≡ order = cc in
    ap (members_at names tree) same
order_at names tree k (n ∷ ns) order is h =
    by (order_from names (suc k) ns) h (λ rest. order_at names tree (suc k) ns rest (split_at names k n ns is).1) where
      by : (o : Option (List ℕ)) → option_and_then (put_place names k) o ≡ Some order
          → ((rest : List ℕ) → o ≡ Some rest → put_from (suc k) ns tree ≡ members_at names tree rest)
          → put (text_of n) (tree k) (put_from (suc k) ns tree) ≡ members_at names tree order
      by None e later = absurd cc
      by (Some rest) e later =
          ap (λ (m : List ℕ). put (text_of m) (tree k) (put_from (suc k) ns tree)) ((split_at names k n ns is).0)
          ∙ ap (put (key_at names k) (tree k)) (later rest refl)
          ∙ put_at names tree k rest order e

-- the members of all names are at the places of their order
pub order_is : (names : List (List ℕ)) (tree : ℕ → Data) (order : List ℕ) → key_order names ≡ Some order
    → put_from 0 names tree ≡ members_at names tree order
order_is names tree order h = order_at names tree 0 names order refl h

-- ---- the members of a value's fields

-- the trees of fields, by their places
abbrev pub trees_at : List Face → List ℕ → List Value → ℕ → Data
trees_at fs ids vs i = json_of (at fs (get_or ids i 0)) (seen (get_or vs i Void))

fields_from : (fs : List Face) (names : List (List ℕ)) (ids : List ℕ) (vs : List Value) (k : ℕ) (tree : ℕ → Data)
    → length names ≡ length ids → length vs ≡ length ids
    → ((j : ℕ) → j < length ids → tree (k + j) ≡ trees_at fs ids vs j)
    → by_name_json (parts_at fs names ids) (all_seen vs) ≡ put_from k names tree
fields_from fs [] [] vs k tree h l same = refl
fields_from fs [] (i ∷ ids) vs k tree h l same = absurd (omega (arith, h))
fields_from fs (n ∷ names) [] vs k tree h l same = absurd (omega (arith, h))
fields_from fs (n ∷ names) (i ∷ ids) [] k tree h l same = absurd (omega (arith, l))
fields_from fs (n ∷ names) (i ∷ ids) (v ∷ vs) k tree h l same =
    let zero_is : k ≡ k + 0 = omega arith in
    let here : json_of (at fs i) (seen v) ≡ tree k = sym (ap tree zero_is ∙ same 0 (omega arith)) in
    let later = λ (j : ℕ) (m : j < length ids). let next : suc k + j ≡ k + suc j = omega arith in
    ap tree next ∙ same (suc j) (omega (arith, m)) in
    let rest = fields_from fs names ids vs (suc k) tree (omega (arith, h)) (omega (arith, l)) later in
    ap (λ (d : Data). put (text_of n) d (by_name_json (parts_at fs names ids) (all_seen vs))) here ∙ ap (put (text_of n) (tree k)) rest

pub fields_put : (fs : List Face) (names : List (List ℕ)) (ids : List ℕ) (vs : List Value) → length names ≡ length ids
    → length vs ≡ length ids
    → by_name_json (parts_at fs names ids) (all_seen vs) ≡ put_from 0 names (trees_at fs ids vs)
fields_put fs names ids vs h l =
    fields_from fs names ids vs 0 (trees_at fs ids vs) h l (λ j m. let e : 0 + j ≡ j = omega arith in ap (trees_at fs ids vs) e)
