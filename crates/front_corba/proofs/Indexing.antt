-- Sets of names beside the operations that have them, by induction on the operations.
use Rattle.std.proofs.Common.{◌≡◌, ℕ, zero, suc, Bool, true, false, ◌&&◌, ◌||◌, ◌==◌, List, [], ◌∷◌, ◌++◌, map, Some, None, refl, sym, ap, subst, ◌∙◌, if◌then◌else◌}
use Rattle.std.specs.Prelude.{slice_get}
use Rattle.std.specs.List.{list_any}
use Rattle.std.specs.Str.{bytes_eq}
use Rattle.std.specs.Bool.{one_answer}
use Rattle.std.proofs.Math.Bool.{or-false, or-true}
use Rattle.std.proofs.lemmas.Bool.{and_parts}
use Rattle.std.proofs.lemmas.Bool.Decides.{Decides-eqb}
use Rattle.std.proofs.lemmas.List.Folds.{list_any-append}
use Rattle.std.proofs.lemmas.Slice.Eq.{bytes_eq-Decides}
use Rattle.idl_names.specs.Names.{has}
use Rattle.idl_names.proofs.Tables.{any_map, append_map}
use Rattle.corba_scopes.specs.Names.{lower}
use Rattle.corba_scopes.specs.Finding.{added}
use Rattle.indexmap.specs.IndexSet.{insert_key}
use Rattle.front_corba.specs.declared.state.Offer.{Offer}
use Rattle.front_corba.specs.State.{PlainOffer}
use Rattle.front_corba.specs.Held.{plain_offer}
use Rattle.front_corba.specs.Offers.{offer_names, case_clash}
use Rattle.front_corba.specs.Bases.{is_same, is_this, is_there, sought, offer_clash}
use Rattle.front_corba.specs.Named.{Origins, declares, with_origin, names_of, origins_of, IsIndex}

-- ---- a set beside a list

-- what a test finds in a list with one more
any_after : {K : Type 0} (p : K → Bool) (ks : List K) (x : K) → list_any p (ks ++ x ∷ []) ≡ (list_any p ks || p x)
any_after p ks x = list_any-append p ks (x ∷ []) ∙ ap (λ z. list_any p ks || z) (or-false (p x))

module _ {K : Type 0} (eq : K → K → Bool) (same : (a b : K) → eq a b ≡ true → a ≡ b) (n x : K) (ks : List K) where
  there : (b : Bool) → eq n x ≡ b → list_any (eq x) ks ≡ true → list_any (eq n) ks ≡ (list_any (eq n) ks || b)
  there false e h = sym (or-false (list_any (eq n) ks))
  there true e h = subst (λ z. list_any (eq z) ks ≡ true) (sym (same n x e)) h ∙ sym (or-true (list_any (eq n) ks))

  more : (b : Bool) → list_any (eq x) ks ≡ b → list_any (eq n) (if b then ks else ks ++ x ∷ []) ≡ (list_any (eq n) ks || eq n x)
  more true h = there (eq n x) refl h
  more false h = any_after (eq n) ks x

  -- a set that has what a list has does so when both take one more
  pub both_more : (xs : List K) → list_any (eq n) ks ≡ list_any (eq n) xs
      → list_any (eq n) (if list_any (eq x) ks then ks else ks ++ x ∷ []) ≡ list_any (eq n) (xs ++ x ∷ [])
  both_more xs h = more (list_any (eq x) ks) refl ∙ ap (λ z. z || eq n x) h ∙ sym (any_after (eq n) xs x)

-- ---- names, and names of interfaces

abbrev same_origin : ℕ × List ℕ → ℕ × List ℕ → Bool
same_origin a b = a.0 == b.0 && bytes_eq a.1 b.1

name_is : (a b : List ℕ) → bytes_eq a b ≡ true → a ≡ b
name_is a b h = (bytes_eq-Decides a b).0 h

abbrev pair : ℕ → List ℕ → ℕ × List ℕ
pair home name = (home, name)

pair_is : (h k : ℕ) (a b : List ℕ) → h ≡ k → a ≡ b → pair h a ≡ pair k b
pair_is h k a b e f = ap (λ z. pair z a) e ∙ ap (pair k) f

origin_is : (a b : ℕ × List ℕ) → same_origin a b ≡ true → a ≡ b
origin_is (h, a) (k, b) e = let p = and_parts (h == k) (bytes_eq a b) e in pair_is h k a b ((Decides-eqb h k).0 p.0) (name_is a b p.1)

-- whether a set of names of interfaces has a key
pub origin_found : {K : Type 0} (items : K → List ℕ) (keys : List (ℕ × K)) (home : ℕ) (key : K) (name : List ℕ) (old : Origins)
    → items key ≡ name → map (λ k. (k.0, items k.1)) keys ≡ old
    → list_any (λ b. home == b.0 && bytes_eq (items key) (items b.1)) keys ≡ declares home name old
origin_found items keys home key name old is view =
    let seen : Origins = map (λ k. (k.0, items k.1)) keys in
    any_map (same_origin (home, items key)) (λ k. (k.0, items k.1)) keys
    ∙ ap (λ z. declares home z seen) is ∙ ap (declares home name) view

put_by : {K X : Type 0} (seen : K → X) (keys : List K) (key : K) (b : Bool)
    → map seen (if b then keys else keys ++ key ∷ []) ≡ (if b then map seen keys else map seen keys ++ seen key ∷ [])
put_by seen keys key true = refl
put_by seen keys key false = append_map seen keys key

-- what a set has once a key is put in, as it is seen
put_seen : {K X : Type 0} (seen : K → X) (eq : X → X → Bool) (keys new : List K) (key : K) (old : List X)
    → new ≡ insert_key (λ a b. eq (seen a) (seen b)) keys key → map seen keys ≡ old
    → map seen new ≡ (if list_any (eq (seen key)) old then old else old ++ seen key ∷ [])
put_seen seen eq keys new key old made view =
    ap (map seen) made ∙ put_by seen keys key (list_any (λ k. eq (seen key) (seen k)) keys)
    ∙ ap (λ z. if z then map seen keys else map seen keys ++ seen key ∷ []) (any_map (eq (seen key)) seen keys)
    ∙ ap (λ z. if list_any (eq (seen key)) z then z else z ++ seen key ∷ []) view

-- what a set of names has once a key is put in
pub name_put : {K : Type 0} (items : K → List ℕ) (keys new : List K) (key : K) (old : List (List ℕ))
    → new ≡ insert_key (λ a b. bytes_eq (items a) (items b)) keys key → map items keys ≡ old
    → map items new ≡ added (items key) old
name_put items keys new key old made view = put_seen items bytes_eq keys new key old made view

-- what a set of names of interfaces has once a key is put in
pub origin_put : {K : Type 0} (items : K → List ℕ) (keys new : List (ℕ × K)) (home : ℕ) (key : K) (name : List ℕ) (old : Origins)
    → new ≡ insert_key (λ a b. a.0 == b.0 && bytes_eq (items a.1) (items b.1)) keys (home, key)
    → items key ≡ name → map (λ k. (k.0, items k.1)) keys ≡ old
    → map (λ k. (k.0, items k.1)) new ≡ with_origin home name old
origin_put items keys new home key name old made is view =
    put_seen (λ k. pair k.0 (items k.1)) same_origin keys new (home, key) old made view ∙ ap (λ z. with_origin home z old) is

-- ---- operations

-- sets of names find what operations have once each takes one more
pub one_more : (list : List Offer) (o : Offer) (names folded : List (List ℕ)) (origins : Origins) → IsIndex list names folded origins
    → IsIndex (list ++ o ∷ []) (added o.operation.name names) (added (lower o.operation.name) folded)
    (with_origin o.home o.operation.name origins)
one_more list o names folded origins is =
    let name = o.operation.name in
    let all = append_map (λ (p : Offer). p.operation.name) list o in
    record {
      exact = λ n. both_more bytes_eq name_is n name names (names_of list) (is.exact n) ∙ ap (has n) (sym all);
      small = λ n. both_more bytes_eq name_is n (lower name) folded (map lower (names_of list)) (is.small n)
          ∙ ap (has n) (sym (ap (map lower) all ∙ append_map lower (names_of list) name));
      origin = λ home n. both_more same_origin origin_is (home, n) (o.home, name) origins (origins_of list) (is.origin home n)
          ∙ ap (declares home n) (sym (append_map (λ (p : Offer). (p.home, p.operation.name)) list o));
    }

-- the names of operations, as plain trees
pub names_are : (list : List Offer) → names_of list ≡ offer_names (map plain_offer list)
names_are [] = refl
names_are (o ∷ os) = ap (λ z. o.operation.name ∷ z) (names_are os)

number_turned : (a b : ℕ) → (a == b) ≡ (b == a)
number_turned a b = one_answer (a == b) (b == a) (Decides-eqb a b) (let d = Decides-eqb b a in (λ t. sym (d.0 t), λ e. d.1 (sym e)))

name_turned : (a b : List ℕ) → bytes_eq a b ≡ bytes_eq b a
name_turned a b = one_answer (bytes_eq a b) (bytes_eq b a) (bytes_eq-Decides a b)
    (let d = bytes_eq-Decides b a in (λ t. sym (d.0 t), λ e. d.1 (sym e)))

origin_turned : (h k : ℕ) (a b : List ℕ) → (h == k && bytes_eq a b) ≡ (k == h && bytes_eq b a)
origin_turned h k a b = ap (λ z. z && bytes_eq a b) (number_turned h k) ∙ ap (λ z. k == h && z) (name_turned a b)

-- an operation is one of these where its interface declares its name
pub origins_are : (o : Offer) (list : List Offer)
    → declares o.home o.operation.name (origins_of list) ≡ is_there (plain_offer o) (map plain_offer list)
origins_are o [] = refl
origins_are o (p ∷ ps) =
    ap (λ z. z || declares o.home o.operation.name (origins_of ps)) (origin_turned o.home p.home o.operation.name p.operation.name)
    ∙ ap (λ z. is_same (plain_offer o) (plain_offer p) || z) (origins_are o ps)

-- an operation that is at a place is one of these
pub at_there : (o : PlainOffer) (ops : List PlainOffer) (k : ℕ) → is_this o (slice_get ops k) ≡ true → is_there o ops ≡ true
at_there o [] k h = absurd cc
at_there o (p ∷ ps) zero h = ap (λ z. z || is_there o ps) h
at_there o (p ∷ ps) (suc k) h = ap (λ z. is_same o p || z) (at_there o ps k h) ∙ or-true (is_same o p)

there_or : (same eq there named : Bool) → (same ≡ true → eq ≡ true) → (there ≡ true → named ≡ true)
    → (same || there) ≡ true → (eq || named) ≡ true
there_or true eq there named f g h = ap (λ z. z || named) (f refl)
there_or false eq true named f g h = ap (λ z. eq || z) (g refl) ∙ or-true eq
there_or false eq false named f g h = absurd cc

same_named : (o p : PlainOffer) → is_same o p ≡ true → bytes_eq o.operation.name p.operation.name ≡ true
same_named o p h =
    name_turned o.operation.name p.operation.name ∙ (and_parts (p.home == o.home) (bytes_eq p.operation.name o.operation.name) h).1

-- an operation that is one of these has the name of one
there_named : (o : PlainOffer) (ops : List PlainOffer) → is_there o ops ≡ true → has o.operation.name (offer_names ops) ≡ true
there_named o [] h = absurd cc
there_named o (p ∷ ps) h = there_or (is_same o p) (bytes_eq o.operation.name p.operation.name) (is_there o ps)
    (has o.operation.name (offer_names ps)) (same_named o p) (there_named o ps) h

-- ---- what a search for an operation tells

-- one of them has its name
pub sought_named : (o : PlainOffer) (ops : List PlainOffer) (b : Bool) → has o.operation.name (offer_names ops) ≡ true
    → b ≡ is_there o ops → Some b ≡ sought o ops
sought_named o ops b h e = rw (h, sym e) refl

-- it is one of them
pub sought_there : (o : PlainOffer) (ops : List PlainOffer) → is_there o ops ≡ true → Some true ≡ sought o ops
sought_there o ops h = sought_named o ops true (there_named o ops h) (sym h)

-- none has its name
pub sought_none : (o : PlainOffer) (ops : List PlainOffer) → has o.operation.name (offer_names ops) ≡ false → None ≡ sought o ops
sought_none o ops h = rw h refl

none_by : (h t : Bool) → (t ≡ true → h ≡ true) → None ≡ (if h then Some t else None) → (h ≡ false) × (t ≡ false)
none_by true t n e = absurd cc
none_by false true n e = (refl, sym (n refl))
none_by false false n e = (refl, refl)

none_found : (o : PlainOffer) (ops : List PlainOffer) → None ≡ sought o ops
    → (has o.operation.name (offer_names ops) ≡ false) × (is_there o ops ≡ false)
none_found o ops e = none_by (has o.operation.name (offer_names ops)) (is_there o ops) (there_named o ops) e

pub there_none : (o : PlainOffer) (ops : List PlainOffer) → None ≡ sought o ops → false ≡ is_there o ops
there_none o ops e = sym (none_found o ops e).1

-- why an operation may not be beside these, none of which has its name
pub clash_none : (o : PlainOffer) (ops : List PlainOffer) → None ≡ sought o ops → case_clash o.operation.name ops ≡ offer_clash ops o
clash_none o ops e = let found = none_found o ops e in rw (found.0, found.1) refl

-- what a search for an operation by its interface and its name has found
pub origin_there : (o : Offer) (ops list : List Offer) (name : List ℕ) (names folded : List (List ℕ)) (origins : Origins) (b : Bool)
    → name ≡ o.operation.name → IsIndex list names folded origins → list ≡ ops
    → b ≡ declares o.home name origins → b ≡ is_there (plain_offer o) (map plain_offer ops)
origin_there o ops list name names folded origins b same is view h =
    h ∙ is.origin o.home name ∙ ap (λ z. declares o.home z (origins_of list)) same ∙ origins_are o list
    ∙ ap (λ z. is_there (plain_offer o) (map plain_offer z)) view

-- sets that took one more each, beside operations that did
pub indexed : (list list' : List Offer) (o : Offer) (names names' folded folded' : List (List ℕ)) (origins origins' : Origins)
    (name : List ℕ) → name ≡ o.operation.name → IsIndex list names folded origins
    → list' ≡ list ++ o ∷ [] → names' ≡ added name names → folded' ≡ added (lower name) folded
    → origins' ≡ with_origin o.home name origins → IsIndex list' names' folded' origins'
indexed list list' o names names' folded folded' origins origins' name same is a b c d =
    rw (a, b, c, d, same) (one_more list o names folded origins is)
