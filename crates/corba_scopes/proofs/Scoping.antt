-- The scopes of keys: the numbers of their prefixes, by induction on the keys.
use Rattle.std.proofs.Common.{◌≡◌, ◌+◌, ◌<◌, ℕ, zero, suc, Bool, true, false, List, [], ◌∷◌, ◌++◌, map, length, take, drop, get_or, position, Option, Some, None, refl, sym, ap, subst, ◌∙◌, arith, append_assoc}
use Rattle.std.specs.Prelude.{cond, option_map}
use Rattle.std.specs.List.{position_from}
use Rattle.std.specs.Str.{bytes_eq}
use Rattle.std.specs.Bool.{one_answer}
use Rattle.std.proofs.lemmas.Iterator.Adapters.{position_from-zero}
use Rattle.std.proofs.lemmas.List.{length-map, append_cancel_right}
use Rattle.std.proofs.lemmas.Slice.Eq.{bytes_eq-Decides}
use Rattle.indexmap.specs.IndexSet.{insert_key}
use Rattle.idl_names.proofs.Tables.{append_map, insert_new}
use Rattle.corba_scopes.specs.Around.{prefix_of}
use Rattle.corba_scopes.specs.Parted.{cut, prefix_in, own_in, Parts, Key, same_key, number_of, key_by, key_of, full_of, scope_of, IsKey, AreKeys, IsPlace, prefixes_by, parts_of, AreScopes, Puts, Extends, PutsKey, PutsScope}
use Rattle.corba_scopes.proofs.Cutting.{prefix_after, own_after, prefix_of_own, own_of_own, cut_scope, cut_front, take_length, within_length, front_scope, front_empty}
use Rattle.corba_scopes.proofs.Parting.{any_none, own_there, full_more, are_more, scope_is, more_of, nothing_more, puts_next, more_both, same_more, test_same, absent_same}

-- ---- prefixes end in a dot

ends_in : (parts : Parts) (keys : List Key) (k : ℕ)
    → cut (get_or (map (λ key. prefix_of (full_of parts key)) keys) k [])
    ≡ length (get_or (map (λ key. prefix_of (full_of parts key)) keys) k [])
ends_in parts [] k = refl
ends_in parts (key ∷ keys) zero = cut_scope (full_of parts key)
ends_in parts (key ∷ keys) (suc k) = ends_in parts keys k

ends_after : (parts : Parts) (keys : List Key) (k : ℕ)
    → cut (get_or ([] ∷ map (λ key. prefix_of (full_of parts key)) keys) k [])
    ≡ length (get_or ([] ∷ map (λ key. prefix_of (full_of parts key)) keys) k [])
ends_after parts keys zero = refl
ends_after parts keys (suc k) = ends_in parts keys k

-- the prefix of a scope, if it is not that of the file, ends in a dot
scope_ends : (parts : Parts) (known : List Key) (place : ℕ) → AreScopes parts known
    → cut (scope_of parts place) ≡ length (scope_of parts place)
scope_ends parts known place all =
    ap (λ z. cut (get_or z place [])) all.prefixes ∙ ends_after parts known place ∙ ap (λ z. length (get_or z place [])) (sym all.prefixes)

-- ---- the scope of a key

same_scope : (q r : List ℕ) → bytes_eq (prefix_of q) (prefix_of r) ≡ bytes_eq q r
same_scope q r =
    one_answer (bytes_eq (prefix_of q) (prefix_of r)) (bytes_eq q r) (bytes_eq-Decides (prefix_of q) (prefix_of r)) (
      λ t. ap prefix_of ((bytes_eq-Decides q r).0 t),
      λ e. (bytes_eq-Decides q r).1 (append_cancel_right q r (prefix_of []) e),
    )

not_file : (q : List ℕ) → bytes_eq (prefix_of q) [] ≡ false
not_file [] = refl
not_file (c ∷ q) = refl

module _ (parts : Parts) (q : List ℕ) where
  abbrev texts : List Key → List (List ℕ)
  texts keys = map (λ key. prefix_of (full_of parts key)) keys

  after_file : (keys : List Key) → number_of (prefix_of q) ([] ∷ texts keys) ≡ position_from (bytes_eq (prefix_of q)) 1 (texts keys)
  after_file keys =
      position_from-zero (bytes_eq (prefix_of q)) ([] ∷ texts keys)
      ∙ ap (λ b. cond b (Some 0) (position_from (bytes_eq (prefix_of q)) 1 (texts keys))) (not_file q)

  next_by : (b : Bool) (i : ℕ) (o p : Option ℕ) → p ≡ option_map (λ n. n + 1) o
      → cond b (Some (i + 1)) p ≡ option_map (λ n. n + 1) (cond b (Some i) o)
  next_by true i o p h = refl
  next_by false i o p h = h

  from_key : (key : Key) (i : ℕ) (keys : List Key) → key_of q parts ≡ Some key → AreKeys parts keys
      → position_from (bytes_eq (prefix_of q)) (i + 1) (texts keys) ≡ option_map (λ n. n + 1) (position_from (same_key key) i keys)
  from_key key i [] at all = refl
  from_key key i (k ∷ keys) at all =
      ap (λ b. cond b (Some (i + 1)) (position_from (bytes_eq (prefix_of q)) (i + 1 + 1) (texts keys)))
      (same_scope q (full_of parts k) ∙ test_same parts q key k at all.0)
      ∙ next_by (same_key key k) i (position_from (same_key key) (i + 1) keys)
      (position_from (bytes_eq (prefix_of q)) (i + 1 + 1) (texts keys)) (from_key key (i + 1) keys at all.1)

  -- the number of the scope of a key
  pub scope_at : (known : List Key) (key : Key) → AreScopes parts known → key_of q parts ≡ Some key
      → option_map (λ n. n + 1) (position (same_key key) known) ≡ number_of (prefix_of q) parts.prefixes
  scope_at known key all at =
      ap (λ (o : Option ℕ). option_map (λ n. n + 1) o) (position_from-zero (same_key key) known)
      ∙ sym (from_key key 0 known at all.keys) ∙ sym (after_file known) ∙ ap (number_of (prefix_of q)) (sym all.prefixes)

  from_absent : (i : ℕ) (keys : List Key) → key_of q parts ≡ None → AreKeys parts keys
      → position_from (bytes_eq (prefix_of q)) i (texts keys) ≡ None
  from_absent i [] none all = refl
  from_absent i (k ∷ keys) none all =
      ap (λ b. cond b (Some i) (position_from (bytes_eq (prefix_of q)) (i + 1) (texts keys)))
      (same_scope q (full_of parts k) ∙ absent_same parts q k none all.0)
      ∙ from_absent (i + 1) keys none all.1

  -- what has no key has no scope
  pub scope_absent : (known : List Key) → AreScopes parts known → key_of q parts ≡ None → None ≡ number_of (prefix_of q) parts.prefixes
  scope_absent known all none =
      sym (from_absent 1 known none all.keys) ∙ sym (after_file known) ∙ ap (number_of (prefix_of q)) (sym all.prefixes)

-- ---- the key of a name in a scope

-- the key of a name whose parts have these numbers
pub key_in : (parts : Parts) (known : List Key) (place : ℕ) (name front own : List ℕ) (p o : Option ℕ) → AreScopes parts known
    → front ≡ prefix_in name → own ≡ own_in name → p ≡ number_of (scope_of parts place ++ front) parts.prefixes
    → o ≡ number_of own parts.owns → key_by o p ≡ key_of (scope_of parts place ++ name) parts
key_in parts known place name front own p o all before after at rest =
    let scope = scope_of parts place in
    let ends = scope_ends parts known place all in
    ap (λ z. key_by z p) (rest ∙ ap (λ z. number_of z parts.owns) (after ∙ sym (own_after scope name ends)))
    ∙ ap (key_by (number_of (own_in (scope ++ name)) parts.owns))
    (at ∙ ap (λ z. number_of z parts.prefixes) (ap (λ z. scope ++ z) before ∙ sym (prefix_after scope name ends)))

-- a prefix that is missing, or an own part
pub key_lacks : (o : Option ℕ) → None ≡ key_by o None
key_lacks None = refl
key_lacks (Some own) = refl

-- nothing is in a scope that is missing
module _ (parts : Parts) (known : List Key) (all : AreScopes parts known) (scope : List ℕ) (ends : cut scope ≡ length scope)
    (none : number_of scope parts.prefixes ≡ None) where
  absent_in : (n : ℕ) (name : List ℕ) → length name < n → key_of (scope ++ name) parts ≡ None
  absent_in zero name h = absurd (omega (arith, h))
  absent_in (suc n) name h =
      let size = take_length name (cut name) (within_length name (length name)) in
      let most = within_length name (length name) in
      ap (key_by (number_of (own_in (scope ++ name)) parts.owns))
      (ap (λ z. number_of z parts.prefixes) (prefix_after scope name ends)
      ∙ missing (prefix_in name) (length (prefix_in name)) refl (cut_front name)
      (λ m less. absent_in n (take m (prefix_in name))
      (let short = take_length (prefix_in name) m (omega (arith, less)) in omega (arith, short, less, size, most, h))))
      ∙ sym (key_lacks (number_of (own_in (scope ++ name)) parts.owns)) where
        missing : (front : List ℕ) (k : ℕ) → k ≡ length front → cut front ≡ length front
            → ((m : ℕ) → m + 1 ≡ length front → key_of (scope ++ take m front) parts ≡ None)
            → number_of (scope ++ front) parts.prefixes ≡ None
        missing front zero e closed rest =
            ap (λ z. number_of z parts.prefixes) (front_empty scope front (omega (arith, e))) ∙ none
        missing front (suc m) e closed rest =
            let size : m + 1 ≡ length front = omega (arith, e) in
            ap (λ z. number_of z parts.prefixes) (sym (front_scope scope front m size closed))
            ∙ sym (scope_absent parts (scope ++ take m front) known all (rest m size))

-- ---- one more own part

get_more : (xs ys : List (List ℕ)) (k : ℕ) → k < length xs → get_or (xs ++ ys) k [] ≡ get_or xs k []
get_more [] ys k h = absurd (omega arith)
get_more (x ∷ xs) ys zero h = refl
get_more (x ∷ xs) ys (suc k) h = get_more xs ys k (omega arith)

abbrev OwnsThere : ℕ → List Key → Type 0
OwnsThere n [] = Unit {0}
OwnsThere n (key ∷ keys) = (key.1 < n) × OwnsThere n keys

owns_there : (parts : Parts) (keys : List Key) → AreKeys parts keys → OwnsThere (length parts.owns) keys
owns_there parts [] all = tt
owns_there parts (key ∷ keys) all = (own_there parts key all.0, owns_there parts keys all.1)

by_more : (owns more prefixes : List (List ℕ)) (keys : List Key) → OwnsThere (length owns) keys
    → prefixes_by (owns ++ more) prefixes keys ≡ prefixes_by owns prefixes keys
by_more owns more prefixes [] h = refl
by_more owns more prefixes (key ∷ keys) h =
    ap (λ z. prefixes_by (owns ++ more) (prefixes ++ prefix_of (get_or prefixes key.0 [] ++ z) ∷ []) keys) (get_more owns more key.1 h.0)
    ∙ by_more owns more (prefixes ++ prefix_of (get_or prefixes key.0 [] ++ get_or owns key.1 []) ∷ []) keys h.1

texts_more : (old new : Parts) (keys : List Key) → Extends old new → AreKeys old keys
    → map (λ key. prefix_of (full_of new key)) keys ≡ map (λ key. prefix_of (full_of old key)) keys
texts_more old new [] more all = refl
texts_more old new (key ∷ keys) more all =
    ap (λ z. prefix_of z ∷ map (λ key. prefix_of (full_of new key)) keys) (full_more old new key more all.0)
    ∙ ap (λ z. prefix_of (full_of old key) ∷ z) (texts_more old new keys more all.1)

module _ (owns owns' : List (List ℕ)) (known : List Key) (own : List ℕ) (number : ℕ) (puts : Puts own owns owns' number)
    (all : AreScopes (parts_of owns known) known) where
  same_prefixes : (parts_of owns' known).prefixes ≡ (parts_of owns known).prefixes
  same_prefixes =
      ap (λ z. prefixes_by z ([] ∷ []) known) puts.more
      ∙ by_more owns (drop (length owns) owns') ([] ∷ []) known (owns_there (parts_of owns known) known all.keys)

  pub owns_more : Extends (parts_of owns known) (parts_of owns' known)
  owns_more = record {
    prefixes = ap (λ z. z) (same_prefixes ∙ nothing_more (parts_of owns known).prefixes
        ∙ ap (λ z. (parts_of owns known).prefixes ++ drop (length (parts_of owns known).prefixes) z) (sym same_prefixes));
    owns = puts.more;
  }

  -- the scopes stay when an own part is put in
  pub scopes_kept : AreScopes (parts_of owns' known) known
  scopes_kept = record {
    prefixes = same_prefixes ∙ all.prefixes
        ∙ ap (λ z. [] ∷ z) (sym (texts_more (parts_of owns known) (parts_of owns' known) known owns_more all.keys));
    keys = are_more (parts_of owns known) (parts_of owns' known) known owns_more all.keys;
  }

  -- the key of an own part in a scope
  pub own_put : (place : ℕ) → IsPlace (parts_of owns known) place → cut own ≡ 0
      → PutsKey (scope_of (parts_of owns known) place ++ own) (parts_of owns known) (parts_of owns' known) (place, number)
  own_put place is none =
      let scope = scope_of (parts_of owns known) place in
      let ends = scope_ends (parts_of owns known) known place all in
      record {
        more = owns_more;
        at =
            ap (λ z. key_by z (number_of (prefix_in (scope ++ own)) (parts_of owns' known).prefixes))
            (ap (λ z. number_of z owns') (own_of_own scope own ends none) ∙ puts.number)
            ∙ ap (key_by (Some number)) (ap (λ z. number_of z (parts_of owns' known).prefixes) (prefix_of_own scope own ends none)
            ∙ ap (number_of scope) same_prefixes ∙ is);
      }

-- ---- one more scope

by_next : (owns prefixes : List (List ℕ)) (keys : List Key) (key : Key) → prefixes_by owns prefixes (keys ++ key ∷ [])
    ≡ prefixes_by owns prefixes keys ++ prefix_of (full_of (record { prefixes = prefixes_by owns prefixes keys; owns = owns }) key) ∷ []
by_next owns prefixes [] key = refl
by_next owns prefixes (k ∷ keys) key =
    by_next owns (prefixes ++ prefix_of (full_of (record { prefixes = prefixes; owns = owns }) k) ∷ []) keys key

keys_next : (parts : Parts) (keys : List Key) (key : Key) → AreKeys parts keys → IsKey parts key → AreKeys parts (keys ++ key ∷ [])
keys_next parts [] key all is = (is, tt)
keys_next parts (k ∷ keys) key all is = (all.0, keys_next parts keys key all.1 is)

no_number : (o : Option ℕ) → option_map (λ n. n + 1) o ≡ None → o ≡ None
no_number None h = refl
no_number (Some n) h = absurd cc

module _ (owns : List (List ℕ)) (known known' : List Key) (key : Key) (made : known' ≡ insert_key same_key known key)
    (all : AreScopes (parts_of owns known) known) (is : IsKey (parts_of owns known) key)
    (none : number_of (prefix_of (full_of (parts_of owns known) key)) (parts_of owns known).prefixes ≡ None) where
  abbrev old : Parts
  old = parts_of owns known

  abbrev new : Parts
  new = parts_of owns known'

  abbrev text : List ℕ
  text = prefix_of (full_of old key)

  last : known' ≡ known ++ key ∷ []
  last =
      made ∙ insert_new same_key known key
      (any_none (same_key key) known (no_number (position (same_key key) known) (scope_at old (full_of old key) known key all is ∙ none)))

  longer : new.prefixes ≡ old.prefixes ++ text ∷ []
  longer = ap (prefixes_by owns ([] ∷ [])) last ∙ by_next owns ([] ∷ []) known key

  scope_more : Extends old new
  scope_more = record { prefixes = more_of old.prefixes new.prefixes (text ∷ []) longer; owns = nothing_more owns }

  count : (place : ℕ) → place ≡ length known' → place ≡ length old.prefixes
  count place size =
      size ∙ ap length last ∙ sym (length-map (known ++ key ∷ []) (λ key. prefix_of (full_of old key)))
      ∙ ap length (append_map (λ key. prefix_of (full_of old key)) known key)
      ∙ swapped (map (λ key. prefix_of (full_of old key)) known) text ∙ ap length (sym all.prefixes) where
        swapped : (xs : List (List ℕ)) (x : List ℕ) → length (xs ++ x ∷ []) ≡ length ([] ∷ xs)
        swapped [] x = refl
        swapped (y ∷ ys) x = ap suc (swapped ys x)

  -- the scope of a key is put in
  pub scope_put : (place : ℕ) → place ≡ length known' → PutsScope text old new place
  scope_put place size = record {
    more = scope_more;
    at = (puts_next text old.prefixes new.prefixes place none longer (count place size)).number;
  }

  -- the scopes once that of a key is one of them
  pub scopes_next : AreScopes new known'
  scopes_next =
      let keys : AreKeys old known' = ap_keys (sym last) (keys_next old known key all.keys is) in
      record {
        prefixes =
            longer ∙ ap (λ z. z ++ text ∷ []) all.prefixes
            ∙ ap (λ z. [] ∷ z) (sym (append_map (λ key. prefix_of (full_of old key)) known key))
            ∙ ap (λ z. [] ∷ map (λ key. prefix_of (full_of old key)) z) (sym last)
            ∙ ap (λ z. [] ∷ z) (sym (texts_more old new known' scope_more keys));
        keys = are_more old new known' scope_more keys;
      } where
        ap_keys : {a b : List Key} → a ≡ b → AreKeys old a → AreKeys old b
        ap_keys e h = rw (← e) h

-- ---- the prefix of another scope after which octets stand

-- a name's key in a scope, once the scope is one of them
pub name_put : (old mid new : Parts) (place inner : ℕ) (name front own : List ℕ) (key : Key)
    → front ++ own ≡ name
    → PutsScope (scope_of old place ++ front) old mid inner → PutsKey (scope_of mid inner ++ own) mid new key
    → PutsKey (scope_of old place ++ name) old new key
name_put old mid new place inner name front own key whole first next =
    let scope = scope_of old place in
    let same : scope_of mid inner ++ own ≡ scope ++ name =
    ap (λ z. z ++ own) (scope_is (scope ++ front) mid inner first.at) ∙ append_assoc scope front own ∙ ap (λ z. scope ++ z) whole in
    record {
      more = more_both old mid new first.more next.more;
      at = ap (λ z. key_of z new) (sym same) ∙ next.at;
    }

-- a scope that leads on from the key of a name
pub scope_after_put : (old mid new : Parts) (q scope : List ℕ) (key : Key) (place : ℕ) → PutsKey q old mid key
    → PutsScope (prefix_of (full_of mid key)) mid new place → prefix_of (full_of mid key) ≡ scope → PutsScope scope old new place
scope_after_put old mid new q scope key place first next same = record {
  more = more_both old mid new first.more next.more;
  at = ap (λ z. number_of z new.prefixes) (sym same) ∙ next.at;
}

-- a scope that is there
pub scope_kept : (scope : List ℕ) (parts : Parts) (place : ℕ) → number_of scope parts.prefixes ≡ Some place
    → PutsScope scope parts parts place
scope_kept scope parts place at = record { more = same_more parts; at = at }

-- ---- the same of the parts that are seen

-- the number of the scope of a key
pub scope_seen : (parts now : Parts) (known : List Key) (key : Key) (o : Option ℕ) → AreScopes parts known → parts ≡ now → IsKey now key
    → o ≡ position (same_key key) known → option_map (λ n. n + 1) o ≡ number_of (prefix_of (full_of now key)) now.prefixes
scope_seen parts now known key o all view is at =
    ap (λ (z : Option ℕ). option_map (λ n. n + 1) z) at
    ∙ subst (λ (z : Parts). IsKey z key
    → option_map (λ n. n + 1) (position (same_key key) known) ≡ number_of (prefix_of (full_of z key)) z.prefixes) view
    (λ same. scope_at parts (full_of parts key) known key all same) is

-- the key of a name whose parts have these numbers
pub key_seen : (parts now : Parts) (known : List Key) (place n : ℕ) (name front own : List ℕ) (p o : Option ℕ) → AreScopes parts known
    → parts ≡ now → n ≡ cut name → front ≡ take n name → own ≡ drop n name → p ≡ number_of (scope_of now place ++ front) now.prefixes
    → o ≡ number_of own parts.owns → key_by o p ≡ key_of (scope_of now place ++ name) now
key_seen parts now known place n name front own p o all view is before after at rest =
    subst (λ (z : Parts). p ≡ number_of (scope_of z place ++ front) z.prefixes → key_by o p ≡ key_of (scope_of z place ++ name) z) view
    (λ there. key_in parts known place name front own p o all (before ∙ ap (λ z. take z name) is) (after ∙ ap (λ z. drop z name) is)
    there rest) at

-- what has no key has no scope
pub absent_seen : (parts now : Parts) (known : List Key) (q : List ℕ) → AreScopes parts known → parts ≡ now → None ≡ key_of q now
    → None ≡ number_of (prefix_of q) now.prefixes
absent_seen parts now known q all view none =
    subst (λ (z : Parts). None ≡ key_of q z → None ≡ number_of (prefix_of q) z.prefixes) view
    (λ same. scope_absent parts q known all (sym same)) none

-- the scopes stay when an own part is put in, and it has a key
module _ (owns owns' : List (List ℕ)) (known : List Key) (own : List ℕ) (number : ℕ) (puts : Puts own owns owns' number)
    (all : AreScopes (parts_of owns known) known) where
  pub kept_seen : AreScopes (parts_of owns' known) known
  kept_seen = scopes_kept owns owns' known own number puts all

  pub own_seen : (now : Parts) → parts_of owns known ≡ now → (place : ℕ) → IsPlace now place → cut own ≡ 0
      → PutsKey (scope_of now place ++ own) now (parts_of owns' known) (place, number)
  own_seen now view place is none =
      subst (λ (z : Parts). IsPlace z place → PutsKey (scope_of z place ++ own) z (parts_of owns' known) (place, number)) view
      (λ same. own_put owns owns' known own number puts all place same none) is

-- the scopes once that of a key is one of them, which has the next number
module _ (owns : List (List ℕ)) (known known' : List Key) (key : Key) (now : Parts) (made : known' ≡ insert_key same_key known key)
    (all : AreScopes (parts_of owns known) known) (view : parts_of owns known ≡ now) (is : IsKey now key)
    (none : number_of (prefix_of (full_of now key)) now.prefixes ≡ None) where
  pub next_seen : AreScopes (parts_of owns known') known'
  next_seen =
      subst (λ (z : Parts). IsKey z key → number_of (prefix_of (full_of z key)) z.prefixes ≡ None → AreScopes (parts_of owns known') known')
      view (λ same absent. scopes_next owns known known' key made all same absent) is none

  pub put_seen : (place : ℕ) → place ≡ length known' → PutsScope (prefix_of (full_of now key)) now (parts_of owns known') place
  put_seen place size =
      subst (λ (z : Parts). IsKey z key → number_of (prefix_of (full_of z key)) z.prefixes ≡ None
      → PutsScope (prefix_of (full_of z key)) z (parts_of owns known') place)
      view (λ same absent. scope_put owns known known' key made all same absent place size) is none

-- nothing is in the scope of a key that has none
pub lacks_seen : (parts now : Parts) (known : List Key) (key : Key) → AreScopes parts known → parts ≡ now
    → None ≡ number_of (prefix_of (full_of now key)) now.prefixes
    → (name : List ℕ) → key_of (prefix_of (full_of now key) ++ name) now ≡ None
lacks_seen parts now known key all view none name =
    subst (λ (z : Parts). None ≡ number_of (prefix_of (full_of z key)) z.prefixes
    → key_of (prefix_of (full_of z key) ++ name) z ≡ None) view
    (λ same. absent_in parts known all (prefix_of (full_of parts key)) (cut_scope (full_of parts key)) (sym same) (length name + 1) name
    (omega arith)) none
