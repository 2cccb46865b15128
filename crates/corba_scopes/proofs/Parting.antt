-- Parts of full names by their numbers, and full names by their keys, by induction on the parts.
use Rattle.std.proofs.Common.{◌≡◌, ◌+◌, ◌<◌, ℕ, Bool, true, false, ◌==◌, List, [], ◌∷◌, ◌++◌, map, length, drop, get_or, position, Option, Some, None, refl, sym, ap, ◌∙◌, arith, take-append-drop, append_assoc}
use Rattle.std.specs.Prelude.{cond, option_map}
use Rattle.std.specs.List.{list_any, position_from}
use Rattle.std.specs.Str.{bytes_eq}
use Rattle.std.specs.Bool.{one_answer}
use Rattle.std.proofs.lemmas.Bool.{and_parts, and_from, or_from, false_from_ne_true}
use Rattle.std.proofs.lemmas.Bool.Decides.{Decides-eqb}
use Rattle.std.proofs.lemmas.Iterator.Adapters.{position_from-zero}
use Rattle.std.proofs.lemmas.List.Quantifiers.{position-Some}
use Rattle.std.proofs.lemmas.List.{length-map}
use Rattle.std.proofs.lemmas.Option.{none-some, same_Some}
use Rattle.std.proofs.lemmas.Slice.Eq.{bytes_eq-Decides}
use Rattle.indexmap.specs.IndexSet.{insert_key}
use Rattle.idl_names.specs.Names.{has}
use Rattle.idl_names.proofs.Tables.{push_map}
use Rattle.corba_scopes.specs.Parted.{cut, prefix_in, own_in, Parts, Key, same_key, number_of, key_by, key_of, full_of, scope_of, IsKey, AreKeys, IsPlace, ArePlaces, Puts, Extends, PutsKey, PutsScope, PutsScopes, PutsBoth}

-- ---- numbers of texts

module _ {X : Type 0} (t : X → Bool) where
  more_by : (b : Bool) (i k : ℕ) (o p : Option ℕ) → cond b (Some i) o ≡ Some k → (o ≡ Some k → p ≡ Some k) → cond b (Some i) p ≡ Some k
  more_by true i k o p h f = h
  more_by false i k o p h f = f h

  from_more : (i k : ℕ) (xs ys : List X) → position_from t i xs ≡ Some k → position_from t i (xs ++ ys) ≡ Some k
  from_more i k [] ys h = absurd cc
  from_more i k (x ∷ xs) ys h =
      more_by (t x) i k (position_from t (i + 1) xs) (position_from t (i + 1) (xs ++ ys)) h (from_more (i + 1) k xs ys)

  -- what is found stays where it is when more come after it
  position_more : (k : ℕ) (xs ys : List X) → position t xs ≡ Some k → position t (xs ++ ys) ≡ Some k
  position_more k xs ys h =
      position_from-zero t (xs ++ ys) ∙ from_more 0 k xs ys (sym (position_from-zero t xs) ∙ h)

  next_by : (b : Bool) (i k : ℕ) (o p : Option ℕ) → cond b (Some i) o ≡ None → (o ≡ None → p ≡ Some k) → cond b (Some i) p ≡ Some k
  next_by true i k o p h f = absurd cc
  next_by false i k o p h f = f h

  last_is : (i : ℕ) (x : X) → t x ≡ true → position_from t i (x ∷ []) ≡ Some i
  last_is i x same = ap (λ b. cond b (Some i) None) same

  from_next : (i k : ℕ) (xs : List X) (x : X) → position_from t i xs ≡ None → t x ≡ true → i + length xs ≡ k
      → position_from t i (xs ++ x ∷ []) ≡ Some k
  from_next i k [] x h same e = last_is i x same ∙ ap Some (omega (arith, e))
  from_next i k (y ∷ ys) x h same e =
      let sum : (i + 1) + length ys ≡ k = omega (arith, e) in
      next_by (t y) i k (position_from t (i + 1) ys) (position_from t (i + 1) (ys ++ x ∷ [])) h (λ o. from_next (i + 1) k ys x o same sum)

  -- what is not found among others is found after them
  position_next : (xs : List X) (x : X) → position t xs ≡ None → t x ≡ true → position t (xs ++ x ∷ []) ≡ Some (length xs)
  position_next xs x h same =
      position_from-zero t (xs ++ x ∷ []) ∙ from_next 0 (length xs) xs x (sym (position_from-zero t xs) ∙ h) same (omega arith)

  none_by : (b : Bool) (i : ℕ) (o : Option ℕ) → cond b (Some i) o ≡ None → (b ≡ false) × (o ≡ None)
  none_by true i o h = absurd cc
  none_by false i o h = (refl, h)

  from_none : (i : ℕ) (xs : List X) → position_from t i xs ≡ None → list_any t xs ≡ false
  from_none i [] h = refl
  from_none i (x ∷ xs) h =
      let parts = none_by (t x) i (position_from t (i + 1) xs) h in or_from (t x) (list_any t xs) parts.0 (from_none (i + 1) xs parts.1)

  -- what is not found is not there
  pub any_none : (xs : List X) → position t xs ≡ None → list_any t xs ≡ false
  any_none xs h = from_none 0 xs (sym (position_from-zero t xs) ∙ h)

bytes_same : (a : List ℕ) → bytes_eq a a ≡ true
bytes_same a = (bytes_eq-Decides a a).1 refl

pub same_bytes : (a b : List ℕ) → bytes_eq a b ≡ true → a ≡ b
same_bytes a b h = (bytes_eq-Decides a b).0 h

-- the text that has a number
pub numbered_is : (text : List ℕ) (texts : List (List ℕ)) (k : ℕ) → number_of text texts ≡ Some k
    → (k < length texts) × (text ≡ get_or texts k [])
numbered_is text texts k h =
    let s = position-Some (bytes_eq text) texts k [] h in (s.0, same_bytes text (get_or texts k []) s.1)

from_map : {K B : Type 0} (p : B → Bool) (f : K → B) (i : ℕ) (xs : List K)
    → position_from (λ x. p (f x)) i xs ≡ position_from p i (map f xs)
from_map p f i [] = refl
from_map p f i (x ∷ xs) = ap (λ z. cond (p (f x)) (Some i) z) (from_map p f (i + 1) xs)

-- a text that is sought among others
pub number_sought : {K : Type 0} (items : K → List ℕ) (keys : List K) (text : List ℕ) (view : List (List ℕ))
    → map items keys ≡ view → position (λ k. bytes_eq text (items k)) keys ≡ number_of text view
number_sought items keys text view seen =
    position_from-zero (λ k. bytes_eq text (items k)) keys ∙ from_map (bytes_eq text) items 0 keys
    ∙ sym (position_from-zero (bytes_eq text) (map items keys)) ∙ ap (number_of text) seen

after_all : (xs ys : List (List ℕ)) → drop (length xs) (xs ++ ys) ≡ ys
after_all [] ys = refl
after_all (x ∷ xs) ys = after_all xs ys

-- texts after which others were put
pub more_of : (old new more : List (List ℕ)) → new ≡ old ++ more → new ≡ old ++ drop (length old) new
more_of old new more made = made ∙ ap (λ z. old ++ z) (sym (after_all old more) ∙ ap (drop (length old)) (sym made))

-- a text that is put after the others
pub puts_next : (text : List ℕ) (old new : List (List ℕ)) (k : ℕ) → number_of text old ≡ None → new ≡ old ++ text ∷ []
    → k ≡ length old → Puts text old new k
puts_next text old new k none made is = record {
  more = more_of old new (text ∷ []) made;
  number = ap (number_of text) made ∙ position_next (bytes_eq text) old text none (bytes_same text) ∙ ap Some (sym is);
}

-- what a set has once a text that is not there is put in
set_next : {K : Type 0} (items : K → List ℕ) (keys new : List K) (key : K) (text : List ℕ) (old : List (List ℕ))
    → new ≡ insert_key (λ a b. bytes_eq (items a) (items b)) keys key → items key ≡ text → map items keys ≡ old
    → number_of text old ≡ None → map items new ≡ old ++ text ∷ []
set_next items keys new key text old made is view none =
    let absent : has (items key) (map items keys) ≡ false =
    ap (λ z. has z (map items keys)) is ∙ ap (has text) view ∙ any_none (bytes_eq text) old none in
    ap (map items) made ∙ push_map items key keys absent ∙ ap (λ z. z ++ items key ∷ []) view ∙ ap (λ z. old ++ z ∷ []) is

-- a set with a text that was not there
pub set_puts : {K : Type 0} (items : K → List ℕ) (keys new : List K) (key : K) (text : List ℕ) (old : List (List ℕ)) (k : ℕ)
    → new ≡ insert_key (λ a b. bytes_eq (items a) (items b)) keys key → items key ≡ text → map items keys ≡ old
    → number_of text old ≡ None → k ≡ length keys → Puts text old (map items new) k
set_puts items keys new key text old k made is view none last =
    puts_next text old (map items new) k none (set_next items keys new key text old made is view none)
    (last ∙ sym (length-map keys items) ∙ ap length view)

pub nothing_more : (xs : List (List ℕ)) → xs ≡ xs ++ drop (length xs) xs
nothing_more [] = refl
nothing_more (x ∷ xs) = ap (λ z. x ∷ z) (nothing_more xs)

-- ---- keys and full names

key_parts : (own prefix : Option ℕ) (key : Key) → key_by own prefix ≡ Some key → (own ≡ Some key.1) × (prefix ≡ Some key.0)
key_parts None prefix key h = absurd cc
key_parts (Some o) None key h = absurd cc
key_parts (Some o) (Some p) key h =
    (ap (λ (k : Option Key). option_map (λ z. z.1) k) h, ap (λ (k : Option Key). option_map (λ z. z.0) k) h)

numbers : (q : List ℕ) (parts : Parts) (key : Key) → key_of q parts ≡ Some key
    → (number_of (own_in q) parts.owns ≡ Some key.1) × (number_of (prefix_in q) parts.prefixes ≡ Some key.0)
numbers q parts key at = key_parts (number_of (own_in q) parts.owns) (number_of (prefix_in q) parts.prefixes) key at

-- the own part of a key is there
pub own_there : (parts : Parts) (key : Key) → IsKey parts key → key.1 < length parts.owns
own_there parts key is =
    let full = full_of parts key in (numbered_is (own_in full) parts.owns key.1 (numbers full parts key is).0).0

-- the full name of its key is the name
pub full_is : (q : List ℕ) (parts : Parts) (key : Key) → key_of q parts ≡ Some key → full_of parts key ≡ q
full_is q parts key at =
    ap (λ z. z ++ get_or parts.owns key.1 []) (sym (numbered_is (prefix_in q) parts.prefixes key.0 (numbers q parts key at).1).1)
    ∙ ap (λ z. prefix_in q ++ z) (sym (numbered_is (own_in q) parts.owns key.1 (numbers q parts key at).0).1)
    ∙ take-append-drop (cut q) q

-- the key of a name is that of its full name
pub is_key : (q : List ℕ) (parts : Parts) (key : Key) → key_of q parts ≡ Some key → IsKey parts key
is_key q parts key at = ap (λ z. key_of z parts) (full_is q parts key at) ∙ at

-- the prefix that has the number of a scope
pub scope_is : (scope : List ℕ) (parts : Parts) (place : ℕ) → number_of scope parts.prefixes ≡ Some place → scope_of parts place ≡ scope
scope_is scope parts place at = sym (numbered_is scope parts.prefixes place at).1

-- the number of a prefix is that of a scope
pub is_place : (scope : List ℕ) (parts : Parts) (place : ℕ) → number_of scope parts.prefixes ≡ Some place → IsPlace parts place
is_place scope parts place at = ap (λ z. number_of z parts.prefixes) (scope_is scope parts place at) ∙ at

-- ---- more parts

number_more : (text : List ℕ) (old new : List (List ℕ)) (k : ℕ) → new ≡ old ++ drop (length old) new
    → number_of text old ≡ Some k → number_of text new ≡ Some k
number_more text old new k more at =
    ap (number_of text) more ∙ position_more (bytes_eq text) k old (drop (length old) new) at

-- a name keeps its key
pub key_more : (q : List ℕ) (old new : Parts) (key : Key) → Extends old new → key_of q old ≡ Some key → key_of q new ≡ Some key
key_more q old new key more at =
    ap (λ z. key_by z (number_of (prefix_in q) new.prefixes))
    (number_more (own_in q) old.owns new.owns key.1 more.owns (numbers q old key at).0)
    ∙ ap (key_by (Some key.1)) (number_more (prefix_in q) old.prefixes new.prefixes key.0 more.prefixes (numbers q old key at).1)

-- a key keeps its full name
pub full_more : (old new : Parts) (key : Key) → Extends old new → IsKey old key → full_of new key ≡ full_of old key
full_more old new key more is = full_is (full_of old key) new key (key_more (full_of old key) old new key more is)

pub is_more : (old new : Parts) (key : Key) → Extends old new → IsKey old key → IsKey new key
is_more old new key more is =
    ap (λ z. key_of z new) (full_more old new key more is) ∙ key_more (full_of old key) old new key more is

pub are_more : (old new : Parts) (keys : List Key) → Extends old new → AreKeys old keys → AreKeys new keys
are_more old new [] more all = tt
are_more old new (key ∷ keys) more all = (is_more old new key more all.0, are_more old new keys more all.1)

-- a scope keeps its prefix
pub scope_more : (old new : Parts) (place : ℕ) → Extends old new → IsPlace old place → scope_of new place ≡ scope_of old place
scope_more old new place more is =
    scope_is (scope_of old place) new place (number_more (scope_of old place) old.prefixes new.prefixes place more.prefixes is)

pub place_more : (old new : Parts) (place : ℕ) → Extends old new → IsPlace old place → IsPlace new place
place_more old new place more is =
    is_place (scope_of old place) new place (number_more (scope_of old place) old.prefixes new.prefixes place more.prefixes is)

pub places_more : (old new : Parts) (places : List ℕ) → Extends old new → ArePlaces old places → ArePlaces new places
places_more old new [] more all = tt
places_more old new (place ∷ places) more all = (place_more old new place more all.0, places_more old new places more all.1)

-- parts of which none is new
pub same_more : (parts : Parts) → Extends parts parts
same_more parts = record { prefixes = nothing_more parts.prefixes; owns = nothing_more parts.owns }

texts_both : (old mid new : List (List ℕ)) → mid ≡ old ++ drop (length old) mid → new ≡ mid ++ drop (length mid) new
    → new ≡ old ++ drop (length old) new
texts_both old mid new first next =
    more_of old new (drop (length old) mid ++ drop (length mid) new)
    (next ∙ ap (λ z. z ++ drop (length mid) new) first ∙ append_assoc old (drop (length old) mid) (drop (length mid) new))

-- more parts than more
pub more_both : (old mid new : Parts) → Extends old mid → Extends mid new → Extends old new
more_both old mid new first next = record {
  prefixes = texts_both old.prefixes mid.prefixes new.prefixes first.prefixes next.prefixes;
  owns = texts_both old.owns mid.owns new.owns first.owns next.owns;
}

-- the parts of a name are put in, and then those of another
pub both_put : (full other : List ℕ) (old mid new : Parts) (key below : Key) → PutsKey full old mid key → PutsKey other mid new below
    → PutsBoth full other old new key below
both_put full other old mid new key below puts more = record {
  more = more_both old mid new puts.more more.more;
  at_full = key_more full mid new key more.more puts.at;
  at_other = more.at;
}

-- the prefix of a scope is put in, and then that of another
pub scopes_put : (scope other : List ℕ) (old mid new : Parts) (place second : ℕ) → PutsScope scope old mid place
    → PutsScope other mid new second → PutsScopes scope other old new place second
scopes_put scope other old mid new place second puts more = record {
  more = more_both old mid new puts.more more.more;
  at = number_more scope mid.prefixes new.prefixes place more.more.prefixes puts.at;
  at_other = more.at;
}

-- parts of which one name has the key already
pub key_kept : (q : List ℕ) (parts : Parts) (key : Key) → key_of q parts ≡ Some key → PutsKey q parts parts key
key_kept q parts key is = record { more = same_more parts; at = is }

-- ---- names that are the same

-- a full name is that of a key where the key is that of the name
pub test_same : (parts : Parts) (q : List ℕ) (k key : Key) → key_of q parts ≡ Some k → IsKey parts key
    → bytes_eq q (full_of parts key) ≡ same_key k key
test_same parts q k key at is =
    let full = full_of parts key in
    one_answer (bytes_eq q full) (same_key k key) (bytes_eq-Decides q full) (
      λ t.
          let both = and_parts (k.0 == key.0) (k.1 == key.1) t in
          sym (full_is q parts k at)
          ∙ ap (λ z. get_or parts.prefixes z [] ++ get_or parts.owns k.1 []) ((Decides-eqb k.0 key.0).0 both.0)
          ∙ ap (λ z. get_or parts.prefixes key.0 [] ++ get_or parts.owns z []) ((Decides-eqb k.1 key.1).0 both.1),
      λ e.
          let same : Some k ≡ Some key = sym at ∙ ap (λ z. key_of z parts) e ∙ is in
          and_from (k.0 == key.0) (k.1 == key.1)
          ((Decides-eqb k.0 key.0).1 (same_Some k.0 key.0 (ap (λ (z : Option Key). option_map (λ y. y.0) z) same)))
          ((Decides-eqb k.1 key.1).1 (same_Some k.1 key.1 (ap (λ (z : Option Key). option_map (λ y. y.1) z) same))),
    )

-- a name that has no key is no key's
pub absent_same : (parts : Parts) (q : List ℕ) (key : Key) → key_of q parts ≡ None → IsKey parts key
    → bytes_eq q (full_of parts key) ≡ false
absent_same parts q key none is =
    let full = full_of parts key in
    false_from_ne_true (bytes_eq q full)
    (λ t. none-some key (sym none ∙ ap (λ z. key_of z parts) (same_bytes q full t) ∙ is))

-- the prefixes of two scopes are the same where their numbers are
pub place_same : (parts : Parts) (a b : ℕ) → IsPlace parts a → IsPlace parts b
    → bytes_eq (scope_of parts a) (scope_of parts b) ≡ (a == b)
place_same parts a b is other =
    one_answer (bytes_eq (scope_of parts a) (scope_of parts b)) (a == b) (bytes_eq-Decides (scope_of parts a) (scope_of parts b)) (
      λ t. ap (scope_of parts) ((Decides-eqb a b).0 t),
      λ e. (Decides-eqb a b).1 (same_Some a b (sym is ∙ ap (λ z. number_of z parts.prefixes) e ∙ other)),
    )
