-- Full names in two parts: the prefix of a scope, and their own part after it; and their keys, the numbers of both.
use Rattle.std.specs.Prelude.{◌≡◌, Bool, ◌&&◌, ◌==◌, ℕ, zero, suc, List, [], ◌∷◌, ◌++◌, map, take, drop, length, get_or, position, Option, Some, None, if◌then◌else◌}
use Rattle.std.specs.Map.{lookup}
use Rattle.std.specs.Str.{bytes_eq}
use Rattle.corba_scopes.specs.Around.{prefix_of}

-- how long the prefix is, if it ends within the first n octets: the last dot of these is its end
abbrev pub cut_within : List ℕ → ℕ → ℕ
cut_within full zero = 0
cut_within full (suc n) = if get_or full n 0 == 46 then suc n else cut_within full n

-- how long the prefix of a full name is
abbrev pub cut : List ℕ → ℕ
cut full = cut_within full (length full)

-- the prefix of a full name
abbrev pub prefix_in : List ℕ → List ℕ
prefix_in full = take (cut full) full

-- the own part of a full name
abbrev pub own_in : List ℕ → List ℕ
own_in full = drop (cut full) full

-- prefixes and own parts, in the order of their numbers
pub record Parts : Type 0 where
  pub prefixes : List (List ℕ)
  pub owns : List (List ℕ)

-- the number of a prefix, and that of an own part
abbrev pub Key : Type 0
Key = ℕ × ℕ

-- two keys are the same
abbrev pub same_key : Key → Key → Bool
same_key a b = a.0 == b.0 && a.1 == b.1

-- what is held by a key
abbrev pub held_at : {M : Type 0} → Key → List (Key × M) → Option M
held_at key held = lookup (same_key key) held

-- the number of a text among texts
abbrev pub number_of : List ℕ → List (List ℕ) → Option ℕ
number_of text texts = position (bytes_eq text) texts

-- the key of an own part and a prefix by their numbers
abbrev pub key_by : Option ℕ → Option ℕ → Option Key
key_by None prefix = None
key_by (Some own) None = None
key_by (Some own) (Some prefix) = Some (prefix, own)

-- the key of a full name, if both its parts are there
abbrev pub key_of : List ℕ → Parts → Option Key
key_of full parts = key_by (number_of (own_in full) parts.owns) (number_of (prefix_in full) parts.prefixes)

-- the full name of a key
abbrev pub full_of : Parts → Key → List ℕ
full_of parts key = get_or parts.prefixes key.0 [] ++ get_or parts.owns key.1 []

-- the prefix of a scope by its number
abbrev pub scope_of : Parts → ℕ → List ℕ
scope_of parts place = get_or parts.prefixes place []

-- a key is that of its full name
abbrev pub IsKey : Parts → Key → Type 0
IsKey parts key = key_of (full_of parts key) parts ≡ Some key

-- every key is that of its full name
abbrev pub AreKeys : Parts → List Key → Type 0
AreKeys parts [] = Unit {0}
AreKeys parts (key ∷ keys) = IsKey parts key × AreKeys parts keys

-- the number of a scope is that of its prefix
abbrev pub IsPlace : Parts → ℕ → Type 0
IsPlace parts place = number_of (scope_of parts place) parts.prefixes ≡ Some place

-- every number of a scope is that of its prefix
abbrev pub ArePlaces : Parts → List ℕ → Type 0
ArePlaces parts [] = Unit {0}
ArePlaces parts (place ∷ places) = IsPlace parts place × ArePlaces parts places

-- ---- how prefixes are kept: each but that of the file by the key of what has the scope

-- prefixes with those of the scopes of these keys
abbrev pub prefixes_by : List (List ℕ) → List (List ℕ) → List Key → List (List ℕ)
prefixes_by owns prefixes [] = prefixes
prefixes_by owns prefixes (key ∷ keys) =
    prefixes_by owns (prefixes ++ prefix_of (full_of (record { prefixes = prefixes; owns = owns }) key) ∷ []) keys

-- own parts, and the prefixes of the scopes of these keys after that of the file
abbrev pub parts_of : List (List ℕ) → List Key → Parts
parts_of owns keys = record { prefixes = prefixes_by owns ([] ∷ []) keys; owns = owns }

-- the scopes of keys: each prefix but the first is that of a key's full name
pub record AreScopes (parts : Parts) (known : List Key) : Type 0 where
  pub prefixes : parts.prefixes ≡ [] ∷ map (λ key. prefix_of (full_of parts key)) known
  pub keys : AreKeys parts known

-- ---- more parts

-- texts with one among them, which has this number
pub record Puts (text : List ℕ) (old new : List (List ℕ)) (k : ℕ) : Type 0 where
  pub more : new ≡ old ++ drop (length old) new
  pub number : number_of text new ≡ Some k

-- parts of which more may have come
pub record Extends (old new : Parts) : Type 0 where
  pub prefixes : new.prefixes ≡ old.prefixes ++ drop (length old.prefixes) new.prefixes
  pub owns : new.owns ≡ old.owns ++ drop (length old.owns) new.owns

-- the parts of old names, with those of a full name that has this key
pub record PutsKey (full : List ℕ) (old new : Parts) (key : Key) : Type 0 where
  pub more : Extends old new
  pub at : key_of full new ≡ Some key

-- the parts of old names, with the prefix of a scope that has this number
pub record PutsScope (scope : List ℕ) (old new : Parts) (place : ℕ) : Type 0 where
  pub more : Extends old new
  pub at : number_of scope new.prefixes ≡ Some place

-- the parts of old names, with the prefixes of two scopes that have these numbers
pub record PutsScopes (scope other : List ℕ) (old new : Parts) (place second : ℕ) : Type 0 where
  pub more : Extends old new
  pub at : number_of scope new.prefixes ≡ Some place
  pub at_other : number_of other new.prefixes ≡ Some second

-- the parts of old names, with those of two full names that have these keys
pub record PutsBoth (full other : List ℕ) (old new : Parts) (key below : Key) : Type 0 where
  pub more : Extends old new
  pub at_full : key_of full new ≡ Some key
  pub at_other : key_of other new ≡ Some below
