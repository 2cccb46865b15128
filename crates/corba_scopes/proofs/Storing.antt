-- What is held by keys and numbers is what names have, by induction on what is held.
use Rattle.std.proofs.Common.{◌≡◌, ◌+◌, ◌-◌, ◌<◌, ℕ, zero, suc, Bool, true, false, ◌||◌, ◌==◌, nat_eq, List, [], ◌∷◌, ◌++◌, map, reverse, length, take, get_or, slice_get, Option, Some, None, is_some, refl, sym, ap, subst, ◌∙◌, arith, if◌then◌else◌}
use Rattle.std.specs.Prelude.{cond, option_map}
use Rattle.std.specs.List.{list_any}
use Rattle.std.specs.Map.{lookup}
use Rattle.std.specs.Option.{unwrap_or, option_or}
use Rattle.std.specs.Str.{bytes_eq}
use Rattle.std.proofs.lemmas.Bool.{false_from_ne_true}
use Rattle.std.proofs.lemmas.List.{reverse-append}
use Rattle.std.proofs.lemmas.Option.{none-some, unwrap_or-slice_get}
use Rattle.std.proofs.lemmas.Slice.Eq.{bytes_eq-Decides}
use Rattle.indexmap.specs.IndexMap.{insert_entry}
use Rattle.idl_names.specs.Names.{has, is_declared, meaning_of}
use Rattle.idl_names.proofs.Tables.{append_map}
use Rattle.aoi.specs.declared.faults.NameFault.TheVariants.{Twice, CaseClash}
use Rattle.corba_scopes.specs.declared.around.Around.{Around}
use Rattle.corba_scopes.specs.declared.meanings.Meaning.{Meaning}
use Rattle.corba_scopes.specs.Around.{prefix_of, innermost}
use Rattle.corba_scopes.specs.Names.{Names, here, entered, put, lower, clash, declared}
use Rattle.corba_scopes.specs.Finding.{Entry, entry_at, first_in, found, sought, line_of, added, joined, with_base}
use Rattle.corba_scopes.specs.Parted.{Parts, Key, same_key, held_at, number_of, key_of, full_of, scope_of, IsKey, IsPlace, ArePlaces, Extends, PutsBoth, PutsScope, PutsScopes}
use Rattle.corba_scopes.specs.Stored.{by_names, AllKeys, line_at, added_place, joined_places, by_lines, AreLines, scopes_around, AreAround, names_by, AreHeld, Stored, entry_of}
use Rattle.corba_scopes.proofs.Parting.{full_is, is_key, scope_is, is_place, full_more, are_more, scope_more, place_more, places_more, test_same, absent_same, place_same}

-- ---- what is held by keys

module _ {M : Type 0} where
  -- what a name stands for is held by its key
  pub held_is : (parts : Parts) (q : List ℕ) (key : Key) (es : List (Key × M)) → key_of q parts ≡ Some key → AllKeys parts es
      → held_at key es ≡ meaning_of q (by_names parts es)
  held_is parts q key [] at all = refl
  held_is parts q key (e ∷ es) at all =
      ap (λ b. cond b (Some e.1) (held_at key es)) (sym (test_same parts q key e.0 at all.0))
      ∙ ap (λ z. cond (bytes_eq q (full_of parts e.0)) (Some e.1) z) (held_is parts q key es at all.1)

  -- a name that has no key stands for nothing
  pub none_is : (parts : Parts) (q : List ℕ) (es : List (Key × M)) → key_of q parts ≡ None → AllKeys parts es
      → meaning_of q (by_names parts es) ≡ None
  none_is parts q [] none all = refl
  none_is parts q (e ∷ es) none all =
      ap (λ b. cond b (Some e.1) (meaning_of q (by_names parts es))) (absent_same parts q e.0 none all.0)
      ∙ none_is parts q es none all.1

  abbrev named : List ℕ → M → List ℕ × M
  named full m = (full, m)

  -- names keep their full names
  names_more : (old new : Parts) (es : List (Key × M)) → Extends old new → AllKeys old es → by_names new es ≡ by_names old es
  names_more old new [] more all = refl
  names_more old new (e ∷ es) more all =
      ap (λ z. named z e.1 ∷ by_names new es) (full_more old new e.0 more all.0)
      ∙ ap (λ z. named (full_of old e.0) e.1 ∷ z) (names_more old new es more all.1)

  insert_by : (b : Bool) (key : Key) (m : M) (e : Key × M) (es rest : List (Key × M)) (parts : Parts) (other : List (List ℕ × M))
      → by_names parts rest ≡ other
      → by_names parts (if b then (e.0, m) ∷ es else e ∷ rest)
      ≡ (if b then (full_of parts e.0, m) ∷ by_names parts es else (full_of parts e.0, e.1) ∷ other)
  insert_by true key m e es rest parts other h = refl
  insert_by false key m e es rest parts other h = ap (λ z. named (full_of parts e.0) e.1 ∷ z) h

  -- names once something is held by a key
  names_set : (parts : Parts) (q : List ℕ) (key : Key) (m : M) (es : List (Key × M)) → key_of q parts ≡ Some key → AllKeys parts es
      → by_names parts (insert_entry same_key es key m) ≡ put q m (by_names parts es)
  names_set parts q key m [] at all = ap (λ z. named z m ∷ []) (full_is q parts key at)
  names_set parts q key m (e ∷ es) at all =
      insert_by (same_key key e.0) key m e es (insert_entry same_key es key m) parts (put q m (by_names parts es))
      (names_set parts q key m es at all.1)
      ∙ ap (λ b. if b then named (full_of parts e.0) m ∷ by_names parts es else named (full_of parts e.0) e.1 ∷ put q m (by_names parts es))
      (sym (test_same parts q key e.0 at all.0))

  keys_by : (b : Bool) (key : Key) (m : M) (e : Key × M) (es rest : List (Key × M)) (parts : Parts)
      → AllKeys parts (e ∷ es) → AllKeys parts rest → AllKeys parts (if b then (e.0, m) ∷ es else e ∷ rest)
  keys_by true key m e es rest parts all more = (all.0, all.1)
  keys_by false key m e es rest parts all more = (all.0, more)

  -- keys once something is held by one more
  keys_set : (parts : Parts) (q : List ℕ) (key : Key) (m : M) (es : List (Key × M)) → key_of q parts ≡ Some key → AllKeys parts es
      → AllKeys parts (insert_entry same_key es key m)
  keys_set parts q key m [] at all = (is_key q parts key at, tt)
  keys_set parts q key m (e ∷ es) at all =
      keys_by (same_key key e.0) key m e es (insert_entry same_key es key m) parts all (keys_set parts q key m es at all.1)

  put_by : (b : Bool) (q : List ℕ) (m : M) (e : List ℕ × M) (es rest : List (List ℕ × M)) → (b || is_declared q es) ≡ false
      → (is_declared q es ≡ false → rest ≡ es ++ (q, m) ∷ [])
      → (if b then (e.0, m) ∷ es else e ∷ rest) ≡ e ∷ (es ++ (q, m) ∷ [])
  put_by true q m e es rest h f = absurd cc
  put_by false q m e es rest h f = ap (λ z. e ∷ z) (f h)

  -- a name that is not declared is put after the others
  put_last : (q : List ℕ) (m : M) (es : List (List ℕ × M)) → is_declared q es ≡ false → put q m es ≡ es ++ (q, m) ∷ []
  put_last q m [] h = refl
  put_last q m (e ∷ es) h = put_by (bytes_eq q e.0) q m e es (put q m es) h (put_last q m es)

  pub declared_is : (q : List ℕ) (es : List (List ℕ × M)) → is_some (meaning_of q es) ≡ is_declared q es
  declared_is q [] = refl
  declared_is q (e ∷ es) = some_either (bytes_eq q e.0) e.1 (meaning_of q es) ∙ ap (λ z. bytes_eq q e.0 || z) (declared_is q es) where
    some_either : (b : Bool) (m : M) (o : Option M) → is_some (cond b (Some m) o) ≡ (b || is_some o)
    some_either true m o = refl
    some_either false m o = refl

-- ---- lines

-- the line of a scope by its number
lookup_is : (parts : Parts) (place : ℕ) (lines : List (ℕ × List ℕ)) → IsPlace parts place → AreLines parts lines
    → meaning_of (scope_of parts place) (by_lines parts lines) ≡ option_map (map (scope_of parts)) (lookup (λ k. place == k) lines)
lookup_is parts place [] is all = refl
lookup_is parts place (l ∷ lines) is all =
    ap (λ b. cond b (Some (map (scope_of parts) l.1)) (meaning_of (scope_of parts place) (by_lines parts lines)))
    (place_same parts place l.0 is all.0)
    ∙ either (place == l.0) l.1 (lookup (λ k. place == k) lines) _ (lookup_is parts place lines is all.2) where
      either : (b : Bool) (line : List ℕ) (o : Option (List ℕ)) (p : Option (List (List ℕ))) → p ≡ option_map (map (scope_of parts)) o
          → cond b (Some (map (scope_of parts) line)) p ≡ option_map (map (scope_of parts)) (cond b (Some line) o)
      either true line o p h = refl
      either false line o p h = h

-- the scopes in which a name of a scope is found, by their numbers
pub line_is : (parts : Parts) (place : ℕ) (lines : List (ℕ × List ℕ)) → IsPlace parts place → AreLines parts lines
    → map (scope_of parts) (line_at place lines)
    ≡ unwrap_or (meaning_of (scope_of parts place) (by_lines parts lines)) (scope_of parts place ∷ [])
line_is parts place lines is all =
    at_or (lookup (λ k. place == k) lines)
    ∙ ap (λ o. unwrap_or o (scope_of parts place ∷ [])) (sym (lookup_is parts place lines is all)) where
      at_or : (o : Option (List ℕ)) → map (scope_of parts) (unwrap_or o (place ∷ []))
          ≡ unwrap_or (option_map (map (scope_of parts)) o) (scope_of parts place ∷ [])
      at_or None = refl
      at_or (Some line) = refl

-- a line has numbers of scopes
pub line_places : (parts : Parts) (place : ℕ) (lines : List (ℕ × List ℕ)) → IsPlace parts place → AreLines parts lines
    → ArePlaces parts (line_at place lines)
line_places parts place [] is all = (is, tt)
line_places parts place (l ∷ lines) is all = by (place == l.0) (line_places parts place lines is all.2) where
  by : (b : Bool) → ArePlaces parts (line_at place lines)
      → ArePlaces parts (unwrap_or (cond b (Some l.1) (lookup (λ k. place == k) lines)) (place ∷ []))
  by true h = all.1
  by false h = h

any_is : (parts : Parts) (place : ℕ) (line : List ℕ) → IsPlace parts place → ArePlaces parts line
    → has (scope_of parts place) (map (scope_of parts) line) ≡ list_any (λ k. k == place) line
any_is parts place [] is all = refl
any_is parts place (k ∷ line) is all =
    ap (λ b. b || has (scope_of parts place) (map (scope_of parts) line)) (place_same parts place k is all.0 ∙ turned place k)
    ∙ ap (λ z. (k == place) || z) (any_is parts place line is all.1) where
      turned : (a b : ℕ) → (a == b) ≡ (b == a)
      turned a b = grind arith

more_places : (parts : Parts) (line : List ℕ) (place : ℕ) → ArePlaces parts line → IsPlace parts place
    → ArePlaces parts (line ++ place ∷ [])
more_places parts [] place all is = (is, tt)
more_places parts (k ∷ line) place all is = (all.0, more_places parts line place all.1 is)

added_places : (parts : Parts) (place : ℕ) (line : List ℕ) → IsPlace parts place → ArePlaces parts line
    → ArePlaces parts (added_place place line)
added_places parts place line is all = by (list_any (λ k. k == place) line) where
  by : (b : Bool) → ArePlaces parts (if b then line else line ++ place ∷ [])
  by true = all
  by false = more_places parts line place all is

added_is : (parts : Parts) (place : ℕ) (line : List ℕ) → IsPlace parts place → ArePlaces parts line
    → map (scope_of parts) (added_place place line) ≡ added (scope_of parts place) (map (scope_of parts) line)
added_is parts place line is all =
    by (list_any (λ k. k == place) line)
    ∙ ap (λ b. if b then map (scope_of parts) line else map (scope_of parts) line ++ scope_of parts place ∷ [])
    (sym (any_is parts place line is all)) where
      by : (b : Bool) → map (scope_of parts) (if b then line else line ++ place ∷ [])
          ≡ (if b then map (scope_of parts) line else map (scope_of parts) line ++ scope_of parts place ∷ [])
      by true = refl
      by false = append_map (scope_of parts) line place

joined_is : (parts : Parts) (line places : List ℕ) → ArePlaces parts line → ArePlaces parts places
    → map (scope_of parts) (joined_places line places) ≡ joined (map (scope_of parts) line) (map (scope_of parts) places)
joined_is parts line [] all more = refl
joined_is parts line (place ∷ places) all more =
    joined_is parts (added_place place line) places (added_places parts place line more.0 all) more.1
    ∙ ap (λ z. joined z (map (scope_of parts) places)) (added_is parts place line more.0 all)

joined_all : (parts : Parts) (line places : List ℕ) → ArePlaces parts line → ArePlaces parts places
    → ArePlaces parts (joined_places line places)
joined_all parts line [] all more = all
joined_all parts line (place ∷ places) all more =
    joined_all parts (added_place place line) places (added_places parts place line more.0 all) more.1

abbrev lined : Parts → List ℕ → List ℕ → List ℕ × List (List ℕ)
lined parts scope line = (scope, map (scope_of parts) line)

-- lines once that of a scope is put
lines_set : (parts : Parts) (place : ℕ) (line : List ℕ) (lines : List (ℕ × List ℕ)) → IsPlace parts place → AreLines parts lines
    → by_lines parts (insert_entry nat_eq lines place line) ≡ put (scope_of parts place) (map (scope_of parts) line) (by_lines parts lines)
lines_set parts place line [] is all = refl
lines_set parts place line (l ∷ lines) is all =
    by (nat_eq place l.0) (lines_set parts place line lines is all.2)
    ∙ ap (λ b. if b then lined parts (scope_of parts l.0) line ∷ by_lines parts lines
    else lined parts (scope_of parts l.0) l.1 ∷ put (scope_of parts place) (map (scope_of parts) line) (by_lines parts lines))
    (sym (place_same parts place l.0 is all.0)) where
      by : (b : Bool)
          → by_lines parts (insert_entry nat_eq lines place line)
          ≡ put (scope_of parts place) (map (scope_of parts) line) (by_lines parts lines)
          → by_lines parts (if b then (l.0, line) ∷ lines else l ∷ insert_entry nat_eq lines place line)
          ≡ (if b then lined parts (scope_of parts l.0) line ∷ by_lines parts lines
          else lined parts (scope_of parts l.0) l.1 ∷ put (scope_of parts place) (map (scope_of parts) line) (by_lines parts lines))
      by true h = refl
      by false h = ap (λ z. lined parts (scope_of parts l.0) l.1 ∷ z) h

lines_all : (parts : Parts) (place : ℕ) (line : List ℕ) (lines : List (ℕ × List ℕ)) → IsPlace parts place → ArePlaces parts line
    → AreLines parts lines → AreLines parts (insert_entry nat_eq lines place line)
lines_all parts place line [] is more all = (is, more, tt)
lines_all parts place line (l ∷ lines) is more all = by (nat_eq place l.0) (lines_all parts place line lines is more all.2) where
  by : (b : Bool) → AreLines parts (insert_entry nat_eq lines place line)
      → AreLines parts (if b then (l.0, line) ∷ lines else l ∷ insert_entry nat_eq lines place line)
  by true h = (all.0, more, all.2)
  by false h = (all.0, all.1, h)

scopes_more : (old new : Parts) (line : List ℕ) → Extends old new → ArePlaces old line → map (scope_of new) line ≡ map (scope_of old) line
scopes_more old new [] more all = refl
scopes_more old new (place ∷ line) more all =
    ap (λ z. z ∷ map (scope_of new) line) (scope_more old new place more all.0)
    ∙ ap (λ z. scope_of old place ∷ z) (scopes_more old new line more all.1)

abbrev pair : List ℕ → List (List ℕ) → List ℕ × List (List ℕ)
pair scope line = (scope, line)

lines_more : (old new : Parts) (lines : List (ℕ × List ℕ)) → Extends old new → AreLines old lines → by_lines new lines ≡ by_lines old lines
lines_more old new [] more all = refl
lines_more old new (l ∷ lines) more all =
    ap (λ z. pair z (map (scope_of new) l.1) ∷ by_lines new lines) (scope_more old new l.0 more all.0)
    ∙ ap (λ z. pair (scope_of old l.0) z ∷ by_lines new lines) (scopes_more old new l.1 more all.1)
    ∙ ap (λ z. pair (scope_of old l.0) (map (scope_of old) l.1) ∷ z) (lines_more old new lines more all.2)

lines_kept : (old new : Parts) (lines : List (ℕ × List ℕ)) → Extends old new → AreLines old lines → AreLines new lines
lines_kept old new [] more all = tt
lines_kept old new (l ∷ lines) more all =
    (place_more old new l.0 more all.0, places_more old new l.1 more all.1, lines_kept old new lines more all.2)

-- ---- scopes around a place

-- all but the last of the scopes around a place, and that
split_env : (env : List Around) (n : ℕ) (a : Around) → a ≡ get_or env n a → n + 1 ≡ length env → env ≡ take n env ++ a ∷ []
split_env [] n a at e = absurd (omega (arith, e))
split_env (x ∷ []) zero a at e = ap (λ z. z ∷ []) (sym at)
split_env (x ∷ y ∷ env) zero a at e = absurd (omega (arith, e))
split_env (x ∷ env) (suc n) a at e = ap (λ z. x ∷ z) (split_env env n a at (omega (arith, e)))

split_last : (env : List Around) (a : Around) → Some a ≡ slice_get env (length env - 1) → env ≡ take (length env - 1) env ++ a ∷ []
split_last [] a at = absurd cc
split_last (x ∷ env) a at =
    split_env (x ∷ env) (length (x ∷ env) - 1) a
    (ap (λ (o : Option Around). unwrap_or o a) at ∙ unwrap_or-slice_get (x ∷ env) (length (x ∷ env) - 1) a) (omega arith)

-- the innermost of the scopes around a place is the last
pub around_last : (env : List Around) (a : Around) → scopes_around (env ++ a ∷ []) ≡ a.scope ∷ scopes_around env
around_last env a =
    ap reverse (append_map (λ (a : Around). a.scope) env a)
    ∙ reverse-append (map (λ (a : Around). a.scope) env) (a.scope ∷ [])

pub around_parts : (parts : Parts) (env : List Around) (a : Around) → AreAround parts (env ++ a ∷ [])
    → AreAround parts env × (IsPlace parts a.place × (scope_of parts a.place ≡ a.scope))
around_parts parts [] a all = (tt, (all.0, all.1))
around_parts parts (x ∷ env) a all =
    let rest = around_parts parts env a all.2 in ((all.0, all.1, rest.0), rest.1)

around_next : (parts : Parts) (env : List Around) (a : Around) → AreAround parts env → IsPlace parts a.place
    → scope_of parts a.place ≡ a.scope → AreAround parts (env ++ a ∷ [])
around_next parts [] a all is same = (is, same, tt)
around_next parts (x ∷ env) a all is same = (all.0, all.1, around_next parts env a all.2 is same)

around_kept : (old new : Parts) (env : List Around) → Extends old new → AreAround old env → AreAround new env
around_kept old new [] more all = tt
around_kept old new (a ∷ env) more all =
    (place_more old new a.place more all.0, scope_more old new a.place more all.0 ∙ all.1, around_kept old new env more all.2)

-- the scopes around a place without some of the last
pub around_front : (parts : Parts) (env rest : List Around) → AreAround parts (env ++ rest) → AreAround parts env
around_front parts [] rest all = tt
around_front parts (a ∷ env) rest all = (all.0, all.1, around_front parts env rest all.2)

-- ---- names of more parts

module _ (old new : Parts) (table : List (Key × Meaning)) (folded : List (Key × Unit {0})) (lines : List (ℕ × List ℕ)) (env : List Around)
    (more : Extends old new) (all : AreHeld old table folded lines env) where
  pub held_kept : AreHeld new table folded lines env
  held_kept = record {
    table_keys = are_more old new (map (λ e. e.0) table) more all.table_keys;
    folded_keys = are_more old new (map (λ e. e.0) folded) more all.folded_keys;
    line_places = lines_kept old new lines more all.line_places;
    around = around_kept old new env more all.around;
  }

  pub names_kept : names_by new table folded lines env ≡ names_by old table folded lines env
  names_kept =
      ap (λ z. now z (map (λ e. e.0) (by_names new folded)) (by_lines new lines)) (names_more old new table more all.table_keys)
      ∙ ap (λ z. now (by_names old table) (map (λ (e : List ℕ × Unit {0}). e.0) z) (by_lines new lines))
      (names_more old new folded more all.folded_keys)
      ∙ ap (now (by_names old table) (map (λ e. e.0) (by_names old folded))) (lines_more old new lines more all.line_places) where
        now : List (List ℕ × Meaning) → List (List ℕ) → List (List ℕ × List (List ℕ)) → Names
        now meanings small all = record { meanings = meanings; folded = small; lines = all; env = scopes_around env }

-- a name in one scope
pub first_alone : (s : Names) (name scope : List ℕ) (line : List (List ℕ)) → scope ∷ [] ≡ line
    → entry_at s (scope ++ name) ≡ first_in s name line
first_alone s name scope line same = or_none (entry_at s (scope ++ name)) ∙ ap (first_in s name) same where
  or_none : (o : Option Entry) → o ≡ option_or o None
  or_none None = refl
  or_none (Some e) = refl

-- a scope that is missing has no line
no_line : (parts : Parts) (scope : List ℕ) (lines : List (ℕ × List ℕ)) → None ≡ number_of scope parts.prefixes → AreLines parts lines
    → meaning_of scope (by_lines parts lines) ≡ None
no_line parts scope [] none all = refl
no_line parts scope (l ∷ lines) none all =
    let other : bytes_eq scope (scope_of parts l.0) ≡ false =
    false_from_ne_true (bytes_eq scope (scope_of parts l.0))
    (λ t. none-some l.0 (none ∙ ap (λ z. number_of z parts.prefixes) ((bytes_eq-Decides scope (scope_of parts l.0)).0 t) ∙ all.0)) in
    ap (λ b. cond b (Some (map (scope_of parts) l.1)) (meaning_of scope (by_lines parts lines))) other
    ∙ no_line parts scope lines none all.2

clash_by : (a b : Bool) → (if a then Some Twice else if b then Some CaseClash else None) ≡ None → (a ≡ false) × (b ≡ false)
clash_by true b h = absurd cc
clash_by false true h = absurd cc
clash_by false false h = (refl, refl)

-- names with one more by its key, which none of them has
held_next : {M : Type 0} (q : List ℕ) (parts : Parts) (key : Key) (m : M) (es held : List (Key × M)) (was : List (List ℕ × M))
    → by_names parts es ≡ was → AllKeys parts es → key_of q parts ≡ Some key → held ≡ insert_entry same_key es key m
    → is_declared q was ≡ false → by_names parts held ≡ was ++ (q, m) ∷ []
held_next q parts key m es held was same all at made none =
    ap (by_names parts) made ∙ names_set parts q key m es at all ∙ ap (put q m) same ∙ put_last q m was none

-- ---- what is held, as it is seen

module _ (parts : Parts) (table : List (Key × Meaning)) (folded : List (Key × Unit {0})) (lines : List (ℕ × List ℕ)) (env : List Around)
    (now : Stored) (all : AreHeld parts table folded lines env)
    (view : record { parts = parts; names = names_by parts table folded lines env } ≡ now) where
  abbrev was : Stored
  was = record { parts = parts; names = names_by parts table folded lines env }

  -- the innermost scope is the last
  pub place_seen : (ds : List Around) (a : Around) → ds ≡ env → Some a ≡ slice_get ds (length ds - 1)
      → IsPlace now.parts a.place × (scope_of now.parts a.place ≡ here now.names)
  place_seen ds a same at =
      let whole : env ≡ take (length ds - 1) ds ++ a ∷ [] = sym same ∙ split_last ds a at in
      let rest = around_parts parts (take (length ds - 1) ds) a (subst (AreAround parts) whole all.around) in
      subst (λ (s : Stored). IsPlace s.parts a.place × (scope_of s.parts a.place ≡ here s.names)) view
      (rest.1.0, rest.1.1 ∙ sym (ap innermost (ap scopes_around whole ∙ around_last (take (length ds - 1) ds) a)))

  module _ (place : ℕ) (name : List ℕ) where
    abbrev full : List ℕ
    full = scope_of parts place ++ name

    abbrev entry : Option Entry
    entry = entry_at now.names (scope_of now.parts place ++ name)

    same_entry : entry_at was.names full ≡ entry
    same_entry = ap (λ (s : Stored). entry_at s.names (scope_of s.parts place ++ name)) view

    abbrev entry_of_name : Option Meaning → Option Entry
    entry_of_name o = option_map (λ m. record { name = full; meaning = m }) o

    pub at_no_key : None ≡ key_of full parts → None ≡ entry
    at_no_key none =
        sym (ap entry_of_name (none_is parts full table (sym none) all.table_keys)) ∙ same_entry

    pub at_no_meaning : (key : Key) → Some key ≡ key_of full parts → None ≡ held_at key table → None ≡ entry
    at_no_meaning key at none =
        ap entry_of_name (none ∙ held_is parts full key table (sym at) all.table_keys) ∙ same_entry

    pub at_is : (key : Key) (m : Meaning) → Some key ≡ key_of full parts → Some m ≡ held_at key table
        → Some (entry_of now.parts (record { key = key; meaning = m })) ≡ entry
    at_is key m at held =
        sym (ap (λ (s : Stored). Some (entry_of s.parts (record { key = key; meaning = m }))) view)
        ∙ ap (λ z. entry_with z m) (full_is full parts key (sym at))
        ∙ ap entry_of_name (held ∙ held_is parts full key table (sym at) all.table_keys) ∙ same_entry where
          entry_with : List ℕ → Meaning → Option Entry
          entry_with name m = Some (record { name = name; meaning = m })

    pub at_key : (key : Key) → Some key ≡ key_of full parts → IsKey now.parts key
    at_key key at = subst (λ (s : Stored). IsKey s.parts key) view (is_key full parts key (sym at))

    -- whether a name of a scope is declared
    pub has_seen : (key : Key) → Some key ≡ key_of full parts
        → is_some (held_at key table) ≡ is_declared (scope_of now.parts place ++ name) now.names.meanings
    has_seen key at =
        ap is_some (held_is parts full key table (sym at) all.table_keys) ∙ declared_is full (by_names parts table)
        ∙ ap (λ (s : Stored). is_declared (scope_of s.parts place ++ name) s.names.meanings) view

    pub has_none : None ≡ key_of full parts → false ≡ is_declared (scope_of now.parts place ++ name) now.names.meanings
    has_none none =
        sym (ap is_some (none_is parts full table (sym none) all.table_keys)) ∙ declared_is full (by_names parts table)
        ∙ ap (λ (s : Stored). is_declared (scope_of s.parts place ++ name) s.names.meanings) view

    -- whether a name of a scope is declared, in lower case
    pub small_seen : (key : Key) → Some key ≡ key_of full parts
        → is_some (held_at key folded) ≡ has (scope_of now.parts place ++ name) now.names.folded
    small_seen key at =
        ap is_some (held_is parts full key folded (sym at) all.folded_keys) ∙ declared_is full (by_names parts folded)
        ∙ ap (λ (s : Stored). has (scope_of s.parts place ++ name) s.names.folded) view

    pub small_none : None ≡ key_of full parts → false ≡ has (scope_of now.parts place ++ name) now.names.folded
    small_none none =
        sym (ap is_some (none_is parts full folded (sym none) all.folded_keys)) ∙ declared_is full (by_names parts folded)
        ∙ ap (λ (s : Stored). has (scope_of s.parts place ++ name) s.names.folded) view

  -- the line of a scope
  pub line_seen : (place : ℕ) (line : List ℕ) → IsPlace now.parts place → Some line ≡ lookup (λ k. place == k) lines
      → ArePlaces now.parts line × (map (scope_of now.parts) line ≡ line_of (scope_of now.parts place) now.names)
  line_seen place line is at =
      subst (λ (s : Stored). IsPlace s.parts place
      → ArePlaces s.parts line × (map (scope_of s.parts) line ≡ line_of (scope_of s.parts place) s.names)) view
      (λ here.
      let same : line_at place lines ≡ line = ap (λ o. unwrap_or o (place ∷ [])) (sym at) in (
        subst (ArePlaces parts) same (line_places parts place lines here all.line_places),
        ap (map (scope_of parts)) (sym same) ∙ line_is parts place lines here all.line_places,
      )) is

  pub no_line_seen : (place : ℕ) → IsPlace now.parts place → None ≡ lookup (λ k. place == k) lines
      → scope_of now.parts place ∷ [] ≡ line_of (scope_of now.parts place) now.names
  no_line_seen place is none =
      subst (λ (s : Stored). IsPlace s.parts place → scope_of s.parts place ∷ [] ≡ line_of (scope_of s.parts place) s.names) view
      (λ here.
      let same : line_at place lines ≡ place ∷ [] = ap (λ o. unwrap_or o (place ∷ [])) (sym none) in
      ap (map (scope_of parts)) (sym same) ∙ line_is parts place lines here all.line_places) is

  -- nothing is found in a scope that is missing
  pub not_found : (scope name : List ℕ) → None ≡ number_of scope parts.prefixes → key_of (scope ++ name) parts ≡ None
      → None ≡ found now.names scope name
  not_found scope name missing none =
      sym (ap (entry_with scope name) (none_is parts (scope ++ name) table none all.table_keys))
      ∙ first_alone was.names name scope (line_of scope was.names)
      (ap (λ o. unwrap_or o (scope ∷ [])) (sym (no_line parts scope lines missing all.line_places)))
      ∙ ap (λ (s : Stored). found s.names scope name) view where
        entry_with : List ℕ → List ℕ → Option Meaning → Option Entry
        entry_with scope name o = option_map (λ m. record { name = scope ++ name; meaning = m }) o

  -- the scopes around a place inside
  module _ (new : Parts) (name text : List ℕ) (place inner : ℕ) (env' : List Around)
      (puts : PutsScope (prefix_of (scope_of parts place ++ name)) parts new inner) (same : scope_of now.parts place ≡ here now.names)
      (is : text ≡ prefix_of (here now.names ++ name)) (made : env' ≡ env ++ record { scope = text; place = inner } ∷ []) where
    abbrev inmost : Around
    inmost = record { scope = text; place = inner }

    pub inside_held : AreHeld new table folded lines env'
    inside_held =
        let kept = held_kept parts new table folded lines env puts.more all in
        let text_is : scope_of new inner ≡ text =
        scope_is (prefix_of (scope_of parts place ++ name)) new inner puts.at
        ∙ ap (λ (s : Stored). prefix_of (scope_of s.parts place ++ name)) view ∙ ap (λ z. prefix_of (z ++ name)) same ∙ sym is in
        record {
          table_keys = kept.table_keys;
          folded_keys = kept.folded_keys;
          line_places = kept.line_places;
          around =
              subst (AreAround new) (sym made)
              (around_next new env inmost kept.around (is_place (prefix_of (scope_of parts place ++ name)) new inner puts.at) text_is);
        }

    pub inside_names : names_by new table folded lines env' ≡ entered name now.names
    inside_names =
        ap (λ (s : Names). with_env s (scopes_around env')) (names_kept parts new table folded lines env puts.more all)
        ∙ ap (λ (s : Stored). with_env s.names (scopes_around env')) view
        ∙ ap (with_env now.names)
        (ap scopes_around made ∙ around_last env inmost ∙ ap (λ z. z ∷ scopes_around env) is
        ∙ ap (λ (s : Stored). prefix_of (here now.names ++ name) ∷ s.names.env) view) where
          with_env : Names → List (List ℕ) → Names
          with_env s scopes = record s { env = scopes }

  -- the line of one more base
  module _ (new : Parts) (name : List ℕ) (place inner base : ℕ) (key : Key) (lines' : List (ℕ × List ℕ))
      (puts : PutsScopes (prefix_of (scope_of parts place ++ name)) (prefix_of (full_of parts key)) parts new inner base)
      (same : scope_of now.parts place ≡ here now.names)
      (made : lines' ≡ insert_entry nat_eq lines inner (joined_places (line_at inner lines) (line_at base lines))) where
    abbrev scope : List ℕ
    scope = prefix_of (scope_of parts place ++ name)

    abbrev text : List ℕ
    text = prefix_of (full_of parts key)

    abbrev kept : AreHeld new table folded lines env
    kept = held_kept parts new table folded lines env puts.more all

    inner_place : IsPlace new inner
    inner_place = is_place scope new inner puts.at

    base_place : IsPlace new base
    base_place = is_place text new base puts.at_other

    inner_line : ArePlaces new (line_at inner lines)
    inner_line = line_places new inner lines inner_place kept.line_places

    base_line : ArePlaces new (line_at base lines)
    base_line = line_places new base lines base_place kept.line_places

    pub base_held : AreHeld new table folded lines' env
    base_held = record {
      table_keys = kept.table_keys;
      folded_keys = kept.folded_keys;
      line_places =
          subst (AreLines new) (sym made)
          (lines_all new inner (joined_places (line_at inner lines) (line_at base lines)) lines inner_place
          (joined_all new (line_at inner lines) (line_at base lines) inner_line base_line) kept.line_places);
      around = kept.around;
    }

    lines_with_base : by_lines new lines' ≡ (with_base scope text (names_by new table folded lines env)).lines
    lines_with_base =
        let inner_is = scope_is scope new inner puts.at in
        let base_is = scope_is text new base puts.at_other in
        ap (by_lines new) made
        ∙ lines_set new inner (joined_places (line_at inner lines) (line_at base lines)) lines inner_place kept.line_places
        ∙ ap (λ z. put (scope_of new inner) z (by_lines new lines))
        (joined_is new (line_at inner lines) (line_at base lines) inner_line base_line
        ∙ ap (λ z. joined z (map (scope_of new) (line_at base lines))) (line_is new inner lines inner_place kept.line_places)
        ∙ ap (joined (line_of (scope_of new inner) (names_by new table folded lines env)))
        (line_is new base lines base_place kept.line_places))
        ∙ ap (λ z. put z (joined (line_of z (names_by new table folded lines env))
        (line_of (scope_of new base) (names_by new table folded lines env))) (by_lines new lines)) inner_is
        ∙ ap (λ z. put scope (joined (line_of scope (names_by new table folded lines env))
        (line_of z (names_by new table folded lines env))) (by_lines new lines)) base_is

    pub base_names : names_by new table folded lines' env
        ≡ with_base (prefix_of (here now.names ++ name)) (prefix_of (full_of now.parts key)) now.names
    base_names =
        ap (with_lines (names_by new table folded lines env)) lines_with_base
        ∙ ap (with_base scope text) (names_kept parts new table folded lines env puts.more all)
        ∙ ap (λ (s : Stored). with_base (prefix_of (scope_of s.parts place ++ name)) (prefix_of (full_of s.parts key)) s.names) view
        ∙ ap (λ z. with_base (prefix_of (z ++ name)) (prefix_of (full_of now.parts key)) now.names) same where
          with_lines : Names → List (List ℕ × List (List ℕ)) → Names
          with_lines s all = record s { lines = all }

  -- one more name in a scope
  module _ (new : Parts) (name other : List ℕ) (place : ℕ) (key below : Key) (m : Meaning)
      (table' : List (Key × Meaning)) (folded' : List (Key × Unit {0}))
      (puts : PutsBoth (scope_of parts place ++ name) (scope_of parts place ++ other) parts new key below)
      (same : scope_of now.parts place ≡ here now.names) (small : other ≡ lower name)
      (made : table' ≡ insert_entry same_key table key m) (made' : folded' ≡ insert_entry same_key folded below tt) where
    scope_here : scope_of parts place ≡ here now.names
    scope_here = ap (λ (s : Stored). scope_of s.parts place) view ∙ same

    pub declared_held : AreHeld new table' folded' lines env
    declared_held =
        let kept = held_kept parts new table folded lines env puts.more all in
        record {
          table_keys =
              subst (AllKeys new) (sym made) (keys_set new (scope_of parts place ++ name) key m table puts.at_full kept.table_keys);
          folded_keys =
              subst (AllKeys new) (sym made') (keys_set new (scope_of parts place ++ other) below tt folded puts.at_other kept.folded_keys);
          line_places = kept.line_places;
          around = kept.around;
        }

    pub declared_names : clash now.names name ≡ None → names_by new table' folded' lines env ≡ declared name m now.names
    declared_names none =
        let kept = held_kept parts new table folded lines env puts.more all in
        let seen : names_by new table folded lines env ≡ now.names =
        names_kept parts new table folded lines env puts.more all ∙ ap (λ (s : Stored). s.names) view in
        let free =
        clash_by (is_declared (here now.names ++ name) now.names.meanings) (has (here now.names ++ lower name) now.names.folded) none in
        let full : scope_of parts place ++ name ≡ here now.names ++ name = ap (λ z. z ++ name) scope_here in
        let full' : scope_of parts place ++ other ≡ here now.names ++ lower name =
        ap (λ z. z ++ other) scope_here ∙ ap (λ z. here now.names ++ z) small in
        let meanings : by_names new table' ≡ now.names.meanings ++ (here now.names ++ name, m) ∷ [] =
        held_next (here now.names ++ name) new key m table table' now.names.meanings (ap (λ (s : Names). s.meanings) seen) kept.table_keys
        (ap (λ z. key_of z new) (sym full) ∙ puts.at_full) made free.0 in
        let names : by_names new folded' ≡ by_names new folded ++ (here now.names ++ lower name, tt) ∷ [] =
        held_next (here now.names ++ lower name) new below tt folded folded' (by_names new folded) refl kept.folded_keys
        (ap (λ z. key_of z new) (sym full') ∙ puts.at_other) made'
        (ap (λ (s : Names). has (here now.names ++ lower name) s.folded) seen ∙ free.1) in
        let folds : map (λ e. e.0) (by_names new folded') ≡ now.names.folded ++ (here now.names ++ lower name) ∷ [] =
        ap (map (λ (e : List ℕ × Unit {0}). e.0)) names
        ∙ append_map (λ (e : List ℕ × Unit {0}). e.0) (by_names new folded) (here now.names ++ lower name, tt)
        ∙ ap (λ (s : Names). s.folded ++ (here now.names ++ lower name) ∷ []) seen in
        ap (λ z. with_both z (map (λ e. e.0) (by_names new folded')) (names_by new table folded lines env)) meanings
        ∙ ap (λ z. with_both (now.names.meanings ++ (here now.names ++ name, m) ∷ []) z (names_by new table folded lines env)) folds
        ∙ ap (with_both (now.names.meanings ++ (here now.names ++ name, m) ∷ []) (now.names.folded ++ (here now.names ++ lower name) ∷ []))
        seen where
          with_both : List (List ℕ × Meaning) → List (List ℕ) → Names → Names
          with_both meanings folded s = record s { meanings = meanings; folded = folded }

-- ---- what is sought from a place

-- a name is sought in the innermost scope, and then outwards
module _ (s : Names) (parts : Parts) (env : List Around) (n : ℕ) (a : Around) (name : List ℕ) (at : a ≡ get_or env n a)
    (e : n + 1 ≡ length env) (all : AreAround parts env) where
  whole : env ≡ take n env ++ a ∷ []
  whole = split_env env n a at e

  pub outer_is : AreAround parts (take n env)
  outer_is = (around_parts parts (take n env) a (subst (AreAround parts) whole all)).0

  pub last_is : IsPlace parts a.place
  last_is = (around_parts parts (take n env) a (subst (AreAround parts) whole all)).1.0

  pub sought_last : option_or (found s (scope_of parts a.place) name) (sought s (scopes_around (take n env)) name)
      ≡ sought s (scopes_around env) name
  sought_last =
      ap (λ z. option_or (found s z name) (sought s (scopes_around (take n env)) name))
      (around_parts parts (take n env) a (subst (AreAround parts) whole all)).1.1
      ∙ sym (ap (λ z. sought s z name) (ap scopes_around whole ∙ around_last (take n env) a))

pub sought_file : (s : Names) (env : List Around) (name : List ℕ) → length env < 1 → found s [] name ≡ sought s (scopes_around env) name
sought_file s [] name h = refl
sought_file s (a ∷ env) name h = absurd (omega (arith, h))
