-- What holds of everything that names stand for, by induction on the names.
use Rattle.std.proofs.Common.{ℕ, Bool, true, false, List, [], ◌∷◌, ◌++◌, Option, Some, None}
use Rattle.std.specs.Prelude.{cond}
use Rattle.std.specs.Option.{option_or, option_map}
use Rattle.std.specs.Str.{bytes_eq}
use Rattle.idl_exprs.specs.declared.tree.Identifier.{Identifier}
use Rattle.idl_exprs.specs.declared.tree.ScopedName.{ScopedName}
use Rattle.corba_scopes.specs.declared.meanings.Meaning.{Meaning}
use Rattle.corba_scopes.specs.Around.{prefix_of}
use Rattle.idl_names.specs.Names.{meaning_of}
use Rattle.corba_scopes.specs.Names.{Names, Meanings, here, declared}
use Rattle.corba_scopes.specs.Finding.{Entry, line_of, entry_at, first_in, found, sought, within, first, parts_named, named, meaning}

-- every meaning is so
abbrev pub AllMeanings : (Meaning → Type 0) → Meanings → Type 0
AllMeanings P [] = Unit {0}
AllMeanings P (e ∷ es) = P e.1 × AllMeanings P es

-- a meaning, if there is one, is so
abbrev pub IfMeaning : (Meaning → Type 0) → Option Meaning → Type 0
IfMeaning P None = Unit {0}
IfMeaning P (Some m) = P m

-- the meaning of what is found is so
abbrev pub IfFound : (Meaning → Type 0) → Option Entry → Type 0
IfFound P None = Unit {0}
IfFound P (Some e) = P e.meaning

module _ (P : Meaning → Type 0) where
  meaning_by : (b : Bool) (m : Meaning) (o : Option Meaning) → P m → IfMeaning P o → IfMeaning P (cond b (Some m) o)
  meaning_by true m o h r = h
  meaning_by false m o h r = r

  -- what is looked up
  pub meaning_is : (name : List ℕ) (es : Meanings) → AllMeanings P es → IfMeaning P (meaning_of name es)
  meaning_is name [] h = tt
  meaning_is name (e ∷ es) h = meaning_by (bytes_eq name e.0) e.1 (meaning_of name es) h.0 (meaning_is name es h.1)

  entry_by : (full : List ℕ) (o : Option Meaning) → IfMeaning P o → IfFound P (option_map (λ m. record { name = full; meaning = m }) o)
  entry_by full None h = tt
  entry_by full (Some m) h = h

  entry_is : (s : Names) (full : List ℕ) → AllMeanings P s.meanings → IfFound P (entry_at s full)
  entry_is s full h = entry_by full (meaning_of full s.meanings) (meaning_is full s.meanings h)

  either_is : (a b : Option Entry) → IfFound P a → IfFound P b → IfFound P (option_or a b)
  either_is None b h r = r
  either_is (Some e) b h r = h

  first_is : (s : Names) (name : List ℕ) (scopes : List (List ℕ)) → AllMeanings P s.meanings → IfFound P (first_in s name scopes)
  first_is s name [] h = tt
  first_is s name (scope ∷ scopes) h =
      either_is (entry_at s (scope ++ name)) (first_in s name scopes) (entry_is s (scope ++ name) h) (first_is s name scopes h)

  -- what is found in a scope
  pub found_is : (s : Names) (scope name : List ℕ) → AllMeanings P s.meanings → IfFound P (found s scope name)
  found_is s scope name h = first_is s name (line_of scope s) h

  -- what is sought from a place
  pub sought_is : (s : Names) (env : List (List ℕ)) (name : List ℕ) → AllMeanings P s.meanings → IfFound P (sought s env name)
  sought_is s [] name h = found_is s [] name h
  sought_is s (scope ∷ env) name h = either_is (found s scope name) (sought s env name) (found_is s scope name h) (sought_is s env name h)

  within_is : (s : Names) (o : Option Entry) (parts : List Identifier)
      → AllMeanings P s.meanings → IfFound P o → IfFound P (within s o parts)
  within_is s None [] h r = tt
  within_is s None (part ∷ parts) h r = tt
  within_is s (Some e) [] h r = r
  within_is s (Some e) (part ∷ parts) h r =
      within_is s (found s (prefix_of e.name) part.name) parts h (found_is s (prefix_of e.name) part.name h)

  begins_is : (s : Names) (absolute : Bool) (name : List ℕ) → AllMeanings P s.meanings → IfFound P (first s absolute name)
  begins_is s true name h = found_is s [] name h
  begins_is s false name h = sought_is s s.env name h

  parts_are : (s : Names) (absolute : Bool) (parts : List Identifier)
      → AllMeanings P s.meanings → IfFound P (parts_named s absolute parts)
  parts_are s absolute [] h = tt
  parts_are s absolute (part ∷ parts) h = within_is s (first s absolute part.name) parts h (begins_is s absolute part.name h)

  stands_for : (e : Option Entry) → IfFound P e → IfMeaning P (meaning e)
  stands_for None h = tt
  stands_for (Some e) h = h

  -- what a scoped name stands for
  pub named_is : (s : Names) (n : ScopedName) → AllMeanings P s.meanings → IfMeaning P (meaning (named s n))
  named_is s n h = stands_for (named s n) (parts_are s n.absolute n.parts h)

  -- one more meaning
  pub all_push : (es : Meanings) (e : List ℕ × Meaning) → AllMeanings P es → P e.1 → AllMeanings P (es ++ e ∷ [])
  all_push [] e h m = (m, tt)
  all_push (x ∷ xs) e h m = (h.0, all_push xs e h.1 m)

  -- a name that is declared
  pub all_declared : (name : List ℕ) (m : Meaning) (s : Names)
      → AllMeanings P s.meanings → P m → AllMeanings P (declared name m s).meanings
  all_declared name m s h r = all_push s.meanings (here s ++ name, m) h r

-- what follows from what holds of every meaning
pub all_follow : (P Q : Meaning → Type 0) (es : Meanings) → ((m : Meaning) → P m → Q m) → AllMeanings P es → AllMeanings Q es
all_follow P Q [] f h = tt
all_follow P Q (e ∷ es) f h = (f e.1 h.0, all_follow P Q es f h.1)
