-- What the names of a file stand for, over the types so far.
use Rattle.std.proofs.Common.{◌≡◌, ℕ, ℤ, Bool, true, false, List, [], ◌∷◌, ◌++◌, length, Option, Some, refl, ap, subst, if◌then◌else◌}
use Rattle.std.specs.Prelude.{Ok}
use Rattle.std.specs.Str.{bytes_eq}
use Rattle.std.proofs.lemmas.Bool.{or_parts, or_from}
use Rattle.std.proofs.lemmas.Slice.Eq.{bytes_eq-Decides}
use Rattle.aoi.specs.declared.faults.NameFault.{NameFault}
use Rattle.aoi.specs.declared.faults.NameFault.TheVariants.{Twice}
use Rattle.aoi.specs.Shapes.{Shape}
use Rattle.idl_names.proofs.Parts.{then_ok, ok_same}
use Rattle.idl_names.proofs.Standing.{UseIs, FewerBelow, use_grow}
use Rattle.corba_scopes.specs.declared.meanings.Meaning.{Meaning}
use Rattle.corba_scopes.specs.declared.meanings.Meaning.TheVariants as M
use Rattle.idl_names.specs.Names.{is_declared}
use Rattle.corba_scopes.specs.Names.{Names, Meanings, here, clash, declared, declared_on, refused_by}
use Rattle.corba_scopes.proofs.Standing.{AllMeanings, all_follow, all_declared}

-- a type that a name stands for is one of those so far
abbrev pub MeaningIs : List Shape → List (ℕ × ℤ) → Meaning → Type 0
MeaningIs types labels (M.Type u c) = UseIs types labels u
MeaningIs types labels _ = Unit {0}

abbrev pub ScopeIs : List Shape → List (ℕ × ℤ) → Names → Type 0
ScopeIs types labels s = AllMeanings (MeaningIs types labels) s.meanings

meaning_grow : (types more : List Shape) (labels labels' : List (ℕ × ℤ)) → FewerBelow (length types) labels labels' → (m : Meaning)
    → MeaningIs types labels m → MeaningIs (types ++ more) labels' m
meaning_grow types more labels labels' fewer (M.Type u c) h = use_grow types more labels labels' u fewer h
meaning_grow types more labels labels' fewer (M.Number n) h = tt
meaning_grow types more labels labels' fewer M.Text h = tt
meaning_grow types more labels labels' fewer (M.Exception k) h = tt
meaning_grow types more labels labels' fewer (M.Interface k) h = tt
meaning_grow types more labels labels' fewer M.Module h = tt
meaning_grow types more labels labels' fewer M.Other h = tt

pub scope_grow : (types more : List Shape) (labels labels' : List (ℕ × ℤ)) (s : Names) → FewerBelow (length types) labels labels'
    → ScopeIs types labels s → ScopeIs (types ++ more) labels' s
scope_grow types more labels labels' s fewer h = all_follow (MeaningIs types labels) (MeaningIs (types ++ more) labels') s.meanings
    (meaning_grow types more labels labels' fewer) h

-- ---- a name that is declared

not_refused : (d : ℕ) (b : Bool) (o : Option NameFault) (x : Unit {0}) → refused_by d (if b then Some Twice else o) ≡ Ok x → b ≡ false
not_refused d true o x h = absurd cc
not_refused d false o x h = refl

-- a name that is not refused is not declared
pub is_new : (d : ℕ) (s : Names) (name : List ℕ) (x : Unit {0}) → refused_by d (clash s name) ≡ Ok x
    → is_declared (here s ++ name) s.meanings ≡ false
is_new d s name x h = not_refused d (is_declared (here s ++ name) s.meanings) _ x h

-- what a declaration makes of the names
pub record Declared (s : Names) (name : List ℕ) (m : Meaning) (out : Names) : Type 0 where
  pub new : is_declared (here s ++ name) s.meanings ≡ false
  pub same : declared name m s ≡ out

pub declared_ok : (d : ℕ) (s : Names) (name : List ℕ) (m : Meaning) (out : Names) → declared_on d s name m ≡ Ok out
    → Declared s name m out
declared_ok d s name m out h =
    let a = then_ok (refused_by d (clash s name)) _ out h in
    record { new = is_new d s name a.given a.first; same = ok_same (declared name m s) out a.rest }

pub declared_is : (types : List Shape) (labels : List (ℕ × ℤ)) (s : Names) (name : List ℕ) (m : Meaning) (out : Names)
    → ScopeIs types labels s → MeaningIs types labels m → Declared s name m out → ScopeIs types labels out
declared_is types labels s name m out is means h =
    subst (ScopeIs types labels) h.same (all_declared (MeaningIs types labels) name m s is means)

-- ---- what is not declared

-- what is not declared after one more name was not before, and is another
pub apart : (q other : List ℕ) (m : Meaning) (es : Meanings) → is_declared q (es ++ (other, m) ∷ []) ≡ false → (is_declared q es ≡ false)
    × (bytes_eq q other ≡ false)
apart q other m [] h = (refl, (or_parts _ _ h).0)
apart q other m (e ∷ es) h =
    let parts = or_parts _ _ h in
    let rest = apart q other m es parts.1 in
    (or_from _ _ parts.0 rest.0, rest.1)

differ_by : (scope a b : List ℕ) (t : Bool) → bytes_eq a b ≡ t → bytes_eq (scope ++ a) (scope ++ b) ≡ false → bytes_eq a b ≡ false
differ_by scope a b true e h =
    let same : scope ++ a ≡ scope ++ b = ap (λ z. scope ++ z) ((bytes_eq-Decides a b).0 e) in
    let is = (bytes_eq-Decides (scope ++ a) (scope ++ b)).1 same in
    absurd cc
differ_by scope a b false e h = e

-- names whose full names differ in one scope
pub differ : (scope a b : List ℕ) → bytes_eq (scope ++ a) (scope ++ b) ≡ false → bytes_eq a b ≡ false
differ scope a b h = differ_by scope a b (bytes_eq a b) refl h
