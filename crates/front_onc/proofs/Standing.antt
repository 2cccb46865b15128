-- What the names in a scope stand for, over the types so far, by induction on the scope.
use Rattle.std.proofs.Common.{◌≡◌, ℕ, ℤ, Bool, true, false, List, [], ◌∷◌, ◌++◌, length, Option, Some, None, subst}
use Rattle.std.specs.Prelude.{Ok, cond}
use Rattle.std.specs.Str.{bytes_eq}
use Rattle.aoi.specs.Shapes.{Shape}
use Rattle.onc_syntax.specs.declared.tree.TypeName.{TypeName}
use Rattle.onc_syntax.specs.declared.tree.TypeName.TheVariants as T
use Rattle.idl_names.specs.declared.uses.Use.{Use}
use Rattle.front_onc.specs.declared.meaning.Meaning.{Meaning}
use Rattle.front_onc.specs.declared.meaning.Meaning.TheVariants as M
use Rattle.idl_names.specs.Names.{meaning_of}
use Rattle.front_onc.specs.Names.{Scope, use_of, type_use}
use Rattle.idl_names.proofs.Parts.{ok_same}
use Rattle.idl_names.proofs.Standing.{UseIs, FewerBelow, use_grow}

abbrev pub MeaningIs : List Shape → List (ℕ × ℤ) → Meaning → Type 0
MeaningIs types labels (M.Type u) = UseIs types labels u
MeaningIs types labels _ = Unit {0}

abbrev pub ScopeIs : List Shape → List (ℕ × ℤ) → Scope → Type 0
ScopeIs types labels [] = Unit {0}
ScopeIs types labels (e ∷ es) = MeaningIs types labels e.1 × ScopeIs types labels es

-- ---- growing

meaning_grow : (types more : List Shape) (labels labels' : List (ℕ × ℤ)) (m : Meaning)
    → FewerBelow (length types) labels labels' → MeaningIs types labels m
    → MeaningIs (types ++ more) labels' m
meaning_grow types more labels labels' (M.Type u) fewer h = use_grow types more labels labels' u fewer h
meaning_grow types more labels labels' (M.Constant n) fewer h = tt
meaning_grow types more labels labels' M.Program fewer h = tt
meaning_grow types more labels labels' M.LeftOut fewer h = tt

pub scope_grow : (types more : List Shape) (labels labels' : List (ℕ × ℤ)) (scope : Scope)
    → FewerBelow (length types) labels labels' → ScopeIs types labels scope
    → ScopeIs (types ++ more) labels' scope
scope_grow types more labels labels' [] fewer h = tt
scope_grow types more labels labels' (e ∷ es) fewer h =
    (meaning_grow types more labels labels' e.1 fewer h.0, scope_grow types more labels labels' es fewer h.1)

pub scope_push : (types : List Shape) (labels : List (ℕ × ℤ)) (scope : Scope) (e : List ℕ × Meaning)
    → ScopeIs types labels scope → MeaningIs types labels e.1
    → ScopeIs types labels (scope ++ e ∷ [])
scope_push types labels [] e h m = (m, tt)
scope_push types labels (x ∷ xs) e h m = (h.0, scope_push types labels xs e h.1 m)

-- ---- looking up

abbrev pub MeaningAt : List Shape → List (ℕ × ℤ) → Option Meaning → Type 0
MeaningAt types labels None = Unit {0}
MeaningAt types labels (Some m) = MeaningIs types labels m

meaning_here : (types : List Shape) (labels : List (ℕ × ℤ)) (b : Bool) (m : Meaning) (o : Option Meaning)
    → MeaningIs types labels m → MeaningAt types labels o
    → MeaningAt types labels (cond b (Some m) o)
meaning_here types labels true m o h r = h
meaning_here types labels false m o h r = r

pub meaning_at : (types : List Shape) (labels : List (ℕ × ℤ)) (scope : Scope) (name : List ℕ) → ScopeIs types labels scope
    → MeaningAt types labels (meaning_of name scope)
meaning_at types labels [] name h = tt
meaning_at types labels (e ∷ es) name h = meaning_here types labels (bytes_eq name e.0) e.1 (meaning_of name es) h.0
    (meaning_at types labels es name h.1)

use_at : (types : List Shape) (labels : List (ℕ × ℤ)) (d : ℕ) (o : Option Meaning) (u : Use) → MeaningAt types labels o → use_of d o ≡ Ok u
    → UseIs types labels u
use_at types labels d None u m h = absurd cc
use_at types labels d (Some (M.Type v)) u m h = subst (UseIs types labels) (ok_same v u h) m
use_at types labels d (Some M.LeftOut) u m h = absurd cc
use_at types labels d (Some M.Program) u m h = absurd cc
use_at types labels d (Some (M.Constant n)) u m h = absurd cc

pub type_use_is : (types : List Shape) (labels : List (ℕ × ℤ)) (scope : Scope) (d : ℕ) (t : TypeName) (u : Use)
    → ScopeIs types labels scope → type_use scope d t ≡ Ok u
    → UseIs types labels u
type_use_is types labels scope d (T.Int unsigned word) u s h = subst (UseIs types labels) (ok_same _ u h) tt
type_use_is types labels scope d T.Unsigned u s h = subst (UseIs types labels) (ok_same _ u h) tt
type_use_is types labels scope d T.Bool u s h = subst (UseIs types labels) (ok_same _ u h) tt
type_use_is types labels scope d (T.Named prefix name) u s h =
    use_at types labels d (meaning_of name scope) u (meaning_at types labels scope name s) h
