-- What a name stands for in one scope before another, by induction on the scope.
use Rattle.std.proofs.Common.{◌≡◌, ℕ, List, [], ◌∷◌, ◌++◌, Bool, true, false, Option, Some, None, refl}
use Rattle.std.specs.Prelude.{cond}
use Rattle.std.specs.Str.{bytes_eq}
use Rattle.idl_names.specs.Names.{meaning_of}
use Rattle.front_mig.specs.Types.{Scope}
use Rattle.front_mig.specs.declared.meaning.Meaning.{Meaning}

here_by : (b : Bool) (x m : Meaning) (o p : Option Meaning) → (o ≡ Some m → p ≡ Some m) → cond b (Some x) o ≡ Some m
    → cond b (Some x) p ≡ Some m
here_by true x m o p f h = h
here_by false x m o p f h = f h

pub meaning_here : (name : List ℕ) (scope back : Scope) (m : Meaning) → meaning_of name scope ≡ Some m
    → meaning_of name (scope ++ back) ≡ Some m
meaning_here name [] back m h = absurd cc
meaning_here name (e ∷ es) back m h =
    here_by (bytes_eq name e.0) e.1 m (meaning_of name es) (meaning_of name (es ++ back)) (meaning_here name es back m) h

after_by : (b : Bool) (x : Meaning) (o p q : Option Meaning) → (o ≡ None → p ≡ q) → cond b (Some x) o ≡ None → cond b (Some x) p ≡ q
after_by true x o p q f h = absurd cc
after_by false x o p q f h = f h

pub meaning_after : (name : List ℕ) (scope back : Scope) → meaning_of name scope ≡ None
    → meaning_of name (scope ++ back) ≡ meaning_of name back
meaning_after name [] back h = refl
meaning_after name (e ∷ es) back h =
    after_by (bytes_eq name e.0) e.1 (meaning_of name es) (meaning_of name (es ++ back)) (meaning_of name back)
    (meaning_after name es back) h
