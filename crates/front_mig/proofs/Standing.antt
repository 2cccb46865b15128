-- What names stand for, and the types that are made of them, over so many types of the unit, by induction on the scope.
use Rattle.std.proofs.Common.{◌≡◌, ℕ, ◌+◌, ◌<◌, ◌≤◌, Bool, true, false, not, nat_lt, ◌&&◌, List, [], ◌∷◌, ◌++◌, length, Option, Some, None, refl, subst, arith}
use Rattle.std.specs.Prelude.{Ok, cond, pos}
use Rattle.std.specs.Ordering.{int_eq}
use Rattle.std.specs.Str.{bytes_eq}
use Rattle.std.proofs.lemmas.Bool.{and_from, and_parts, lt-ltb}
use Rattle.mint.specs.declared.kind.Count.TheVariants.{Exactly, AtMost}
use Rattle.aoi.specs.declared.faults.NameFault.TheVariants.{Range}
use Rattle.aoi.specs.Shapes.{Shape, void, number, enumeration, text, array, structure, choice, optional, named}
use Rattle.aoi.specs.Sound.{is_some_count, is_sound_type, are_sound_types}
use Rattle.idl_exprs.specs.Trees.{Tree}
use Rattle.mig_syntax.specs.declared.tree.TypeForm.{TypeForm}
use Rattle.mig_syntax.specs.declared.tree.TypeForm.TheVariants as T
use Rattle.idl_names.specs.declared.uses.Use.{Use}
use Rattle.idl_names.specs.declared.uses.Use.TheVariants.{Number, Declared}
use Rattle.front_mig.specs.declared.meaning.Meaning.{Meaning}
use Rattle.front_mig.specs.declared.meaning.Meaning.TheVariants as M
use Rattle.front_mig.specs.declared.meaning.Form.{Form}
use Rattle.front_mig.specs.declared.meaning.Form.TheVariants as F
use Rattle.idl_names.specs.Answers.{Answer, and_then, refused}
use Rattle.idl_names.specs.Uses.{shape_of_use, tag_of_use}
use Rattle.front_mig.specs.Numbers.{value, length_of}
use Rattle.idl_names.specs.Names.{meaning_of}
use Rattle.front_mig.specs.Types.{Scope, known, found, type_of, kind_in, size_in, data_in, numbers_in, sized, plainly, row, form}
use Rattle.idl_names.proofs.Parts.{then_ok, ok_same}
use Rattle.idl_names.proofs.Forming.{natural_low}

-- ---- plain trees: numbers, names of types below a limit, and rows of these

abbrev pub is_datum : ℕ → Shape → Bool
is_datum limit (number k) = true
is_datum limit (named k) = nat_lt k limit
is_datum limit _ = false

abbrev pub is_simple : ℕ → Shape → Bool
is_simple limit (array s c) = is_some_count c && is_datum limit s
is_simple limit (number k) = true
is_simple limit (named k) = nat_lt k limit
is_simple limit _ = false

pub datum_sound : (types : List Shape) (limit : ℕ) (s : Shape) → is_datum limit s ≡ true → is_sound_type types limit s ≡ true
datum_sound types limit void h = absurd cc
datum_sound types limit (number k) h = refl
datum_sound types limit (enumeration items) h = absurd cc
datum_sound types limit (text c) h = absurd cc
datum_sound types limit (array s c) h = absurd cc
datum_sound types limit (structure ms) h = absurd cc
datum_sound types limit (choice s arms) h = absurd cc
datum_sound types limit (optional s) h = absurd cc
datum_sound types limit (named k) h = h

simple_sound : (types : List Shape) (limit : ℕ) (s : Shape) → is_simple limit s ≡ true → is_sound_type types limit s ≡ true
simple_sound types limit void h = absurd cc
simple_sound types limit (number k) h = refl
simple_sound types limit (enumeration items) h = absurd cc
simple_sound types limit (text c) h = absurd cc
simple_sound types limit (array s c) h =
    let parts = and_parts (is_some_count c) (is_datum limit s) h in and_from _ _ parts.0 (datum_sound types limit s parts.1)
simple_sound types limit (structure ms) h = absurd cc
simple_sound types limit (choice s arms) h = absurd cc
simple_sound types limit (optional s) h = absurd cc
simple_sound types limit (named k) h = h

-- types that are simple, each over those before it
abbrev pub AreSimple : ℕ → List Shape → Type 0
AreSimple limit [] = Unit {0}
AreSimple limit (s ∷ ss) = (is_simple limit s ≡ true) × AreSimple (limit + 1) ss

pub types_sound : (types : List Shape) (limit : ℕ) (ss : List Shape) → AreSimple limit ss → are_sound_types types limit ss ≡ true
types_sound types limit [] h = refl
types_sound types limit (s ∷ ss) h = and_from _ _ (simple_sound types limit s h.0) (types_sound types (limit + 1) ss h.1)

pub simple_push : (limit n : ℕ) (ss : List Shape) (s : Shape) → n ≡ limit + length ss → AreSimple limit ss → is_simple n s ≡ true
    → AreSimple limit (ss ++ s ∷ [])
simple_push limit n [] s is a b = let same : n ≡ limit = omega (arith, is) in (subst (λ z. is_simple z s ≡ true) same b, tt)
simple_push limit n (t ∷ ss) s is a b =
    let next : n ≡ limit + 1 + length ss = omega (arith, is) in (a.0, simple_push (limit + 1) n ss s next a.1 b)

-- ---- what names stand for

abbrev pub DataIs : ℕ → Use → Type 0
DataIs limit (Number k) = Unit {0}
DataIs limit (Declared k kind) = k < limit

abbrev pub MeaningIs : ℕ → Meaning → Type 0
MeaningIs limit M.Port = Unit {0}
MeaningIs limit (M.Data x) = DataIs limit x

abbrev pub ScopeIs : ℕ → Scope → Type 0
ScopeIs limit [] = Unit {0}
ScopeIs limit (e ∷ es) = MeaningIs limit e.1 × ScopeIs limit es

meaning_grow : (low high : ℕ) (m : Meaning) → low ≤ high → MeaningIs low m → MeaningIs high m
meaning_grow low high M.Port le h = tt
meaning_grow low high (M.Data (Number k)) le h = tt
meaning_grow low high (M.Data (Declared k kind)) le h = omega (arith, le, h)

pub scope_grow : (low high : ℕ) (scope : Scope) → low ≤ high → ScopeIs low scope → ScopeIs high scope
scope_grow low high [] le h = tt
scope_grow low high (e ∷ es) le h = (meaning_grow low high e.1 le h.0, scope_grow low high es le h.1)

pub scope_join : (limit : ℕ) (scope more : Scope) → ScopeIs limit scope → ScopeIs limit more → ScopeIs limit (scope ++ more)
scope_join limit [] more h g = g
scope_join limit (e ∷ es) more h g = (h.0, scope_join limit es more h.1 g)

known_is : (limit : ℕ) → ScopeIs limit known
known_is limit = (tt, (tt, (tt, (tt, (tt, (tt, (tt, (tt, (tt, (tt, (tt, tt)))))))))))

abbrev FoundIs : ℕ → Option Meaning → Type 0
FoundIs limit None = Unit {0}
FoundIs limit (Some m) = MeaningIs limit m

found_here : (limit : ℕ) (b : Bool) (m : Meaning) (o : Option Meaning) → MeaningIs limit m → FoundIs limit o
    → FoundIs limit (cond b (Some m) o)
found_here limit true m o h r = h
found_here limit false m o h r = r

found_at : (limit : ℕ) (scope : Scope) (name : List ℕ) → ScopeIs limit scope → FoundIs limit (meaning_of name scope)
found_at limit [] name h = tt
found_at limit (e ∷ es) name h = found_here limit (bytes_eq name e.0) e.1 (meaning_of name es) h.0 (found_at limit es name h.1)

found_is : (limit d : ℕ) (o : Option Meaning) (m : Meaning) → FoundIs limit o → found d o ≡ Ok m → MeaningIs limit m
found_is limit d None m h g = absurd cc
found_is limit d (Some n) m h g = subst (MeaningIs limit) (ok_same n m g) h

pub type_is : (limit : ℕ) (scope : Scope) (d : ℕ) (name : List ℕ) (m : Meaning) → ScopeIs limit scope → type_of scope d name ≡ Ok m
    → MeaningIs limit m
type_is limit scope d name m is h =
    found_is limit d (meaning_of name (scope ++ known)) m
    (found_at limit (scope ++ known) name (scope_join limit scope known is (known_is limit))) h

pub data_is : (limit d : ℕ) (m : Meaning) (x : Use) → MeaningIs limit m → data_in d m ≡ Ok x → DataIs limit x
data_is limit d M.Port x is h = absurd cc
data_is limit d (M.Data y) x is h = subst (DataIs limit) (ok_same y x h) is

pub shape_datum : (limit : ℕ) (x : Use) → DataIs limit x → is_datum limit (shape_of_use x) ≡ true
shape_datum limit (Number k) h = refl
shape_datum limit (Declared k kind) h = lt-ltb k limit h

pub shape_simple : (limit : ℕ) (x : Use) → DataIs limit x → is_simple limit (shape_of_use x) ≡ true
shape_simple limit (Number k) h = refl
shape_simple limit (Declared k kind) h = lt-ltb k limit h

-- ---- what `type` statements make

abbrev form_given : Form → Answer Form
form_given f = Ok f

abbrev pub FormIs : ℕ → Form → Type 0
FormIs limit F.Port = Unit {0}
FormIs limit (F.Data x) = DataIs limit x
FormIs limit (F.Row x c) = DataIs limit x × (is_some_count c ≡ true)

plainly_is : (limit : ℕ) (m : Meaning) → MeaningIs limit m → FormIs limit (plainly m)
plainly_is limit M.Port h = tt
plainly_is limit (M.Data x) h = h

abbrev pub RowIs : ℕ → ℕ × Use → Type 0
RowIs limit r = DataIs limit r.1 × (is_some_count (Exactly r.0) ≡ true)

row_is : (limit : ℕ) (scope : Scope) (d : ℕ) (e : Tree) (name : List ℕ) (r : ℕ × Use) → ScopeIs limit scope → row scope d e name ≡ Ok r
    → RowIs limit r
row_is limit scope d e name r is h =
    let a = then_ok (length_of d e) _ r h in
    let v = then_ok (value d e) _ a.given a.first in
    let b = then_ok (type_of scope d name) _ r a.rest in
    let c = then_ok (numbers_in d b.given) _ r b.rest in
    let x = then_ok (data_in d b.given) _ c.given c.first in
    let k = then_ok (kind_in d (tag_of_use x.given)) _ c.given x.rest in
    let used : DataIs limit c.given =
    subst (DataIs limit) (ok_same x.given c.given k.rest)
    (data_is limit d b.given x.given (type_is limit scope d name b.given is b.first) x.first) in
    let made : ℕ × Use = (a.given, c.given) in
    subst (RowIs limit) (ok_same made r c.rest) (used, natural_low 1 d a.given v.given v.rest)

plain_form : (limit d : ℕ) (a : Answer Meaning) (f : Form) → ((m : Meaning) → a ≡ Ok m → MeaningIs limit m)
    → and_then a (λ m. Ok (plainly m)) ≡ form_given f → FormIs limit f
plain_form limit d a f is h =
    let m = then_ok a _ f h in
    subst (FormIs limit) (ok_same (plainly m.given) f m.rest) (plainly_is limit m.given (is m.given m.first))

sized_is : (limit : ℕ) (scope : Scope) (d : ℕ) (name : List ℕ) (e : Tree) (m : Meaning) → ScopeIs limit scope
    → sized scope d name e ≡ Ok m → MeaningIs limit m
sized_is limit scope d name e m is h =
    let a = then_ok (type_of scope d name) _ m h in
    let b = then_ok (size_in d a.given) _ m a.rest in
    let c = then_ok (value d e) _ m b.rest in
    let g = then_ok (refused Range d (not (int_eq c.given (pos b.given)))) _ m c.rest in
    subst (MeaningIs limit) (ok_same a.given m g.rest) (type_is limit scope d name a.given is a.first)

pub form_is : (limit : ℕ) (scope : Scope) (d : ℕ) (t : TypeForm) (f : Form) → ScopeIs limit scope → form scope d t ≡ Ok f → FormIs limit f
form_is limit scope d (T.Named name) f is h = plain_form limit d (type_of scope d name) f (λ m g. type_is limit scope d name m is g) h
form_is limit scope d (T.Sized name e) f is h = plain_form limit d (sized scope d name e) f (λ m g. sized_is limit scope d name e m is g) h
form_is limit scope d (T.Array e name) f is h =
    let r = then_ok (row scope d e name) _ f h in
    let one = row_is limit scope d e name r.given is r.first in
    subst (FormIs limit) (ok_same (F.Row r.given.1 (Exactly r.given.0)) f r.rest) one
form_is limit scope d (T.VariableArray e name) f is h =
    let r = then_ok (row scope d e name) _ f h in
    let one = row_is limit scope d e name r.given is r.first in
    subst (FormIs limit) (ok_same (F.Row r.given.1 (AtMost r.given.0)) f r.rest) (one.0, refl)
form_is limit scope d (T.Struct e name) f is h =
    let r = then_ok (row scope d e name) _ f h in
    let one = row_is limit scope d e name r.given is r.first in
    subst (FormIs limit) (ok_same (F.Row r.given.1 (Exactly r.given.0)) f r.rest) one
