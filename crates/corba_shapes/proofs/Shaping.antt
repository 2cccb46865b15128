-- The types that are used are sound, by induction on the bounds of sequences and the lengths of arrays.
use Rattle.std.proofs.Common.{◌≡◌, ℕ, ℤ, true, List, [], ◌∷◌, ◌++◌, length, Option, Some, None, refl, subst, if◌then◌else◌}
use Rattle.std.specs.Prelude.{Ok}
use Rattle.std.specs.List.{list_all}
use Rattle.std.proofs.lemmas.Bool.{and_parts, and_from, lt-ltb}
use Rattle.mint.specs.declared.kind.Count.{Count}
use Rattle.mint.specs.declared.kind.Count.TheVariants.{Exactly, AtMost, Any}
use Rattle.aoi.specs.Shapes.{Shape, array, arrayed}
use Rattle.aoi.specs.Sound.{is_sound_type, is_some_count, is_open}
use Rattle.idl_names.specs.declared.uses.Use.{Use}
use Rattle.idl_names.specs.declared.uses.Use.TheVariants.{Number, Declared}
use Rattle.idl_names.specs.declared.uses.Tag.TheVariants as tag
use Rattle.idl_names.proofs.Parts.{then_ok, ok_same}
use Rattle.idl_names.proofs.Standing.{UseIs, TagIs, use_grow, fewer_same}
use Rattle.idl_names.proofs.Forming.{natural_low}
use Rattle.idl_names.proofs.Tagging.{use_tagged}
use Rattle.idl_exprs.specs.Trees.{Tree}
use Rattle.idl_exprs.specs.declared.tree.ScopedName.{ScopedName}
use Rattle.corba_decls.specs.declared.type_tree.Simple.{Simple}
use Rattle.corba_decls.specs.declared.type_tree.Simple.TheVariants as S
use Rattle.corba_decls.specs.declared.type_tree.Base.{Base}
use Rattle.corba_decls.specs.declared.type_tree.Base.TheVariants as B
use Rattle.corba_decls.specs.declared.member_tree.Dimension.{Dimension}
use Rattle.corba_scopes.specs.declared.meanings.Meaning.{Meaning}
use Rattle.corba_scopes.specs.declared.meanings.Meaning.TheVariants as M
use Rattle.corba_scopes.specs.Names.{Names}
use Rattle.corba_scopes.specs.Finding.{named, meaning}
use Rattle.corba_scopes.specs.Consts.{number, length_of}
use Rattle.corba_scopes.proofs.Standing.{IfMeaning, named_is}
use Rattle.corba_shapes.specs.declared.forms.Core.{Core}
use Rattle.corba_shapes.specs.declared.forms.Core.TheVariants as C
use Rattle.corba_shapes.specs.declared.forms.Form.{Form}
use Rattle.corba_shapes.specs.Forms.{type_of, type_of_meaning, named_type, named_core, simple_core, number_core, kind_of, bounded, base_core, single, type_form, core_shape, rowed, form_shape, is_row, core_tag, form_tag}
use Rattle.corba_shapes.specs.Fields.{lengths_on}
use Rattle.corba_shapes.proofs.Standing.{MeaningIs, ScopeIs}
use Rattle.idl_names.proofs.Plainness.{is_plain, plain_sound}

-- ---- names

meaning_use : (types : List Shape) (labels : List (ℕ × ℤ)) (d : ℕ) (m : Meaning) (t : Use × Option Count) → MeaningIs types labels m
    → type_of d m ≡ Ok t → UseIs types labels t.0
meaning_use types labels d (M.Type u c) t m h = let made : Use × Option Count =
    (u, c) in subst (λ (t : Use × Option Count). UseIs types labels t.0) (ok_same made t h) m
meaning_use types labels d (M.Number n) t m h = absurd cc
meaning_use types labels d M.Text t m h = absurd cc
meaning_use types labels d (M.Exception k) t m h = absurd cc
meaning_use types labels d (M.Interface k) t m h = absurd cc
meaning_use types labels d M.Module t m h = absurd cc
meaning_use types labels d M.Other t m h = absurd cc

if_use : (types : List Shape) (labels : List (ℕ × ℤ)) (d : ℕ) (o : Option Meaning) (t : Use × Option Count)
    → IfMeaning (MeaningIs types labels) o → type_of_meaning d o ≡ Ok t → UseIs types labels t.0
if_use types labels d None t m h = absurd cc
if_use types labels d (Some x) t m h = meaning_use types labels d x t m h

pub named_type_is : (types : List Shape) (labels : List (ℕ × ℤ)) (s : Names) (d : ℕ) (n : ScopedName)
    (t : Use × Option Count) → ScopeIs types labels s → named_type s d n ≡ Ok t → UseIs types labels t.0
named_type_is types labels s d n t is h = if_use types labels d (meaning (named s n)) t (named_is (MeaningIs types labels) s n is) h

-- ---- types

abbrev pub CoreIs : List Shape → List (ℕ × ℤ) → Core → Type 0
CoreIs types labels (C.Used u c) = UseIs types labels u
CoreIs types labels (C.Text c) = is_open c ≡ true

abbrev Bounds : Count → Type 0
Bounds c = (is_some_count c ≡ true) × (is_open c ≡ true)

bounded_is : (s : Names) (d : ℕ) (b : Option Tree) (c : Count) → bounded s d b ≡ Ok c → Bounds c
bounded_is s d None c h = subst Bounds (ok_same Any c h) (refl, refl)
bounded_is s d (Some e) c h = let a = then_ok (length_of s d e) _ c h in subst Bounds (ok_same (AtMost a.given) c a.rest)
    (refl, refl)

pub named_core_is : (types : List Shape) (labels : List (ℕ × ℤ)) (s : Names) (d : ℕ) (n : ScopedName) (c : Core)
    → ScopeIs types labels s → named_core s d n ≡ Ok c → CoreIs types labels c
named_core_is types labels s d n c is h =
    let a = then_ok (named_type s d n) _ c h in
    subst (CoreIs types labels) (ok_same (C.Used a.given.0 a.given.1) c a.rest) (named_type_is types labels s d n a.given is a.first)

simple_is : (types : List Shape) (labels : List (ℕ × ℤ)) (d : ℕ) (w : Simple) (c : Core) → simple_core d w ≡ Ok c → CoreIs types labels c
simple_is types labels d S.Char c h = subst (CoreIs types labels) (ok_same _ c h) tt
simple_is types labels d S.Boolean c h = subst (CoreIs types labels) (ok_same _ c h) tt
simple_is types labels d S.Octet c h = subst (CoreIs types labels) (ok_same _ c h) tt
simple_is types labels d S.Float c h = absurd cc
simple_is types labels d S.Double c h = absurd cc
simple_is types labels d S.Wchar c h = absurd cc
simple_is types labels d S.Wstring c h = absurd cc
simple_is types labels d S.Any c h = absurd cc
simple_is types labels d S.Object c h = absurd cc

base_is : (types : List Shape) (labels : List (ℕ × ℤ)) (s : Names) (d : ℕ) (b : Base) (c : Core)
    → ScopeIs types labels s → base_core s d b ≡ Ok c → CoreIs types labels c
base_is types labels s d (B.Simple w) c is h = simple_is types labels d w c h
base_is types labels s d B.LongDouble c is h = absurd cc
base_is types labels s d (B.Int i) c is h = subst (CoreIs types labels) (ok_same (number_core (kind_of i)) c h) tt
base_is types labels s d (B.Name n) c is h = named_core_is types labels s d n c is h
base_is types labels s d (B.Text bound) c is h =
    let a = then_ok (bounded s d bound) _ c h in
    subst (CoreIs types labels) (ok_same (C.Text a.given) c a.rest) (bounded_is s d bound a.given a.first).1

pub record FormIs (types : List Shape) (labels : List (ℕ × ℤ)) (f : Form) : Type 0 where
  pub core : CoreIs types labels f.core
  pub rows : list_all is_some_count f.rows ≡ true

counts_push : (cs : List Count) (c : Count) → list_all is_some_count cs ≡ true → is_some_count c ≡ true
    → list_all is_some_count (cs ++ c ∷ []) ≡ true
counts_push [] c a b = and_from _ _ b refl
counts_push (x ∷ cs) c a b = let h = and_parts (is_some_count x) (list_all is_some_count cs) a in and_from _ _ h.0 (counts_push cs c h.1 b)

pub form_is : (types : List Shape) (labels : List (ℕ × ℤ)) (s : Names) (d : ℕ) (bounds : List (Option Tree))
    (b : Base) (f : Form) → ScopeIs types labels s → type_form s d bounds b ≡ Ok f → FormIs types labels f
form_is types labels s d [] b f is h =
    let a = then_ok (base_core s d b) _ f h in
    subst (FormIs types labels) (ok_same (single a.given) f a.rest)
    (record { core = base_is types labels s d b a.given is a.first; rows = refl })
form_is types labels s d (x ∷ xs) b f is h =
    let a = then_ok (type_form s d xs b) _ f h in
    let c = then_ok (bounded s d x) _ f a.rest in
    let inner = form_is types labels s d xs b a.given is a.first in
    let made : Form = record { core = a.given.core; rows = a.given.rows ++ c.given ∷ [] } in
    subst (FormIs types labels) (ok_same made f c.rest)
    (record { core = inner.core; rows = counts_push a.given.rows c.given inner.rows (bounded_is s d x c.given c.first).0 })

pub lengths_are : (s : Names) (d : ℕ) (done : List Count) (xs : List Dimension) (ns : List Count)
    → list_all is_some_count done ≡ true → lengths_on s d done xs ≡ Ok ns → list_all is_some_count ns ≡ true
lengths_are s d done [] ns are h = subst (λ z. list_all is_some_count z ≡ true) (ok_same done ns h) are
lengths_are s d done (x ∷ xs) ns are h =
    let a = then_ok (length_of s d x.length) _ ns h in
    let b = then_ok (number s d x.length) _ a.given a.first in
    lengths_are s d (done ++ Exactly a.given ∷ []) xs ns
    (counts_push done (Exactly a.given) are (natural_low 1 d a.given b.given b.rest)) a.rest

-- ---- sound

abbrev Plain : List Shape → Shape → Type 0
Plain types s = is_plain (length types) s ≡ true

core_plain : (types : List Shape) (labels : List (ℕ × ℤ)) (c : Core) → CoreIs types labels c → Plain types (core_shape c)
core_plain types labels (C.Used (Number k) c) is = refl
core_plain types labels (C.Used (Declared k t) c) is = lt-ltb k (length types) is.0
core_plain types labels (C.Text c) is = is

rowed_plain : (types : List Shape) (s : Shape) (cs : List Count) → Plain types s → list_all is_some_count cs ≡ true
    → Plain types (rowed s cs)
rowed_plain types s [] plain are = plain
rowed_plain types s (c ∷ cs) plain are = let h = and_parts (is_some_count c) (list_all is_some_count cs) are in rowed_plain types
    (array s c) cs (and_from _ _ h.0 plain) h.1

arrayed_plain : (types : List Shape) (s : Shape) (cs : List Count) → Plain types s → list_all is_some_count cs ≡ true
    → Plain types (arrayed s cs)
arrayed_plain types s [] plain are = plain
arrayed_plain types s (c ∷ cs) plain are = let h = and_parts (is_some_count c) (list_all is_some_count cs) are in and_from _ _ h.0
    (arrayed_plain types s cs plain h.1)

pub form_plain : (types : List Shape) (labels : List (ℕ × ℤ)) (f : Form) (ns : List Count) → FormIs types labels f
    → list_all is_some_count ns ≡ true → is_plain (length types) (form_shape f ns) ≡ true
form_plain types labels f ns is are = arrayed_plain types (rowed (core_shape f.core) f.rows) ns
    (rowed_plain types (core_shape f.core) f.rows (core_plain types labels f.core is.core) is.rows) are

pub form_sound : (types : List Shape) (labels : List (ℕ × ℤ)) (f : Form) (ns : List Count) → FormIs types labels f
    → list_all is_some_count ns ≡ true → is_sound_type types (length types) (form_shape f ns) ≡ true
form_sound types labels f ns is are = plain_sound types (length types) (form_shape f ns) (form_plain types labels f ns is are)

core_grow : (types more : List Shape) (labels : List (ℕ × ℤ)) (c : Core) → CoreIs types labels c → CoreIs (types ++ more) labels c
core_grow types more labels (C.Used u c) is = use_grow types more labels labels u (fewer_same (length types) labels) is
core_grow types more labels (C.Text c) is = is

pub form_grow : (types more : List Shape) (labels : List (ℕ × ℤ)) (f : Form) → FormIs types labels f → FormIs (types ++ more) labels f
form_grow types more labels f is = record { core = core_grow types more labels f.core is.core; rows = is.rows }

-- ---- tags

core_tagged : (types : List Shape) (labels : List (ℕ × ℤ)) (c : Core) → CoreIs types labels c
    → TagIs (types ++ core_shape c ∷ []) labels (length types) (core_tag c)
core_tagged types labels (C.Used u c) is = use_tagged types labels u is
core_tagged types labels (C.Text c) is = tt

rows_tagged : (types : List Shape) (labels : List (ℕ × ℤ)) (c : Core) (rows ns : List Count) → CoreIs types labels c
    → TagIs (types ++ arrayed (rowed (core_shape c) rows) ns ∷ []) labels (length types) (if is_row rows ns then tag.Other else core_tag c)
rows_tagged types labels c [] [] is = core_tagged types labels c is
rows_tagged types labels c [] (n ∷ ns) is = tt
rows_tagged types labels c (r ∷ rows) ns is = tt

pub form_tagged : (types : List Shape) (labels : List (ℕ × ℤ)) (f : Form) (ns : List Count) → FormIs types labels f
    → TagIs (types ++ form_shape f ns ∷ []) labels (length types) (form_tag f ns)
form_tagged types labels f ns is = rows_tagged types labels f.core f.rows ns is.core
