-- How the logic stores the plain tree of a type: as a tree of numbers that gives it back.
use Rattle.std.specs.Prelude.{◌≡◌, refl, ℕ, ◌==◌, cond, ℤ, List, [], ◌∷◌}
use Rattle.std.specs.Coded.{Coded, code_by}
use base.Stored.{Gv, gnil, gnum, gcons, num}
use denote.Struct.Codes.{itself}
use mathlib.Core.Path.{ap, ◌∙◌}
use Rattle.mint.specs.declared.kind.Kind.{Kind}
use Rattle.mint.specs.declared.kind.Kind.TheVariants as kind
use Rattle.mint.specs.declared.kind.Count.{Count}
use Rattle.mint.specs.declared.kind.Count.TheVariants.{Exactly, AtMost, Any}
use Rattle.aoi.specs.Shapes.{Shape, void, number, enumeration, text, array, structure, choice, optional, named, Members, no_more, member, Arms, no_default, default, arm}
use Rattle.kit_base.specs.Stored.{number_code, number_at, number_back, octets_code as name_code, octets_at as name_at, octets_back as name_back}

-- ---- kinds, counts and items

abbrev pub kind_number : Kind → ℕ
kind_number kind.Octet = 0
kind_number kind.I8 = 1
kind_number kind.U8 = 2
kind_number kind.Char = 3
kind_number kind.I16 = 4
kind_number kind.U16 = 5
kind_number kind.I32 = 6
kind_number kind.U32 = 7
kind_number kind.I64 = 8
kind_number kind.U64 = 9
kind_number kind.Bool = 10

abbrev pub kind_at : ℕ → Kind
kind_at n =
    cond (n == 0) kind.Octet (cond (n == 1) kind.I8 (cond (n == 2) kind.U8 (cond (n == 3) kind.Char (cond (n == 4) kind.I16
    (cond (n == 5) kind.U16 (cond (n == 6) kind.I32 (cond (n == 7) kind.U32 (cond (n == 8) kind.I64
    (cond (n == 9) kind.U64 kind.Bool)))))))))

kind_back : (k : Kind) → kind_at (kind_number k) ≡ k
kind_back kind.Octet = refl
kind_back kind.I8 = refl
kind_back kind.U8 = refl
kind_back kind.Char = refl
kind_back kind.I16 = refl
kind_back kind.U16 = refl
kind_back kind.I32 = refl
kind_back kind.U32 = refl
kind_back kind.I64 = refl
kind_back kind.U64 = refl
kind_back kind.Bool = refl

abbrev pub count_code : Count → Gv
count_code (Exactly n) = gcons (gnum 0) (gnum n)
count_code (AtMost n) = gcons (gnum 1) (gnum n)
count_code Any = gnil

abbrev pub count_at : Gv → Count
count_at gnil = Any
count_at (gnum n) = Any
count_at (gcons a b) = cond (num a == 0) (Exactly (num b)) (AtMost (num b))

count_back : (c : Count) → count_at (count_code c) ≡ c
count_back (Exactly n) = refl
count_back (AtMost n) = refl
count_back Any = refl

abbrev pub first : Gv → Gv
first gnil = gnil
first (gnum n) = gnil
first (gcons a b) = a

abbrev pub rest : Gv → Gv
rest gnil = gnil
rest (gnum n) = gnil
rest (gcons a b) = b

abbrev pub items_code : List (List ℕ × ℤ) → Gv
items_code [] = gnil
items_code (i ∷ items) = gcons (gcons (name_code i.0) (number_code i.1)) (items_code items)

abbrev pub items_at : Gv → List (List ℕ × ℤ)
items_at gnil = []
items_at (gnum n) = []
items_at (gcons a b) = (name_at (first a), number_at (rest a)) ∷ items_at b

items_back : (items : List (List ℕ × ℤ)) → items_at (items_code items) ≡ items
items_back [] = refl
items_back (i ∷ items) =
    ap (λ z. (z, number_at (number_code i.1)) ∷ items_at (items_code items)) (name_back i.0)
    ∙ ap (λ z. (i.0, z) ∷ items_at (items_code items)) (number_back i.1) ∙ ap (λ z. i ∷ z) (items_back items)

-- ---- types

abbrev mutual
  pub shape_code : Shape → Gv
  shape_code void = gcons (gnum 0) gnil
  shape_code (number k) = gcons (gnum 1) (gnum (kind_number k))
  shape_code (enumeration items) = gcons (gnum 2) (items_code items)
  shape_code (text c) = gcons (gnum 3) (count_code c)
  shape_code (array s c) = gcons (gnum 4) (gcons (shape_code s) (count_code c))
  shape_code (structure ms) = gcons (gnum 5) (members_code ms)
  shape_code (choice s arms) = gcons (gnum 6) (gcons (shape_code s) (arms_code arms))
  shape_code (optional s) = gcons (gnum 7) (shape_code s)
  shape_code (named k) = gcons (gnum 8) (gnum k)

  pub members_code : Members → Gv
  members_code no_more = gnil
  members_code (member n s ms) = gcons (gcons (name_code n) (shape_code s)) (members_code ms)

  pub arms_code : Arms → Gv
  arms_code no_default = gnil
  arms_code (default s) = gcons gnil (shape_code s)
  arms_code (arm n s arms) = gcons (gcons (number_code n) (shape_code s)) (arms_code arms)

-- what a stored tree is read as: a type, fields or arms, and what its first and second half are read as
pub record Reading : Type 0 where
  pub shape : Shape
  pub fields : Members
  pub arms : Arms
  pub front : Shape
  pub back : Shape
  pub after : Arms

abbrev pub by_tag : ℕ → Gv → Reading → Shape
by_tag n g r =
    cond (n == 0) void (cond (n == 1) (number (kind_at (num g))) (cond (n == 2) (enumeration (items_at g))
    (cond (n == 3) (text (count_at g)) (cond (n == 4) (array r.front (count_at (rest g))) (cond (n == 5) (structure r.fields)
    (cond (n == 6) (choice r.front r.after) (cond (n == 7) (optional r.shape) (named (num g)))))))))

abbrev pub arms_by : Gv → Reading → Reading → Arms
arms_by gnil x y = default y.shape
arms_by (gnum n) x y = no_default
arms_by (gcons a b) x y = arm (number_at a) x.back y.arms

abbrev pub read : Gv → Reading
read gnil = record { shape = void; fields = no_more; arms = no_default; front = void; back = void; after = no_default }
read (gnum n) = record { shape = void; fields = no_more; arms = no_default; front = void; back = void; after = no_default }
read (gcons a b) = record {
  shape = by_tag (num a) b (read b);
  fields = member (name_at (first a)) (read a).back (read b).fields;
  arms = arms_by a (read a) (read b);
  front = (read a).shape;
  back = (read b).shape;
  after = (read b).arms;
}

mutual
  pub shape_back : (s : Shape) → (read (shape_code s)).shape ≡ s
  shape_back void = refl
  shape_back (number k) = ap number (kind_back k)
  shape_back (enumeration items) = ap enumeration (items_back items)
  shape_back (text c) = ap text (count_back c)
  shape_back (array s c) = ap (λ z. array z (count_at (count_code c))) (shape_back s) ∙ ap (array s) (count_back c)
  shape_back (structure ms) = ap structure (members_back ms)
  shape_back (choice s arms) = ap (λ z. choice z (read (arms_code arms)).arms) (shape_back s) ∙ ap (choice s) (arms_back arms)
  shape_back (optional s) = ap optional (shape_back s)
  shape_back (named k) = refl

  pub members_back : (ms : Members) → (read (members_code ms)).fields ≡ ms
  members_back no_more = refl
  members_back (member n s ms) =
      ap (λ z. member z (read (shape_code s)).shape (read (members_code ms)).fields) (name_back n)
      ∙ ap (λ z. member n z (read (members_code ms)).fields) (shape_back s) ∙ ap (member n s) (members_back ms)

  pub arms_back : (arms : Arms) → (read (arms_code arms)).arms ≡ arms
  arms_back no_default = refl
  arms_back (default s) = ap default (shape_back s)
  arms_back (arm n s arms) =
      ap (λ z. arm z (read (shape_code s)).shape (read (arms_code arms)).arms) (number_back n)
      ∙ ap (λ z. arm n z (read (arms_code arms)).arms) (shape_back s) ∙ ap (arm n s) (arms_back arms)

-- ---- their codes

abbrev pub coded_shape : Coded Shape
coded_shape = code_by Gv itself shape_code (λ g. (read g).shape) shape_back

abbrev pub coded_members : Coded Members
coded_members = code_by Gv itself members_code (λ g. (read g).fields) members_back
