-- The part of a value at a path is of the node of its place, by induction on the path.
use Rattle.std.proofs.Common.{◌≡◌, ℕ, zero, suc, ℤ, pos, List, [], ◌∷◌, Option, Some, None, Bool, true, false, if◌then◌else◌, ◌&&◌, not, slice_get, length, IsTrue, MatchBool, refl, sym, ap, ◌∙◌, subst}
use Rattle.std.specs.List.{list_all}
use Rattle.std.specs.Ordering.{int_eq}
use Rattle.std.proofs.lemmas.Bool.Decides.{Decides-int_eq}
use Rattle.mint.specs.declared.kind.Kind.{Kind}
use Rattle.mint.specs.declared.kind.Kind.TheVariants as kind
use Rattle.mint.specs.declared.node.Node.{Node}
use Rattle.mint.specs.declared.node.Node.TheVariants as node
use Rattle.mint.specs.Arms.{arm_found}
use Rattle.mint.specs.Kinds.{in_range, is_letter}
use Rattle.mint.specs.Typed.{Each, IsOf, AreOf, IsOfArm}
use Rattle.mint.specs.Types.{Ty, at as tree, fields_at, arms_at, level, unfolded, type_at, IsTable}
use Rattle.mint.specs.Values.{Val, row, group, items, arm, present, Vals, no_more, val, count}
use Rattle.mint.proofs.Unfolding.{type_at-level}
use Rattle.cast_stub.specs.Block.{Cases}
use Rattle.cast_stub.specs.Parts.{on_some, field, in_group, at, elements_in, length_in}
use Rattle.stub_flat.specs.Places.{Spot, node_of, field_spot, spot_at, element, present as present_spot, row_kind, has_length, arm_spot, has_case, all_have, rest_spot}
use Rattle.std.proofs.lemmas.Bool.{and_parts}

-- a value of the node at a place; any, where the place is not known
abbrev pub IsAt : List Node → Spot → Val → Type 0
IsAt N None v = Unit {0}
IsAt N (Some i) v = IsOf (type_at N i) v

-- a value of a node; any, where that is not known
abbrev pub IsOfNode : List Node → Option Node → Val → Type 0
IsOfNode N None v = Unit {0}
IsOfNode N (Some n) v = IsOf (level (unfolded N) n) v

-- a part of a place, or none where the place is not known
abbrev pub IsPart : List Node → Option Val → Spot → Type 0
IsPart N None s = s ≡ None
IsPart N (Some w) s = IsAt N s w

pub node_typed : (N : List Node) → IsTable N → (s : Spot) (v : Val) → IsAt N s v → IsOfNode N (node_of N s) v
node_typed N table None v t = tt
node_typed N table (Some i) v t = by (slice_get N i) refl where
  by : (x : Option Node) → slice_get N i ≡ x → IsOfNode N x v
  by None e = tt
  by (Some n) e = subst (λ (y : Ty). IsOf y v) (type_at-level N i n table e) t

-- ---- along a path

fields_part : (N : List Node) (ids : List ℕ) (vs : Vals) (n : ℕ) → AreOf (fields_at (unfolded N) ids) vs
    → IsPart N (field n vs) (slice_get ids n)
fields_part N [] no_more n h = refl
fields_part N [] (val v vs) n h = absurd h
fields_part N (i ∷ ids) no_more n h = absurd h
fields_part N (i ∷ ids) (val v vs) zero h = h.0
fields_part N (i ∷ ids) (val v vs) (suc n) h = fields_part N ids vs n h.1

unknown_part : (N : List Node) (x : Option Val) → IsPart N x None
unknown_part N None = refl
unknown_part N (Some w) = tt

field_part : (N : List Node) (n : ℕ) (m : Option Node) (v : Val) → IsOfNode N m v → IsPart N (in_group n v) (field_spot n m)
field_part N n None v t = unknown_part N (in_group n v)
field_part N n (Some (node.Group ids)) (group vs) t = fields_part N ids vs n t
field_part N n (Some (node.Group ids)) _ t = absurd t
field_part N n (Some node.Void) v t = unknown_part N (in_group n v)
field_part N n (Some (node.Num k)) v t = unknown_part N (in_group n v)
field_part N n (Some (node.Enum l)) v t = unknown_part N (in_group n v)
field_part N n (Some (node.Text c)) v t = unknown_part N (in_group n v)
field_part N n (Some (node.Row k c)) v t = unknown_part N (in_group n v)
field_part N n (Some (node.Items i c)) v t = unknown_part N (in_group n v)
field_part N n (Some (node.Choice g arms o)) v t = unknown_part N (in_group n v)
field_part N n (Some (node.Maybe i)) v t = unknown_part N (in_group n v)

spot_none : (N : List Node) (p : List ℕ) → spot_at N p None ≡ None
spot_none N [] = refl
spot_none N (n ∷ p) = spot_none N p

on_part : (N : List Node) (p : List ℕ) (x : Option Val) (s : Spot) → IsPart N x s
    → ((w : Val) → IsAt N s w → IsPart N (at p w) (spot_at N p s)) → IsPart N (on_some x (at p)) (spot_at N p s)
on_part N p None s e f = ap (spot_at N p) e ∙ spot_none N p
on_part N p (Some w) s t f = f w t

-- the part at a path
pub part_at : (N : List Node) → IsTable N → (p : List ℕ) (s : Spot) (v : Val) → IsAt N s v → IsPart N (at p v) (spot_at N p s)
part_at N table [] s v t = t
part_at N table (n ∷ p) s v t =
    on_part N p (in_group n v) (field_spot n (node_of N s)) (field_part N n (node_of N s) v (node_typed N table s v t))
    (λ w u. part_at N table p (field_spot n (node_of N s)) w u)

-- ---- rows

-- numbers of a kind, and the value that is their row
pub record IsRow (k : Kind) (v : Val) : Type 0 where
  pub numbers : List ℤ
  pub is : v ≡ row k numbers
  pub ranged : IsTrue (list_all (in_range k) numbers)

letter_first : (a b : Bool) → (a && b) ≡ true → a ≡ true
letter_first true b e = refl
letter_first false b e = absurd cc

more_true : (a b c d : Bool) → (a && b) ≡ true → (a ≡ true → c ≡ true) → (b ≡ true → d ≡ true) → (c && d) ≡ true
more_true true true c d e f g = let here = f refl in let rest = g refl in rw (here, rest) refl
more_true true false c d e f g = absurd cc
more_true false b c d e f g = absurd cc

letters_ranged : (ns : List ℤ) → IsTrue (list_all is_letter ns) → IsTrue (list_all (in_range kind.Char) ns)
letters_ranged [] h = refl
letters_ranged (n ∷ ns) h =
    more_true (is_letter n) (list_all is_letter ns) (in_range kind.Char n) (list_all (in_range kind.Char) ns) h
    (λ e. letter_first (in_range kind.Char n) (not (int_eq n (pos 0))) e) (λ e. letters_ranged ns e)

row_of_kind : (k l m : Kind) (ns : List ℤ) → k ≡ l → m ≡ l → IsTrue (list_all (in_range l) ns) → IsRow m (row k ns)
row_of_kind k l m ns e f h = record {
  numbers = ns;
  is = ap (λ (x : Kind). row x ns) (e ∙ sym f);
  ranged = subst (λ (x : Kind). IsTrue (list_all (in_range x) ns)) (sym f) h;
}

some_same : (k l : Kind) → Some k ≡ Some l → l ≡ k
some_same k l e = cc

pub row_part : (N : List Node) (m : Option Node) (k : Kind) (w : Val) → row_kind m ≡ Some k → IsOfNode N m w → IsRow k w
row_part N None k w e t = absurd cc
row_part N (Some (node.Row l c)) k (row j ns) e t = row_of_kind j l k ns t.0 (some_same l k e) t.2
row_part N (Some (node.Row l c)) k _ e t = absurd t
row_part N (Some (node.Text c)) k (row j ns) e t = row_of_kind j kind.Char k ns t.0 (some_same kind.Char k e) (letters_ranged ns t.2)
row_part N (Some (node.Text c)) k _ e t = absurd t
row_part N (Some node.Void) k w e t = absurd cc
row_part N (Some (node.Num x)) k w e t = absurd cc
row_part N (Some (node.Enum l)) k w e t = absurd cc
row_part N (Some (node.Group ids)) k w e t = absurd cc
row_part N (Some (node.Items i c)) k w e t = absurd cc
row_part N (Some (node.Choice g arms o)) k w e t = absurd cc
row_part N (Some (node.Maybe i)) k w e t = absurd cc

-- ---- values with a length

pub record HasLength (v : Val) : Type 0 where
  pub long : ℕ
  pub is : length_in v ≡ Some long

pub length_part : (N : List Node) (m : Option Node) (w : Val) → has_length m ≡ true → IsOfNode N m w → HasLength w
length_part N None w e t = absurd cc
length_part N (Some (node.Row l c)) (row j ns) e t = record { long = length ns; is = refl }
length_part N (Some (node.Row l c)) _ e t = absurd t
length_part N (Some (node.Text c)) (row j ns) e t = record { long = length ns; is = refl }
length_part N (Some (node.Text c)) _ e t = absurd t
length_part N (Some (node.Items i c)) (items vs) e t = record { long = count vs; is = refl }
length_part N (Some (node.Items i c)) _ e t = absurd t
length_part N (Some node.Void) w e t = absurd cc
length_part N (Some (node.Num x)) w e t = absurd cc
length_part N (Some (node.Enum l)) w e t = absurd cc
length_part N (Some (node.Group ids)) w e t = absurd cc
length_part N (Some (node.Choice g arms o)) w e t = absurd cc
length_part N (Some (node.Maybe i)) w e t = absurd cc

-- ---- elements, and the value that may be there

any_are : (N : List Node) (vs : Vals) → Each (IsAt N None) vs
any_are N no_more = tt
any_are N (val v vs) = (tt, any_are N vs)

pub elements_part : (N : List Node) (m : Option Node) (w : Val) (vs : Vals) → IsOfNode N m w → elements_in w ≡ Some vs
    → Each (IsAt N (element m)) vs
elements_part N None w vs t e = any_are N vs
elements_part N (Some (node.Items i c)) (items us) vs t e =
    let same : us ≡ vs = cc in subst (λ (x : Vals). Each (IsOf (type_at N i)) x) same t.1
elements_part N (Some (node.Items i c)) _ vs t e = absurd t
elements_part N (Some node.Void) w vs t e = any_are N vs
elements_part N (Some (node.Num x)) w vs t e = any_are N vs
elements_part N (Some (node.Enum l)) w vs t e = any_are N vs
elements_part N (Some (node.Text c)) w vs t e = any_are N vs
elements_part N (Some (node.Row l c)) w vs t e = any_are N vs
elements_part N (Some (node.Group ids)) w vs t e = any_are N vs
elements_part N (Some (node.Choice g arms o)) w vs t e = any_are N vs
elements_part N (Some (node.Maybe i)) w vs t e = any_are N vs

pub present_part : (N : List Node) (m : Option Node) (w : Val) → IsOfNode N m (present w) → IsAt N (present_spot m) w
present_part N None w t = tt
present_part N (Some (node.Maybe i)) w t = t
present_part N (Some node.Void) w t = tt
present_part N (Some (node.Num x)) w t = tt
present_part N (Some (node.Enum l)) w t = tt
present_part N (Some (node.Text c)) w t = tt
present_part N (Some (node.Row l c)) w t = tt
present_part N (Some (node.Group ids)) w t = tt
present_part N (Some (node.Items i c)) w t = tt
present_part N (Some (node.Choice g arms o)) w t = tt

-- ---- arms

found_part : (N : List Node) (arms : List (ℤ × ℕ)) (o : Option ℕ) (n : ℤ) (w : Val) → IsOfArm (arms_at (unfolded N) arms o) n w
    → IsAt N (arm_found arms o n) w
found_part N [] None n w h = tt
found_part N [] (Some i) n w h = h
found_part N (a ∷ arms) o n w h = by (int_eq n a.0) h (λ g. found_part N arms o n w g) where
  by : (t : Bool) → MatchBool t (IsOf (tree (unfolded N) a.1) w) (IsOfArm (arms_at (unfolded N) arms o) n w)
      → (IsOfArm (arms_at (unfolded N) arms o) n w → IsAt N (arm_found arms o n) w)
      → IsAt N (if t then Some a.1 else arm_found arms o n) w
  by true g more = g
  by false g more = more g

-- the arm of a number
pub arm_part : (N : List Node) (m : Option Node) (n : ℤ) (w : Val) → IsOfNode N m (arm n w) → IsAt N (arm_spot m n) w
arm_part N None n w t = tt
arm_part N (Some (node.Choice g arms o)) n w t = found_part N arms o n w t.1
arm_part N (Some node.Void) n w t = tt
arm_part N (Some (node.Num x)) n w t = tt
arm_part N (Some (node.Enum l)) n w t = tt
arm_part N (Some (node.Text c)) n w t = tt
arm_part N (Some (node.Row l c)) n w t = tt
arm_part N (Some (node.Group ids)) n w t = tt
arm_part N (Some (node.Items i c)) n w t = tt
arm_part N (Some (node.Maybe i)) n w t = tt

pub same_number : (n m : ℤ) → int_eq n m ≡ true → n ≡ m
same_number n m e = (Decides-int_eq n m).0 e

-- a number without a case is of the default arm, where each arm has a case
rest_found : (arms : List (ℤ × ℕ)) (o : Option ℕ) (n : ℤ) (cs : Cases) → all_have arms cs ≡ true → has_case n cs ≡ false
    → arm_found arms o n ≡ o
rest_found [] o n cs a f = refl
rest_found (x ∷ arms) o n cs a f =
    let t = and_parts (has_case x.0 cs) (all_have arms cs) a in by (int_eq n x.0) refl t.0 (rest_found arms o n cs t.1 f)
  where
    by : (b : Bool) → int_eq n x.0 ≡ b → has_case x.0 cs ≡ true → arm_found arms o n ≡ o → (if b then Some x.1 else arm_found arms o n) ≡ o
    by true e has more =
        let there : has_case n cs ≡ true = subst (λ (i : ℤ). has_case i cs ≡ true) (sym (same_number n x.0 e)) has in absurd cc
    by false e has more = more

-- the arm of a number without a case
pub rest_part : (N : List Node) (m : Option Node) (n : ℤ) (w : Val) (cs : Cases) → IsOfNode N m (arm n w) → has_case n cs ≡ false
    → IsAt N (rest_spot m cs) w
rest_part N None n w cs t f = tt
rest_part N (Some (node.Choice g arms o)) n w cs t f = by (all_have arms cs) refl where
  by : (b : Bool) → all_have arms cs ≡ b → IsAt N (if b then o else None) w
  by true e = subst (λ (s : Spot). IsAt N s w) (rest_found arms o n cs e f) (found_part N arms o n w t.1)
  by false e = tt
rest_part N (Some node.Void) n w cs t f = tt
rest_part N (Some (node.Num x)) n w cs t f = tt
rest_part N (Some (node.Enum l)) n w cs t f = tt
rest_part N (Some (node.Text c)) n w cs t f = tt
rest_part N (Some (node.Row l c)) n w cs t f = tt
rest_part N (Some (node.Group ids)) n w cs t f = tt
rest_part N (Some (node.Items i c)) n w cs t f = tt
rest_part N (Some (node.Maybe i)) n w cs t f = tt
