-- How the logic stores the plain tree of an expression: as a tree of numbers that gives it back.
use Rattle.std.specs.Prelude.{◌≡◌, refl, Bool, true, false, ℕ, ◌+◌, ◌==◌, cond, nat_lt, List, [], ◌∷◌}
use Rattle.std.specs.Coded.{Coded, code_by}
use base.Stored.{Gv, gnil, gnum, gcons, num}
use denote.Struct.Codes.{itself}
use mathlib.Core.Path.{ap, ◌∙◌}
use Rattle.idl_const.specs.declared.tree.UnaryOp.{UnaryOp}
use Rattle.idl_const.specs.declared.tree.UnaryOp.TheVariants as U
use Rattle.idl_const.specs.declared.tree.BinaryOp.{BinaryOp}
use Rattle.idl_const.specs.declared.tree.BinaryOp.TheVariants as B
use Rattle.idl_exprs.specs.declared.tree.Identifier.{Identifier}
use Rattle.idl_exprs.specs.declared.tree.Leaf.{Leaf}
use Rattle.idl_exprs.specs.declared.tree.Leaf.TheVariants as L
use Rattle.idl_exprs.specs.Trees.{Tree, leaf, unary, binary}
use Rattle.kit_base.specs.Stored.{number_code, number_at, number_back, octets_code, octets_at, octets_back}

-- ---- operators and names

abbrev pub unary_number : UnaryOp → ℕ
unary_number U.Minus = 10
unary_number U.Plus = 11

abbrev pub unary_at : ℕ → UnaryOp
unary_at n = cond (n == 10) U.Minus U.Plus

abbrev pub binary_number : BinaryOp → ℕ
binary_number B.Or = 20
binary_number B.Xor = 21
binary_number B.And = 22
binary_number B.Left = 23
binary_number B.Right = 24
binary_number B.Add = 25
binary_number B.Sub = 26
binary_number B.Mul = 27
binary_number B.Div = 28
binary_number B.Rem = 29

abbrev pub binary_at : ℕ → BinaryOp
binary_at n =
    cond (n == 20) B.Or (cond (n == 21) B.Xor (cond (n == 22) B.And (cond (n == 23) B.Left (cond (n == 24) B.Right
    (cond (n == 25) B.Add (cond (n == 26) B.Sub (cond (n == 27) B.Mul (cond (n == 28) B.Div B.Rem))))))))

abbrev pub words_code : List Identifier → Gv
words_code [] = gnil
words_code (n ∷ ns) = gcons (octets_code n.name) (words_code ns)

abbrev pub words_at : Gv → List Identifier
words_at gnil = []
words_at (gnum n) = []
words_at (gcons a b) = record { name = octets_at a } ∷ words_at b

words_back : (ns : List Identifier) → words_at (words_code ns) ≡ ns
words_back [] = refl
words_back (n ∷ ns) = ap (λ z. record { name = z } ∷ words_at (words_code ns)) (octets_back n.name) ∙ ap (λ z. n ∷ z) (words_back ns)

-- ---- leaves

abbrev pub truth_number : Bool → ℕ
truth_number true = 1
truth_number false = 0

abbrev pub leaf_code : Leaf → Gv
leaf_code (L.Number n) = gcons (gnum 0) (number_code n)
leaf_code (L.Character c) = gcons (gnum 1) (gnum c)
leaf_code (L.Text t) = gcons (gnum 2) (octets_code t)
leaf_code (L.Truth b) = gcons (gnum 3) (gnum (truth_number b))
leaf_code (L.Name n) = gcons (gnum (4 + truth_number n.absolute)) (words_code n.parts)

abbrev pub leaf_by : ℕ → Gv → Leaf
leaf_by tag g =
    cond (tag == 0) (L.Number (number_at g)) (cond (tag == 1) (L.Character (num g)) (cond (tag == 2) (L.Text (octets_at g))
    (cond (tag == 3) (L.Truth (num g == 1)) (L.Name (record { absolute = tag == 5; parts = words_at g })))))

abbrev pub leaf_at : Gv → Leaf
leaf_at gnil = L.Truth false
leaf_at (gnum n) = L.Truth false
leaf_at (gcons a b) = leaf_by (num a) b

name_back : (b : Bool) (parts : List Identifier)
    → leaf_by (4 + truth_number b) (words_code parts) ≡ L.Name (record { absolute = b; parts = parts })
name_back true parts = ap (λ z. L.Name (record { absolute = true; parts = z })) (words_back parts)
name_back false parts = ap (λ z. L.Name (record { absolute = false; parts = z })) (words_back parts)

truth_back : (b : Bool) → (truth_number b == 1) ≡ b
truth_back true = refl
truth_back false = refl

leaf_back : (l : Leaf) → leaf_at (leaf_code l) ≡ l
leaf_back (L.Number n) = ap L.Number (number_back n)
leaf_back (L.Character c) = refl
leaf_back (L.Text t) = ap L.Text (octets_back t)
leaf_back (L.Truth b) = ap L.Truth (truth_back b)
leaf_back (L.Name n) = name_back n.absolute n.parts

-- ---- trees

abbrev pub tree_code : Tree → Gv
tree_code (leaf l) = gcons (gnum 0) (leaf_code l)
tree_code (unary op a) = gcons (gnum (unary_number op)) (tree_code a)
tree_code (binary op a b) = gcons (gnum (binary_number op)) (gcons (tree_code a) (tree_code b))

-- what a stored tree is as a tree, and what its two parts are
pub record Reading : Type 0 where
  pub whole : Tree
  pub front : Tree
  pub back : Tree

abbrev pub tree_by : ℕ → Gv → Reading → Tree
tree_by tag g r = cond (tag == 0) (leaf (leaf_at g))
    (cond (nat_lt tag 20) (unary (unary_at tag) r.whole) (binary (binary_at tag) r.front r.back))

abbrev pub read : Gv → Reading
read gnil = record { whole = leaf (L.Truth false); front = leaf (L.Truth false); back = leaf (L.Truth false) }
read (gnum n) = record { whole = leaf (L.Truth false); front = leaf (L.Truth false); back = leaf (L.Truth false) }
read (gcons a b) = record { whole = tree_by (num a) b (read b); front = (read a).whole; back = (read b).whole }

binary_back : (op : BinaryOp) (g : Gv) (r : Reading) → tree_by (binary_number op) g r ≡ binary op r.front r.back
binary_back B.Or g r = refl
binary_back B.Xor g r = refl
binary_back B.And g r = refl
binary_back B.Left g r = refl
binary_back B.Right g r = refl
binary_back B.Add g r = refl
binary_back B.Sub g r = refl
binary_back B.Mul g r = refl
binary_back B.Div g r = refl
binary_back B.Rem g r = refl

unary_back : (op : UnaryOp) (g : Gv) (r : Reading) → tree_by (unary_number op) g r ≡ unary op r.whole
unary_back U.Minus g r = refl
unary_back U.Plus g r = refl

pub tree_back : (t : Tree) → (read (tree_code t)).whole ≡ t
tree_back (leaf l) = ap leaf (leaf_back l)
tree_back (unary op a) = unary_back op (tree_code a) (read (tree_code a)) ∙ ap (unary op) (tree_back a)
tree_back (binary op a b) =
    binary_back op (gcons (tree_code a) (tree_code b)) (read (gcons (tree_code a) (tree_code b)))
    ∙ ap (λ z. binary op z (read (tree_code b)).whole) (tree_back a) ∙ ap (binary op a) (tree_back b)

abbrev pub coded_tree : Coded Tree
coded_tree = code_by Gv itself tree_code (λ g. (read g).whole) tree_back
