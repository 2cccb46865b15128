-- The values of constant expressions.
use Rattle.std.specs.Prelude.{true, false, ℕ, ℤ, pos, length, Option, Some, None, Ok}
use Rattle.idl_const.specs.Values.{unary_value, binary_value}
use Rattle.aoi.specs.declared.faults.NameFault.TheVariants.{Unknown, NotConst, Range}
use Rattle.idl_names.specs.Answers.{Answer, fault, and_then, natural, in_range}
use Rattle.idl_exprs.specs.declared.tree.Leaf.{Leaf}
use Rattle.idl_exprs.specs.declared.tree.Leaf.TheVariants as L
use Rattle.idl_exprs.specs.Trees.{Tree, leaf, unary, binary}
use Rattle.corba_scopes.specs.declared.meanings.Meaning.{Meaning}
use Rattle.corba_scopes.specs.declared.meanings.Meaning.TheVariants as M
use Rattle.corba_scopes.specs.declared.meanings.Constant.{Constant}
use Rattle.corba_scopes.specs.declared.meanings.Constant.TheVariants as C
use Rattle.corba_scopes.specs.Names.{Names}
use Rattle.corba_scopes.specs.Finding.{named, meaning}

-- the number of a constant or an enumerator
abbrev pub number_of_meaning : ℕ → Meaning → Answer ℤ
number_of_meaning d (M.Number n) = Ok n
number_of_meaning d _ = fault NotConst d

-- the number that a name stands for
abbrev pub number_of : ℕ → Option Meaning → Answer ℤ
number_of d None = fault Unknown d
number_of d (Some m) = number_of_meaning d m

-- the number of a leaf: that of a character is its code, and a string does not have one
abbrev pub leaf_number : Names → ℕ → Leaf → Answer ℤ
leaf_number s d (L.Number n) = Ok n
leaf_number s d (L.Character c) = Ok (pos c)
leaf_number s d (L.Text t) = fault Range d
leaf_number s d (L.Truth true) = Ok (pos 1)
leaf_number s d (L.Truth false) = Ok (pos 0)
leaf_number s d (L.Name n) = number_of d (meaning (named s n))

-- the number of an expression here, or its leftmost fault
abbrev pub number : Names → ℕ → Tree → Answer ℤ
number s d (leaf l) = leaf_number s d l
number s d (unary op a) = and_then (number s d a) (λ m. in_range d (unary_value op m))
number s d (binary op a b) = and_then (number s d a) (λ m. and_then (number s d b) (λ n. in_range d (binary_value op m n)))

-- the value of a constant: a string alone is a string, and anything else a number
abbrev pub constant : Names → ℕ → Tree → Answer Constant
constant s d (leaf (L.Text t)) = Ok (C.Text (length t))
constant s d t = and_then (number s d t) (λ n. Ok (C.Number n))

-- a bound, or the length of an array: from 1 up to 2 ^ 32 - 1
abbrev pub length_of : Names → ℕ → Tree → Answer ℕ
length_of s d t = and_then (number s d t) (natural 1 d)

-- what the name of a constant stands for
abbrev pub meaning_of_constant : Constant → Meaning
meaning_of_constant (C.Number n) = M.Number n
meaning_of_constant (C.Text n) = M.Text
