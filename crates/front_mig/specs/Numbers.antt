-- The values of expressions.
use Rattle.std.specs.Prelude.{Bool, nat_le, ℕ, ◌+◌, ◌-◌, ◌^◌, ℤ, not, Ok}
use Rattle.idl_const.specs.Values.{unary_value, binary_value}
use Rattle.aoi.specs.declared.faults.NameFault.TheVariants.{Range}
use Rattle.idl_exprs.specs.declared.tree.Leaf.{Leaf}
use Rattle.idl_exprs.specs.declared.tree.Leaf.TheVariants as L
use Rattle.idl_exprs.specs.Trees.{Tree, leaf, unary, binary}
use Rattle.idl_names.specs.Answers.{Answer, fault, and_then, refused, natural, in_range}

-- the value of a leaf, which is a number in every tree of a file
abbrev pub leaf_value : ℕ → Leaf → Answer ℤ
leaf_value d (L.Number n) = Ok n
leaf_value d l = fault Range d

-- the value of an expression, or its leftmost fault
abbrev pub value : ℕ → Tree → Answer ℤ
value d (leaf l) = leaf_value d l
value d (unary op a) = and_then (value d a) (λ m. in_range d (unary_value op m))
value d (binary op a b) = and_then (value d a) (λ m. and_then (value d b) (λ n. in_range d (binary_value op m n)))

-- a number of elements, from 1
abbrev pub length_of : ℕ → Tree → Answer ℕ
length_of d e = and_then (value d e) (λ n. natural 1 d n)

-- message ids: so many from the base up, and 100 above each that of its reply, are at most 2 ^ 31 - 1
abbrev pub ids_fit : ℕ → ℕ → Bool
ids_fit base slots = nat_le (base + slots + 100) (2 ^ 31 - 1)

-- the base of a subsystem, which is its first message id
abbrev pub base_of : ℕ → Tree → Answer ℕ
base_of d e = and_then (value d e) (λ n. and_then (natural 0 d n) (λ n. and_then (refused Range d (not (ids_fit n 0))) (λ _. Ok n)))
