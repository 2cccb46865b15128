-- The tokens of an expression.
use Rattle.std.specs.Prelude.{◌≡◌, Bool, ◌⊎◌, ℕ, zero, suc, ◌<◌, true, false, List, codes}
use Rattle.idl_lex.specs.declared.kinds.TokenKind.TheVariants as K
use Rattle.idl_read.specs.Grammar.{Text, one, word, mark, number, id, ◌&◌, when, joined}
use Rattle.idl_const.specs.declared.tree.UnaryOp.{UnaryOp}
use Rattle.idl_const.specs.declared.tree.UnaryOp.TheVariants as U
use Rattle.idl_const.specs.declared.tree.BinaryOp.{BinaryOp}
use Rattle.idl_const.specs.declared.tree.BinaryOp.TheVariants as B
use Rattle.idl_exprs.specs.declared.languages.Language.{Language}
use Rattle.idl_exprs.specs.declared.languages.Language.TheVariants.{Corba, Mig}
use Rattle.idl_exprs.specs.declared.tree.Identifier.{Identifier}
use Rattle.idl_exprs.specs.declared.tree.ScopedName.{ScopedName}
use Rattle.idl_exprs.specs.declared.tree.Leaf.{Leaf}
use Rattle.idl_exprs.specs.declared.tree.Leaf.TheVariants as L
use Rattle.idl_exprs.specs.Trees.{Tree, leaf, unary, binary}
use Rattle.idl_exprs.specs.Words.{corba_words, plain}

-- identifier = a name that is not a word, or `_` and any name
abbrev pub identifier : Identifier → Text
identifier i ks = (n : List ℕ) × (plain n ≡ i.name) × id corba_words n ks

-- name = [ "::" ] identifier { "::" identifier }
abbrev pub scoped : ScopedName → Text
scoped n = when (mark (codes "::")) n.absolute & joined (codes "::") identifier n.parts

-- a literal or a name, as CORBA has them
abbrev pub leaf_text : Leaf → Text
leaf_text (L.Number n) = number n
leaf_text (L.Character c) = one (K.Char c)
leaf_text (L.Text t) = one (K.Text t)
leaf_text (L.Truth true) = word (codes "TRUE")
leaf_text (L.Truth false) = word (codes "FALSE")
leaf_text (L.Name n) = scoped n

-- a number, the one leaf that MIG has
abbrev pub number_text : Leaf → Text
number_text (L.Number n) = number n
number_text l = λ ks. ⊥

-- the leaves of a language
abbrev pub leaf_in : Language → Leaf → Text
leaf_in Corba = leaf_text
leaf_in Mig = number_text

-- the mark of an operator before its operand
abbrev pub unary_spell : UnaryOp → List ℕ
unary_spell U.Minus = codes "-"
unary_spell U.Plus = codes "+"

-- the mark of an operator between its operands
abbrev pub binary_spell : BinaryOp → List ℕ
binary_spell B.Or = codes "|"
binary_spell B.Xor = codes "^"
binary_spell B.And = codes "&"
binary_spell B.Left = codes "<<"
binary_spell B.Right = codes ">>"
binary_spell B.Add = codes "+"
binary_spell B.Sub = codes "-"
binary_spell B.Mul = codes "*"
binary_spell B.Div = codes "/"
binary_spell B.Rem = codes "%"

-- how loosely an operator binds its operands
abbrev pub looseness : BinaryOp → ℕ
looseness B.Or = 5
looseness B.Xor = 4
looseness B.And = 3
looseness B.Left = 2
looseness B.Right = 2
looseness B.Add = 1
looseness B.Sub = 1
looseness B.Mul = 0
looseness B.Div = 0
looseness B.Rem = 0

-- whether a language has operators before operands
abbrev pub has_signs : Language → Bool
has_signs Corba = true
has_signs Mig = false

-- whether a language has an operator between operands
abbrev pub has : Language → BinaryOp → Bool
has Corba op = true
has Mig B.Add = true
has Mig B.Sub = true
has Mig B.Mul = true
has Mig B.Div = true
has Mig op = false

-- an operator of the language that binds less loosely than `loose`
abbrev pub Allowed : Language → ℕ → BinaryOp → Type 0
Allowed lang loose op = (has lang op ≡ true) × (looseness op < loose)

-- An expression without parentheses around it, over the texts of its operands. Its left operand may have operators that bind as loosely, its right operand may not: operators group to the left.
abbrev pub bare : Language → (ℕ → Tree → Text) → ℕ → Tree → Text
bare lang operand loose (leaf l) ks = leaf_in lang l ks
bare lang operand loose (unary op a) ks = (has_signs lang ≡ true) × (mark (unary_spell op) & operand 0 a) ks
bare lang operand loose (binary op a b) ks = Allowed lang loose op
    × (operand (suc (looseness op)) a & mark (binary_spell op) & operand (looseness op) b) ks

-- An expression within so many levels: an operand, and what is in parentheses, have one level less.
abbrev pub within : Language → ℕ → ℕ → Tree → Text
within lang zero loose t ks = ⊥
within lang (suc n) loose t ks = bare lang (within lang n) loose t ks ⊎ (mark (codes "(") & within lang n 6 t & mark (codes ")")) ks

-- an expression of a language
abbrev pub expression_in : Language → ℕ → Tree → Text
expression_in lang levels t = within lang levels 6 t

-- an expression of CORBA
abbrev pub expression : ℕ → Tree → Text
expression = expression_in Corba

-- an expression of MIG
abbrev pub mig_expression : ℕ → Tree → Text
mig_expression = expression_in Mig
