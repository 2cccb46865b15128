-- What each function of the parser reads: a tool beside Spelling, tied to it in proofs/.
use Rattle.std.specs.Prelude.{Bool, true, false, not, ◌&&◌, ◌||◌, ◌==◌, nat_le, ◌⊎◌, ℕ, zero, suc, max, List, [], ◌∷◌, drop, Option, Some, None, is_some, codes, if◌then◌else◌}
use Rattle.std.proofs.Common.{inl, inr}
use Rattle.std.specs.Str.{bytes_eq}
use Rattle.idl_lex.specs.declared.kinds.Token.{Token}
use Rattle.idl_lex.specs.declared.kinds.TokenKind.{TokenKind}
use Rattle.idl_lex.specs.declared.kinds.TokenKind.TheVariants as K
use Rattle.idl_read.specs.Reading.{Read, Reader, then_on, mark_is, mark_at, number_at, id_at, is_id, token_at, flag_at, begins_with, begins_other, both, mapped, either, after, before, joined_at}
use Rattle.idl_const.specs.declared.tree.UnaryOp.{UnaryOp}
use Rattle.idl_const.specs.declared.tree.UnaryOp.TheVariants as U
use Rattle.idl_const.specs.declared.tree.BinaryOp.{BinaryOp}
use Rattle.idl_const.specs.declared.tree.BinaryOp.TheVariants as B
use Rattle.idl_exprs.specs.declared.languages.Language.{Language}
use Rattle.idl_exprs.specs.declared.languages.Language.TheVariants.{Corba, Mig}
use Rattle.idl_exprs.specs.declared.tree.Identifier.{Identifier}
use Rattle.idl_exprs.specs.declared.tree.ScopedName.{ScopedName}
use Rattle.idl_exprs.specs.declared.tree.Leaf.{Leaf}
use Rattle.idl_exprs.specs.declared.tree.Leaf.TheVariants as L
use Rattle.idl_exprs.specs.Trees.{Tree, leaf, unary, binary}
use Rattle.idl_exprs.specs.Words.{corba_words, plain}
use Rattle.idl_exprs.specs.Spelling.{looseness, has, has_signs}

-- ---- names

-- whether a token is an identifier
abbrev pub is_identifier : TokenKind → Bool
is_identifier = is_id corba_words

abbrev pub identifier_of : List ℕ → Identifier
identifier_of n = record { name = plain n }

-- an identifier
unfoldable pub identifier_at : Reader Identifier
identifier_at = mapped identifier_of (id_at corba_words)

abbrev pub scoped_of : Bool × List Identifier → ScopedName
scoped_of x = record { absolute = x.0; parts = x.1 }

-- whether something else than `}` comes first
abbrev pub is_open : List Token → Bool
is_open = begins_other (mark_is (codes "}"))

-- a scoped name
unfoldable pub scoped_at : Reader ScopedName
scoped_at = mapped scoped_of (both (flag_at (mark_is (codes "::"))) (joined_at (codes "::") identifier_at))

-- ---- literals

-- the literal that a word is
abbrev pub truth_in : List ℕ → Option Leaf
truth_in n = if bytes_eq n (codes "TRUE") then Some (L.Truth true) else if bytes_eq n (codes "FALSE") then Some (L.Truth false) else None

-- the literal that a token is
abbrev pub literal_in : TokenKind → Option Leaf
literal_in (K.Number n) = Some (L.Number n)
literal_in (K.Char c) = Some (L.Character c)
literal_in (K.Text t) = Some (L.Text t)
literal_in (K.Name n) = truth_in n
literal_in _ = None

-- whether a token is a literal
abbrev pub is_literal : TokenKind → Bool
is_literal k = is_some (literal_in k)

abbrev pub leaf_of : Leaf ⊎ ScopedName → Leaf
leaf_of (inl l) = l
leaf_of (inr n) = L.Name n

-- a literal or a name
unfoldable pub leaf_at : Reader Leaf
leaf_at = mapped leaf_of (either (begins_with is_literal) (token_at literal_in) scoped_at)

-- a leaf of a language
abbrev pub leaf_by : Language → Reader Leaf
leaf_by Corba = leaf_at
leaf_by Mig = mapped L.Number number_at

-- ---- operators

-- the operator before an operand that a mark is
abbrev pub unary_of : List ℕ → Option UnaryOp
unary_of m = if bytes_eq m (codes "-") then Some U.Minus else if bytes_eq m (codes "+") then Some U.Plus else None

abbrev pub unary_in : TokenKind → Option UnaryOp
unary_in (K.Mark m) = unary_of m
unary_in _ = None

-- whether a token is an operator before an operand
abbrev pub is_unary : TokenKind → Bool
is_unary k = is_some (unary_in k)

-- whether an operator before an operand comes first, where the language has such
abbrev pub begins_sign : Language → List Token → Bool
begins_sign lang ts = has_signs lang && begins_with is_unary ts

-- the operator between operands that a mark is
abbrev pub binary_of : List ℕ → Option BinaryOp
binary_of m =
    if bytes_eq m (codes "|") then Some B.Or
    else if bytes_eq m (codes "^") then Some B.Xor
    else if bytes_eq m (codes "&") then Some B.And
    else if bytes_eq m (codes "<<") then Some B.Left
    else if bytes_eq m (codes ">>") then Some B.Right
    else if bytes_eq m (codes "+") then Some B.Add
    else if bytes_eq m (codes "-") then Some B.Sub
    else if bytes_eq m (codes "*") then Some B.Mul
    else if bytes_eq m (codes "/") then Some B.Div
    else if bytes_eq m (codes "%") then Some B.Rem
    else None

abbrev pub binary_in : TokenKind → Option BinaryOp
binary_in (K.Mark m) = binary_of m
binary_in _ = None

-- whether a token goes on with an expression, or ends one between `<` and `>`
abbrev pub is_joint : TokenKind → Bool
is_joint k = is_some (binary_in k) || mark_is (codes "::") k || mark_is (codes ">") k

-- whether a token follows a type that is an element
abbrev pub is_after : TokenKind → Bool
is_after k = mark_is (codes ",") k || mark_is (codes ">") k || mark_is (codes ">>") k

-- whether tokens follow a whole type: `,` or `>` or `>>`, or an identifier that no expression goes on with
abbrev pub closes : List Token → Bool
closes [] = false
closes (t ∷ ts) = is_after t.kind || (is_identifier t.kind && not (begins_with is_joint ts))

-- whether an operator is `>>`
abbrev pub is_right : BinaryOp → Bool
is_right B.Right = true
is_right _ = false

-- an operator, where it is one of the language that binds so loosely; between `<` and `>` a `>>` after which a type is whole is not one
abbrev pub operator_of : Language → Bool → ℕ → List Token → Option BinaryOp → Option BinaryOp
operator_of lang angle loose ts None = None
operator_of lang angle loose ts (Some op) =
    if (has lang op && looseness op == loose) && not (angle && (is_right op && closes ts)) then Some op else None

-- the operator that comes first
abbrev pub operator_at : Language → Bool → ℕ → List Token → Option BinaryOp
operator_at lang angle loose [] = None
operator_at lang angle loose (t ∷ ts) = operator_of lang angle loose ts (binary_in t.kind)

-- ---- expressions, each with how many levels it takes

-- an expression, and how many levels it takes
abbrev pub Levelled : Type 0
Levelled = Tree × ℕ

-- an operator between its operands
abbrev pub over : BinaryOp → Levelled → Levelled → Levelled
over op x y = (binary op x.0 y.0, suc (max x.1 y.1))

-- an operand in parentheses, an operator before its operand, or a leaf
abbrev pub primary_of : Levelled ⊎ (UnaryOp × Levelled) ⊎ Leaf → Levelled
primary_of (inl x) = (x.0, suc x.1)
primary_of (inr (inl x)) = (unary x.0 x.1.0, suc x.1.1)
primary_of (inr (inr l)) = (leaf l, 1)

-- the same, over the reader of an operand
abbrev pub primary_at : (Language → Bool → ℕ → Reader Levelled) → Language → Bool → Reader Levelled
primary_at operand lang angle = mapped primary_of (
    either (begins_with (mark_is (codes "("))) (after (mark_at (codes "(")) (before (operand lang false 6) (mark_at (codes ")"))))
    (either (begins_sign lang) (both (token_at unary_in) (operand lang angle 0)) (leaf_by lang)))

-- what is read, where an operator comes first and where none does
abbrev pub by_operator : Option BinaryOp → Read Levelled → (BinaryOp → Read Levelled) → Read Levelled
by_operator None stays goes = stays
by_operator (Some op) stays goes = goes op

-- what is read where it takes so many levels at most
abbrev pub kept_in : ℕ → Levelled → Reader Levelled → Reader Levelled
kept_in levels x next ts = if nat_le x.1 levels then next ts else None

-- what is read on from an operand: `more` operators at most
abbrev pub chain_on : Reader Levelled → (List Token → Option BinaryOp) → ℕ → ℕ → Levelled → Reader Levelled
chain_on operand op levels zero x ts = None
chain_on operand op levels (suc more) x ts = by_operator (op ts) (Some (x, ts))
    (λ o. then_on (operand (drop 1 ts)) (λ y us. kept_in levels (over o x y) (chain_on operand op levels more (over o x y)) us))

-- an expression whose operators bind less loosely than `loose`, over the reader of its operands
abbrev pub climb : (Language → Bool → ℕ → Reader Levelled) → ℕ → Language → Bool → ℕ → Reader Levelled
climb operand below lang angle zero ts = primary_at operand lang angle ts
climb operand below lang angle (suc loose) ts = then_on (climb operand below lang angle loose ts)
    (λ x us. chain_on (operand lang angle loose) (operator_at lang angle loose) (suc below) (suc below) x us)

-- an expression whose operators bind less loosely than `loose`, within so many levels, and how many it takes
abbrev pub within_at : ℕ → Language → Bool → ℕ → Reader Levelled
within_at zero lang angle loose ts = None
within_at (suc n) lang angle loose ts = climb (within_at n) n lang angle loose ts

-- an expression of CORBA; between `<` and `>` it may end before a `>>`
unfoldable pub expression_at : ℕ → Bool → Reader Tree
expression_at levels angle = mapped (λ (x : Levelled). x.0) (within_at levels Corba angle 6)

-- an expression of MIG
unfoldable pub mig_expression_at : ℕ → Reader Tree
mig_expression_at levels = mapped (λ (x : Levelled). x.0) (within_at levels Mig false 6)
