-- What each function of the parser reads: a tool beside Spelling, tied to it in proofs/.
use Rattle.std.specs.Prelude.{Bool, ◌||◌, ◌⊎◌, ℕ, zero, suc, ◌-◌, List, [], ◌∷◌, Option, Some, None, codes}
use Rattle.std.proofs.Common.{inl, inr}
use Rattle.idl_lex.specs.declared.kinds.Token.{Token}
use Rattle.idl_lex.specs.declared.kinds.TokenKind.{TokenKind}
use Rattle.idl_read.specs.Reading.{Reader, word_is, mark_is, word_at, mark_at, token_at, word_in, has_word, flag_at, begins_with, begins_other, both, mapped, either, option, after, before, joined_at}
use Rattle.idl_exprs.specs.Trees.{Tree}
use Rattle.idl_exprs.specs.declared.tree.Identifier.{Identifier}
use Rattle.idl_exprs.specs.declared.tree.ScopedName.{ScopedName}
use Rattle.idl_exprs.specs.Readers.{identifier_at, scoped_at}
use Rattle.corba_decls.specs.declared.type_tree.Base.{Base}
use Rattle.corba_decls.specs.TypeReaders.{type_at}
use Rattle.corba_syntax.specs.declared.operation_tree.Reference.{Reference}
use Rattle.corba_syntax.specs.declared.operation_tree.Attribute.{Attribute}
use Rattle.corba_syntax.specs.declared.operation_tree.Direction.{Direction}
use Rattle.corba_syntax.specs.declared.operation_tree.Direction.TheVariants as D
use Rattle.corba_syntax.specs.declared.operation_tree.Parameter.{Parameter}
use Rattle.corba_syntax.specs.declared.operation_tree.Operation.{Operation}

-- a type, as the bounds of its sequences and what they hold
abbrev Type' : Type 0
Type' = List (Option Tree) × Base

-- a list that may be missing
abbrev pub or_none : {A : Type 0} → Option (List A) → List A
or_none None = []
or_none (Some xs) = xs

-- a list where the test passes, else the empty one
abbrev pub any_at : {A : Type 0} → (List Token → Bool) → Reader (List A) → Reader (List A)
any_at go r = mapped or_none (option go r)

-- whether a `,` comes first
abbrev pub is_further : List Token → Bool
is_further = begins_with (mark_is (codes ","))

abbrev pub reference_of : ScopedName → Reference
reference_of n = record { name = n }

-- a name that refers to an interface or an exception: it needs one level
abbrev pub reference_at : ℕ → Reader Reference
reference_at zero ts = None
reference_at (suc n) ts = mapped reference_of scoped_at ts

-- ---- attributes

-- whether a token begins attributes
abbrev pub is_attribute : TokenKind → Bool
is_attribute k = word_is (codes "readonly") k || word_is (codes "attribute") k

abbrev pub attribute_of : Bool × (Type' × List Identifier) → Attribute
attribute_of x = record { readonly = x.0; of = x.1.0; names = x.1.1 }

-- attributes
unfoldable pub attribute_at : ℕ → Reader Attribute
attribute_at n = mapped attribute_of (both (flag_at (word_is (codes "readonly")))
    (after (word_at (codes "attribute")) (both (type_at n) (joined_at (codes ",") identifier_at))))

-- ---- operations

-- the words of the directions
abbrev pub direction_words : List (List ℕ × Direction)
direction_words = (codes "in", D.In) ∷ (codes "out", D.Out) ∷ (codes "inout", D.InOut) ∷ []

-- the direction that a token is
abbrev pub direction_in : TokenKind → Option Direction
direction_in = word_in direction_words

-- whether a token is a direction
abbrev pub is_direction : TokenKind → Bool
is_direction = has_word direction_words

abbrev pub parameter_of : Direction × (Type' × Identifier) → Parameter
parameter_of x = record { direction = x.0; of = x.1.0; name = x.1.1 }

-- a parameter
unfoldable pub parameter_at : ℕ → Reader Parameter
parameter_at n = mapped parameter_of (both (token_at direction_in) (both (type_at n) identifier_at))

-- the parameters in their parentheses
unfoldable pub parameters_at : ℕ → Reader (List Parameter)
parameters_at n = after (mark_at (codes "("))
    (before (any_at (begins_other (mark_is (codes ")"))) (joined_at (codes ",") (parameter_at n))) (mark_at (codes ")")))

-- the exceptions that are raised; none where `raises` does not come first
unfoldable pub raises_at : ℕ → Reader (List Reference)
raises_at n = any_at (begins_with (word_is (codes "raises"))) (after (word_at (codes "raises"))
    (after (mark_at (codes "(")) (before (joined_at (codes ",") (reference_at n)) (mark_at (codes ")")))))

abbrev pub result_of : Unit {0} ⊎ Type' → Option Type'
result_of (inl _) = None
result_of (inr t) = Some t

-- the type of a result, or `void`
unfoldable pub result_at : ℕ → Reader (Option Type')
result_at n = mapped result_of (either (begins_with (word_is (codes "void"))) (word_at (codes "void")) (type_at n))

abbrev pub operation_of : Bool × (Option Type' × (Identifier × (List Parameter × List Reference))) → Operation
operation_of x = record { oneway = x.0; result = x.1.0; name = x.1.1.0; parameters = x.1.1.1.0; raises = x.1.1.1.1 }

-- an operation, with one level less in its parentheses
unfoldable pub operation_at : ℕ → Reader Operation
operation_at n = mapped operation_of (both (flag_at (word_is (codes "oneway")))
    (both (result_at n) (both identifier_at (both (parameters_at (n - 1)) (raises_at (n - 1))))))
