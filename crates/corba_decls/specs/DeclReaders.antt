-- What each function of the parser reads: a tool beside Spelling, tied to it in proofs/.
use Rattle.std.specs.Prelude.{◌⊎◌, ℕ, zero, suc, ◌-◌, Bool, false, ◌||◌, List, Option, None, codes}
use Rattle.std.proofs.Common.{inl, inr}
use Rattle.idl_lex.specs.declared.kinds.Token.{Token}
use Rattle.idl_lex.specs.declared.kinds.TokenKind.{TokenKind}
use Rattle.idl_read.specs.Reading.{Reader, word_is, word_at, mark_at, begins_with, both, mapped, either, after, before, many, some_at, joined_at}
use Rattle.idl_exprs.specs.Trees.{Tree}
use Rattle.idl_exprs.specs.declared.tree.Identifier.{Identifier}
use Rattle.idl_exprs.specs.declared.tree.ScopedName.{ScopedName}
use Rattle.idl_exprs.specs.Readers.{identifier_at, scoped_at, expression_at, is_open}
use Rattle.corba_decls.specs.declared.type_tree.Int.{Int}
use Rattle.corba_decls.specs.declared.type_tree.Base.{Base}
use Rattle.corba_decls.specs.TypeReaders.{is_int, int_at, type_at}
use Rattle.corba_decls.specs.declared.member_tree.Declarator.{Declarator}
use Rattle.corba_decls.specs.declared.member_tree.Struct.{Struct}
use Rattle.corba_decls.specs.declared.member_tree.Exception.{Exception}
use Rattle.corba_decls.specs.declared.member_tree.Enum.{Enum}
use Rattle.corba_decls.specs.MemberReaders.{declarator_at, structure_at, exception_at, enumeration_at}
use Rattle.corba_decls.specs.declared.decl_tree.Tag.{Tag}
use Rattle.corba_decls.specs.declared.decl_tree.Tag.TheVariants as T
use Rattle.corba_decls.specs.declared.decl_tree.Label.{Label}
use Rattle.corba_decls.specs.declared.decl_tree.Label.TheVariants as L
use Rattle.corba_decls.specs.declared.decl_tree.Case.{Case}
use Rattle.corba_decls.specs.declared.decl_tree.Union.{Union}
use Rattle.corba_decls.specs.declared.decl_tree.Aliased.{Aliased}
use Rattle.corba_decls.specs.declared.decl_tree.Aliased.TheVariants as A
use Rattle.corba_decls.specs.declared.decl_tree.Typedef.{Typedef}
use Rattle.corba_decls.specs.declared.decl_tree.ConstantType.{ConstantType}
use Rattle.corba_decls.specs.declared.decl_tree.ConstantType.TheVariants as C
use Rattle.corba_decls.specs.declared.decl_tree.Constant.{Constant}
use Rattle.corba_decls.specs.declared.decl_tree.Declaration.{Declaration}
use Rattle.corba_decls.specs.declared.decl_tree.Declaration.TheVariants as D

-- this word alone, or what does not begin with it
abbrev pub word_or : {A : Type 0} → List ℕ → Reader A → Reader (Unit {0} ⊎ A)
word_or w r = either (begins_with (word_is w)) (word_at w) r

-- what begins with this word, or another
abbrev pub led_or : {A B : Type 0} → List ℕ → Reader A → Reader B → Reader (A ⊎ B)
led_or w r s = either (begins_with (word_is w)) r s

-- an integer type or a name
abbrev pub number_at : Reader (Int ⊎ ScopedName)
number_at = either (begins_with is_int) int_at scoped_at

-- ---- unions

abbrev pub tag_of : Unit {0} ⊎ Unit {0} ⊎ Int ⊎ ScopedName → Tag
tag_of (inl _) = T.Char
tag_of (inr (inl _)) = T.Boolean
tag_of (inr (inr (inl i))) = T.Int i
tag_of (inr (inr (inr n))) = T.Named n

-- the type of a discriminator
unfoldable pub tag_type_at : Reader Tag
tag_type_at = mapped tag_of (word_or (codes "char") (word_or (codes "boolean") number_at))

-- the type of a discriminator, where it has a level
abbrev pub tag_at : ℕ → Reader Tag
tag_at zero ts = None
tag_at (suc n) ts = tag_type_at ts

abbrev pub label_of : Tree ⊎ Unit {0} → Label
label_of (inl e) = L.Case e
label_of (inr _) = L.Default

-- a label
unfoldable pub label_at : ℕ → Reader Label
label_at n = mapped label_of (led_or (codes "case")
    (after (word_at (codes "case")) (before (expression_at n false) (mark_at (codes ":"))))
    (after (word_at (codes "default")) (mark_at (codes ":"))))

-- whether a token begins a label
abbrev pub is_label : TokenKind → Bool
is_label k = word_is (codes "case") k || word_is (codes "default") k

-- whether a label comes first
abbrev pub has_label : List Token → Bool
has_label = begins_with is_label

abbrev pub case_of : List Label × ((List (Option Tree) × Base) × Declarator) → Case
case_of x = record { labels = x.0; of = x.1.0; declarator = x.1.1 }

-- a case
unfoldable pub case_at : ℕ → Reader Case
case_at n = mapped case_of
    (both (some_at (many has_label (label_at n))) (both (type_at n) (before (declarator_at n) (mark_at (codes ";")))))

abbrev pub union_of : Identifier × (Tag × List Case) → Union
union_of x = record { name = x.0; tag = x.1.0; cases = x.1.1 }

-- a union
unfoldable pub union_at : ℕ → Reader Union
union_at n = mapped union_of (after (word_at (codes "union")) (both identifier_at
    (after (word_at (codes "switch")) (after (mark_at (codes "(")) (both (tag_at (n - 1)) (after (mark_at (codes ")"))
    (after (mark_at (codes "{")) (before (some_at (many is_open (case_at n))) (mark_at (codes "}"))))))))))

-- ---- typedefs

abbrev pub aliased_of : Struct ⊎ Union ⊎ Enum ⊎ (List (Option Tree) × Base) → Aliased
aliased_of (inl s) = A.Struct s
aliased_of (inr (inl u)) = A.Union u
aliased_of (inr (inr (inl e))) = A.Enum e
aliased_of (inr (inr (inr t))) = A.Type t

-- what a typedef gives names to
unfoldable pub aliased_at : ℕ → Reader Aliased
aliased_at n = mapped aliased_of (led_or (codes "struct") (structure_at n)
    (led_or (codes "union") (union_at n) (led_or (codes "enum") enumeration_at (type_at n))))

abbrev pub typedef_of : Aliased × List Declarator → Typedef
typedef_of x = record { of = x.0; declarators = x.1 }

-- a typedef
unfoldable pub typedef_at : ℕ → Reader Typedef
typedef_at n = mapped typedef_of (after (word_at (codes "typedef")) (both (aliased_at n) (joined_at (codes ",") (declarator_at n))))

-- ---- constants

abbrev pub constant_type_of : Unit {0} ⊎ Unit {0} ⊎ Unit {0} ⊎ Unit {0} ⊎ Int ⊎ ScopedName → ConstantType
constant_type_of (inl _) = C.Char
constant_type_of (inr (inl _)) = C.Boolean
constant_type_of (inr (inr (inl _))) = C.Octet
constant_type_of (inr (inr (inr (inl _)))) = C.Text
constant_type_of (inr (inr (inr (inr (inl i))))) = C.Int i
constant_type_of (inr (inr (inr (inr (inr n))))) = C.Named n

-- the type of a constant
unfoldable pub constant_type_at : Reader ConstantType
constant_type_at = mapped constant_type_of
    (word_or (codes "char") (word_or (codes "boolean") (word_or (codes "octet") (word_or (codes "string") number_at))))

abbrev pub constant_of : ConstantType × (Identifier × Tree) → Constant
constant_of x = record { of = x.0; name = x.1.0; value = x.1.1 }

-- a constant
unfoldable pub constant_at : ℕ → Reader Constant
constant_at n = mapped constant_of (after (word_at (codes "const"))
    (both constant_type_at (both identifier_at (after (mark_at (codes "=")) (expression_at n false)))))

-- ---- declarations

abbrev pub declared_of : Typedef ⊎ Struct ⊎ Union ⊎ Enum ⊎ Constant ⊎ Exception → Declaration
declared_of (inl t) = D.Typedef t
declared_of (inr (inl s)) = D.Struct s
declared_of (inr (inr (inl u))) = D.Union u
declared_of (inr (inr (inr (inl e)))) = D.Enum e
declared_of (inr (inr (inr (inr (inl c))))) = D.Constant c
declared_of (inr (inr (inr (inr (inr e))))) = D.Exception e

-- a declaration, where it has a level
unfoldable pub declared_at : ℕ → Reader Declaration
declared_at n = mapped declared_of (
    led_or (codes "typedef") (typedef_at n)
    (led_or (codes "struct") (structure_at n)
    (led_or (codes "union") (union_at n)
    (led_or (codes "enum") enumeration_at
    (led_or (codes "const") (constant_at n) (exception_at n))))))

-- a declaration within so many levels
abbrev pub declaration_at : ℕ → Reader Declaration
declaration_at zero ts = None
declaration_at (suc n) ts = declared_at (suc n) ts

-- whether a token begins a declaration
abbrev pub is_declaration : TokenKind → Bool
is_declaration k =
    word_is (codes "typedef") k || (word_is (codes "struct") k || (word_is (codes "union") k
    || (word_is (codes "enum") k || (word_is (codes "const") k || word_is (codes "exception") k))))
