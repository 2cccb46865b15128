-- What each function of the parser reads: a tool beside Derivation, tied to it in proofs/.
use Rattle.std.specs.Prelude.{Bool, true, false, ◌⊎◌, ℕ, ℤ, List, [], ◌∷◌, Option, Some, None, codes}
use Rattle.std.proofs.Common.{inl, inr}
use Rattle.idl_lex.specs.declared.kinds.TokenKind.{TokenKind}
use Rattle.idl_read.specs.Reading.{Reader, word_is, mark_is, word_at, mark_at, number_at, id_at, token_at, flag_at, is_id, word_in, has_word, begins_with, begins_other, both, mapped, either, option, after, before, joined_at, until_at, while_at, some_at}
use Rattle.onc_syntax.specs.Words.{onc_words}
use Rattle.onc_syntax.specs.declared.tree.Value.{Value}
use Rattle.onc_syntax.specs.declared.tree.Value.TheVariants as V
use Rattle.onc_syntax.specs.declared.tree.IntWord.{IntWord}
use Rattle.onc_syntax.specs.declared.tree.IntWord.TheVariants.{Int, Long, Short, Char, Hyper}
use Rattle.onc_syntax.specs.declared.tree.Prefix.{Prefix}
use Rattle.onc_syntax.specs.declared.tree.Prefix.TheVariants.{Struct, Union, Enum}
use Rattle.onc_syntax.specs.declared.tree.TypeName.{TypeName as Ty}
use Rattle.onc_syntax.specs.declared.tree.TypeName.TheVariants as T
use Rattle.onc_syntax.specs.declared.tree.Decl.{Decl}
use Rattle.onc_syntax.specs.declared.tree.Decl.TheVariants as D
use Rattle.onc_syntax.specs.declared.tree.Item.{Item}
use Rattle.onc_syntax.specs.declared.tree.Member.{Member}
use Rattle.onc_syntax.specs.declared.tree.Arm.{Arm}
use Rattle.onc_syntax.specs.declared.tree.Arm.TheVariants as A
use Rattle.onc_syntax.specs.declared.tree.Label.{Label}
use Rattle.onc_syntax.specs.declared.tree.Case.{Case}
use Rattle.onc_syntax.specs.declared.tree.ProcType.{ProcType}
use Rattle.onc_syntax.specs.declared.tree.ProcType.TheVariants as P
use Rattle.onc_syntax.specs.declared.tree.Procedure.{Procedure}
use Rattle.onc_syntax.specs.declared.tree.Version.{Version}
use Rattle.onc_syntax.specs.declared.tree.Union.{Union as UnionDef}
use Rattle.onc_syntax.specs.declared.tree.Def.{Def}
use Rattle.onc_syntax.specs.declared.tree.Def.TheVariants as F

-- an identifier
abbrev pub name_at : Reader (List ℕ)
name_at = id_at onc_words

-- ---- values

-- whether a token is an identifier
abbrev pub is_name : TokenKind → Bool
is_name = is_id onc_words

-- a value by its two forms
abbrev pub value_of : List ℕ ⊎ (Bool × ℤ) → Value
value_of (inl n) = V.Name n
value_of (inr x) = V.Number x.0 x.1

-- a value
unfoldable pub value_at : Reader Value
value_at = mapped value_of (either (begins_with is_name) name_at (both (flag_at (mark_is (codes "-"))) number_at))

-- ---- types

-- the words for kinds of numbers
abbrev pub int_words : List (List ℕ × IntWord)
int_words = (codes "int", Int) ∷ (codes "long", Long) ∷ (codes "short", Short) ∷ (codes "char", Char) ∷ (codes "hyper", Hyper) ∷ []

-- the kind of number whose word a token is
abbrev pub int_in : TokenKind → Option IntWord
int_in = word_in int_words

-- whether a token is a word for a kind of number
abbrev pub is_int : TokenKind → Bool
is_int = has_word int_words

-- the words that may come before a type's name
abbrev pub prefix_words : List (List ℕ × Prefix)
prefix_words = (codes "struct", Struct) ∷ (codes "union", Union) ∷ (codes "enum", Enum) ∷ []

-- the prefix that a token is
abbrev pub prefix_in : TokenKind → Option Prefix
prefix_in = word_in prefix_words

-- whether a token is a prefix
abbrev pub is_prefix : TokenKind → Bool
is_prefix = has_word prefix_words

-- a word for a kind of number
abbrev pub int_at : Reader IntWord
int_at = token_at int_in

-- a prefix
abbrev pub prefix_at : Reader Prefix
prefix_at = token_at prefix_in

-- a type by its four forms
abbrev pub type_of : Option IntWord ⊎ IntWord ⊎ Unit {0} ⊎ (Option Prefix × List ℕ) → Ty
type_of (inl (Some w)) = T.Int true w
type_of (inl None) = T.Unsigned
type_of (inr (inl w)) = T.Int false w
type_of (inr (inr (inl _))) = T.Bool
type_of (inr (inr (inr x))) = T.Named x.0 x.1

-- a type
unfoldable pub type_at : Reader Ty
type_at = mapped type_of (
    either (begins_with (word_is (codes "unsigned"))) (after (word_at (codes "unsigned")) (option (begins_with is_int) int_at))
    (either (begins_with is_int) int_at
    (either (begins_with (word_is (codes "bool"))) (word_at (codes "bool"))
    (both (option (begins_with is_prefix) prefix_at) name_at))))

-- ---- declarations

-- a number of elements
unfoldable pub exactly_at : Reader Value
exactly_at = after (mark_at (codes "[")) (before value_at (mark_at (codes "]")))

-- whether a token is `>`
abbrev pub is_close : TokenKind → Bool
is_close = mark_is (codes ">")

-- a greatest number of elements
unfoldable pub at_most_at : Reader (Option Value)
at_most_at = after (mark_at (codes "<")) (before (option (begins_other is_close) value_at) (mark_at (codes ">")))

-- a declaration by its forms: opaque, string, or with a type
abbrev pub decl_of : (List ℕ × (Value ⊎ Option Value)) ⊎ (List ℕ × Option Value)
    ⊎ (Ty × (List ℕ ⊎ (List ℕ × (Value ⊎ Option (Option Value)))))
    → Decl
decl_of (inl (n, inl v)) = D.OpaqueArray n v
decl_of (inl (n, inr v)) = D.OpaqueList n v
decl_of (inr (inl (n, v))) = D.Text n v
decl_of (inr (inr (t, inl n))) = D.Pointer t n
decl_of (inr (inr (t, inr (n, inl v)))) = D.Array t n v
decl_of (inr (inr (t, inr (n, inr None)))) = D.Plain t n
decl_of (inr (inr (t, inr (n, inr (Some v))))) = D.List t n v

-- a declaration
unfoldable pub decl_at : Reader Decl
decl_at = mapped decl_of (
    either (begins_with (word_is (codes "opaque")))
    (after (word_at (codes "opaque")) (both name_at (either (begins_with (mark_is (codes "["))) exactly_at at_most_at)))
    (either (begins_with (word_is (codes "string"))) (after (word_at (codes "string")) (both name_at at_most_at))
    (both type_at (either (begins_with (mark_is (codes "*"))) (after (mark_at (codes "*")) name_at)
    (both name_at (either (begins_with (mark_is (codes "["))) exactly_at
    (option (begins_with (mark_is (codes "<"))) at_most_at)))))))

-- ---- items

-- an item by its parts
abbrev pub item_of : List ℕ × Option Value → Item
item_of x = record { name = x.0; value = x.1 }

-- an item
unfoldable pub item_at : Reader Item
item_at = mapped item_of (both name_at (option (begins_with (mark_is (codes "="))) (after (mark_at (codes "=")) value_at)))

-- ---- members and cases

-- a declaration and its end
unfoldable pub member_at : Reader Member
member_at = mapped (λ d. record { decl = d }) (before decl_at (mark_at (codes ";")))

-- an arm by its two forms
abbrev pub arm_of : Unit {0} ⊎ Decl → Arm
arm_of (inl _) = A.Void
arm_of (inr d) = A.Decl d

-- an arm
unfoldable pub arm_at : Reader Arm
arm_at = mapped arm_of (either (begins_with (word_is (codes "void"))) (word_at (codes "void")) decl_at)

-- a label
unfoldable pub label_at : Reader Label
label_at = mapped (λ v. record { value = v }) (after (word_at (codes "case")) (before value_at (mark_at (codes ":"))))

-- a case
unfoldable pub case_at : Reader Case
case_at = mapped (λ x. record { labels = x.0; arm = x.1 })
    (both (some_at (while_at (codes "case") label_at)) (before arm_at (mark_at (codes ";"))))

-- a default
unfoldable pub default_at : Reader Arm
default_at = after (word_at (codes "default")) (after (mark_at (codes ":")) (before arm_at (mark_at (codes ";"))))

-- ---- programs

-- a parameter's type by its three forms
abbrev pub proc_type_of : Unit {0} ⊎ Unit {0} ⊎ Ty → ProcType
proc_type_of (inl _) = P.Void
proc_type_of (inr (inl _)) = P.Text
proc_type_of (inr (inr t)) = P.Plain t

-- the type of a parameter or a result
unfoldable pub proc_type_at : Reader ProcType
proc_type_at = mapped proc_type_of (
    either (begins_with (word_is (codes "void"))) (word_at (codes "void"))
    (either (begins_with (word_is (codes "string"))) (word_at (codes "string")) type_at))

-- a procedure by its parts
abbrev pub procedure_of : ProcType × (List ℕ × (List ProcType × Value)) → Procedure
procedure_of x = record { result = x.0; name = x.1.0; parameters = x.1.1.0; number = x.1.1.1 }

-- a procedure
unfoldable pub procedure_at : Reader Procedure
procedure_at = mapped procedure_of (both proc_type_at (both name_at (after (mark_at (codes "("))
    (both (joined_at (codes ",") proc_type_at)
    (after (mark_at (codes ")")) (after (mark_at (codes "=")) (before value_at (mark_at (codes ";")))))))))

-- a version by its parts
abbrev pub version_of : List ℕ × (List Procedure × Value) → Version
version_of x = record { name = x.0; procedures = x.1.0; number = x.1.1 }

-- a version
unfoldable pub version_at : Reader Version
version_at = mapped version_of (after (word_at (codes "version"))
    (both name_at (after (mark_at (codes "{")) (both (some_at (until_at (codes "}") procedure_at))
    (after (mark_at (codes "}")) (after (mark_at (codes "=")) (before value_at (mark_at (codes ";")))))))))

-- ---- definitions

-- a constant, after its word
unfoldable pub const_at : Reader (List ℕ × Value)
const_at = both name_at (after (mark_at (codes "=")) value_at)

-- a program, after its word
unfoldable pub program_at : Reader (List ℕ × (List Version × Value))
program_at = both name_at (after (mark_at (codes "{"))
    (both (some_at (until_at (codes "}") version_at)) (after (mark_at (codes "}")) (after (mark_at (codes "=")) value_at))))

-- an enum, after its word
unfoldable pub enum_at : Reader (List ℕ × List Item)
enum_at = both name_at (after (mark_at (codes "{")) (before (joined_at (codes ",") item_at) (mark_at (codes "}"))))

-- a struct, after its word
unfoldable pub struct_at : Reader (List ℕ × List Member)
struct_at = both name_at (after (mark_at (codes "{")) (before (some_at (until_at (codes "}") member_at)) (mark_at (codes "}"))))

-- a union by its parts
abbrev pub union_of : List ℕ × (Ty × (List ℕ × (List Case × Option Arm))) → UnionDef
union_of x = record { name = x.0; tag = x.1.0; tag_name = x.1.1.0; cases = x.1.1.1.0; default = x.1.1.1.1 }

-- a union, after its word
unfoldable pub union_at : Reader UnionDef
union_at = mapped union_of (both name_at (after (word_at (codes "switch")) (after (mark_at (codes "(")) (both type_at
    (both name_at (after (mark_at (codes ")")) (after (mark_at (codes "{")) (both (some_at (while_at (codes "case") case_at))
    (before (option (begins_with (word_is (codes "default"))) default_at) (mark_at (codes "}")))))))))))

-- a definition by its six forms
abbrev pub def_of : Decl ⊎ (List ℕ × Value) ⊎ (List ℕ × (List Version × Value))
    ⊎ (List ℕ × List Item) ⊎ (List ℕ × List Member) ⊎ UnionDef
    → Def
def_of (inl d) = F.Typedef d
def_of (inr (inl x)) = F.Const x.0 x.1
def_of (inr (inr (inl x))) = F.Program x.0 x.1.0 x.1.1
def_of (inr (inr (inr (inl x)))) = F.Enum x.0 x.1
def_of (inr (inr (inr (inr (inl x))))) = F.Struct x.0 x.1
def_of (inr (inr (inr (inr (inr u))))) = F.Union u

-- a definition
unfoldable pub def_at : Reader Def
def_at = mapped def_of (
    either (begins_with (word_is (codes "typedef"))) (after (word_at (codes "typedef")) decl_at)
    (either (begins_with (word_is (codes "const"))) (after (word_at (codes "const")) const_at)
    (either (begins_with (word_is (codes "program"))) (after (word_at (codes "program")) program_at)
    (either (begins_with (word_is (codes "enum"))) (after (word_at (codes "enum")) enum_at)
    (either (begins_with (word_is (codes "struct"))) (after (word_at (codes "struct")) struct_at)
    (after (word_at (codes "union")) union_at))))))

-- a definition and its end
unfoldable pub ended_at : Reader Def
ended_at = before def_at (mark_at (codes ";"))
