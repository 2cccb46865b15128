-- The tokens of a tree, production by production.
use Rattle.std.specs.Prelude.{◌⊎◌, ℕ, List, Option, codes}
use Rattle.idl_read.specs.Grammar.{Text, word, mark, number, id, ◌&◌, maybe, when, each, some, joined, kinds}
use Rattle.onc_syntax.specs.Words.{onc_words}
use Rattle.onc_syntax.specs.declared.tree.Value.{Value}
use Rattle.onc_syntax.specs.declared.tree.Value.TheVariants as V
use Rattle.onc_syntax.specs.declared.tree.IntWord.{IntWord}
use Rattle.onc_syntax.specs.declared.tree.IntWord.TheVariants.{Int, Long, Short, Char, Hyper}
use Rattle.onc_syntax.specs.declared.tree.Prefix.{Prefix}
use Rattle.onc_syntax.specs.declared.tree.Prefix.TheVariants.{Struct, Union, Enum}
use Rattle.onc_syntax.specs.declared.tree.TypeName.{TypeName as Ty}
use Rattle.onc_syntax.specs.declared.tree.TypeName.TheVariants as T
use Rattle.onc_syntax.specs.declared.tree.Decl.{Decl}
use Rattle.onc_syntax.specs.declared.tree.Decl.TheVariants as D
use Rattle.onc_syntax.specs.declared.tree.Item.{Item}
use Rattle.onc_syntax.specs.declared.tree.Member.{Member}
use Rattle.onc_syntax.specs.declared.tree.Arm.{Arm}
use Rattle.onc_syntax.specs.declared.tree.Arm.TheVariants as A
use Rattle.onc_syntax.specs.declared.tree.Label.{Label}
use Rattle.onc_syntax.specs.declared.tree.Case.{Case}
use Rattle.onc_syntax.specs.declared.tree.ProcType.{ProcType}
use Rattle.onc_syntax.specs.declared.tree.ProcType.TheVariants as P
use Rattle.onc_syntax.specs.declared.tree.Procedure.{Procedure}
use Rattle.onc_syntax.specs.declared.tree.Version.{Version}
use Rattle.onc_syntax.specs.declared.tree.Union.{Union as UnionDef}
use Rattle.onc_syntax.specs.declared.tree.Def.{Def}
use Rattle.onc_syntax.specs.declared.tree.Def.TheVariants as F
use Rattle.idl_lex.specs.declared.kinds.Token.{Token}
use Rattle.idl_read.specs.declared.errors.SyntaxErr.{SyntaxErr}
use Rattle.idl_read.specs.Files.{FailsAt as file_fails_at, Explains as explains}

-- an identifier: a name that is none of the words
abbrev pub name : List ℕ → Text
name n = id onc_words n

-- a number, with a minus or without, or a name
abbrev pub value : Value → Text
value (V.Number minus n) = when (mark (codes "-")) minus & number n
value (V.Name n) = name n

-- the word for a kind of number
abbrev pub int_spell : IntWord → List ℕ
int_spell Int = codes "int"
int_spell Long = codes "long"
int_spell Short = codes "short"
int_spell Char = codes "char"
int_spell Hyper = codes "hyper"

-- a kind of number, by its word
abbrev pub int_word : IntWord → Text
int_word w = word (int_spell w)

-- the word that may come before a type's name
abbrev pub prefix_spell : Prefix → List ℕ
prefix_spell Struct = codes "struct"
prefix_spell Union = codes "union"
prefix_spell Enum = codes "enum"

-- a prefix, by its word
abbrev pub prefix : Prefix → Text
prefix p = word (prefix_spell p)

-- a type
abbrev pub type : Ty → Text
type (T.Int unsigned w) = when (word (codes "unsigned")) unsigned & int_word w
type T.Unsigned = word (codes "unsigned")
type T.Bool = word (codes "bool")
type (T.Named p n) = maybe prefix p & name n

-- a number of elements, in brackets
abbrev pub exactly : Value → Text
exactly v = mark (codes "[") & value v & mark (codes "]")

-- a greatest number of elements, if there is one, between `<` and `>`
abbrev pub at_most : Option Value → Text
at_most v = mark (codes "<") & maybe value v & mark (codes ">")

-- a declaration: a type and the name declared, with how many there are
abbrev pub decl : Decl → Text
decl (D.Plain t n) = type t & name n
decl (D.Array t n v) = type t & name n & exactly v
decl (D.List t n v) = type t & name n & at_most v
decl (D.Pointer t n) = type t & mark (codes "*") & name n
decl (D.OpaqueArray n v) = word (codes "opaque") & name n & exactly v
decl (D.OpaqueList n v) = word (codes "opaque") & name n & at_most v
decl (D.Text n v) = word (codes "string") & name n & at_most v

-- an item of an enum: its name, and its value if it has one
abbrev pub item : Item → Text
item i = name i.name & maybe (λ v. mark (codes "=") & value v) i.value

-- a declaration and its end
abbrev pub member : Member → Text
member m = decl m.decl & mark (codes ";")

-- what is in a case
abbrev pub arm : Arm → Text
arm A.Void = word (codes "void")
arm (A.Decl d) = decl d

-- a label of a case
abbrev pub label : Label → Text
label l = word (codes "case") & value l.value & mark (codes ":")

-- a case: one label or more, an arm and its end
abbrev pub case : Case → Text
case c = some label c.labels & arm c.arm & mark (codes ";")

-- the default of a union
abbrev pub default : Arm → Text
default a = word (codes "default") & mark (codes ":") & arm a & mark (codes ";")

-- the type of a parameter or a result
abbrev pub proc_type : ProcType → Text
proc_type P.Void = word (codes "void")
proc_type P.Text = word (codes "string")
proc_type (P.Plain t) = type t

-- a procedure: its result, its name, one parameter or more, its number
abbrev pub procedure : Procedure → Text
procedure p = proc_type p.result & name p.name & mark (codes "(") & joined (codes ",") proc_type p.parameters & mark (codes ")")
    & mark (codes "=") & value p.number & mark (codes ";")

-- a version: its name, one procedure or more, its number
abbrev pub version : Version → Text
version v = word (codes "version") & name v.name & mark (codes "{") & some procedure v.procedures & mark (codes "}")
    & mark (codes "=") & value v.number & mark (codes ";")

-- a union: its name, its tag, one case or more, the default if it has one
abbrev pub union_def : UnionDef → Text
union_def u = word (codes "union") & name u.name & word (codes "switch") & mark (codes "(") & type u.tag & name u.tag_name
    & mark (codes ")") & mark (codes "{") & some case u.cases & maybe default u.default & mark (codes "}")

-- a definition
abbrev pub def : Def → Text
def (F.Typedef d) = word (codes "typedef") & decl d
def (F.Const n v) = word (codes "const") & name n & mark (codes "=") & value v
def (F.Program n vs v) = word (codes "program") & name n & mark (codes "{") & some version vs & mark (codes "}")
    & mark (codes "=") & value v
def (F.Enum n is) = word (codes "enum") & name n & mark (codes "{") & joined (codes ",") item is & mark (codes "}")
def (F.Struct n ms) = word (codes "struct") & name n & mark (codes "{") & some member ms & mark (codes "}")
def (F.Union u) = union_def u

-- the definitions of a file, each with its end
abbrev pub file : List Def → Text
file ds = each (λ d. def d & mark (codes ";")) ds

-- Tokens that are those of a tree. A definition has level 1 and what is in its parentheses level 2; no production holds itself, so every tree keeps the bound of 32 levels.
abbrev pub Derives : List Def → List Token → Type 0
Derives tree tokens = file tree (kinds tokens)

-- the line of the first token after the longest prefix of the tokens that has a tree
abbrev pub FailsAt : List Token → ℕ → Type 0
FailsAt tokens line = file_fails_at (λ d. def d & mark (codes ";")) tokens line

-- why a file has no tree
abbrev pub Explains : SyntaxErr → List Token → Type 0
Explains fault tokens = explains (λ d. def d & mark (codes ";")) fault tokens

-- all tokens have a tree, or have none and a line at which they fail
abbrev pub TokensAreDecided : Type 0
TokensAreDecided = (tokens : List Token)
    → ((tree : List Def) × Derives tree tokens) ⊎ ((line : ℕ) × ((tree : List Def) → Derives tree tokens → ⊥) × FailsAt tokens line)
