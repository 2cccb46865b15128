-- The tokens of declarations.
use Rattle.std.specs.Prelude.{ℕ, zero, suc, ◌-◌, false, codes}
use Rattle.idl_read.specs.Grammar.{Text, word, mark, ◌&◌, some, joined}
use Rattle.idl_exprs.specs.Spelling.{identifier, scoped, expression}
use Rattle.corba_decls.specs.TypeSpelling.{int, type}
use Rattle.corba_decls.specs.MemberSpelling.{declarator, structure, exception, enumeration}
use Rattle.corba_decls.specs.declared.decl_tree.Tag.{Tag}
use Rattle.corba_decls.specs.declared.decl_tree.Tag.TheVariants as T
use Rattle.corba_decls.specs.declared.decl_tree.Label.{Label}
use Rattle.corba_decls.specs.declared.decl_tree.Label.TheVariants as L
use Rattle.corba_decls.specs.declared.decl_tree.Case.{Case}
use Rattle.corba_decls.specs.declared.decl_tree.Union.{Union}
use Rattle.corba_decls.specs.declared.decl_tree.Aliased.{Aliased}
use Rattle.corba_decls.specs.declared.decl_tree.Aliased.TheVariants as A
use Rattle.corba_decls.specs.declared.decl_tree.Typedef.{Typedef}
use Rattle.corba_decls.specs.declared.decl_tree.ConstantType.{ConstantType}
use Rattle.corba_decls.specs.declared.decl_tree.ConstantType.TheVariants as C
use Rattle.corba_decls.specs.declared.decl_tree.Constant.{Constant}
use Rattle.corba_decls.specs.declared.decl_tree.Declaration.{Declaration}
use Rattle.corba_decls.specs.declared.decl_tree.Declaration.TheVariants as D

-- tag = int | "char" | "boolean" | name
abbrev pub tag_type : Tag → Text
tag_type (T.Int i) = int i
tag_type T.Char = word (codes "char")
tag_type T.Boolean = word (codes "boolean")
tag_type (T.Named n) = scoped n

-- a tag within so many levels: it needs one
abbrev pub tag : ℕ → Tag → Text
tag zero t ks = ⊥
tag (suc n) t ks = tag_type t ks

-- label = "case" expression ":" | "default" ":"
abbrev pub label : ℕ → Label → Text
label n (L.Case e) = word (codes "case") & expression n e & mark (codes ":")
label n L.Default = word (codes "default") & mark (codes ":")

-- case = label { label } type declarator ";"
abbrev pub case : ℕ → Case → Text
case n c = some (label n) c.labels & type n c.of.0 c.of.1 false & declarator n c.declarator & mark (codes ";")

-- union = "union" identifier "switch" "(" tag ")" "{" case { case } "}", whose tag has one level less
abbrev pub union : ℕ → Union → Text
union n u = word (codes "union") & identifier u.name & word (codes "switch") & mark (codes "(") & tag (n - 1) u.tag
    & mark (codes ")") & mark (codes "{") & some (case n) u.cases & mark (codes "}")

-- aliased = type | struct | union | enum
abbrev pub aliased : ℕ → Aliased → Text
aliased n (A.Type t) = type n t.0 t.1 false
aliased n (A.Struct s) = structure n s
aliased n (A.Union u) = union n u
aliased n (A.Enum e) = enumeration e

-- typedef = "typedef" aliased declarator { "," declarator }
abbrev pub typedef : ℕ → Typedef → Text
typedef n t = word (codes "typedef") & aliased n t.of & joined (codes ",") (declarator n) t.declarators

-- constant-type = int | "char" | "boolean" | "octet" | "string" | name
abbrev pub constant_type : ConstantType → Text
constant_type (C.Int i) = int i
constant_type C.Char = word (codes "char")
constant_type C.Boolean = word (codes "boolean")
constant_type C.Octet = word (codes "octet")
constant_type C.Text = word (codes "string")
constant_type (C.Named n) = scoped n

-- constant = "const" constant-type identifier "=" expression
abbrev pub constant : ℕ → Constant → Text
constant n c = word (codes "const") & constant_type c.of & identifier c.name & mark (codes "=") & expression n c.value

-- declaration = typedef | struct | union | enum | constant | exception
abbrev pub declared : ℕ → Declaration → Text
declared n (D.Typedef t) = typedef n t
declared n (D.Struct s) = structure n s
declared n (D.Union u) = union n u
declared n (D.Enum e) = enumeration e
declared n (D.Constant c) = constant n c
declared n (D.Exception e) = exception n e

-- a declaration within so many levels, without its `;`: it needs one level
abbrev pub declaration : ℕ → Declaration → Text
declaration zero d ks = ⊥
declaration (suc n) d ks = declared (suc n) d ks
