-- The tokens of declarators, and of what is made of members.
use Rattle.std.specs.Prelude.{ℕ, false, codes}
use Rattle.idl_read.specs.Grammar.{Text, word, mark, ◌&◌, each, some, joined}
use Rattle.idl_exprs.specs.Spelling.{identifier, expression}
use Rattle.corba_decls.specs.TypeSpelling.{type}
use Rattle.corba_decls.specs.declared.member_tree.Dimension.{Dimension}
use Rattle.corba_decls.specs.declared.member_tree.Declarator.{Declarator}
use Rattle.corba_decls.specs.declared.member_tree.Member.{Member}
use Rattle.corba_decls.specs.declared.member_tree.Struct.{Struct}
use Rattle.corba_decls.specs.declared.member_tree.Exception.{Exception}
use Rattle.corba_decls.specs.declared.member_tree.Enum.{Enum}

-- dimension = "[" expression "]"
abbrev pub dimension : ℕ → Dimension → Text
dimension n d = mark (codes "[") & expression n d.length & mark (codes "]")

-- declarator = identifier { dimension }
abbrev pub declarator : ℕ → Declarator → Text
declarator n d = identifier d.name & each (dimension n) d.dimensions

-- member = type declarator { "," declarator } ";"
abbrev pub member : ℕ → Member → Text
member n m = type n m.of.0 m.of.1 false & joined (codes ",") (declarator n) m.declarators & mark (codes ";")

-- struct = "struct" identifier "{" member { member } "}"
abbrev pub structure : ℕ → Struct → Text
structure n s = word (codes "struct") & identifier s.name & mark (codes "{") & some (member n) s.members & mark (codes "}")

-- exception = "exception" identifier "{" { member } "}"
abbrev pub exception : ℕ → Exception → Text
exception n e = word (codes "exception") & identifier e.name & mark (codes "{") & each (member n) e.members & mark (codes "}")

-- enum = "enum" identifier "{" identifier { "," identifier } "}"
abbrev pub enumeration : Enum → Text
enumeration e = word (codes "enum") & identifier e.name & mark (codes "{") & joined (codes ",") identifier e.items & mark (codes "}")
