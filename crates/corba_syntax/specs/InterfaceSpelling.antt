-- The tokens of interfaces.
use Rattle.std.specs.Prelude.{ℕ, List, codes}
use Rattle.idl_read.specs.Grammar.{Text, word, mark, ◌&◌, each, joined}
use Rattle.idl_exprs.specs.Spelling.{identifier}
use Rattle.corba_decls.specs.DeclSpelling.{declaration}
use Rattle.corba_syntax.specs.declared.operation_tree.Reference.{Reference}
use Rattle.corba_syntax.specs.OperationSpelling.{if_any, reference, attribute, operation}
use Rattle.corba_syntax.specs.declared.interface_tree.Export.{Export}
use Rattle.corba_syntax.specs.declared.interface_tree.Export.TheVariants as E
use Rattle.corba_syntax.specs.declared.interface_tree.Interface.{Interface}

-- exported = declaration | attribute | operation
abbrev pub exported : ℕ → Export → Text
exported n (E.Declaration d) = declaration n d
exported n (E.Attribute a) = attribute n a
exported n (E.Operation o) = operation n o

-- export = exported ";"
abbrev pub export : ℕ → Export → Text
export n e = exported n e & mark (codes ";")

-- bases = ":" name { "," name }
abbrev pub bases : ℕ → List Reference → Text
bases n rs = mark (codes ":") & joined (codes ",") (reference n) rs

-- interface = "interface" identifier [ bases ] "{" { export } "}" ";"
abbrev pub interface : ℕ → Interface → Text
interface n i =
    word (codes "interface") & identifier i.name & if_any (bases n) i.bases
    & mark (codes "{") & each (export n) i.exports & mark (codes "}") & mark (codes ";")
