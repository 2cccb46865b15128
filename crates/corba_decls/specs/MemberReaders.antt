-- What each function of the parser reads: a tool beside Spelling, tied to it in proofs/.
use Rattle.std.specs.Prelude.{ℕ, Bool, false, List, Option, codes}
use Rattle.idl_lex.specs.declared.kinds.Token.{Token}
use Rattle.idl_read.specs.Reading.{Reader, mark_is, word_at, mark_at, begins_with, both, mapped, after, before, many, some_at, joined_at}
use Rattle.idl_exprs.specs.Trees.{Tree}
use Rattle.idl_exprs.specs.declared.tree.Identifier.{Identifier}
use Rattle.idl_exprs.specs.Readers.{identifier_at, expression_at, is_open}
use Rattle.corba_decls.specs.declared.type_tree.Base.{Base}
use Rattle.corba_decls.specs.TypeReaders.{type_at}
use Rattle.corba_decls.specs.declared.member_tree.Dimension.{Dimension}
use Rattle.corba_decls.specs.declared.member_tree.Declarator.{Declarator}
use Rattle.corba_decls.specs.declared.member_tree.Member.{Member}
use Rattle.corba_decls.specs.declared.member_tree.Struct.{Struct}
use Rattle.corba_decls.specs.declared.member_tree.Exception.{Exception}
use Rattle.corba_decls.specs.declared.member_tree.Enum.{Enum}

abbrev pub dimension_of : Tree → Dimension
dimension_of e = record { length = e }

-- a dimension
unfoldable pub dimension_at : ℕ → Reader Dimension
dimension_at n = mapped dimension_of (after (mark_at (codes "[")) (before (expression_at n false) (mark_at (codes "]"))))

abbrev pub declarator_of : Identifier × List Dimension → Declarator
declarator_of x = record { name = x.0; dimensions = x.1 }

-- whether a dimension comes first
abbrev pub has_dimension : List Token → Bool
has_dimension = begins_with (mark_is (codes "["))

-- a declarator
unfoldable pub declarator_at : ℕ → Reader Declarator
declarator_at n = mapped declarator_of (both identifier_at (many has_dimension (dimension_at n)))

abbrev pub member_of : (List (Option Tree) × Base) × List Declarator → Member
member_of x = record { of = x.0; declarators = x.1 }

-- a member
unfoldable pub member_at : ℕ → Reader Member
member_at n = mapped member_of (both (type_at n) (before (joined_at (codes ",") (declarator_at n)) (mark_at (codes ";"))))

abbrev pub structure_of : Identifier × List Member → Struct
structure_of x = record { name = x.0; members = x.1 }

-- a struct
unfoldable pub structure_at : ℕ → Reader Struct
structure_at n = mapped structure_of (after (word_at (codes "struct"))
    (both identifier_at (after (mark_at (codes "{")) (before (some_at (many is_open (member_at n))) (mark_at (codes "}"))))))

abbrev pub exception_of : Identifier × List Member → Exception
exception_of x = record { name = x.0; members = x.1 }

-- an exception
unfoldable pub exception_at : ℕ → Reader Exception
exception_at n = mapped exception_of (after (word_at (codes "exception"))
    (both identifier_at (after (mark_at (codes "{")) (before (many is_open (member_at n)) (mark_at (codes "}"))))))

abbrev pub enumeration_of : Identifier × List Identifier → Enum
enumeration_of x = record { name = x.0; items = x.1 }

-- an enumeration
unfoldable pub enumeration_at : Reader Enum
enumeration_at = mapped enumeration_of (after (word_at (codes "enum"))
    (both identifier_at (after (mark_at (codes "{")) (before (joined_at (codes ",") identifier_at) (mark_at (codes "}"))))))
