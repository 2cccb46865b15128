-- The tokens of a file.
use Rattle.std.specs.Prelude.{◌⊎◌, ℕ, zero, suc, List, codes}
use Rattle.idl_lex.specs.declared.kinds.Token.{Token}
use Rattle.idl_read.specs.declared.errors.SyntaxErr.{SyntaxErr}
use Rattle.idl_read.specs.Grammar.{Text, word, mark, ◌&◌, each}
use Rattle.idl_read.specs.Files.{AreDefs, FailsAt as file_fails_at, Explains as explains}
use Rattle.idl_exprs.specs.Spelling.{identifier}
use Rattle.corba_decls.specs.DeclSpelling.{declaration}
use Rattle.corba_syntax.specs.InterfaceSpelling.{interface}
use Rattle.corba_syntax.specs.declared.definition_tree.Definition.{Definition, out-Definition}
use Rattle.corba_syntax.specs.declared.definition_tree.Definition.TheOpen.{Definition-F}
use Rattle.corba_syntax.specs.declared.definition_tree.Module.{Module, out-Module}

-- module = "module" identifier "{" { definition } "}" ";", over the text of a definition in it
abbrev pub module_text : (Definition → Text) → Module → Text
module_text inner m =
    word (codes "module") & identifier (out-Module m).name
    & mark (codes "{") & each inner (out-Module m).definitions & mark (codes "}") & mark (codes ";")

-- definition = module | interface | declaration ";"
abbrev pub definition_text : (Definition → Text) → ℕ → Definition-F Definition Module → Text
definition_text inner n (Definition-F.Module m) = module_text inner m
definition_text inner n (Definition-F.Interface i) = interface n i
definition_text inner n (Definition-F.Declaration d) = declaration n d & mark (codes ";")

-- a definition within so many levels: what is defined in a module has one level less
abbrev pub definition : ℕ → Definition → Text
definition zero d ks = ⊥
definition (suc n) d ks = definition_text (definition n) (suc n) (out-Definition d) ks

-- a definition of the file, which has 32 levels
unfoldable pub outermost : Definition → Text
outermost = definition 32

-- tokens that are those of a tree
abbrev pub Derives : List Definition → List Token → Type 0
Derives tree tokens = AreDefs outermost tree tokens

-- the line of the first token after the longest prefix of the tokens that has a tree
abbrev pub FailsAt : List Token → ℕ → Type 0
FailsAt tokens line = file_fails_at outermost tokens line

-- why a file has no tree
abbrev pub Explains : SyntaxErr → List Token → Type 0
Explains fault tokens = explains outermost fault tokens

-- all tokens have a tree, or have none and a line at which they fail
abbrev pub TokensAreDecided : Type 0
TokensAreDecided = (tokens : List Token)
    → ((tree : List Definition) × Derives tree tokens)
    ⊎ ((line : ℕ) × ((tree : List Definition) → Derives tree tokens → ⊥) × FailsAt tokens line)
