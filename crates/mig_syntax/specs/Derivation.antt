-- The tokens of a file, production by production. A word that a production quotes is taken in any letter case.
use Rattle.std.specs.Prelude.{◌≡◌, ◌⊎◌, ◌++◌, ℕ, Bool, true, false, List, [], ◌∷◌, codes}
use Rattle.idl_lex.specs.declared.kinds.Token.{Token}
use Rattle.idl_lex.specs.declared.kinds.TokenKind.TheVariants.{FileName}
use Rattle.idl_read.specs.declared.errors.SyntaxErr.{SyntaxErr}
use Rattle.idl_read.specs.declared.errors.SyntaxErr.TheVariants.{Syntax, NoMemory}
use Rattle.idl_read.specs.Grammar.{Text, one, mark, ◌&◌, maybe, each, joined, kinds}
use Rattle.idl_read.specs.Files.{FailsAt as statements_fail_at}
use Rattle.idl_exprs.specs.Trees.{Tree}
use Rattle.mig_syntax.specs.Words.{like, identifier}
use Rattle.idl_exprs.specs.Spelling.{mig_expression}
use Rattle.mig_syntax.specs.declared.tree.TypeForm.{TypeForm}
use Rattle.mig_syntax.specs.declared.tree.TypeForm.TheVariants as T
use Rattle.mig_syntax.specs.declared.tree.Direction.{Direction}
use Rattle.mig_syntax.specs.declared.tree.Direction.TheVariants as D
use Rattle.mig_syntax.specs.declared.tree.Parameter.{Parameter}
use Rattle.mig_syntax.specs.declared.tree.Routine.{Routine}
use Rattle.mig_syntax.specs.declared.tree.Side.{Side}
use Rattle.mig_syntax.specs.declared.tree.Side.TheVariants as S
use Rattle.mig_syntax.specs.declared.tree.Importer.{Importer}
use Rattle.mig_syntax.specs.declared.tree.Importer.TheVariants as I
use Rattle.mig_syntax.specs.declared.tree.Statement.{Statement}
use Rattle.mig_syntax.specs.declared.tree.Statement.TheVariants as V
use Rattle.mig_syntax.specs.declared.tree.Subsystem.{Subsystem}

-- ---- types: their expressions have the statement's 32 levels, and in parentheses one less

-- row = expr "]" "of" identifier
abbrev pub row : Tree → List ℕ → Text
row e n = mig_expression 32 e & mark (codes "]") & like (codes "of") & identifier n

-- type = identifier | "(" identifier "," expr ")" | "array" "[" row | "array" "[" "*" ":" row | "struct" "[" row
abbrev pub type_form : TypeForm → Text
type_form (T.Named n) = identifier n
type_form (T.Sized n e) = mark (codes "(") & identifier n & mark (codes ",") & mig_expression 31 e & mark (codes ")")
type_form (T.Array e n) = like (codes "array") & mark (codes "[") & row e n
type_form (T.VariableArray e n) = like (codes "array") & mark (codes "[") & mark (codes "*") & mark (codes ":") & row e n
type_form (T.Struct e n) = like (codes "struct") & mark (codes "[") & row e n

-- ---- routines

-- the word of a direction
abbrev pub direction_spell : Direction → List ℕ
direction_spell D.RequestPort = codes "requestport"
direction_spell D.In = codes "in"
direction_spell D.Out = codes "out"
direction_spell D.InOut = codes "inout"

-- a direction, by its word
abbrev pub direction : Direction → Text
direction d = like (direction_spell d)

-- parameter = [ "requestport" | "in" | "out" | "inout" ] identifier ":" identifier
abbrev pub parameter : Parameter → Text
parameter p = maybe direction p.direction & identifier p.name & mark (codes ":") & identifier p.of

-- the word of a routine that is simple or not
abbrev pub routine_spell : Bool → List ℕ
routine_spell false = codes "routine"
routine_spell true = codes "simpleroutine"

-- routine = ( "routine" | "simpleroutine" ) identifier "(" parameter { ";" parameter } ")"
abbrev pub routine : Routine → Text
routine r = like (routine_spell r.simple) & identifier r.name & mark (codes "(")
    & joined (codes ";") parameter r.parameters & mark (codes ")")

-- ---- statements

-- the word of a prefix
abbrev pub side_spell : Side → List ℕ
side_spell S.User = codes "userprefix"
side_spell S.Server = codes "serverprefix"

-- the word of an import
abbrev pub importer_spell : Importer → List ℕ
importer_spell I.Both = codes "import"
importer_spell I.User = codes "uimport"
importer_spell I.Server = codes "simport"

-- body = "type" identifier "=" type | routine | ( "userprefix" | "serverprefix" ) identifier | ( "import" | "uimport" | "simport" ) file-name | "skip"
abbrev pub body : Statement → Text
body (V.Type n t) = like (codes "type") & identifier n & mark (codes "=") & type_form t
body (V.Routine r) = routine r
body (V.Prefix s n) = like (side_spell s) & identifier n
body (V.Import i f) = like (importer_spell i) & one (FileName f)
body V.Skip = like (codes "skip")

-- statement = body ";"
abbrev pub statement : Statement → Text
statement s = body s & mark (codes ";")

-- ---- files

-- heading = "subsystem" identifier expr ";"
abbrev pub heading : List ℕ → Tree → Text
heading n e = like (codes "subsystem") & identifier n & mig_expression 32 e & mark (codes ";")

-- file = heading { statement }
abbrev pub Derives : Subsystem → List Token → Type 0
Derives s tokens = (heading s.name s.base & each statement s.statements) (kinds tokens)

-- a heading, and the tokens after it
pub record Headed (tokens rest : List Token) : Type 0 where
  pub name : List ℕ
  pub base : Tree
  pub front : List Token
  pub parts : tokens ≡ front ++ rest
  pub spells : heading name base (kinds front)

-- the line of the first token, and 1 where there is none
abbrev pub first_line : List Token → ℕ
first_line [] = 1
first_line (t ∷ ts) = t.line

-- the line on which tokens fail: the first one where they begin with no heading; after it, that of the first token after the longest prefix that is statements
abbrev pub FailsAt : List Token → ℕ → Type 0
FailsAt tokens line = (((rest : List Token) → Headed tokens rest → ⊥) × (line ≡ first_line tokens))
    ⊎ ((rest : List Token) × Headed tokens rest × statements_fail_at statement rest line)

-- no tree has the tokens, and they fail on this line
abbrev pub HaveNone : List Token → ℕ → Type 0
HaveNone tokens line = ((tree : Subsystem) → Derives tree tokens → ⊥) × FailsAt tokens line

-- why a file has no tree; out of memory says nothing of it
abbrev pub Explains : SyntaxErr → List Token → Type 0
Explains (Syntax line) tokens = HaveNone tokens line
Explains NoMemory tokens = Unit {0}

-- all tokens have a tree, or have none and a line on which they fail
abbrev pub TokensAreDecided : Type 0
TokensAreDecided = (tokens : List Token) → ((tree : Subsystem) × Derives tree tokens) ⊎ ((line : ℕ) × HaveNone tokens line)
