-- Files: which tokens are the definitions of a file, and on which line other tokens fail.
use Rattle.std.specs.Prelude.{◌≡◌, ◌⊎◌, ◌≤◌, ◌∷◌, ◌++◌, length, ℕ, List}
use Rattle.idl_lex.specs.declared.kinds.Token.{Token}
use Rattle.idl_read.specs.declared.errors.SyntaxErr.{SyntaxErr}
use Rattle.idl_read.specs.declared.errors.SyntaxErr.TheVariants.{Syntax, NoMemory}
use Rattle.idl_read.specs.Grammar.{Text, each, kinds}

-- tokens that are definitions, one after the other
abbrev pub AreDefs : {D : Type 0} → (D → Text) → List D → List Token → Type 0
AreDefs S tree tokens = each S tree (kinds tokens)

-- the line of the first token after the longest prefix of the tokens that is definitions
pub record FailsAt {D : Type 0} (S : D → Text) (tokens : List Token) (line : ℕ) : Type 0 where
  pub front : List Token
  pub token : Token
  pub rest : List Token
  pub parts : tokens ≡ front ++ token ∷ rest
  pub tree : List D
  pub derives : AreDefs S tree front
  pub longest : (other : List D) (a b : List Token) → AreDefs S other a → tokens ≡ a ++ b → length a ≤ length front
  pub line_is : line ≡ token.line

-- no tree has the tokens, and they fail on this line
abbrev pub HaveNone : {D : Type 0} → (D → Text) → List Token → ℕ → Type 0
HaveNone {D} S tokens line = ((tree : List D) → AreDefs S tree tokens → ⊥) × FailsAt S tokens line

-- why tokens have no tree; out of memory says nothing of them
abbrev pub Explains : {D : Type 0} → (D → Text) → SyntaxErr → List Token → Type 0
Explains S (Syntax line) tokens = HaveNone S tokens line
Explains S NoMemory tokens = Unit {0}

-- all tokens have a tree, or have none and a line at which they fail
abbrev pub AreDecided : {D : Type 0} → (D → Text) → Type 0
AreDecided {D} S = (tokens : List Token) → ((tree : List D) × AreDefs S tree tokens) ⊎ ((line : ℕ) × HaveNone S tokens line)
