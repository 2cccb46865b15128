-- Which tokens spell a tree: each production of a grammar gives the text of its tree.
use Rattle.std.specs.Prelude.{◌≡◌, ◌⊎◌, Bool, true, false, ℕ, ℤ, List, [], ◌∷◌, ◌++◌, map, Option, Some, None}
use Rattle.std.proofs.Common.{inl, inr}
use Rattle.idl_lex.specs.declared.kinds.Token.{Token}
use Rattle.idl_lex.specs.declared.kinds.TokenKind.{TokenKind}
use Rattle.idl_lex.specs.declared.kinds.TokenKind.TheVariants.{Name, Number, Mark}
use Rattle.idl_read.specs.Reading.{Reader, is_in}

-- a set of lists of tokens, without their lines
abbrev pub Text : Type 1
Text = List TokenKind → Type 0

-- nothing
abbrev pub empty : Text
empty ks = ks ≡ []

-- this one token
abbrev pub one : TokenKind → Text
one k ks = ks ≡ k ∷ []

-- this word
abbrev pub word : List ℕ → Text
word w = one (Name w)

-- this mark
abbrev pub mark : List ℕ → Text
mark m = one (Mark m)

-- this number
abbrev pub number : ℤ → Text
number n = one (Number n)

-- a name that is none of the words
abbrev pub id : List (List ℕ) → List ℕ → Text
id words n ks = (ks ≡ Name n ∷ []) × (is_in n words ≡ false)

-- one text after the other
infixr 4 ◌&◌
abbrev pub ◌&◌ : Text → Text → Text
(P & Q) ks = (a : List TokenKind) × (b : List TokenKind) × (ks ≡ a ++ b) × P a × Q b

-- one text or the other
abbrev pub one_of : {A B : Type 0} → (A → Text) → (B → Text) → A ⊎ B → Text
one_of S T (inl a) = S a
one_of S T (inr b) = T b

-- the text, if it is there
abbrev pub when : Text → Bool → Text
when P true = P
when P false = empty

-- the text of a part that may be missing
abbrev pub maybe : {A : Type 0} → (A → Text) → Option A → Text
maybe S None = empty
maybe S (Some a) = S a

-- any number of texts, one after another
abbrev pub each : {A : Type 0} → (A → Text) → List A → Text
each S [] = empty
each S (x ∷ xs) = S x & each S xs

-- one or more, with marks between them
abbrev pub joined : {A : Type 0} → List ℕ → (A → Text) → List A → Text
joined m S [] ks = ⊥
joined m S (x ∷ xs) ks = (S x & each (λ y. mark m & S y) xs) ks

-- one or more, one after another
abbrev pub some : {A : Type 0} → (A → Text) → List A → Text
some S [] ks = ⊥
some S (x ∷ xs) ks = (S x & each S xs) ks

-- ---- what holds reading and text together

-- what tokens are, without their lines
abbrev pub kinds : List Token → List TokenKind
kinds ts = map (λ t. t.kind) ts

-- A reader that reads exactly the texts of its trees, where the tokens after them may follow.
pub record IsGrammar {A : Type 0} (r : Reader A) (S : A → Text) (May : List Token → Type 0) : Type 0 where
  -- what is read is spelled
  pub found : (ts : List Token) (a : A) (rest : List Token) → r ts ≡ Some (a, rest)
      → (front : List Token) × (ts ≡ front ++ rest) × S a (kinds front)
  -- what is spelled is read
  pub again : (a : A) (front rest : List Token) → S a (kinds front) → May rest → r (front ++ rest) ≡ Some (a, rest)

-- texts that each begin with a token that passes a test
abbrev pub Leads : {A : Type 0} → (A → Text) → (TokenKind → Bool) → Type 0
Leads {A} S f = (a : A) (ks : List TokenKind) → S a ks → (k : TokenKind) × (more : List TokenKind) × (ks ≡ k ∷ more) × (f k ≡ true)

-- any tokens after
abbrev pub Any : List Token → Type 0
Any rest = Unit {0}
