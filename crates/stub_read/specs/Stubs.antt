-- Which texts are read, and what is read of them.
use Rattle.std.specs.Prelude.{◌≡◌, ℕ, suc, ◌-◌, ◌^◌, ◌<◌, ◌≤◌, ℤ, pos, negsuc, List, [], ◌∷◌, ◌++◌, length, take, Some, codes}
use Rattle.kit_base.specs.Lines.{HasNoEnd}
use Rattle.cast_stub.specs.declared.put.Put.{Put}
use Rattle.cast_stub.specs.declared.put.Put.TheVariants as put
use Rattle.cast_stub.specs.declared.send.SendOp.{SendOp}
use Rattle.cast_stub.specs.Block.{Block, stop, ensure, ensure_row, align, chunk, row_copy, row_swap, row_wide, each, switch, if_there, call, patch, Cases, no_default, default, case}
use Rattle.stub_print.specs.SendText.{send_text}
use Rattle.stub_read.specs.Reading.{Reader, then_on, word_at, before, many}
use Rattle.stub_read.specs.Words.{line_at}
use Rattle.stub_read.specs.Operations.{end_line, ops_at}

-- ---- how deep blocks nest

-- how deep blocks nest at most in a text that is read
unfoldable pub deepest : ℕ
deepest = 128

abbrev mutual
  -- chunks, loops, switches and bodies on values that may be there stand within one another at most so many deep
  pub NestsWithin : ℕ → Block → Type 0
  NestsWithin l stop = Unit {0}
  NestsWithin l (ensure n r) = NestsWithin l r
  NestsWithin l (ensure_row p u e r) = NestsWithin l r
  NestsWithin l (align a r) = NestsWithin l r
  NestsWithin l (chunk s ps r) = (1 ≤ l) × NestsWithin l r
  NestsWithin l (row_copy p r) = NestsWithin l r
  NestsWithin l (row_swap p r) = NestsWithin l r
  NestsWithin l (row_wide p o r) = NestsWithin l r
  NestsWithin l (each p b r) = (1 ≤ l) × NestsWithin (l - 1) b × NestsWithin l r
  NestsWithin l (switch p cs r) = (1 ≤ l) × CasesNestWithin (l - 1) cs × NestsWithin l r
  NestsWithin l (if_there p b r) = (1 ≤ l) × NestsWithin (l - 1) b × NestsWithin l r
  NestsWithin l (call k p r) = NestsWithin l r
  NestsWithin l (patch a s o r) = NestsWithin l r

  -- the same of the bodies of a switch
  pub CasesNestWithin : ℕ → Cases → Type 0
  CasesNestWithin l no_default = Unit {0}
  CasesNestWithin l (default b) = NestsWithin l b
  CasesNestWithin l (case n b cs) = NestsWithin l b × CasesNestWithin l cs

-- ---- how large numbers are

-- a number of 32 bits
abbrev pub IsWord : ℕ → Type 0
IsWord n = n < 2 ^ 32

-- numbers of 32 bits
abbrev pub AreWords : List ℕ → Type 0
AreWords [] = Unit {0}
AreWords (n ∷ ns) = IsWord n × AreWords ns

-- a number of 128 bits with its sign
abbrev pub IsSigned : ℤ → Type 0
IsSigned (pos n) = n < 2 ^ 127
IsSigned (negsuc n) = n < 2 ^ 127

abbrev pub AreOctets : List ℕ → Type 0
AreOctets [] = Unit {0}
AreOctets (o ∷ os) = (o < 256) × AreOctets os

-- the numbers of a put are those of code
abbrev pub PutIsSmall : Put → Type 0
PutIsSmall (put.Num off p w o) = IsWord off × AreWords p × IsWord w
PutIsSmall (put.Tag off p w o) = IsWord off × AreWords p × IsWord w
PutIsSmall (put.Flag off p w o) = IsWord off × AreWords p × IsWord w
PutIsSmall (put.Count off p mul add w o) = IsWord off × AreWords p × IsWord mul × IsWord add × IsWord w
PutIsSmall (put.Short off p name size mul) = IsWord off × AreWords p × IsWord name × IsWord size × IsWord mul
PutIsSmall (put.Const off os) = IsWord off × AreOctets os
PutIsSmall (put.Head off f w o) = IsWord off × IsWord w

abbrev pub PutsAreSmall : List Put → Type 0
PutsAreSmall [] = Unit {0}
PutsAreSmall (p ∷ ps) = PutIsSmall p × PutsAreSmall ps

abbrev mutual
  -- the numbers of a block are those of code
  pub IsSmall : Block → Type 0
  IsSmall stop = Unit {0}
  IsSmall (ensure n r) = IsWord n × IsSmall r
  IsSmall (ensure_row p u e r) = AreWords p × IsWord u × IsWord e × IsSmall r
  IsSmall (align a r) = IsWord a × IsSmall r
  IsSmall (chunk s ps r) = IsWord s × PutsAreSmall ps × IsSmall r
  IsSmall (row_copy p r) = AreWords p × IsSmall r
  IsSmall (row_swap p r) = AreWords p × IsSmall r
  IsSmall (row_wide p o r) = AreWords p × IsSmall r
  IsSmall (each p b r) = AreWords p × IsSmall b × IsSmall r
  IsSmall (switch p cs r) = AreWords p × CasesAreSmall cs × IsSmall r
  IsSmall (if_there p b r) = AreWords p × IsSmall b × IsSmall r
  IsSmall (call k p r) = IsWord k × AreWords p × IsSmall r
  IsSmall (patch a s o r) = IsWord a × IsWord s × IsSmall r

  -- the same of the bodies of a switch
  pub CasesAreSmall : Cases → Type 0
  CasesAreSmall no_default = Unit {0}
  CasesAreSmall (default b) = IsSmall b
  CasesAreSmall (case n b cs) = IsSigned n × IsSmall b × CasesAreSmall cs

-- ---- stubs

-- blocks that nest within so many levels, each
abbrev pub AllNest : List Block → Type 0
AllNest [] = Unit {0}
AllNest (b ∷ bs) = NestsWithin deepest b × AllNest bs

abbrev pub AllSmall : List Block → Type 0
AllSmall [] = Unit {0}
AllSmall (b ∷ bs) = IsSmall b × AllSmall bs

-- a name, a code and the codes that its calls name, whose text is read
pub record IsStub (name : List ℕ) (code : Block) (subs : List Block) : Type 0 where
  pub name-is : HasNoEnd name
  pub nests : NestsWithin deepest code
  pub subs-nest : AllNest subs
  pub small : IsSmall code
  pub subs-small : AllSmall subs

-- the first octets of a text, so many, are the text of a stub
pub record Begins (name : List ℕ) (code : Block) (subs : List Block) (used : ℕ) (text : List ℕ) : Type 0 where
  pub is-stub : IsStub name code subs
  pub within : used ≤ length text
  pub is-text : take used text ≡ send_text name code subs

-- no beginning of a text is the text of a stub
abbrev pub BeginsNone : List ℕ → Type 0
BeginsNone text = (name : List ℕ) (code : Block) (subs : List Block) (rest : List ℕ) → IsStub name code subs
    → text ≡ send_text name code subs ++ rest → ⊥

-- ---- reading

-- a code after the word that begins its line
abbrev pub sub_at : Reader (List SendOp)
sub_at t = then_on (line_at t) (λ w us. before (ops_at (suc deepest)) end_line us)

-- as many codes as there are
abbrev pub subs_at : Reader (List (List SendOp))
subs_at = many (word_at (codes "sub ")) (λ u. sub_at)

-- what a text is read as: a name, operations and codes
abbrev pub Parts : Type 0
Parts = List ℕ × (List SendOp × List (List SendOp))

-- the parts of a text
unfoldable pub parts_at : Reader Parts
parts_at t = then_on (word_at (codes "send ") t) (λ u us. then_on (line_at us) (λ n vs. then_on (ops_at (suc deepest) vs)
    (λ a ws. then_on (before subs_at end_line ws) (λ ss xs. Some ((n, (a, ss)), xs)))))
