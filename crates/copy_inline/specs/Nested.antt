-- How deep bodies and calls are nested.
use Rattle.std.specs.Prelude.{ℕ, zero, suc, Option, None, Some}
use Rattle.cast_stub.specs.Block.{Block, stop, ensure, ensure_row, align, chunk, row_copy, row_swap, row_wide, each, switch, if_there, call, patch, Cases, no_default, default, case}

-- a fact of a code that is there
abbrev pub OfCode : Option Block → (Block → Type 0) → Type 0
OfCode None P = ⊥
OfCode (Some b) P = P b

-- a fact of each body of a switch
abbrev pub CasesAre : (Block → Type 0) → Cases → Type 0
CasesAre P no_default = Unit {0}
CasesAre P (default b) = P b
CasesAre P (case m b cs) = P b × CasesAre P cs

-- a fact of each body, and of each code that is called, all of which are there
abbrev pub Within : (ℕ → Option Block) → (Block → Type 0) → Block → Type 0
Within subs P stop = Unit {0}
Within subs P (ensure n r) = Within subs P r
Within subs P (ensure_row p u e r) = Within subs P r
Within subs P (align a r) = Within subs P r
Within subs P (chunk s ps r) = Within subs P r
Within subs P (row_copy p r) = Within subs P r
Within subs P (row_swap p r) = Within subs P r
Within subs P (row_wide p o r) = Within subs P r
Within subs P (each p b r) = P b × Within subs P r
Within subs P (switch p cs r) = CasesAre P cs × Within subs P r
Within subs P (if_there p b r) = P b × Within subs P r
Within subs P (call k p r) = OfCode (subs k) P × Within subs P r
Within subs P (patch a s o r) = Within subs P r

-- a code of at most so many levels, its bodies and the codes that it calls being the further ones
abbrev pub IsShallow : (ℕ → Option Block) → ℕ → Block → Type 0
IsShallow subs zero b = ⊥
IsShallow subs (suc n) b = Within subs (IsShallow subs n) b
