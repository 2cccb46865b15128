-- How deep bodies and calls of code that receives are nested.
use Rattle.std.specs.Prelude.{ℕ, zero, suc, Option, None, Some}
use Rattle.cast_stub.specs.RecvBlock.{Recv, finish, need, need_row, skip_any, skip_zero, pass, desc, row_block, row_wide, each, switch, if_there, call, Cases, no_default, default, case}

-- a fact of a code that is there
abbrev pub OfCode : Option Recv → (Recv → Type 0) → Type 0
OfCode None P = ⊥
OfCode (Some b) P = P b

-- a fact of each body of a switch
abbrev pub CasesAre : (Recv → Type 0) → Cases → Type 0
CasesAre P no_default = Unit {0}
CasesAre P (default b) = P b
CasesAre P (case m b cs) = P b × CasesAre P cs

-- a fact of each body, and of each code that is called, all of which are there
abbrev pub Within : (ℕ → Option Recv) → (Recv → Type 0) → Recv → Type 0
Within subs P finish = Unit {0}
Within subs P (need n r) = Within subs P r
Within subs P (need_row p u e r) = Within subs P r
Within subs P (skip_any a r) = Within subs P r
Within subs P (skip_zero a r) = Within subs P r
Within subs P (pass n gs r) = Within subs P r
Within subs P (desc p name size mul r) = Within subs P r
Within subs P (row_block p o r) = Within subs P r
Within subs P (row_wide p o r) = Within subs P r
Within subs P (each p b r) = P b × Within subs P r
Within subs P (switch p cs r) = CasesAre P cs × Within subs P r
Within subs P (if_there p b r) = P b × Within subs P r
Within subs P (call k p r) = OfCode (subs k) P × Within subs P r

-- a code of at most so many levels, its bodies and the codes that it calls being the further ones
abbrev pub IsShallow : (ℕ → Option Recv) → ℕ → Recv → Type 0
IsShallow subs zero b = ⊥
IsShallow subs (suc n) b = Within subs (IsShallow subs n) b
