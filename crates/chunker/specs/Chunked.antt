-- Send code with neighbouring stores in one chunk.
use Rattle.std.specs.Prelude.{ℕ, ◌+◌, List, [], ◌∷◌, ◌++◌, length, map, replicate, Option, None, Some, nat_eq, if◌then◌else◌}
use Rattle.wire_def.specs.Scalars.{gap}
use Rattle.cast_stub.specs.declared.put.Put.{Put}
use Rattle.cast_stub.specs.declared.put.Put.TheVariants as put
use Rattle.cast_stub.specs.Block.{Block, stop, ensure, ensure_row, align, chunk, row_copy, row_swap, row_wide, each, switch, if_there, call, patch, Cases, no_default, default, case}
use Rattle.cast_stub.specs.Steps.{is_width}
use Rattle.chunker.specs.declared.phase.Phase.{Phase}
use Rattle.chunker.specs.Phases.{unknown, shift, is_known, modulo}
use Rattle.chunker.specs.Left.{by_fours, looped, switched, perhaps}

-- ---- puts

-- a put so many octets further on
abbrev pub moved : ℕ → Put → Put
moved n (put.Num off p w o) = put.Num (off + n) p w o
moved n (put.Tag off p w o) = put.Tag (off + n) p w o
moved n (put.Flag off p w o) = put.Flag (off + n) p w o
moved n (put.Count off p m a w o) = put.Count (off + n) p m a w o
moved n (put.Short off p name size m) = put.Short (off + n) p name size m
moved n (put.Const off os) = put.Const (off + n) os
moved n (put.Head off f w o) = put.Head (off + n) f w o

-- the place and the octets of a constant
abbrev pub const_of : Put → Option (ℕ × List ℕ)
const_of (put.Const off os) = Some (off, os)
const_of _ = None

-- a constant before puts, if it has octets
abbrev pub with_const : ℕ → List ℕ → List Put → List Put
with_const a [] ps = ps
with_const a (x ∷ xs) ps = put.Const a (x ∷ xs) ∷ ps

-- a constant before a put: one more constant behind it is taken into it
abbrev pub taken : ℕ → List ℕ → Put → Option (ℕ × List ℕ) → (ℕ → List ℕ → List Put) → List Put
taken a xs p None rest = with_const a xs (p ∷ rest 0 [])
taken a xs p (Some c) rest = if nat_eq c.0 (a + length xs) then rest a (xs ++ c.1) else with_const a xs (rest c.0 c.1)

-- puts behind a constant, of which constants that stand behind one another are one
abbrev pub consts_joined : ℕ → List ℕ → List Put → List Put
consts_joined a xs [] = with_const a xs []
consts_joined a xs (p ∷ ps) = taken a xs p (const_of p) (λ b ys. consts_joined b ys ps)

-- so many zeros at a place
abbrev pub zeros : ℕ → ℕ → List Put
zeros a k = with_const a (replicate k 0) []

-- ---- code

-- a chunk of puts before a block, if there is a put
abbrev pub chunk_of : ℕ → List Put → Block → Block
chunk_of n [] r = r
chunk_of n (p ∷ ps) r = chunk n (p ∷ ps) r

-- the chunk that is open, before a block
abbrev pub closed : ℕ → List Put → Block → Block
closed n ps r = chunk_of n (consts_joined 0 [] ps) r

abbrev mutual
  -- a block at a phase, behind a chunk that is open
  pub chunked : Phase → ℕ → List Put → Block → Block
  chunked ph n ps stop = closed n ps stop
  chunked ph n ps (ensure k r) = closed n ps (ensure k (chunked ph 0 [] r))
  chunked ph n ps (ensure_row p u e r) = closed n ps (ensure_row p u e (chunked ph 0 [] r))
  chunked ph n ps (align a r) =
      if is_width a then (if is_known ph a then chunked (shift ph (gap ph.r a)) (n + gap ph.r a) (ps ++ zeros n (gap ph.r a)) r
      else closed n ps (align a (chunked (modulo a 0) 0 [] r))) else chunked ph n ps r
  chunked ph n ps (chunk s qs r) = chunked (shift ph s) (n + s) (ps ++ map (moved n) qs) r
  chunked ph n ps (row_copy p r) = closed n ps (row_copy p (chunked unknown 0 [] r))
  chunked ph n ps (row_swap p r) = closed n ps (row_swap p (chunked unknown 0 [] r))
  chunked ph n ps (row_wide p o r) = closed n ps (row_wide p o (chunked (by_fours ph) 0 [] r))
  chunked ph n ps (each p b r) = closed n ps (each p (chunked (looped ph b) 0 [] b) (chunked (looped ph b) 0 [] r))
  chunked ph n ps (switch p cs r) = closed n ps (switch p (cases_chunked ph cs) (chunked (switched ph cs) 0 [] r))
  chunked ph n ps (if_there p b r) = closed n ps (if_there p (chunked ph 0 [] b) (chunked (perhaps ph b) 0 [] r))
  chunked ph n ps (call k p r) = closed n ps (call k p (chunked unknown 0 [] r))
  chunked ph n ps (patch a s o r) = closed n ps (patch a s o (chunked ph 0 [] r))

  -- the bodies of a switch, each at a phase
  pub cases_chunked : Phase → Cases → Cases
  cases_chunked ph no_default = no_default
  cases_chunked ph (default b) = default (chunked ph 0 [] b)
  cases_chunked ph (case n b cs) = case n (chunked ph 0 [] b) (cases_chunked ph cs)
