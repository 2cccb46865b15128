-- Code without calls.
use Rattle.cast_stub.specs.Block.{Block, stop, ensure, ensure_row, align, chunk, row_copy, row_swap, row_wide, each, switch, if_there, call, patch, Cases, no_default, default, case}

abbrev mutual
  -- no call, nor one in a body
  pub HasNoCall : Block → Type 0
  HasNoCall stop = Unit {0}
  HasNoCall (ensure n r) = HasNoCall r
  HasNoCall (ensure_row p u e r) = HasNoCall r
  HasNoCall (align a r) = HasNoCall r
  HasNoCall (chunk s ps r) = HasNoCall r
  HasNoCall (row_copy p r) = HasNoCall r
  HasNoCall (row_swap p r) = HasNoCall r
  HasNoCall (row_wide p o r) = HasNoCall r
  HasNoCall (each p b r) = HasNoCall b × HasNoCall r
  HasNoCall (switch p cs r) = CasesHaveNoCall cs × HasNoCall r
  HasNoCall (if_there p b r) = HasNoCall b × HasNoCall r
  HasNoCall (call k p r) = ⊥
  HasNoCall (patch a s o r) = HasNoCall r

  -- the same of the bodies of a switch
  pub CasesHaveNoCall : Cases → Type 0
  CasesHaveNoCall no_default = Unit {0}
  CasesHaveNoCall (default b) = HasNoCall b
  CasesHaveNoCall (case m b cs) = HasNoCall b × CasesHaveNoCall cs
