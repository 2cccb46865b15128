-- Code without calls.
use Rattle.cast_stub.specs.RecvBlock.{Recv, finish, need, need_row, skip_any, skip_zero, pass, desc, row_block, row_wide, each, switch, if_there, call, Cases, no_default, default, case}

abbrev mutual
  -- no call, in bodies neither
  pub HasNoCall : Recv → Type 0
  HasNoCall finish = Unit {0}
  HasNoCall (need n r) = HasNoCall r
  HasNoCall (need_row p u e r) = HasNoCall r
  HasNoCall (skip_any a r) = HasNoCall r
  HasNoCall (skip_zero a r) = HasNoCall r
  HasNoCall (pass s ps r) = HasNoCall r
  HasNoCall (row_block p o r) = HasNoCall r
  HasNoCall (desc p name size mul r) = HasNoCall r
  HasNoCall (row_wide p o r) = HasNoCall r
  HasNoCall (each p b r) = HasNoCall b × HasNoCall r
  HasNoCall (switch p cs r) = CasesHaveNoCall cs × HasNoCall r
  HasNoCall (if_there p b r) = HasNoCall b × HasNoCall r
  HasNoCall (call k p r) = ⊥

  -- the same of the bodies of a switch
  pub CasesHaveNoCall : Cases → Type 0
  CasesHaveNoCall no_default = Unit {0}
  CasesHaveNoCall (default b) = HasNoCall b
  CasesHaveNoCall (case m b cs) = HasNoCall b × CasesHaveNoCall cs
