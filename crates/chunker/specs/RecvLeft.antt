-- What is known of the position behind receive code, of what is known before it.
use Rattle.std.specs.Prelude.{Option, None, Some}
use Rattle.cast_stub.specs.RecvBlock.{Recv, finish, need, need_row, skip_any, skip_zero, pass, desc, row_block, row_wide, each, switch, if_there, call, Cases, no_default, default, case}
use Rattle.chunker.specs.declared.phase.Phase.{Phase}
use Rattle.chunker.specs.Left.{meet_end, or_unknown, by_fours}
use Rattle.chunker.specs.Phases.{unknown, shift, aligned, meet}

abbrev mutual
  -- behind a block; a loop is looked at once, from an unknown place
  pub leave : Phase → Recv → Phase
  leave ph finish = ph
  leave ph (need n r) = leave ph r
  leave ph (need_row p u e r) = leave ph r
  leave ph (skip_any a r) = leave (aligned ph a) r
  leave ph (skip_zero a r) = leave (aligned ph a) r
  leave ph (pass n gs r) = leave (shift ph n) r
  leave ph (desc p name size mul r) = leave unknown r
  leave ph (row_block p o r) = leave unknown r
  leave ph (row_wide p o r) = leave (by_fours ph) r
  leave ph (each p b r) = leave (meet ph (leave unknown b)) r
  leave ph (switch p cs r) = leave (or_unknown (cases_leave ph None cs)) r
  leave ph (if_there p b r) = leave (meet ph (leave ph b)) r
  leave ph (call k p r) = leave unknown r

  -- behind the bodies of a switch, with the end of those before
  pub cases_leave : Phase → Option Phase → Cases → Option Phase
  cases_leave ph e no_default = e
  cases_leave ph e (default b) = Some (meet_end e (leave ph b))
  cases_leave ph e (case n b cs) = cases_leave ph (Some (meet_end e (leave ph b))) cs

-- before each turn of a loop, and behind the last
abbrev pub looped : Phase → Recv → Phase
looped ph b = meet ph (leave unknown b)

-- behind a switch
abbrev pub switched : Phase → Cases → Phase
switched ph cs = or_unknown (cases_leave ph None cs)

-- behind a body that may be run
abbrev pub perhaps : Phase → Recv → Phase
perhaps ph b = meet ph (leave ph b)
