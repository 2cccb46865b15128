-- What is known of the position behind a block, of what is known before it.
use Rattle.std.specs.Prelude.{Option, None, Some}
use Rattle.cast_stub.specs.Block.{Block, stop, ensure, ensure_row, align, chunk, row_copy, row_swap, row_wide, each, switch, if_there, call, patch, Cases, no_default, default, case}
use Rattle.chunker.specs.declared.phase.Phase.{Phase}
use Rattle.chunker.specs.Phases.{unknown, shift, aligned, meet}

-- what two ends say, or one where there is no other
abbrev pub meet_end : Option Phase → Phase → Phase
meet_end None b = b
meet_end (Some a) b = meet a b

-- an end, or nothing where there is none
abbrev pub or_unknown : Option Phase → Phase
or_unknown None = unknown
or_unknown (Some a) = a

-- behind numbers of four octets each
abbrev pub by_fours : Phase → Phase
by_fours ph = meet ph (shift ph 4)

abbrev mutual
  -- behind a block; a loop is looked at once, from an unknown place
  pub leave : Phase → Block → Phase
  leave ph stop = ph
  leave ph (ensure n r) = leave ph r
  leave ph (ensure_row p u e r) = leave ph r
  leave ph (align a r) = leave (aligned ph a) r
  leave ph (chunk s ps r) = leave (shift ph s) r
  leave ph (row_copy p r) = leave unknown r
  leave ph (row_swap p r) = leave unknown r
  leave ph (row_wide p o r) = leave (by_fours ph) r
  leave ph (each p b r) = leave (meet ph (leave unknown b)) r
  leave ph (switch p cs r) = leave (or_unknown (cases_leave ph None cs)) r
  leave ph (if_there p b r) = leave (meet ph (leave ph b)) r
  leave ph (call k p r) = leave unknown r
  leave ph (patch a s o r) = leave ph r

  -- behind the bodies of a switch, with the end of those before
  pub cases_leave : Phase → Option Phase → Cases → Option Phase
  cases_leave ph e no_default = e
  cases_leave ph e (default b) = Some (meet_end e (leave ph b))
  cases_leave ph e (case n b cs) = cases_leave ph (Some (meet_end e (leave ph b))) cs

-- before each turn of a loop, and behind the last
abbrev pub looped : Phase → Block → Phase
looped ph b = meet ph (leave unknown b)

-- behind a switch
abbrev pub switched : Phase → Cases → Phase
switched ph cs = or_unknown (cases_leave ph None cs)

-- behind a body that may be run
abbrev pub perhaps : Phase → Block → Phase
perhaps ph b = meet ph (leave ph b)
