-- How a call ends, as the status of the process.
use Rattle.std.specs.Prelude.{ℕ}
use Rattle.flick_top.specs.declared.status.Status.{Status}
use Rattle.flick_top.specs.declared.status.Status.TheVariants.{Done, Refused, Usage, File, Source, Sink, Shelf, Memory, Length}

-- the work was done, and no answer is a refusal
abbrev pub done : ℕ
done = 0

-- the work was done, and an answer is a refusal
abbrev pub refused : ℕ
refused = 1

-- the words name no command
abbrev pub usage : ℕ
usage = 2

-- a file is not there or was refused
abbrev pub file_refused : ℕ
file_refused = 3

-- the source failed
abbrev pub source_failed : ℕ
source_failed = 4

-- the sink failed
abbrev pub sink_failed : ℕ
sink_failed = 5

-- the shelf failed
abbrev pub shelf_failed : ℕ
shelf_failed = 6

-- memory ran out
abbrev pub out_of_memory : ℕ
out_of_memory = 7

-- the source gave more than the greatest input
abbrev pub too_much : ℕ
too_much = 8

-- the number of a way to end
abbrev pub number_of : Status → ℕ
number_of Done = done
number_of Refused = refused
number_of Usage = usage
number_of File = file_refused
number_of Source = source_failed
number_of Sink = sink_failed
number_of Shelf = shelf_failed
number_of Memory = out_of_memory
number_of Length = too_much
