-- What an operation does to the part of a draft at its path.
use Rattle.std.specs.Prelude.{List, ℕ, Option, None, Some}
use Rattle.cast_stub.specs.RecvBlock.{Recv, desc, row_block, row_wide, each, switch, if_there, call}
use Rattle.cast_stub.specs.Into.{desc_into, row_into, wide_into}
use Rattle.cast_stub.specs.Fill.{Callees, fill, fill_case, fill_each, fill_arm, fill_present}
use Rattle.cast_stub.specs.Runs.{Filler, strays}

-- the path of the first operation, where it does something to one part
abbrev pub part_path : Recv → Option (List ℕ)
part_path (desc p name size mul r) = Some p
part_path (row_block p o r) = Some p
part_path (row_wide p o r) = Some p
part_path (each p b r) = Some p
part_path (switch p cs r) = Some p
part_path (if_there p b r) = Some p
part_path (call k p r) = Some p
part_path _ = None

-- what it does to the part
abbrev pub acted : Callees → Recv → Filler
acted c (desc p name size mul r) = desc_into name size mul
acted c (row_block p o r) = row_into o
acted c (row_wide p o r) = wide_into o
acted c (each p b r) = fill_each (fill c b)
acted c (switch p cs r) = fill_arm (fill_case c cs)
acted c (if_there p b r) = fill_present (fill c b)
acted c (call k p r) = c k
acted c _ = λ d s. strays
