-- Each message has counts.
use Rattle.std.proofs.Common.{ap}
use Rattle.std.specs.Prelude.{option_map}
use Rattle.raw_buf.specs.Buf.{none as no_calls}
use Rattle.stub_machine.specs.Sending.{paid}
use Rattle.stub_codes.specs.Laws.{RequestsHaveCosts}
use Rattle.stub_codes.specs.Stubs.{Coded, IsCoded}
use Rattle.flick_lines.specs.Counted.{AllCounted}

pub all_counted : (c : Coded) → IsCoded c → RequestsHaveCosts → AllCounted c
all_counted c coded costs op h v below head typed =
    let (k, is, few) = costs c op h v coded below head typed in
    (paid no_calls k, ap (option_map (paid no_calls)) is)
