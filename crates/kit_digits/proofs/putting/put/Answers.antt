use Rattle.kit_digits.proofs.Appended.{one_more}
use Rattle.kit_digits.proofs.putting.put.Goals as goal

pub loop-rest-preserved : goal.loop-rest-preserved
loop-rest-preserved c =
    one_more c.loop-rest.out c.append.new.self _ _ c.loop-rest.rest.now c.split_at.result.0.now c.split_at.result.1.now
    c.loop-rest.invariant c.split_at.ensures.by_index.0 (rw c.write_pairs.ensures at c.in_ok-append.ensures.ok)
