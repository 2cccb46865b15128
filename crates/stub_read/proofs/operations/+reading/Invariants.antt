use Rattle.std.proofs.Common.{length, codes, ◌+◌, ◌-◌, ◌*◌}
use Rattle.stub_read.specs.Reading.{word_at, both}
use Rattle.stub_read.specs.Words.{feed, integer_at}
use Rattle.stub_read.specs.Leads.{lead_at}
use Rattle.stub_read.specs.Operations.{cases_at, op_at, ops_at}
use Rattle.stub_read.proofs.Loops.{Left}
use Rattle.stub_read.proofs.operations.+reading.Given as goal

abbrev pub invariant-ops-items : goal.invariant-ops-items
invariant-ops-items l = Left lead_at (op_at (l.levels - 1) (ops_at (l.levels - 1))) (length l.text - l.counter) l.items l.rest
    (ops_at l.levels l.fn.text)

abbrev pub invariant-cases-items : goal.invariant-cases-items
invariant-cases-items l = Left (word_at (codes "case ")) (λ u. both (integer_at feed) (ops_at l.levels)) (length l.text - l.counter)
    l.items l.rest (cases_at (ops_at l.levels) l.fn.text)

abbrev pub decreases-ops : goal.decreases-ops
decreases-ops l = 4 * l.levels

abbrev pub decreases-op : goal.decreases-op
decreases-op l = 4 * l.levels + 3

abbrev pub decreases-over : goal.decreases-over
decreases-over l = 4 * l.levels + 1

abbrev pub decreases-cases : goal.decreases-cases
decreases-cases l = 4 * l.levels + 1

abbrev pub decreases-last : goal.decreases-last
decreases-last l = 4 * l.levels + 1

abbrev pub decreases-switch : goal.decreases-switch
decreases-switch l = 4 * l.levels + 2
