use Rattle.std.proofs.Common.{◌≡◌}
use Rattle.case_make.specs.Draws.{drawn_number}
use Rattle.case_make.proofs.Weighing.{Rowing}
use Rattle.case_make.proofs.maker.Maker.row.Given as goal

abbrev pub invariant-loop : goal.invariant-loop
invariant-loop l =
    (l.row.kind ≡ l.kind) × (l.self.left ≡ l.initial.self.left)
    × Rowing (drawn_number l.kind) l.many l.counter l.row.numbers l.initial.self.state l.self.state
