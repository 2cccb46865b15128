use Rattle.std.proofs.Common.{◌≡◌}
use Rattle.mint.specs.declared.kind.Kind.TheVariants as kind
use Rattle.case_make.specs.Draws.{drawn_letter}
use Rattle.case_make.proofs.Weighing.{Rowing}
use Rattle.case_make.proofs.maker.Maker.text.Given as goal

abbrev pub invariant-loop : goal.invariant-loop
invariant-loop l =
    (l.row.kind ≡ kind.Char) × (l.self.left ≡ l.initial.self.left)
    × Rowing (drawn_letter) l.many l.counter l.row.numbers l.initial.self.state l.self.state
