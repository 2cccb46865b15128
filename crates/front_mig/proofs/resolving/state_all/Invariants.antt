use Rattle.std.proofs.Common.{◌≡◌, drop}
use Rattle.front_mig.specs.Held.{state}
use Rattle.front_mig.specs.Resolved.{stated_on}
use Rattle.front_mig.proofs.resolving.state_all.Given as goal

abbrev pub invariant-loop-statement : goal.invariant-loop-statement
invariant-loop-statement l =
    stated_on l.base 1 (state l.initial.r) l.list ≡ stated_on l.base l.decl (state l.r) (drop l.statement-index l.list)
