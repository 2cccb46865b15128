use Rattle.storage_class.proofs.span.+power.Given as goal

abbrev pub decreases-power : goal.decreases-power
decreases-power l = l.n
