use Rattle.plain_wire.proofs.read_array.+zeros.Given as goal

abbrev pub decreases-zeros : goal.decreases-zeros
decreases-zeros l = l.n
