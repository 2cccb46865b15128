use Rattle.back_xdr.proofs.auth.+pad.Given as goal

abbrev pub decreases-pad : goal.decreases-pad
decreases-pad l = l.n
