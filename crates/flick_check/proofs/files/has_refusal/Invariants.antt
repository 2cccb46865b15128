use Rattle.std.proofs.Common.{◌≡◌, drop}
use Rattle.flick_check.specs.Checked as checked
use Rattle.flick_check.proofs.files.has_refusal.Given as goal

-- A refusal is sought in the rest.
abbrev pub invariant-loop-octet : goal.invariant-loop-octet
invariant-loop-octet l = checked.has_refusal l.text ≡ checked.refuses_from l.begun (drop l.octet-index l.text)
