use Rattle.std.proofs.Common.{◌≡◌, ◌≤◌, ◌+◌, drop}
use Rattle.flick_check.specs.Files as files
use Rattle.flick_check.proofs.files.feeds.Given as goal

-- The feeds so far, and those in the rest.
abbrev pub invariant-loop-octet : goal.invariant-loop-octet
invariant-loop-octet l = record {
  sum : files.feeds l.text ≡ l.sum + files.feeds (drop l.octet-index l.text);
  within : l.sum ≤ l.octet-index;
}
