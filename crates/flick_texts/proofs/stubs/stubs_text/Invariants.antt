use Rattle.flick_texts.specs.StubTexts.{both_texts}
use Rattle.flick_texts.proofs.Listing.{AreListed}
use Rattle.flick_texts.proofs.stubs.stubs_text.Given as goal

-- the texts so far, and those that are left
abbrev pub invariant-loop-i : goal.invariant-loop-i
invariant-loop-i l = AreListed both_texts l.engine.binding.unit.interfaces l.engine.binding.ops l.engine.stubs l.i l.out
