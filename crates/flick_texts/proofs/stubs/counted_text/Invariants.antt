use Rattle.flick_texts.specs.StubTexts.{sent_text}
use Rattle.flick_texts.proofs.Listing.{AreListed}
use Rattle.flick_texts.proofs.stubs.counted_text.Given as goal

-- the texts so far, and those that are left
abbrev pub invariant-loop-i : goal.invariant-loop-i
invariant-loop-i l = AreListed sent_text l.engine.binding.unit.interfaces l.engine.binding.ops l.engine.stubs l.i l.out
