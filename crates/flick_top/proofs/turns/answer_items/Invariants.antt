use Rattle.std.proofs.Common.{◌≡◌, List}
use Rattle.raw_buf.specs.Buf.{NoneFell}
use Rattle.flick_top.specs.declared.items.Item.{Item}
use Rattle.flick_top.specs.Answer.{cutting_of}
use Rattle.flick_top.specs.Giving.{IsGiven, work}
use Rattle.flick_top.proofs.Turning.{AreWritten}
use Rattle.flick_top.proofs.turns.answer_items.Given as goal

-- The items so far are answered.
abbrev pub invariant-turns : goal.invariant-turns
invariant-turns g l = record {
  answered : (given : List Item) × IsGiven (cutting_of l.job) l.items (g.S.Source.left l.initial.input) (g.S.Source.left l.input) given
      × AreWritten l.job given (g.K.Sink.held l.initial.output) (g.K.Sink.held l.output) l.refused l.initial.buf l.buf;
  reads : g.S.Source.faults l.initial.input ≡ g.S.Source.faults l.input;
  spent : NoneFell l.initial.buf.spent l.buf.spent;
  writes : g.K.Sink.faults l.initial.output ≡ g.K.Sink.faults l.output;
}

abbrev pub decreases-turns : goal.decreases-turns
decreases-turns g l = work l.items
