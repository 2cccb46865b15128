use Rattle.raw_buf.specs.Buf.{NoneFell}
use Rattle.flick_texts.specs.MadeText.{made_message}
use Rattle.flick_texts.proofs.Counting.{AreCounted}
use Rattle.flick_texts.proofs.Spending.{Leads}
use Rattle.flick_texts.proofs.made.sums_of.Given as goal

-- the sums so far, the messages that are left, and what was sent
abbrev pub invariant-loop-i : goal.invariant-loop-i
invariant-loop-i l = record {
  counted : AreCounted (made_message l.engine.binding l.engine.minor l.number) l.many l.i l.sums;
  sends : Leads l.engine l.number l.many l.i l.fn.buf l.buf;
  spent : NoneFell l.fn.buf.spent l.buf.spent;
}
