use Rattle.std.proofs.Common.{◌≡◌, ◌*◌, ◌++◌, take, drop}
use Rattle.raw_buf.specs.Words.{words, worded}
use Rattle.raw_buf.proofs.buffer.SendBuf.put_words.Given as goal

abbrev pub invariant-loop-number : goal.invariant-loop-number
invariant-loop-number l = record {
  done : l.self.done ≡ l.initial.self.done ++ words (take l.number-index l.numbers);
  front : l.self.front ≡ drop (4 * l.number-index) l.initial.self.front;
  tally : l.self.tally ≡ worded l.number-index l.initial.self.tally;
  spent : l.self.spent ≡ worded l.number-index l.initial.self.spent;
}
