use Rattle.std.proofs.Common.{rules, ap, ◌∙◌, ◌++◌, get_or, drop}
use Rattle.kit_base.specs.Bytes.{be}
use Rattle.raw_buf.specs.Buf.{moved, stored}
use Rattle.raw_buf.proofs.Wording.{words_more, worded_more, drop_more}
use Rattle.raw_buf.proofs.buffer.SendBuf.put_words.Goals as goal

pub loop-number-preserved : goal.loop-number-preserved
loop-number-preserved c = record {
  done =
      c.put_word.ensures.done
      ∙ ap (λ o.
      o ++ be 4 (get_or c.args.numbers.now c.loop-number.number-index 0)) c.loop-number.invariant.done
      ∙ words_more c.args.self.now.done c.args.numbers.now c.loop-number.number-index (search rules);
  front = c.put_word.ensures.front ∙ ap (drop 4) c.loop-number.invariant.front ∙ drop_more c.loop-number.number-index c.args.self.now.front;
  tally =
      c.put_word.ensures.tally
      ∙ ap (λ t. moved (stored t)) c.loop-number.invariant.tally ∙ worded_more c.loop-number.number-index c.args.self.now.tally;
  spent =
      c.put_word.ensures.spent
      ∙ ap (λ t. moved (stored t)) c.loop-number.invariant.spent ∙ worded_more c.loop-number.number-index c.args.self.now.spent;
}
