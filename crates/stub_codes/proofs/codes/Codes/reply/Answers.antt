use Rattle.mint.specs.Values.{seen}
use Rattle.stub_codes.proofs.AnyHead.{same_cost}
use Rattle.stub_codes.proofs.Costing.{reply_costs}
use Rattle.stub_codes.proofs.Done.{reply_covered, reply_means, reply_paid, sent_is, sent_long, sent_short}
use Rattle.stub_codes.proofs.codes.Codes.reply.Goals as goal

pub run_from_front-requires : goal.run_from_front-requires
run_from_front-requires c = c.reply_code.ensures.sends.covered c.reply_head-sent.result (seen c.args.value.now)
    c.numbers_are_words-2.ensures c.requires.typed

pub returns-clause-ok : goal.returns-clause-ok
returns-clause-ok c =
    let v = seen c.args.value.now in
    let means = c.reply_code.ensures.sends.means c.reply_head-sent.result v c.numbers_are_words-2.ensures c.requires.typed in
    let whole = reply_means c.args.self.now.binding c.args.minor c.args.op c.args.arm c.args.head.now c.reply_head-sent.result v _
    (rw c.bound.ensures at c.reply_head-sent.ensures) means in
    sent_is c.run_from_front.result _ _ _ whole c.run_from_front.ensures.done

pub returns-clause-short : goal.returns-clause-short
returns-clause-short c =
    let v = seen c.args.value.now in
    let means = c.reply_code.ensures.sends.means c.reply_head-sent.result v c.numbers_are_words-2.ensures c.requires.typed in
    let whole = reply_means c.args.self.now.binding c.args.minor c.args.op c.args.arm c.args.head.now c.reply_head-sent.result v _
    (rw c.bound.ensures at c.reply_head-sent.ensures) means in
    sent_short c.run_from_front.result _ _ _ _ whole c.run_from_front.ensures.done c.run_from_front.ensures.short

pub returns-clause-tally : goal.returns-clause-tally
returns-clause-tally c =
    let v = seen c.args.value.now in
    let same = same_cost _ _ _ c.reply_code.result.now c.args.head.now c.reply_head-sent.result v c.reply_code.ensures.sends
    c.numbers_are_words.ensures c.numbers_are_words-2.ensures c.requires.typed in
    reply_paid c.run_from_front.result c.args.self.now.stubs c.args.op c.args.arm c.args.minor c.reply_code.result.now c.args.head.now
    v _ _ _ c.reply_code.ensures.found same c.run_from_front.ensures.tally

pub returns-clause-spent : goal.returns-clause-spent
returns-clause-spent c =
    let v = seen c.args.value.now in
    let same = same_cost _ _ _ c.reply_code.result.now c.args.head.now c.reply_head-sent.result v c.reply_code.ensures.sends
    c.numbers_are_words.ensures c.numbers_are_words-2.ensures c.requires.typed in
    reply_paid c.run_from_front.result c.args.self.now.stubs c.args.op c.args.arm c.args.minor c.reply_code.result.now c.args.head.now
    v _ _ _ c.reply_code.ensures.found same c.run_from_front.ensures.spent

pub returns-clause-long : goal.returns-clause-long
returns-clause-long c =
    let v = seen c.args.value.now in
    let means = c.reply_code.ensures.sends.means c.reply_head-sent.result v c.numbers_are_words-2.ensures c.requires.typed in
    let whole = reply_means c.args.self.now.binding c.args.minor c.args.op c.args.arm c.args.head.now c.reply_head-sent.result v _
    (rw c.bound.ensures at c.reply_head-sent.ensures) means in
    λ is. sent_long _ _ whole (c.run_from_front.ensures.long is)

pub returns-clause-covered : goal.returns-clause-covered
returns-clause-covered c =
    reply_covered c.args.self.now.stubs c.args.op c.args.arm c.args.minor c.reply_code.result.now c.args.head.now (seen c.args.value.now)
    c.reply_code.ensures.found
    (c.reply_code.ensures.sends.covered c.args.head.now (seen c.args.value.now) c.numbers_are_words.ensures c.requires.typed)

pub returns-clause-sparing : goal.returns-clause-sparing
returns-clause-sparing c =
    reply_costs c.args.self.now c.args.op c.args.arm c.args.minor c.reply_code.result.now c.args.head.now (seen c.args.value.now)
    c.reply_code.ensures.found c.reply_code.ensures.sends c.numbers_are_words.ensures c.requires.typed
