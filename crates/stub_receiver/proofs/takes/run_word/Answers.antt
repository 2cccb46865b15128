use Rattle.std.proofs.Common.{refl}
use Rattle.stub_receiver.specs.Drawn.{drawn}
use Rattle.stub_receiver.specs.Ran.{place_of}
use Rattle.stub_receiver.proofs.Within.{word_holds, word_tested}
use Rattle.stub_receiver.proofs.takes.run_word.Goals as goal

pub put_word-requires-clause-holds : goal.put_word-requires-clause-holds
put_word-requires-clause-holds c = word_holds c.args.get.now c.args.off c.args.path.now _ c.args.width c.args.order
    (drawn c.args.mint.now c.args.draft.now) (place_of c.args.view.now) (c.if-not-is_width.ensures.yes refl) c.as_slice-path.ensures
    c.requires _ c.load-m.ensures.value

pub returns : goal.returns
returns c = word_tested c.args.get.now c.args.off c.args.path.now _ c.args.width c.args.order (drawn c.args.mint.now c.args.draft.now)
    (place_of c.args.view.now) (c.if-not-is_width.ensures.yes refl) c.as_slice-path.ensures c.requires _ _ _ c.load-m.ensures.value
    c.put_word.ensures
