use Rattle.std.proofs.Common.{◌≡◌, drop}
use Rattle.cast_stub.specs.Fill.{all_got}
use Rattle.stub_receiver.specs.Drawn.{drawn}
use Rattle.stub_receiver.specs.Ran.{place_of}
use Rattle.stub_receiver.proofs.takes.run_gets.Given as goal

abbrev pub invariant-loop-get : goal.invariant-loop-get
invariant-loop-get l = all_got l.get-items (drawn l.mint l.fn.draft) (place_of l.view)
    ≡ all_got (drop l.get-index l.get-items) (drawn l.mint l.draft) (place_of l.view)
