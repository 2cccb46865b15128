use Rattle.std.proofs.Common.{◌≡◌, [], drop, map}
use Rattle.mint.specs.Values.{seen}
use Rattle.cast_stub.specs.Fill.{all_got}
use Rattle.stub_receiver.specs.Flat.{read_so_far}
use Rattle.stub_receiver.specs.Ran.{place_of}
use Rattle.stub_receiver.proofs.flat.read_fields.Given as goal

abbrev pub invariant-loop-get : goal.invariant-loop-get
invariant-loop-get l = all_got l.get-items (read_so_far l.mint l.nested l.ids []) (place_of l.view)
    ≡ all_got (drop l.get-index l.get-items) (read_so_far l.mint l.nested l.ids (map seen l.values)) (place_of l.view)
