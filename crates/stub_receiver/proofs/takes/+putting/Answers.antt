use Rattle.std.proofs.Common.{rules, ◌+◌, drop, arith}
use Rattle.wire_def.specs.Orders.{width_as}
use Rattle.cast_stub.specs.Fill.{within, into}
use Rattle.stub_receiver.specs.Ran.{place_of}
use Rattle.stub_receiver.proofs.Drafting.{got_field}
use Rattle.stub_receiver.proofs.Putting.{at_there, at_holds, at_tested}
use Rattle.stub_receiver.proofs.takes.+putting.Goals as goal

pub put_in-index_mut-requires : goal.put_in-index_mut-requires
put_in-index_mut-requires t c =
    let lt = at_there (within (drop (c.args.from + 1) c.args.path.now) (into c.args.get.now (width_as c.args.width) c.args.m))
    c.args.mint.now (place_of c.args.view.now) _ c.args.fields.now.items c.requires.holds in
    search (rules, lt)

pub put_in-put_word-requires : goal.put_in-put_word-requires
put_in-put_word-requires t c =
    let f = within (drop (c.args.from + 1) c.args.path.now) (into c.args.get.now (width_as c.args.width) c.args.m) in
    let lt = at_there f c.args.mint.now (place_of c.args.view.now) _ c.args.fields.now.items c.requires.holds in
    let got = got_field c.args.fields.now.items _ c.index_mut.result.now _ lt c.index_mut.ensures.value in (
      omega (arith, c.requires.length),
      (
        c.requires.fits,
        (
          omega (arith, c.requires.length),
          at_holds f c.args.mint.now (place_of c.args.view.now) _ c.args.fields.now.items _ got c.requires.holds,
        ),
      ),
    )

pub put_in-returns : goal.put_in-returns
put_in-returns t c =
    let f = within (drop (c.args.from + 1) c.args.path.now) (into c.args.get.now (width_as c.args.width) c.args.m) in
    let lt = at_there f c.args.mint.now (place_of c.args.view.now) _ c.args.fields.now.items c.requires.holds in
    let got = got_field c.args.fields.now.items _ c.index_mut.result.now _ lt c.index_mut.ensures.value in
    at_tested f c.args.mint.now (place_of c.args.view.now) _ c.args.fields.now.items _ _ _ got c.put_word.ensures
