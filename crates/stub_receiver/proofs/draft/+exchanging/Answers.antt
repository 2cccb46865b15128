use Rattle.std.proofs.Common.{◌+◌, drop, ap, ◌∙◌, arith}
use Rattle.cast_stub.specs.Fill.{part}
use Rattle.cast_stub.specs.Parts.{on_some}
use Rattle.stub_receiver.proofs.Drafting.{field_there, field_is, got_field, part_here, put_is}
use Rattle.stub_receiver.proofs.draft.+exchanging.Goals as goal

pub exchange_in-exchange_part-requires : goal.exchange_in-exchange_part-requires
exchange_in-exchange_part-requires t c =
    let lt = field_there c.args.mint.now _ (part (drop (c.args.from + 1) c.args.path.now)) c.args.fields.now.items c.requires.there in
    let got = got_field c.args.fields.now.items _ c.index_mut.result.now _ lt c.index_mut.ensures.value in (
      omega (arith, c.requires.within),
      (
        omega (arith, c.requires.within),
        part_here c.args.mint.now _ (part (drop (c.args.from + 1) c.args.path.now)) c.args.fields.now.items _ got c.requires.there,
      ),
    )

pub exchange_in-returns-clause-taken : goal.exchange_in-returns-clause-taken
exchange_in-returns-clause-taken t c =
    let lt = field_there c.args.mint.now _ (part (drop (c.args.from + 1) c.args.path.now)) c.args.fields.now.items c.requires.there in
    let got = got_field c.args.fields.now.items _ c.index_mut.result.now _ lt c.index_mut.ensures.value in
    ap (λ o. on_some o (part (drop (c.args.from + 1) c.args.path.now))) (field_is c.args.mint.now _ c.args.fields.now.items _ got)
    ∙ c.exchange_part.ensures.taken

pub exchange_in-returns-clause-put : goal.exchange_in-returns-clause-put
exchange_in-returns-clause-put t c =
    let lt = field_there c.args.mint.now _ (part (drop (c.args.from + 1) c.args.path.now)) c.args.fields.now.items c.requires.there in
    let got = got_field c.args.fields.now.items _ c.index_mut.result.now _ lt c.index_mut.ensures.value in
    put_is c.args.mint.now _ (drop (c.args.from + 1) c.args.path.now) _ c.args.fields.now.items _ _ got c.exchange_part.ensures.put
