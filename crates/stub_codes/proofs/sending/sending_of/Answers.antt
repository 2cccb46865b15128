use Rattle.std.proofs.Common.{◌<◌, length, refl, sym, subst, arith}
use Rattle.mint.specs.Types.{type_at}
use Rattle.wire_def.specs.declared.encoding.Encoding.{Encoding}
use Rattle.copy_inline.specs.Rows.{GivesBlocks}
use Rattle.copy_inline.specs.Rows as rows
use Rattle.hoist.specs.Pass.{IsSparing}
use Rattle.stub_codes.specs.Held.{code_of}
use Rattle.stub_codes.proofs.Kept.{sends_made}
use Rattle.stub_codes.proofs.Meant.{IsReady, is_given, rows_given, few, made, is_framed}
use Rattle.stub_codes.proofs.sending.sending_of.Goals as goal

pub hoist-requires-clause-given : goal.hoist-requires-clause-given
hoist-requires-clause-given c =
    let known : c.args.id < length c.args.low.now.sends = omega (arith, c.requires.id, c.requires.lowered.many) in
    let ready : IsReady c.args.back c.args.mint.now c.args.id c.args.low.now.sends c.args.lead (code_of c.args.body)
    c.in_ok-given.given = record {
      sound = c.types_are_sound.ensures c.args.id;
      known = known;
      sends = c.requires.lowered.sends;
      follows = c.requires.lowered.follows;
      chunks = c.requires.chunks;
      does = c.requires.body.steps;
      goes = c.requires.body.follows;
      none = c.requires.body.subs;
      whole = c.in_ok-given.ensures;
    } in
    is_given c.args.back c.args.mint.now c.args.id c.args.low.now.sends c.args.lead (code_of c.args.body) c.in_ok-given.given ready

pub rows-requires-clause-given : goal.rows-requires-clause-given
rows-requires-clause-given c =
    let known : c.args.id < length c.args.low.now.sends = omega (arith, c.requires.id, c.requires.lowered.many) in
    let ready : IsReady c.args.back c.args.mint.now c.args.id c.args.low.now.sends c.args.lead (code_of c.args.body)
    c.in_ok-given.given = record {
      sound = c.types_are_sound.ensures c.args.id;
      known = known;
      sends = c.requires.lowered.sends;
      follows = c.requires.lowered.follows;
      chunks = c.requires.chunks;
      does = c.requires.body.steps;
      goes = c.requires.body.follows;
      none = c.requires.body.subs;
      whole = c.in_ok-given.ensures;
    } in
    subst (λ (e : Encoding). rows.IsGiven e (type_at c.args.mint.now c.args.id) c.in_ok-code.code) (sym c.encoding_of.ensures)
    (rows_given c.args.back c.args.mint.now c.args.id c.args.low.now.sends c.args.lead (code_of c.args.body) c.in_ok-given.given ready
    c.requires.body.turned c.requires.lowered.turned c.in_ok-code.code c.in_ok-code.ensures.adds c.in_ok-code.ensures.rows
    c.in_ok-code.ensures.subs)

pub returns : goal.returns
returns c =
    let known : c.args.id < length c.args.low.now.sends = omega (arith, c.requires.id, c.requires.lowered.many) in
    let t = type_at c.args.mint.now c.args.id in
    let ready : IsReady c.args.back c.args.mint.now c.args.id c.args.low.now.sends c.args.lead (code_of c.args.body)
    c.in_ok-given.given = record {
      sound = c.types_are_sound.ensures c.args.id;
      known = known;
      sends = c.requires.lowered.sends;
      follows = c.requires.lowered.follows;
      chunks = c.requires.chunks;
      does = c.requires.body.steps;
      goes = c.requires.body.follows;
      none = c.requires.body.subs;
      whole = c.in_ok-given.ensures;
    } in
    sends_made c.args.back t c.args.lead c.in_ok-given.given c.in_ok-code.code c.in_ok-rowed.rowed
    (made c.args.back c.args.mint.now c.args.id c.args.low.now.sends c.args.lead (code_of c.args.body) c.in_ok-given.given ready)
    (is_framed c.args.back c.args.mint.now c.args.id c.args.low.now.sends c.args.lead (code_of c.args.body) c.in_ok-given.given ready)
    c.in_ok-code.ensures.same c.in_ok-code.ensures.covered
    (subst (λ (e : Encoding). IsSparing e t c.in_ok-given.given c.in_ok-code.code) c.requires.lowered.enc c.in_ok-code.ensures.sparing)
    c.in_ok-rowed.ensures.same c.in_ok-rowed.ensures.covered c.in_ok-rowed.ensures.checks
    (subst (λ (e : Encoding). GivesBlocks e t c.in_ok-rowed.rowed) c.encoding_of.ensures c.in_ok-rowed.ensures.blocks)
    c.in_ok-rowed.ensures.calls c.in_ok-rowed.ensures.subs
    (few c.args.back c.args.mint.now c.args.id c.args.low.now.sends c.args.lead (code_of c.args.body) c.in_ok-given.given ready
    c.requires.body.turned c.requires.lowered.turned c.in_ok-code.code c.in_ok-rowed.rowed c.in_ok-code.ensures.adds
    (subst (λ (e : Encoding). rows.IsRowed e t c.in_ok-code.code c.in_ok-rowed.rowed) c.encoding_of.ensures c.in_ok-rowed.ensures.rowed))
    c.chunk.result c.chunk.ensures.same c.chunk.ensures.covered
    c.chunk.ensures.checks c.chunk.ensures.rows c.chunk.ensures.others c.chunk.ensures.stores c.chunk.ensures.moves

pub chunk-requires : goal.chunk-requires
chunk-requires c = record { phase = record { multiple = refl; rest = omega arith } }
