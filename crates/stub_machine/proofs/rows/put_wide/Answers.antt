use Rattle.std.proofs.Common.{◌<◌, ◌∙◌, refl, sym, rules, length, arith, FitsSigned}
use Rattle.std.specs.Int.{w128}
use Rattle.std.proofs.lemmas.Int.{to_z-of_z}
use Rattle.stub_machine.proofs.Rowing.{got_number, wide_fits, wide_step, wide_end}
use Rattle.stub_machine.proofs.rows.put_wide.Goals as goal

pub put_word-requires-clause-there : goal.put_word-requires-clause-there
put_word-requires-clause-there c =
    let ns = c.args.row.now.numbers in
    let lt : c.loop-i.i < length ns = omega arith in
    let fits : FitsSigned w128 c.in-Some.n = search rules in
    let same = to_z-of_z w128 c.in-Some.n fits ∙ got_number ns c.loop-i.i c.in-Some.n (sym c.get.ensures ∙ c.in-Some.is) in
    (wide_fits c.args.order ns c.args.buf.now c.loop-i.buf c.loop-i.i _ c.loop-i.invariant c.requires.there c.requires.within lt same).0

pub put_word-requires-clause-within : goal.put_word-requires-clause-within
put_word-requires-clause-within c =
    let ns = c.args.row.now.numbers in
    let lt : c.loop-i.i < length ns = omega arith in
    let fits : FitsSigned w128 c.in-Some.n = search rules in
    let same = to_z-of_z w128 c.in-Some.n fits ∙ got_number ns c.loop-i.i c.in-Some.n (sym c.get.ensures ∙ c.in-Some.is) in
    (wide_fits c.args.order ns c.args.buf.now c.loop-i.buf c.loop-i.i _ c.loop-i.invariant c.requires.there c.requires.within lt same).1

pub loop-i-preserved : goal.loop-i-preserved
loop-i-preserved c =
    let ns = c.args.row.now.numbers in
    let lt : c.loop-i.i < length ns = omega arith in
    let fits : FitsSigned w128 c.in-Some.n = search rules in
    let same = to_z-of_z w128 c.in-Some.n fits ∙ got_number ns c.loop-i.i c.in-Some.n (sym c.get.ensures ∙ c.in-Some.is) in
    wide_step c.args.order ns c.args.buf.now c.loop-i.buf c.put_word.new.buf c.loop-i.i _ c.loop-i.invariant c.requires.there
    c.requires.within lt same c.put_word.ensures

pub returns-clause-front : goal.returns-clause-front
returns-clause-front c = wide_end c.args.order c.args.row.now.numbers c.args.buf.now c.loop-i.buf (length c.args.row.now.numbers)
    (search rules) c.requires.there refl
