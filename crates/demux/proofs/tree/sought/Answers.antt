use Rattle.std.proofs.Common.{◌≡◌, ◌∙◌, ◌*◌, ◌<◌, ◌≤◌, None, length, ap, arith, rules}
use Rattle.demux.specs.Edges.{goal_of}
use Rattle.demux.specs.Names.{word_at}
use Rattle.demux.specs.Trees.{node_at}
use Rattle.demux.proofs.Finding.{seeks_more, none_more, seeks_last, read_more}
use Rattle.demux.proofs.tree.sought.Goals as goal

pub returns-in_default-next-clause-place : goal.returns-in_default-next-clause-place
returns-in_default-next-clause-place c =
    let within : 4 * c.loop-i.i < length c.args.name.now.name = omega arith in
    let none : None ≡ goal_of (node_at c.args.nodes.now c.loop-i.node).edges c.word-word.result = first_of (search rules, grind arith) in
    none_more c.args.nodes.now c.args.name.now.name c.loop-i.i c.loop-i.node c.word-word.result within
    (c.word-word.ensures.word ∙ ap (λ s. word_at s c.loop-i.i) c.loop-i.invariant.same) c.loop-i.invariant.seeks none

pub loop-i-preserved : goal.loop-i-preserved
loop-i-preserved c =
    let within : 4 * c.loop-i.i < length c.args.name.now.name = omega arith in
    record {
      seeks = seeks_more c.args.nodes.now c.args.name.now.name c.loop-i.i c.loop-i.node c.in-Some-next.after c.word-word.result within
          (c.word-word.ensures.word ∙ ap (λ s. word_at s c.loop-i.i) c.loop-i.invariant.same) c.loop-i.invariant.seeks
          c.in-Some-next.ensures;
      same = c.word-word.ensures.name ∙ c.loop-i.invariant.same;
      reads = read_more c.args.name.now.reads c.loop-i.i _ _ c.loop-i.invariant.reads c.word-word.ensures.reads;
    }

pub returns-clause-place : goal.returns-clause-place
returns-clause-place c =
    let all : length c.args.name.now.name ≤ 4 * c.loop-i.i = omega arith in
    c.place_at.ensures ∙ seeks_last c.args.nodes.now c.args.name.now.name c.loop-i.i c.loop-i.node all c.loop-i.invariant.seeks
