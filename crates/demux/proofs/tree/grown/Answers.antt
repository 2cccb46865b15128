use Rattle.std.proofs.Common.{◌≡◌, ◌∙◌, ◌++◌, ◌∷◌, [], None, ap, length, rules}
use Rattle.demux.specs.Edges.{Pairs}
use Rattle.demux.proofs.Growing.{a_node, grown_leads}
use Rattle.demux.proofs.tree.grown.Goals as goal

pub returns : goal.returns
returns c =
    let next : c.in-Ok.next ≡ length c.args.nodes.now.items = search rules in
    grown_leads c.args.nodes.now.items c.push.new.self.items c.args.node c.args.word c.in-Ok.next c.index_mut.result.now c.add.new.self
    c.requires.tree c.requires.within c.requires.none
    (c.in_ok-push.ensures.items ∙ ap (λ (e : Pairs). c.args.nodes.now.items ++ a_node e None ∷ []) c.new.ensures)
    c.index_mut.ensures.value c.in_ok-add.ensures next
