use Rattle.demux.proofs.Finding.{put_tree, put_finds_too}
use Rattle.demux.proofs.tree.put_place.Goals as goal

pub returns-clause-tree : goal.returns-clause-tree
returns-clause-tree c =
    put_tree c.node_of.new.nodes.items c.in_ok-node.node c.index_mut.result.now c.args.place c.in_ok-node.ensures.within
    c.index_mut.ensures.value c.in_ok-node.ensures.extends.tree

pub returns-clause-found : goal.returns-clause-found
returns-clause-found c =
    put_finds_too c.args.nodes.now.items c.node_of.new.nodes.items c.args.name.now c.in_ok-node.node c.index_mut.result.now c.args.place
    c.in_ok-node.ensures c.index_mut.ensures.value c.is_octets.ensures
