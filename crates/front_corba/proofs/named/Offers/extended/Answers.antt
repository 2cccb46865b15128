use Rattle.front_corba.proofs.Indexing.{indexed}
use Rattle.front_corba.proofs.named.Offers.extended.Goals as goal

pub invariant_of-result : goal.invariant_of-result
invariant_of-result c =
    let was = c.self.inside in
    let now = c.index.new in
    indexed was.list c.push.new.self c.args.offer was.names now.names was.folded now.folded was.origins now.origins
    c.as_slice-name.result.now c.as_slice-name.ensures c.self.invariant c.in_ok-push.ensures.ok c.in_ok-index.ensures.exact
    c.in_ok-index.ensures.small c.in_ok-index.ensures.origin
