use Rattle.stub_compare.proofs.CompareArms.{chunk_put, chunk_nothing}
use Rattle.stub_compare.proofs.compare_items.put_chunk.Goals as goal

pub returns-then-told : goal.returns-then-told
returns-then-told c = λ N s. chunk_put N s c.args.size _ _ _ _ _ _ c.if-told.true c.moved.ensures c.in_ok-told.ensures

pub returns-else-told : goal.returns-else-told
returns-else-told c = λ N s. chunk_nothing N s c.args.size _ _ _ _ _ c.if-told.false c.in_ok-told.ensures
