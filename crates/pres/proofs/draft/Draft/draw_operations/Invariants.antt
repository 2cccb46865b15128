use Rattle.std.proofs.Common.{◌≡◌, ◌++◌, map, length, drop}
use Rattle.std.specs.List.{AllByRecursion}
use Rattle.aoi.specs.Plain.{plain_operation}
use Rattle.pres.specs.Made.{made_by}
use Rattle.pres.specs.Offers.{offer, offer_at}
use Rattle.pres.specs.Drafts.{drawn, known, IsDrawableOperation}
use Rattle.pres.proofs.Exchange.{AreListed}
use Rattle.pres.proofs.draft.Draft.draw_operations.Given as goal

-- what is drawn, and what is left
abbrev pub invariant-loop-op : goal.invariant-loop-op
invariant-loop-op l = record {
  same : known l.self ≡ known l.fn.self;
  nodes : drawn l.self ++ made_by (known l.fn.self) (map plain_operation (drop l.op-index l.ops))
      ≡ drawn l.fn.self ++ made_by (known l.fn.self) (map plain_operation l.ops);
  listed : AreListed l.self l.list (map (offer (known l.fn.self) l.back l.k) (map plain_operation (drop l.op-index l.ops)))
      (map (offer_at (drawn l.fn.self)) l.fn.list ++ map (offer (known l.fn.self) l.back l.k) (map plain_operation l.ops));
  left : AllByRecursion (IsDrawableOperation (length (known l.fn.self))) (map plain_operation (drop l.op-index l.ops));
}
