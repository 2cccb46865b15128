use Rattle.std.proofs.Common.{◌≡◌, ◌++◌, length, drop, map}
use Rattle.std.specs.List.{AllByRecursion}
use Rattle.aoi.specs.Plain.{plain_interface}
use Rattle.pres.specs.Made.{made_in_interfaces}
use Rattle.pres.specs.Offers.{offers_from}
use Rattle.pres.specs.Drafts.{drawn, known, IsDrawableInterface}
use Rattle.pres.proofs.Exchange.{AreListed}
use Rattle.pres.proofs.draft.Draft.draw_interfaces.Given as goal

-- what is drawn, and what is left
abbrev pub invariant-loop-k : goal.invariant-loop-k
invariant-loop-k l = record {
  same : known l.self ≡ known l.fn.self;
  nodes : drawn l.self ++ made_in_interfaces (known l.fn.self) l.back (map plain_interface (drop l.k l.interfaces))
      ≡ drawn l.fn.self ++ made_in_interfaces (known l.fn.self) l.back (map plain_interface l.interfaces);
  listed : AreListed l.self l.list (offers_from (known l.fn.self) l.back l.k (map plain_interface (drop l.k l.interfaces)))
      (offers_from (known l.fn.self) l.back 0 (map plain_interface l.interfaces));
  left : AllByRecursion (IsDrawableInterface (length (known l.fn.self))) (map plain_interface (drop l.k l.interfaces));
}
