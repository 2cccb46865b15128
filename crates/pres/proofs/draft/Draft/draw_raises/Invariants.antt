use Rattle.std.proofs.Common.{◌≡◌, ◌+◌, ◌++◌, IsTrue, pos, length, drop, map}
use Rattle.std.specs.List.{AllByRecursion}
use Rattle.aoi.specs.Plain.{plain_raise}
use Rattle.pres.specs.Faces.{arm, at}
use Rattle.pres.specs.Made.{made_raised}
use Rattle.pres.specs.Offers.{exception, raised}
use Rattle.pres.specs.Drafts.{drawn, known, is_drawable}
use Rattle.pres.proofs.Exchange.{AreSoFar}
use Rattle.pres.proofs.draft.Draft.draw_raises.Given as goal

-- what is drawn, and what is left
abbrev pub invariant-loop-k : goal.invariant-loop-k
invariant-loop-k l = record {
  same : known l.self ≡ known l.fn.self;
  nodes : drawn l.self ++ made_raised (known l.fn.self) (map plain_raise (drop l.k l.raises))
      ≡ drawn l.fn.self ++ made_raised (known l.fn.self) (map plain_raise l.raises);
  arms : AreSoFar l.self l.arms (raised (known l.fn.self) (1 + l.k) (map plain_raise (drop l.k l.raises)))
      (arm (pos 0) (at (drawn l.fn.self) l.answer) (raised (known l.fn.self) 1 (map plain_raise l.raises)));
  left : AllByRecursion (λ r. IsTrue (is_drawable (length (known l.fn.self)) (exception r))) (map plain_raise (drop l.k l.raises));
}
