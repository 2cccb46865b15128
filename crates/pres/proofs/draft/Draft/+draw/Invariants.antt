use Rattle.std.proofs.Common.{◌≡◌, ◌-◌, ◌++◌, ◌<◌, map, drop, length, IsTrue, None}
use Rattle.std.specs.List.{AllByRecursion}
use Rattle.aoi.specs.Shapes.{seen, members, arms_seen}
use Rattle.pres.specs.Faces.{at}
use Rattle.pres.specs.Made.{made_inside, made_after}
use Rattle.pres.specs.Offers.{face_of, arms_of}
use Rattle.pres.specs.Drafts.{Grows, IsElement, AreArms, drawn, known, made_within, are_drawable, faces_inside}
use Rattle.pres.proofs.Arrayed.{some_of}
use Rattle.pres.proofs.draft.Draft.+draw.Given as goal

-- what is drawn, and what is left
abbrev pub invariant-draw_fields-loop-field : goal.invariant-draw_fields-loop-field
invariant-draw_fields-loop-field l = record {
  same : known l.self ≡ known l.fn.self;
  nodes : drawn l.self ++ made_inside (known l.fn.self) (members (drop l.field-index l.fields))
      ≡ drawn l.fn.self ++ made_inside (known l.fn.self) (members l.fields);
  below : AllByRecursion (λ i. i < length (drawn l.self)) l.ids;
  ids : map (at (drawn l.self)) l.ids ++ faces_inside (known l.fn.self) (members (drop l.field-index l.fields))
      ≡ faces_inside (known l.fn.self) (members l.fields);
  left : IsTrue (are_drawable (length (known l.fn.self)) (members (drop l.field-index l.fields)));
}

-- the last arms are drawn
abbrev pub invariant-draw_arms-loop-i : goal.invariant-draw_arms-loop-i
invariant-draw_arms-loop-i l = record {
  same : known l.self ≡ known l.fn.self;
  nodes : drawn l.self ≡ drawn l.fn.self ++ made_after (known l.fn.self) (arms_seen (drop (length l.arms - l.i) l.arms) None);
  arms : AreArms l.self l.sorted.items None (arms_of (known l.fn.self) (arms_seen (drop (length l.arms - l.i) l.arms) None));
}

-- the innermost arrays are drawn
abbrev pub invariant-draw_arrays-loop-i : goal.invariant-draw_arrays-loop-i
invariant-draw_arrays-loop-i l = record {
  grows : Grows l.fn.self l.self (made_within (known l.fn.self) (some_of (seen l.item) l.within l.i));
  element : IsElement l.self l.element (face_of (known l.fn.self) (some_of (seen l.item) l.within l.i));
}
