use Rattle.std.proofs.Common.{◌≡◌, ◌++◌, [], length, drop}
use Rattle.aoi.specs.Shapes.{shapes}
use Rattle.pres.specs.Made.{made_in_types}
use Rattle.pres.specs.Offers.{faces_of}
use Rattle.pres.specs.Drafts.{drawn, known, AreDrawable}
use Rattle.pres.proofs.draft.Draft.draw_types.Given as goal

-- what is drawn, and what is left
abbrev pub invariant-loop-ty : goal.invariant-loop-ty
invariant-loop-ty l = record {
  nodes : drawn l.self ++ made_in_types (known l.self) (shapes (drop l.ty-index l.types)) ≡ made_in_types [] (shapes l.types);
  faces : faces_of (known l.self) (shapes (drop l.ty-index l.types)) ≡ faces_of [] (shapes l.types);
  left : AreDrawable (length (known l.self)) (shapes (drop l.ty-index l.types));
}
