-- What a union and arrays of arrays are seen as.
use Rattle.std.proofs.Common.{◌≡◌, ℤ, List, ℕ, Option, Some, None, ap, sym, ◌∙◌}
use Rattle.std.specs.Prelude.{Box}
use Rattle.std.specs.declared.alloc.Global.{Global}
use Rattle.std.specs.Option.{option_map}
use Rattle.mint.specs.declared.kind.Count.{Count}
use Rattle.aoi.specs.declared.types.Ty.{Ty, fold-roll-Ty}
use Rattle.aoi.specs.declared.types.Ty.TheOpen as open_
use Rattle.aoi.specs.declared.types.Ty.TheVariants.{rolls-Union, rolls-Arrays}
use Rattle.aoi.specs.declared.types.Ty.TheViews as view
use Rattle.aoi.specs.Shapes.{Shape, array, arrayed, choice, seen, seen_level, seen_member, arms_seen}

pub choice_seen : (tag : Box Ty Global) (arms : List (ℤ × Ty)) (other : Option (Box Ty Global))
    → seen (view.Union tag arms other) ≡ choice (seen tag.value) (arms_seen arms (option_map (λ b. seen b.value) other))
choice_seen tag arms None = ap seen (sym (rolls-Union tag arms None))
    ∙ fold-roll-Ty Shape (List ℕ × Shape) seen_level seen_member (open_.Union tag arms None)
choice_seen tag arms (Some b) = ap seen (sym (rolls-Union tag arms (Some b)))
    ∙ fold-roll-Ty Shape (List ℕ × Shape) seen_level seen_member (open_.Union tag arms (Some b))

pub arrays_seen : (item : Box Ty Global) (c : Count) (within : List Count)
    → seen (view.Arrays item c within) ≡ array (arrayed (seen item.value) within) c
arrays_seen item c within = ap seen (sym (rolls-Arrays item c within))
    ∙ fold-roll-Ty Shape (List ℕ × Shape) seen_level seen_member (open_.Arrays item c within)
