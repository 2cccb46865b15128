use Rattle.std.proofs.Common.{◌≡◌, map, take}
use Rattle.pres.specs.Drafts.{drawn}
use Rattle.pres.specs.Sizes.{size_of}
use Rattle.pres.proofs.draft.Draft.sizes.Given as goal

-- the sizes of the first nodes
abbrev pub invariant-loop-id : goal.invariant-loop-id
invariant-loop-id l = l.sizes.items ≡ map size_of (take l.id (drawn l.self))
