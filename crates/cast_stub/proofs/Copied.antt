-- A copy for the whole is the same, by induction on the list of puts.
use Rattle.std.proofs.Common.{◌≡◌, List, [], ◌∷◌, map, refl, ap, ◌∙◌}
use Rattle.cast_stub.specs.declared.put.Put.{Put}
use Rattle.cast_stub.specs.declared.put.Put.TheVariants as put
use Rattle.cast_stub.specs.Append.{put_rebased}

same-put : (p : Put) → put_rebased [] p ≡ p
same-put (put.Num off path width order) = refl
same-put _ = refl

pub same-puts : (ps : List Put) → map (put_rebased []) ps ≡ ps
same-puts [] = refl
same-puts (p ∷ ps) = ap (λ (q : Put). q ∷ map (put_rebased []) ps) (same-put p) ∙ ap (λ (l : List Put). p ∷ l) (same-puts ps)

pub ruleset copied = (same-puts)
