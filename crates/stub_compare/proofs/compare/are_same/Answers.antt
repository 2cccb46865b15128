use Rattle.std.proofs.Common.{◌≡◌, ◌↔◌, ℕ, List, true, subst}
use Rattle.std.proofs.lemmas.Bool.Decides.{Decides-eqb}
use Rattle.std.proofs.lemmas.Slice.Eq.{slice_eq-Decides}
use Rattle.stub_compare.proofs.compare.are_same.Goals as goal

pub returns : goal.returns
returns c =
    subst (λ (l : List ℕ). (c.eq.result ≡ true) ↔ (l ≡ c.args.b.now)) c.as_slice.ensures
    (subst (λ (l : List ℕ). (c.eq.result ≡ true) ↔ (c.as_slice.result.now ≡ l)) c.as_slice-2.ensures
    (slice_eq-Decides Decides-eqb _ _ _ c.eq.ensures))
