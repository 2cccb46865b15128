-- The codes of a list: the calls of each, and that it is not refused, by induction on the list.
use Rattle.std.proofs.Common.{◌≡◌, ℕ, zero, suc, true, List, [], ◌∷◌, None, Some, is_some, slice_get, refl, subst}
use Rattle.std.specs.List.{AllByRecursion}
use Rattle.mint.specs.declared.node.Node.{Node}
use Rattle.cast_stub.specs.Block.{Block}
use Rattle.stub_flat.specs.Places.{Spot}
use Rattle.stub_flat.specs.Residues.{every}
use Rattle.stub_flat.specs.Flat.{Called, calls, Spots, calls_of_known}
use Rattle.stub_flat.proofs.Found.{calls_first, calls_second}
use Rattle.stub_cover.specs.Rooms.{on}
use Rattle.stub_cover.specs.Covers.{run, list_runs}
use Rattle.stub_cover.proofs.Rooms.{some_same}
use Rattle.std.proofs.lemmas.Bool.{and_parts}

-- the calls of a code with a node
pub calls_noted : (P : Called → Type 0) (N : List Node) (bs : List Block) (ts : Spots) (k m : ℕ) (b : Block)
    → AllByRecursion P (calls_of_known N bs ts) → slice_get bs k ≡ Some b → slice_get ts k ≡ Some (Some m)
    → AllByRecursion P (calls N (Some m) b)
calls_noted P N [] ts k m b h e f = absurd cc
calls_noted P N (c ∷ bs) [] k m b h e f = absurd cc
calls_noted P N (c ∷ bs) (None ∷ ts) zero m b h e f = let same : None ≡ Some m = some_same None (Some m) f in absurd cc
calls_noted P N (c ∷ bs) (None ∷ ts) (suc k) m b h e f = calls_noted P N bs ts k m b h e f
calls_noted P N (c ∷ bs) (Some n ∷ ts) zero m b h e f =
    let same : Some n ≡ Some m = some_same (Some n) (Some m) f in
    subst (λ (t : Spot). AllByRecursion P (calls N t b)) same
    (subst (λ (x : Block). AllByRecursion P (calls N (Some n) x)) (some_same c b e)
    (calls_first P (calls N (Some n) c) (calls_of_known N bs ts) h))
calls_noted P N (c ∷ bs) (Some n ∷ ts) (suc k) m b h e f =
    calls_noted P N bs ts k m b (calls_second P (calls N (Some n) c) (calls_of_known N bs ts) h) e f

-- a code of the list that is not refused at its place
pub record Passes (N : List Node) (ts : Spots) (k : ℕ) (b : Block) : Type 0 where
  pub spot : Spot
  pub there : slice_get ts k ≡ Some spot
  pub runs : is_some (run N spot b None (on every 0)) ≡ true

pub one_passes : (N : List Node) (bs : List Block) (ts : Spots) (k : ℕ) (b : Block) → list_runs N bs ts ≡ true → slice_get bs k ≡ Some b
    → Passes N ts k b
one_passes N [] ts k b h e = absurd cc
one_passes N (c ∷ bs) [] k b h e = absurd cc
one_passes N (c ∷ bs) (t ∷ ts) zero b h e = record {
  spot = t;
  there = refl;
  runs = subst (λ (x : Block). is_some (run N t x None (on every 0)) ≡ true) (some_same c b e)
      (and_parts (is_some (run N t c None (on every 0))) (list_runs N bs ts) h).0;
}
one_passes N (c ∷ bs) (t ∷ ts) (suc k) b h e =
    let r = one_passes N bs ts k b (and_parts (is_some (run N t c None (on every 0))) (list_runs N bs ts) h).1 e in
    record { spot = r.spot; there = r.there; runs = r.runs }
