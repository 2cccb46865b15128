-- A number that is put into a part in place, by induction on the list of parts.
use Rattle.std.proofs.Common.{◌≡◌, ℕ, zero, suc, ◌<◌, List, [], ◌∷◌, length, Some, slice_get, ap, subst, Bool, true, false, arith}
use Rattle.std.specs.Prelude.{slice_set}
use Rattle.mint.specs.declared.node.Node.{Node}
use Rattle.cast_stub.specs.Draft.{draft}
use Rattle.cast_stub.specs.Fill.{at_field}
use Rattle.cast_stub.specs.Runs.{Place, Run, gives, refuses, strays, Filler, map_run, Holds}
use Rattle.stub_receiver.specs.declared.draft.Filling.{Filling}
use Rattle.stub_receiver.specs.Drawn.{drawn, all_drawn}
use Rattle.stub_receiver.specs.Ran.{Tested}
use Rattle.stub_receiver.proofs.Drafting.{path-drop, drawing}

pub holds_in : {A B : Type 0} (g : A → B) (z : Run A) → Holds (map_run g z) → Holds z
holds_in g (gives x t) h = tt
holds_in g refuses h = tt
holds_in g strays h = h

pub tested_in : {A B : Type 0} (g : A → B) (result : Bool) (x : A) (s : Place) (z : Run A) → Tested result x s z
    → Tested result (g x) s (map_run g z)
tested_in g true x s z h = ap (map_run g) h
tested_in g false x s z h = ap (map_run g) h

module _ (f : Filler) (ns : List Node) (s : Place) where
  pub at_there : (n : ℕ) (ds : List Filling) → Holds (at_field n f (all_drawn ns ds) s) → n < length ds
  at_there n [] h = absurd h
  at_there zero (d ∷ ds) h = omega arith
  at_there (suc n) (d ∷ ds) h =
      let k = at_there n ds (holds_in (draft (drawn ns d)) (at_field n f (all_drawn ns ds) s) h) in
      omega (arith, k)

  pub at_holds : (n : ℕ) (ds : List Filling) (d : Filling) → slice_get ds n ≡ Some d → Holds (at_field n f (all_drawn ns ds) s)
      → Holds (f (drawn ns d) s)
  at_holds n [] d e h = absurd cc
  at_holds zero (x ∷ ds) d e h =
      let same : x ≡ d = cc in
      subst (λ (y : Filling). Holds (f (drawn ns y) s)) same (holds_in (λ z. draft z (all_drawn ns ds)) (f (drawn ns x) s) h)
  at_holds (suc n) (x ∷ ds) d e h = at_holds n ds d e (holds_in (draft (drawn ns x)) (at_field n f (all_drawn ns ds) s) h)

  pub at_tested : (n : ℕ) (ds : List Filling) (d d' : Filling) (result : Bool) → slice_get ds n ≡ Some d
      → Tested result (drawn ns d') s (f (drawn ns d) s)
      → Tested result (all_drawn ns (slice_set ds n d')) s (at_field n f (all_drawn ns ds) s)
  at_tested n [] d d' result e h = absurd cc
  at_tested zero (x ∷ ds) d d' result e h =
      let same : d ≡ x = cc in
      tested_in (λ z. draft z (all_drawn ns ds)) result (drawn ns d') s (f (drawn ns x) s)
      (subst (λ (y : Filling). Tested result (drawn ns d') s (f (drawn ns y) s)) same h)
  at_tested (suc n) (x ∷ ds) d d' result e h =
      tested_in (draft (drawn ns x)) result (all_drawn ns (slice_set ds n d')) s (at_field n f (all_drawn ns ds) s)
      (at_tested n ds d d' result e h)

pub ruleset putting = (drawing, path-drop)
