-- A loop as the first of three ways that is not refused; joins with what may be there.
use Rattle.std.proofs.Common.{◌≡◌, ℕ, ◌≤◌, ℤ, length, drop, Bool, true, false, List, Option, Some, None, option_map, is_some, Result, Ok, Err, IfOk, refl, sym, ◌∙◌, subst}
use Rattle.mint.specs.declared.node.Node.{Node}
use Rattle.cast_stub.specs.declared.send.SendOp.{SendOp}
use Rattle.cast_stub.specs.Block.{Cases, code_seen, cases_seen}
use Rattle.stub_flat.specs.Places.{Spot, rest_spot}
use Rattle.stub_cover.specs.Rooms.{Rooms, least, least_first}
use Rattle.stub_flat.specs.Residues.{Residues}
use Rattle.stub_cover.specs.Covers.{Turn, run, run_ways, suffices, free_loop, bounded_loop, bare_loop, or_else}
use Rattle.stub_rooms.specs.RoomsShown.{room_at, spread, least_of, Follows}
use Rattle.stub_places.specs.Sets.{each_of, set_of}
use Rattle.stub_rooms.specs.CoversLap.{turn_of, reach_of, is_plain_lap}
use Rattle.stub_rooms.specs.CoversStanding.{maybe_loop}
use Rattle.stub_rooms.specs.declared.covers_standing.Looping.{Looping}
use Rattle.stub_rooms.proofs.CoversGoing.{maybe_given, follows_or, follows_else, there_follows, there_none, WaysRun, ways_run_last, ways_last_refused, free_no_unit, free_not_plain, free_short, free_given}

or_there : (F G : Turn) (a : List (Option ℕ)) (x : Option (List (Option ℕ))) → is_some x ≡ true → Follows F a x
    → Follows (λ R. or_else (F R) (G R)) a x
or_there F G a None e p = absurd cc
or_there F G a (Some x) e p = follows_or F G a x p

else_there : (F G : Turn) (a : List (Option ℕ)) (x y : Option (List (Option ℕ))) → is_some x ≡ false → Follows F a x → Follows G a y
    → Follows (λ R. or_else (F R) (G R)) a y
else_there F G a None y e p q = follows_else F G a y p q
else_there F G a (Some x) y e p q = absurd cc

-- joined with what may be there
pub there_joined : (f : Turn) (a : List (Option ℕ)) (x y : Option (List (Option ℕ))) → Follows f a x → y ≡ option_map (least_of a) x
    → Follows (λ R. option_map (least R) (f R)) a y
there_joined f a None y p e =
    subst (λ (z : Option (List (Option ℕ))). Follows (λ R. option_map (least R) (f R)) a z) (sym e) (there_none f a p)
there_joined f a (Some x) y p e =
    subst (λ (z : Option (List (Option ℕ))). Follows (λ R. option_map (least R) (f R)) a z) (sym e)
    (there_follows f a x (least_of a x) p refl)

-- the last body of a switch
pub ways_last_joined : (N : List Node) (n : Option Node) (all cs : Cases) (cases : List (ℤ × List SendOp)) (last : Option (List SendOp))
    (i : ℕ) (a b : List (Option ℕ)) (body : List SendOp) (spot : Spot) (x y : Option (List (Option ℕ)))
    → WaysRun N n all cs (cases_seen (drop i cases) last) a b → length cases ≤ i → last ≡ Some body → spot ≡ rest_spot n all
    → Follows (run N spot (code_seen body) None) a x → y ≡ option_map (least_of b) x → Follows (run_ways N n all cs) a y
ways_last_joined N n all cs cases last i a b body spot None y left le is at p e =
    subst (λ (z : Option (List (Option ℕ))). Follows (run_ways N n all cs) a z) (sym e)
    (ways_last_refused N n all cs cases last i a b left body spot le is at p)
ways_last_joined N n all cs cases last i a b body spot (Some c) y left le is at p e =
    subst (λ (z : Option (List (Option ℕ))). Follows (run_ways N n all cs) a z) (sym e)
    (ways_run_last N n all cs cases last i a b left body spot c (least_of b c) le is at p refl)

module _ (N : List Node) (l : Option Looping) (k : Looping) (a : List (Option ℕ)) (is : l ≡ Some k) where
  pub by_free : (x : Option (List (Option ℕ))) → is_some x ≡ true
      → Follows (λ R. free_loop (turn_of N k.lap) (reach_of N k.lap R) (is_plain_lap k.lap) k.unit R) a x → Follows (maybe_loop N l) a x
  by_free x e p = maybe_given N l k a x is
      (or_there (λ R. free_loop (turn_of N k.lap) (reach_of N k.lap R) (is_plain_lap k.lap) k.unit R)
      (λ R. or_else (bounded_loop (turn_of N k.lap) k.most R) (bare_loop (turn_of N k.lap) (reach_of N k.lap R) R)) a x e p)

  pub by_bounded : (x y : Option (List (Option ℕ))) → is_some x ≡ false
      → Follows (λ R. free_loop (turn_of N k.lap) (reach_of N k.lap R) (is_plain_lap k.lap) k.unit R) a x → is_some y ≡ true
      → Follows (bounded_loop (turn_of N k.lap) k.most) a y → Follows (maybe_loop N l) a y
  by_bounded x y e p f q = maybe_given N l k a y is
      (else_there (λ R. free_loop (turn_of N k.lap) (reach_of N k.lap R) (is_plain_lap k.lap) k.unit R)
      (λ R. or_else (bounded_loop (turn_of N k.lap) k.most R) (bare_loop (turn_of N k.lap) (reach_of N k.lap R) R)) a x y e p
      (or_there (bounded_loop (turn_of N k.lap) k.most) (λ R. bare_loop (turn_of N k.lap) (reach_of N k.lap R) R) a y f q))

  bare_one : (x y z : Option (List (Option ℕ))) → is_some x ≡ false
      → Follows (λ R. free_loop (turn_of N k.lap) (reach_of N k.lap R) (is_plain_lap k.lap) k.unit R) a x → is_some y ≡ false
      → Follows (bounded_loop (turn_of N k.lap) k.most) a y
      → Follows (λ R. bare_loop (turn_of N k.lap) (reach_of N k.lap R) R) a z → Follows (maybe_loop N l) a z
  bare_one x y z e p f q r = maybe_given N l k a z is
      (else_there (λ R. free_loop (turn_of N k.lap) (reach_of N k.lap R) (is_plain_lap k.lap) k.unit R)
      (λ R. or_else (bounded_loop (turn_of N k.lap) k.most R) (bare_loop (turn_of N k.lap) (reach_of N k.lap R) R)) a x z e p
      (else_there (bounded_loop (turn_of N k.lap) k.most) (λ R. bare_loop (turn_of N k.lap) (reach_of N k.lap R) R) a y z f q r))

  pub by_bare : {E : Type 0} (x y : Option (List (Option ℕ))) (z : Result (Option (List (Option ℕ))) E) → is_some x ≡ false
      → Follows (λ R. free_loop (turn_of N k.lap) (reach_of N k.lap R) (is_plain_lap k.lap) k.unit R) a x → is_some y ≡ false
      → Follows (bounded_loop (turn_of N k.lap) k.most) a y
      → IfOk z (λ w. Follows (λ R. bare_loop (turn_of N k.lap) (reach_of N k.lap R) R) a w)
      → IfOk z (λ w. Follows (maybe_loop N l) a w)
  by_bare x y (Ok z) e p f q r = bare_one x y z e p f q r
  by_bare x y (Err g) e p f q r = tt

-- elements with their own octets: each way in which they are looked at
module _ (f : Turn) (reach : Rooms → Residues) (plain b : Bool) (unit : Option ℕ) (a : List (Option ℕ)) (same : b ≡ plain) where
  pub free_none : unit ≡ None → Follows (λ R. free_loop f (reach R) plain unit R) a None
  free_none e = subst (λ (z : Option ℕ). Follows (λ R. free_loop f (reach R) plain z R) a None) (sym e) (free_no_unit f reach plain a)

  pub free_ensures : (u : ℕ) → unit ≡ Some u → b ≡ false → Follows (λ R. free_loop f (reach R) plain unit R) a None
  free_ensures u e h = subst (λ (z : Option ℕ). Follows (λ R. free_loop f (reach R) plain z R) a None) (sym e)
      (free_not_plain f reach plain a u (sym same ∙ h))

  pub free_lacks : (u : ℕ) (m : List Bool) (y : Bool) → unit ≡ Some u → b ≡ true
      → ((R : Rooms) → a ≡ each_of R → m ≡ each_of (reach R)) → y ≡ suffices 8 f u (set_of m) → y ≡ false
      → Follows (λ R. free_loop f (reach R) plain unit R) a None
  free_lacks u m y e h shows is short = subst (λ (z : Option ℕ). Follows (λ R. free_loop f (reach R) plain z R) a None) (sym e)
      (free_short f reach plain a u m (sym same ∙ h) shows (sym is ∙ short))

  pub free_is : (u : ℕ) (m : List Bool) (y : Bool) (x : List (Option ℕ)) → unit ≡ Some u → b ≡ true
      → ((R : Rooms) → a ≡ each_of R → m ≡ each_of (reach R)) → y ≡ suffices 8 f u (set_of m) → y ≡ true
      → x ≡ each_of (spread (set_of m) (least_first 8 (room_at a))) → Follows (λ R. free_loop f (reach R) plain unit R) a (Some x)
  free_is u m y x e h shows is enough made = subst (λ (z : Option ℕ). Follows (λ R. free_loop f (reach R) plain z R) a (Some x)) (sym e)
      (free_given f reach plain a u m x (sym same ∙ h) shows (sym is ∙ enough) made)
