-- What a switch puts, and to which residues it leads, body by body.
use Rattle.std.proofs.Common.{◌≡◌, ℕ, ℤ, Bool, true, false, refl, ap, ◌∙◌, List, ◌∷◌, Option, Some, None, option_map}
use Rattle.mint.specs.declared.node.Node.{Node}
use Rattle.cast_stub.specs.Parts.{on_some}
use Rattle.cast_stub.specs.Block.{Cases, switch}
use Rattle.stub_flat.specs.Places.{Spot, node_of, spot_at}
use Rattle.stub_flat.specs.Residues.{Residues}
use Rattle.stub_flat.specs.Leaves.{ways_leave}
use Rattle.stub_flat.specs.Items.{Items, ways, Ways, other, way, items, way_items}
use Rattle.stub_compare.specs.CompareSets.{Agree}
use Rattle.stub_compare.specs.CompareText.{integer_text, items_text, path_text, ways_text}
use Rattle.stub_compare.specs.CompareTold.{IsPut, IsTold, IsLed, IsLedWhere, IsOpTold}
use Rattle.stub_compare.proofs.CompareOps.{led_before, leaves_agree, where_agree}

-- one case before others
pub way_led : (m : ℤ) (told : Bool) (body : Option Items) (o : Option Ways) (old mid new : List ℕ)
    → IsPut old (λ rest. 2 ∷ integer_text m rest) mid
    → IsTold told body (λ b. IsPut mid (items_text b) new)
    → IsLedWhere ways_text told (on_some body (λ i. option_map (way m i) o)) o old new
way_led m true (Some b) (Some w) old mid new first t = λ rest. first _ ∙ t (ways_text w rest)
way_led m true (Some b) None old mid new first t = tt
way_led m true None o old mid new first t = absurd t
way_led m false (Some b) o old mid new first t = absurd t
way_led m false None o old mid new first t = refl

-- the body of every other number, and no such body
pub other_told : (told : Bool) (body : Option Items) (old mid new : List ℕ) → IsPut old (λ rest. 1 ∷ rest) mid
    → IsTold told body (λ b. IsPut mid (items_text b) new)
    → IsTold told (option_map other body) (λ w. IsPut old (ways_text w) new)
other_told true (Some b) old mid new first t = λ rest. first (items_text b rest) ∙ t rest
other_told true None old mid new first t = absurd t
other_told false (Some b) old mid new first t = absurd t
other_told false None old mid new first t = tt

-- bodies that are put up to the last, and then the last
pub ways_told : (told : Bool) (all last : Option Ways) (old mid new : List ℕ) → IsLed ways_text all last old mid
    → IsTold told last (λ w. IsPut mid (ways_text w) new) → IsTold told all (λ w. IsPut old (ways_text w) new)
ways_told true (Some a) (Some b) old mid new l t = λ rest. l rest ∙ t rest
ways_told true (Some a) None old mid new l t = absurd l
ways_told true None (Some b) old mid new l t = absurd l
ways_told true None None old mid new l t = absurd t
ways_told false (Some a) (Some b) old mid new l t = absurd t
ways_told false (Some a) None old mid new l t = absurd l
ways_told false None last old mid new l t = tt

switch_led : (p : List ℕ) (told : Bool) (all : Option Ways) (o : Option Items) (old mid new : List ℕ)
    → IsPut old (λ rest. 3 ∷ path_text p rest) mid
    → IsTold told all (λ w. IsPut mid (ways_text w) new)
    → IsLedWhere items_text told (on_some all (λ w. option_map (ways p w) o)) o old new
switch_led p true (Some w) o old mid new first t =
    led_before (ways p w) o old new (λ i rest. first (ways_text w (items_text i rest)) ∙ t (items_text i rest))
switch_led p true None o old mid new first t = absurd t
switch_led p false (Some w) o old mid new first t = absurd t
switch_led p false None o old mid new first t = refl

-- a switch, all of whose bodies are put
pub told_switch : (N : List Node) (s : Spot) (p : List ℕ) (cs : Cases) (S T : Residues) (old mid new : List ℕ)
    → Agree T (ways_leave N (node_of N (spot_at N p s)) cs cs S)
    → IsPut old (λ rest. 3 ∷ path_text p rest) mid
    → IsTold true (way_items N (node_of N (spot_at N p s)) cs cs S) (λ w. IsPut mid (ways_text w) new)
    → IsOpTold true N s (switch p cs) S T old new
told_switch N s p cs S T old mid new same first t =
    let n = node_of N (spot_at N p s) in
    record {
      put = λ r. where_agree N s r (ways_leave N n cs cs S) T true
          (on_some (way_items N n cs cs S) (λ w. option_map (ways p w) (items N s r (ways_leave N n cs cs S)))) old new same
          (switch_led p true (way_items N n cs cs S) (items N s r (ways_leave N n cs cs S)) old mid new first t);
      behind = λ e r. leaves_agree N s r (ways_leave N n cs cs S) T same;
    }

-- a switch, one of whose bodies is not there
pub untold_switch : (N : List Node) (s : Spot) (p : List ℕ) (cs : Cases) (S T : Residues) (old new : List ℕ)
    → way_items N (node_of N (spot_at N p s)) cs cs S ≡ None → IsOpTold false N s (switch p cs) S T old new
untold_switch N s p cs S T old new e =
    let n = node_of N (spot_at N p s) in
    record {
      put = λ r. ap (λ (z : Option Ways). on_some z (λ w. option_map (ways p w) (items N s r (ways_leave N n cs cs S)))) e;
      behind = λ d. absurd (cc);
    }
