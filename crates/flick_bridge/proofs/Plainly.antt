-- The element at a place of a list of plain trees is that of the list.
use Rattle.std.proofs.Common.{◌≡◌, ◌<◌, ◌≤◌, ℕ, List, Bool, false, map, length, get_or, Option, Some, None, option_map, refl, sym, ap, ◌∙◌}
use Rattle.std.specs.Prelude.{slice_get}
use Rattle.std.proofs.lemmas.Option.{slice_get-map, slice_get_past, slice_get_read}
use Rattle.aoi.specs.declared.interfaces.Interface.{Interface}
use Rattle.aoi.specs.Plain.{plain_interface}
use Rattle.flick_bridge.specs.Heads.{is_oneway_among, is_oneway_in, is_oneway_there}

-- what is said of the interface at a place
said_there : (is : List Interface) (k : ℕ) (name : List ℕ) (x : Option Interface) → slice_get is k ≡ x
    → is_oneway_there name (option_map plain_interface x) ≡ is_oneway_among (map plain_interface is) k name
said_there is k name x e =
    ap (λ (o : Option Interface). is_oneway_there name (option_map plain_interface o)) (sym e)
    ∙ ap (is_oneway_there name) (sym (slice_get-map plain_interface is k))

-- an interface that is there
pub oneway_some : (is : List Interface) (k : ℕ) (i : Interface) (name : List ℕ) (t : Bool) → k < length is → i ≡ get_or is k i
    → t ≡ is_oneway_in name (plain_interface i).ops → t ≡ is_oneway_among (map plain_interface is) k name
oneway_some is k i name t below at e = e ∙ said_there is k name (Some i) (slice_get_read is (length is) k i refl below at)

-- none is there
pub oneway_none : (is : List Interface) (k : ℕ) (name : List ℕ) → length is ≤ k
    → false ≡ is_oneway_among (map plain_interface is) k name
oneway_none is k name past = said_there is k name None (slice_get_past is k past)
