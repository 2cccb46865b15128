-- The ids of exceptions.
use Rattle.std.proofs.Common.{◌≡◌, ◌<◌, ℕ, List, [], map, get_or, length, sym, ap, ◌∙◌, arith}
use Rattle.std.proofs.lemmas.List.{length-map, get_or-map}
use Rattle.aoi.specs.declared.interfaces.Raise.{Raise}
use Rattle.aoi.specs.Plain.{PlainRaise, plain_raise}

-- one by its place
pub id_there : (rs : List Raise) (k : ℕ) (d : Raise) → k < length rs
    → (get_or rs k d).id ≡ get_or (map (λ (r : PlainRaise). r.id) (map plain_raise rs)) k []
id_there rs k d below =
    let plain : length (map plain_raise rs) ≡ length rs = length-map rs plain_raise in
    sym (get_or-map
    (λ (r : PlainRaise). r.id) (map plain_raise rs) k (plain_raise d) [] (omega (arith, plain, below)) ∙ ap (λ (r : PlainRaise).
    r.id) (get_or-map plain_raise rs k d (plain_raise d) below))
