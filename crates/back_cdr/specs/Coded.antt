-- A head as chunks.
use Rattle.std.specs.Prelude.{◌≡◌, ℕ, zero, suc, ◌+◌, ◌-◌, List, [], ◌∷◌, length, take, drop, ◌++◌}
use Rattle.wire_def.specs.declared.head.Order.{Order}
use Rattle.cast_stub.specs.declared.put.HeadField.TheVariants.{Id}
use Rattle.cast_stub.specs.declared.put.Put.TheVariants as put
use Rattle.cast_stub.specs.declared.send.SendCode.{SendCode}
use Rattle.giop_head.specs.Printed.{long_octets}
use Rattle.cast_stub.specs.Block.{stop, chunk, code_seen}

-- where the id is: after the header in version 1.2, and after the number of service contexts in version 1.0
abbrev pub id_place : ℕ → ℕ
id_place zero = 16
id_place (suc m) = 12

-- octets, the request's id in place of four of them from this place on
abbrev pub IsCoded : Order → ℕ → List ℕ → SendCode → Type 0
IsCoded r place octets code = code_seen code.ops ≡
    chunk place (put.Const 0 (take place octets) ∷ [])
    (chunk 4 (put.Head 0 Id 4 r ∷ [])
    (chunk (length octets - (place + 4)) (put.Const 0 (drop (place + 4) octets) ∷ []) stop))

-- these octets, with the request's id in place of the four from this place on
abbrev pub with_id : Order → ℕ → List ℕ → ℕ → List ℕ
with_id r place octets id = take place octets ++ long_octets r id ++ drop (place + 4) octets
