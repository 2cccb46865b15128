-- Heads as one chunk.
use Rattle.std.specs.Prelude.{◌≡◌, ℕ, Bool, true, false, List, [], ◌∷◌}
use Rattle.wire_def.specs.declared.head.Order.TheVariants.{Little}
use Rattle.cast_stub.specs.declared.put.HeadField.TheVariants.{Id, Remote, Local}
use Rattle.cast_stub.specs.declared.put.Put.{Put}
use Rattle.cast_stub.specs.declared.put.Put.TheVariants as put
use Rattle.cast_stub.specs.declared.send.SendCode.{SendCode}
use Rattle.cast_stub.specs.Block.{stop, chunk, code_seen}
use Rattle.head_arms.specs.Arms.{where_raised}
use Rattle.back_mach.specs.Words.{words}
use Rattle.back_mach.specs.Reply.{return_word}
use Rattle.back_mach.specs.Leads.{request_bits, move_send_once}
use Rattle.back_mach.specs.declared.routines.Routine.{Routine}

-- one chunk of so many octets
abbrev pub IsChunk : ℕ → List Put → SendCode → Type 0
IsChunk size puts code = code_seen code.ops ≡ chunk size puts stop

-- the local port where a reply is awaited, or else 0; the sequence number, and the id
abbrev pub port_and_id : Bool → ℕ → List Put
port_and_id true id = put.Head 12 Local 4 Little ∷ put.Const 16 (words (0 ∷ id ∷ [])) ∷ []
port_and_id false id = put.Const 12 (words (0 ∷ 0 ∷ id ∷ [])) ∷ []

-- the puts of the head of a request
abbrev pub request_puts : Routine → List Put
request_puts r = put.Const 0 (words (request_bits r.wants ∷ 0 ∷ [])) ∷ put.Head 8 Remote 4 Little ∷ port_and_id r.wants r.id

-- the words of the head of a reply with an arm, behind the id, where so many exceptions are raised
abbrev pub last_words : ℕ → ℕ → List ℕ
last_words arms arm = return_word ∷ 0 ∷ where_raised arms (return_word ∷ arm ∷ [])

-- the puts of the head of a reply
abbrev pub reply_puts : ℕ → ℕ → List Put
reply_puts arms arm =
    put.Const 0 (words (move_send_once ∷ 0 ∷ [])) ∷ put.Head 8 Remote 4 Little ∷ put.Const 12 (words (0 ∷ 0 ∷ []))
    ∷ put.Head 20 Id 4 Little ∷ put.Const 24 (words (last_words arms arm)) ∷ []
