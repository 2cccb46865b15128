-- The heads that are sent, in which the size is set once the message is whole.
use Rattle.std.specs.Prelude.{ℕ, zero, suc, ◌+◌, ◌*◌, ◌%◌, ◌^◌, Bool, true, false, List, [], ◌∷◌, ◌++◌, length}
use Rattle.kit_base.specs.Bytes.{written}
use Rattle.wire_def.specs.declared.head.Head.{Head}
use Rattle.head_arms.specs.Arms.{where_raised}
use Rattle.back_mach.specs.Words.{word, words}
use Rattle.back_mach.specs.Reply.{return_word}
use Rattle.back_mach.specs.declared.routines.Routine.{Routine}

-- ---- what becomes of the right to a port

-- a right to send is copied
abbrev pub copy_send : ℕ
copy_send = 19

-- a right to send once is made
abbrev pub make_send_once : ℕ
make_send_once = 21

-- a right to send once is moved
abbrev pub move_send_once : ℕ
move_send_once = 18

-- ---- requests

-- the bits of a request: of the remote port, and in the next octet of the local port where a reply is awaited
abbrev pub request_bits : Bool → ℕ
request_bits true = copy_send + 256 * make_send_once
request_bits false = copy_send

-- the port that a reply goes to
abbrev pub reply_port : Bool → ℕ → ℕ
reply_port true local = local
reply_port false local = 0

-- the head of a request
abbrev pub lead : Routine → Head → List ℕ
lead r head = words (request_bits r.wants ∷ 0 ∷ head.remote ∷ reply_port r.wants head.local ∷ 0 ∷ r.id ∷ [])

-- the length of the head of a request, whatever it says
abbrev pub lead_length : ℕ
lead_length = 24

-- ---- replies

-- the id of the reply to a request
abbrev pub reply_id : ℕ → ℕ
reply_id id = (id + 100) % 2 ^ 32

-- the header of a reply with an id, and a return code in two's complement
abbrev pub reply_header : ℕ → ℕ → ℕ → List ℕ
reply_header id remote code = words (move_send_once ∷ 0 ∷ remote ∷ 0 ∷ 0 ∷ id ∷ return_word ∷ code ∷ [])

-- the same of the reply to a request with an id
abbrev pub reply_octets : ℕ → ℕ → ℕ → List ℕ
reply_octets id remote code = reply_header (reply_id id) remote code

-- the head of a reply with an arm that has the id of a head, where so many exceptions are raised
abbrev pub reply_form : ℕ → ℕ → Head → List ℕ
reply_form arms arm head = reply_header head.id head.remote 0 ++ where_raised arms (words (return_word ∷ arm ∷ []))

-- a head with the id of the reply of a routine
abbrev pub reply_head : Routine → Head → Head
reply_head r head = record head { id = reply_id r.id }

-- the head of a reply with an arm, where so many exceptions are raised
abbrev pub reply_lead : Routine → ℕ → ℕ → Head → List ℕ
reply_lead r arms arm head = reply_form arms arm (reply_head r head)

-- the length of the head of a reply, whatever it says
abbrev pub reply_lead_length : ℕ → ℕ
reply_lead_length zero = 32
reply_lead_length (suc n) = 40

-- ---- the size

-- a message in which the size is set: the number of all its octets
abbrev pub with_size : List ℕ → List ℕ
with_size o = written o 4 (word (length o))
