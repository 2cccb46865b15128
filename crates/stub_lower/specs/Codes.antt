-- The code of a node over those of its parts, which it calls.
use Rattle.std.specs.Prelude.{◌≡◌, ℕ, zero, suc, ◌+◌, ℤ, List, [], ◌∷◌, ◌++◌, replicate, Option, None, Some, Bool, nat_eq, nat_lt, if◌then◌else◌}
use Rattle.kit_base.specs.Bytes.{le}
use Rattle.mint.specs.declared.kind.Count.{Count}
use Rattle.mint.specs.declared.kind.Count.TheVariants.{Exactly}
use Rattle.mint.specs.declared.node.Node.{Node}
use Rattle.mint.specs.declared.node.Node.TheVariants as node
use Rattle.mint.specs.Types.{Scalar, number, label, Array, text, row_of, scalar_of}
use Rattle.wire_def.specs.declared.encoding.Encoding.{Encoding}
use Rattle.wire_def.specs.declared.encoding.Encoding.TheVariants.{Xdr, CdrBig, CdrLittle, Mach}
use Rattle.wire_def.specs.declared.head.Order.TheVariants.{Little}
use Rattle.wire_def.specs.Lone.{unit_name, unit_bits, units_of, scalar_word, filling}
use Rattle.wire_def.specs.Described.{is_long, long_mark, long_words}
use Rattle.wire_def.specs.Arrays.{counted, count_of, kind_of, is_octets}
use Rattle.wire_def.specs.Send.{flag}
use Rattle.cast_stub.specs.declared.put.Put.{Put}
use Rattle.cast_stub.specs.declared.put.Put.TheVariants as put
use Rattle.cast_stub.specs.declared.send.SendOp.{SendOp}
use Rattle.cast_stub.specs.Block.{Block, stop, align, chunk, each, switch, if_there, call, Cases, no_default, default, case, code_seen}
use Rattle.cast_stub.specs.Append.{append}
use Rattle.cast_stub.specs.Layouts.{order_of, scalar_width, element_width, is_gapped}
use Rattle.stub_lower.specs.Calls.{calls_of, cases_of}
use Rattle.stub_lower.specs.Items.{number_at, item_rest}

-- ---- what an encoding gives

-- code at a multiple of a width
abbrev pub aligned : ℕ → Block → Block
aligned w b = if nat_eq w 1 then b else align w b

-- the puts that fill an item up after its number: zeros, where there are to be any
abbrev pub filling_puts : Scalar → List Put
filling_puts s = if nat_eq (filling s) 0 then [] else put.Const (4 + scalar_width Mach s) (replicate (filling s) 0) ∷ []

-- an item, given the put of its number: its descriptor, the number, and what fills it up
abbrev pub item_code : Scalar → Put → Block
item_code s x = chunk (4 + item_rest s) (put.Const 0 (le 4 (scalar_word s)) ∷ x ∷ filling_puts s) stop

-- a scalar by itself, given the put of its number; over CDR after its alignment
abbrev pub scalar_code : Encoding → Scalar → Put → Block
scalar_code Xdr s x = chunk (scalar_width Xdr s) (x ∷ []) stop
scalar_code CdrBig s x = aligned (scalar_width CdrBig s) (chunk (scalar_width CdrBig s) (x ∷ []) stop)
scalar_code CdrLittle s x = aligned (scalar_width CdrLittle s) (chunk (scalar_width CdrLittle s) (x ∷ []) stop)
scalar_code Mach s x = item_code s x

-- the put of the current value, a number of an array
abbrev pub number_put : Encoding → ℕ → Put
number_put e w = put.Num 0 [] w (order_of e)

-- the put of the current value's length, raised
abbrev pub length_put : Encoding → ℕ → Put
length_put e add = put.Count (number_at e) [] 1 add (scalar_width e counted) (order_of e)

-- a count, which a fixed length does not have
abbrev pub count_code : Encoding → Count → Block
count_code e (Exactly m) = stop
count_code e _ = scalar_code e counted (length_put e 0)

-- the length of a text over CDR, with the octet after it
abbrev pub ended_code : Encoding → Block
ended_code e = scalar_code e counted (length_put e 1)

-- before the elements of a row over CDR: the count, or the alignment of a first element
abbrev pub row_code : Encoding → ℕ → Count → Block
row_code e w (Exactly zero) = stop
row_code e w (Exactly (suc m)) = aligned w stop
row_code e w c = count_code e c

-- a long descriptor, but for its number
unfoldable pub long_octets : Scalar → List ℕ
long_octets s = le 4 long_mark ++ le 4 (long_words (unit_name s) (unit_bits s) 0)

-- a long descriptor
abbrev pub long_code : Scalar → Block
long_code s = chunk 12 (put.Const 0 (long_octets s) ∷ put.Count 8 [] (units_of s) 0 4 Little ∷ []) stop

-- a short one
abbrev pub short_code : Scalar → Block
short_code s = chunk 4 (put.Short 0 [] (unit_name s) (unit_bits s) (units_of s) ∷ []) stop

-- the descriptor of an array
abbrev pub described_code : Count → Scalar → Block
described_code c s = if is_long c s then long_code s else short_code s

-- before the elements of an array
abbrev pub head_code : Encoding → Array → Block
head_code CdrBig (text c) = ended_code CdrBig
head_code CdrBig (row_of k c) = row_code CdrBig (element_width CdrBig (row_of k c)) c
head_code CdrLittle (text c) = ended_code CdrLittle
head_code CdrLittle (row_of k c) = row_code CdrLittle (element_width CdrLittle (row_of k c)) c
head_code Mach a = described_code (count_of a) (number (kind_of a))
head_code e a = count_code e (count_of a)

-- the chunk of one number
abbrev pub number_chunk : Encoding → ℕ → Block
number_chunk e w = chunk w (number_put e w ∷ []) stop

-- the same, aligned by itself or not
abbrev pub gapped_turn : Encoding → ℕ → Bool → Block
gapped_turn e w gapped = if gapped then align 8 (number_chunk e w) else number_chunk e w

-- one element of an array, which over CDR is aligned by itself where there may be none
abbrev pub turn_code : Encoding → Array → Block
turn_code CdrBig a = gapped_turn CdrBig (element_width CdrBig a) (is_gapped a)
turn_code CdrLittle a = gapped_turn CdrLittle (element_width CdrLittle a) (is_gapped a)
turn_code e a = number_chunk e (element_width e a)

-- the octet after a text over CDR
abbrev pub end_code : Block
end_code = chunk 1 (put.Const 0 (0 ∷ []) ∷ []) stop

-- what fills the numbers of a row of a Mach message up, where they may need it
abbrev pub filling_code : ℕ → Block
filling_code w = if nat_lt w 4 then align 4 stop else stop

-- after the elements of an array
abbrev pub after_code : Encoding → Array → Block
after_code Xdr a = if is_octets a then align 4 stop else stop
after_code CdrBig (text c) = end_code
after_code CdrLittle (text c) = end_code
after_code Mach a = filling_code (element_width Mach a)
after_code _ a = stop

-- ---- what nodes have over every encoding

-- a call on the current value
abbrev pub call_here : ℕ → Block
call_here i = call i [] stop

-- calls for fields, the first of them of this number
abbrev pub calls_from : ℕ → List ℕ → Block
calls_from = calls_of call stop

-- the call of the last arm
abbrev pub default_at : Option ℕ → Cases
default_at None = no_default
default_at (Some i) = default (call_here i)

-- a call for each arm
abbrev pub cases_at : List (ℤ × ℕ) → Option ℕ → Cases
cases_at arms other = cases_of case call_here (default_at other) arms

-- a body that is a call, and its number
abbrev pub IsCall : ℤ × List SendOp → ℤ → ℕ → Type 0
IsCall c n i = (c.0 ≡ n) × (code_seen c.1 ≡ call_here i)

-- a number, an enum's label
abbrev pub number_code : Encoding → Scalar → Block
number_code e s = scalar_code e s (put.Num (number_at e) [] (scalar_width e s) (order_of e))

-- a text, a row
abbrev pub array_code : Encoding → Array → Block
array_code e a = append (head_code e a) (each [] (turn_code e a) (after_code e a))

-- the tag of an arm
abbrev pub tag_code : Encoding → Scalar → Block
tag_code e s = scalar_code e s (put.Tag (number_at e) [] (scalar_width e s) (order_of e))

-- whether a value is there
abbrev pub flag_code : Encoding → Block
flag_code e = scalar_code e flag (put.Flag (number_at e) [] (scalar_width e flag) (order_of e))

-- the code of a node
abbrev pub node_code : Encoding → Node → Block
node_code e node.Void = stop
node_code e (node.Num k) = number_code e (number k)
node_code e (node.Enum labels) = number_code e (label labels)
node_code e (node.Text c) = array_code e (text c)
node_code e (node.Row k c) = array_code e (row_of k c)
node_code e (node.Group ids) = calls_from 0 ids
node_code e (node.Items i c) = append (count_code e c) (each [] (call_here i) stop)
node_code e (node.Choice t arms other) = append (tag_code e (scalar_of t)) (switch [] (cases_at arms other) stop)
node_code e (node.Maybe i) = append (flag_code e) (if_there [] (call_here i) stop)
