-- The code that receives a node over those of its parts, which it calls.
use Rattle.std.specs.Prelude.{◌≡◌, ℕ, zero, suc, ◌+◌, ◌*◌, ℤ, List, [], ◌∷◌, Option, None, Some, Bool, nat_eq, nat_lt, if◌then◌else◌}
use Rattle.kit_base.specs.Bytes.{le}
use Rattle.mint.specs.declared.kind.Count.{Count}
use Rattle.mint.specs.declared.kind.Count.TheVariants.{Exactly}
use Rattle.mint.specs.declared.node.Node.{Node}
use Rattle.mint.specs.declared.node.Node.TheVariants as node
use Rattle.mint.specs.Types.{Scalar, number, label, Array, text, row_of, scalar_of}
use Rattle.wire_def.specs.declared.encoding.Encoding.{Encoding}
use Rattle.wire_def.specs.declared.encoding.Encoding.TheVariants.{Xdr, CdrBig, CdrLittle, Mach}
use Rattle.wire_def.specs.Lone.{unit_name, unit_bits, units_of, short_word, scalar_word}
use Rattle.wire_def.specs.Described.{is_long}
use Rattle.wire_def.specs.Arrays.{counted, count_of, kind_of, is_octets}
use Rattle.wire_def.specs.Send.{flag}
use Rattle.cast_stub.specs.declared.recv.Get.{Get}
use Rattle.cast_stub.specs.declared.recv.Get.TheVariants as get
use Rattle.cast_stub.specs.declared.recv.RecvOp.{RecvOp}
use Rattle.cast_stub.specs.RecvBlock.{Recv, finish, need, skip_any, skip_zero, pass, desc, each, switch, if_there, call, Cases, no_default, default, case, code_seen}
use Rattle.cast_stub.specs.RecvAppend.{append}
use Rattle.cast_stub.specs.Layouts.{order_of, scalar_width, element_width, is_gapped}
use Rattle.stub_lower.specs.Calls.{calls_of, cases_of}
use Rattle.stub_lower.specs.Items.{number_at, item_rest}

-- ---- what an encoding gives

-- code at a multiple of a width
abbrev pub aligned : ℕ → Recv → Recv
aligned w b = if nat_eq w 1 then b else skip_any w b

-- a test and a take of so many octets, with one get
abbrev pub take_code : ℕ → Get → Recv
take_code w g = need w (pass w (g ∷ []) finish)

-- an item, given the get of its number; what fills it up is not looked at
abbrev pub item_code : Scalar → Get → Recv
item_code s g = need (4 + item_rest s) (pass (4 + item_rest s) (get.Const 0 (le 4 (scalar_word s)) ∷ g ∷ []) finish)

-- a scalar by itself, given the get of its number; over CDR after its alignment
abbrev pub scalar_code : Encoding → Scalar → Get → Recv
scalar_code Xdr s g = take_code (scalar_width Xdr s) g
scalar_code CdrBig s g = aligned (scalar_width CdrBig s) (take_code (scalar_width CdrBig s) g)
scalar_code CdrLittle s g = aligned (scalar_width CdrLittle s) (take_code (scalar_width CdrLittle s) g)
scalar_code Mach s g = item_code s g

-- the get of the current value, a number by itself
abbrev pub number_get : Encoding → Scalar → Get
number_get e s = get.Num (number_at e) [] (scalar_width e s) (order_of e)

-- the get of the current value's length
abbrev pub length_get : Encoding → ℕ → Get
length_get e add = get.Count (number_at e) [] 1 add (scalar_width e counted) (order_of e)

-- a count, which a fixed length does not have
abbrev pub count_code : Encoding → Count → Recv
count_code e (Exactly m) = finish
count_code e _ = scalar_code e counted (length_get e 0)

-- the length of a text over CDR, with the octet after it
abbrev pub ended_code : Encoding → Recv
ended_code e = scalar_code e counted (length_get e 1)

-- before the elements of a row over CDR: the count, or the alignment of a first element
abbrev pub row_code : Encoding → ℕ → Count → Recv
row_code e w (Exactly zero) = finish
row_code e w (Exactly (suc m)) = aligned w finish
row_code e w c = count_code e c

-- the one short descriptor of a fixed length
abbrev pub fixed_code : Scalar → ℕ → Recv
fixed_code s m = take_code 4 (get.Const 0 (le 4 (short_word (unit_name s) (unit_bits s) (m * units_of s))))

-- a descriptor that gives the length
abbrev pub free_code : Scalar → Recv
free_code s = desc [] (unit_name s) (unit_bits s) (units_of s) finish

-- the descriptor of an array: the form in which a fixed length is sent, or either
abbrev pub described_code : Count → Scalar → Recv
described_code (Exactly m) s = if is_long (Exactly m) s then free_code s else fixed_code s m
described_code _ s = free_code s

-- before the elements of an array
abbrev pub head_code : Encoding → Array → Recv
head_code CdrBig (text c) = ended_code CdrBig
head_code CdrBig (row_of k c) = row_code CdrBig (element_width CdrBig (row_of k c)) c
head_code CdrLittle (text c) = ended_code CdrLittle
head_code CdrLittle (row_of k c) = row_code CdrLittle (element_width CdrLittle (row_of k c)) c
head_code Mach a = described_code (count_of a) (number (kind_of a))
head_code e a = count_code e (count_of a)

-- a test and a take of one number of an array
abbrev pub number_take : Encoding → ℕ → Recv
number_take e w = take_code w (get.Num 0 [] w (order_of e))

-- the same, aligned by itself or not
abbrev pub gapped_turn : Encoding → ℕ → Bool → Recv
gapped_turn e w gapped = if gapped then skip_any 8 (number_take e w) else number_take e w

-- one element of an array, which over CDR is aligned by itself where there may be none
abbrev pub turn_code : Encoding → Array → Recv
turn_code CdrBig a = gapped_turn CdrBig (element_width CdrBig a) (is_gapped a)
turn_code CdrLittle a = gapped_turn CdrLittle (element_width CdrLittle a) (is_gapped a)
turn_code e a = number_take e (element_width e a)

-- the octet after a text over CDR
abbrev pub end_code : Recv
end_code = take_code 1 (get.Const 0 (0 ∷ []))

-- what fills up the numbers of a row of a Mach message, where they may need it; it is not looked at
abbrev pub filling_code : ℕ → Recv
filling_code w = if nat_lt w 4 then skip_any 4 finish else finish

-- after the elements of an array
abbrev pub after_code : Encoding → Array → Recv
after_code Xdr a = if is_octets a then skip_zero 4 finish else finish
after_code CdrBig (text c) = end_code
after_code CdrLittle (text c) = end_code
after_code Mach a = filling_code (element_width Mach a)
after_code _ a = finish

-- ---- what nodes have over every encoding

-- a call on the current value
abbrev pub call_here : ℕ → Recv
call_here i = call i [] finish

-- calls for fields, the first of them of this number
abbrev pub calls_from : ℕ → List ℕ → Recv
calls_from = calls_of call finish

-- the call of the last arm
abbrev pub default_at : Option ℕ → Cases
default_at None = no_default
default_at (Some i) = default (call_here i)

-- a call for each arm
abbrev pub cases_at : List (ℤ × ℕ) → Option ℕ → Cases
cases_at arms other = cases_of case call_here (default_at other) arms

-- a body that is a call, and its number
abbrev pub IsCall : ℤ × List RecvOp → ℤ → ℕ → Type 0
IsCall c n i = (c.0 ≡ n) × (code_seen c.1 ≡ call_here i)

-- a number, an enum's label
abbrev pub number_code : Encoding → Scalar → Recv
number_code e s = scalar_code e s (number_get e s)

-- a text, a row
abbrev pub array_code : Encoding → Array → Recv
array_code e a = append (head_code e a) (each [] (turn_code e a) (after_code e a))

-- the tag of an arm
abbrev pub tag_code : Encoding → Scalar → Recv
tag_code e s = scalar_code e s (get.Tag (number_at e) [] (scalar_width e s) (order_of e))

-- whether a value is there
abbrev pub flag_code : Encoding → Recv
flag_code e = scalar_code e flag (get.Flag (number_at e) [] (scalar_width e flag) (order_of e))

-- the code of a node
abbrev pub node_code : Encoding → Node → Recv
node_code e node.Void = finish
node_code e (node.Num k) = number_code e (number k)
node_code e (node.Enum labels) = number_code e (label labels)
node_code e (node.Text c) = array_code e (text c)
node_code e (node.Row k c) = array_code e (row_of k c)
node_code e (node.Group ids) = calls_from 0 ids
node_code e (node.Items i c) = append (count_code e c) (each [] (call_here i) finish)
node_code e (node.Choice t arms other) = append (tag_code e (scalar_of t)) (switch [] (cases_at arms other) finish)
node_code e (node.Maybe i) = append (flag_code e) (if_there [] (call_here i) finish)
