-- What a reader has given.
use Rattle.std.specs.Prelude.{◌≡◌, ℕ, ◌+◌, ◌/◌, ◌^◌, ℤ, nat_lt, Bool, true, map, drop, length, List, Option, is_some, Result, Ok, Err, if◌then◌else◌}
use Rattle.std.specs.Int.{Width}
use Rattle.mint.specs.declared.kind.Kind.{Kind}
use Rattle.mint.specs.declared.kind.Count.{Count}
use Rattle.mint.specs.declared.value.Value.{Value}
use Rattle.mint.specs.Row.{Numbers}
use Rattle.mint.specs.Types.{Scalar, row_of, text}
use Rattle.mint.specs.Typed.{is_scalar}
use Rattle.mint.specs.Arms.{arm_found}
use Rattle.mint.specs.Values.{Val, seen}
use Rattle.wire_def.specs.declared.encoding.Encoding.{Encoding}
use Rattle.wire_def.specs.declared.fault.Fault.{Fault}
use Rattle.wire_def.specs.declared.fault.FaultKind.{FaultKind}
use Rattle.wire_def.specs.declared.fault.FaultKind.TheVariants.{Short, BadText, BadValue, BadItem}
use Rattle.wire_def.specs.Grammar.{Reading, got, stop, Reader, map_got, both, times, tested}
use Rattle.wire_def.specs.Scalars.{is_signed, width_of, number_of, read_word, read_scalar, scalar_place}
use Rattle.wire_def.specs.Lone.{read_lone}
use Rattle.wire_def.specs.Described.{elements_in, is_right, read_first, read_rest}
use Rattle.wire_def.specs.Arrays.{natural, counted, read_element, read_octet, read_tail}
use Rattle.plain_wire.specs.declared.cursor.Cursor.{Cursor}
use Rattle.plain_wire.specs.declared.cursor.ReadError.{ReadError}
use Rattle.plain_wire.specs.declared.cursor.ReadError.TheVariants as errors

-- what was given, seen by view, is what reading gives, unless memory ran out
abbrev pub Gives : {X A : Type 0} → (X → A) → Result (X × Cursor) ReadError → Reading FaultKind A → Type 0
Gives view (Ok x) reading = reading ≡ got (view x.0) x.1.place x.1.rest.now
Gives view (Err errors.NoMemory) reading = Unit {0}
Gives view (Err (errors.Stop f)) reading = reading ≡ stop f.kind f.at

-- what was given by what takes no memory, seen by view, is what reading gives
abbrev pub Reads : {X A : Type 0} → (X → A) → Result (X × Cursor) Fault → Reading FaultKind A → Type 0
Reads view (Ok x) reading = reading ≡ got (view x.0) x.1.place x.1.rest.now
Reads view (Err f) reading = reading ≡ stop f.kind f.at

-- the views of a count, of a number, of nothing, of a row and of values

abbrev pub same : ℕ → ℕ
same n = n

abbrev pub itself : ℤ → ℤ
itself n = n

abbrev pub nothing : Unit {0} → Unit {0}
nothing n = n

abbrev pub numbers_in : Numbers → List ℤ
numbers_in r = r.numbers

abbrev pub all_values : List Value → List Val
all_values vs = map seen vs

-- the number of a discriminant that is given with its arm
abbrev pub number_of_tag : ℤ × ℕ → ℤ
number_of_tag x = x.0

-- whether a number has one of these arms
abbrev pub lists : List (ℤ × ℕ) → Option ℕ → ℤ → Bool
lists arms other n = is_some (arm_found arms other n)

-- a scalar whose number has one of these arms
abbrev pub read_armed : Encoding → Scalar → List (ℤ × ℕ) → Option ℕ → Reader FaultKind ℤ
read_armed e s arms other = tested (read_scalar e s) (lists arms other) BadValue (scalar_place e s)

-- so many octets, passed over, up to where a number begins
unfoldable pub read_gap : ℕ → Reader FaultKind (Unit {0})
read_gap n p o = if nat_lt (length o) n then stop Short (p + n) else got tt (p + n) (drop n o)

-- a number of a width, with a sign or without
abbrev pub read_bits : Encoding → Bool → Width → Reader FaultKind ℤ
read_bits e signed w p o = map_got (number_of signed w) (read_word e 1 w p o)

-- one of a scalar's numbers, where it begins
abbrev pub read_here : Encoding → Scalar → Reader FaultKind ℤ
read_here e s = tested (read_bits e (is_signed s) (width_of e s)) (is_scalar s) BadValue (λ p. p)

-- a count by itself
abbrev pub read_counted : Encoding → Reader FaultKind ℕ
read_counted e p o = map_got natural (read_lone e counted p o)

-- a length without a descriptor
abbrev pub read_length : Encoding → Reader FaultKind ℕ
read_length e p o = map_got natural (read_scalar e counted p o)

-- how many elements a descriptor says that there are, whatever the bound
abbrev pub read_many : Count → Scalar → Reader FaultKind ℕ
read_many c s p o = map_got (λ x. elements_in s (x.1 / 2 ^ 32))
    (tested (both (read_first c s) read_rest) (λ x. is_right c s x.1) BadItem (λ q. q) p o)

-- an octet of a row
abbrev pub any_octet : Reader FaultKind ℤ
any_octet = read_octet (λ b. true) BadText

-- an octet of a text
abbrev pub any_letter : Reader FaultKind ℤ
any_letter = read_octet (λ b. nat_lt 0 b) BadText

-- the elements of a row, and what follows them
abbrev pub elements_read : Encoding → Kind → Count → ℕ → Reader FaultKind (List ℤ)
elements_read e k c n p o = map_got (λ x. x.0) (both (times (read_element e (row_of k c)) n) (λ _. read_tail e (row_of k c) n) p o)

-- the octets of a text, and what follows them
abbrev pub letters_read : Encoding → Count → ℕ → Reader FaultKind (List ℤ)
letters_read e c n p o = map_got (λ x. x.0) (both (times any_letter n) (λ _. read_tail e (text c) n) p o)
