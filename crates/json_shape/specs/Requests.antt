-- Request records.
use Rattle.std.specs.Prelude.{Bool, true, not, ◌&&◌, ◌||◌, ◌==◌, is_some, ℕ, List, Option, Some, None, Result, Ok, Err, if◌then◌else◌, codes}
use Rattle.std.specs.Str.{bytes_eq}
use Rattle.mint.specs.Values.{Val}
use Rattle.wire_def.specs.declared.encoding.Back.{Back}
use Rattle.wire_def.specs.declared.encoding.Back.TheVariants as back
use Rattle.wire_def.specs.declared.head.Head.{Head}
use Rattle.wire_def.specs.declared.head.Order.TheVariants.{Big, Little}
use Rattle.pres.specs.declared.ops.Op.{Op}
use Rattle.pres.specs.Bindings.{Binding}
use Rattle.pres.specs.Faces.{face_at}
use Rattle.serde_json.specs.Data.{Data, Members, no_members, number, unsigned, string, object, put}
use Rattle.serde_json.specs.Find.{get}
use Rattle.json_shape.specs.declared.errors.RecordErr.{RecordErr}
use Rattle.json_shape.specs.declared.errors.RecordErr.TheVariants as errors
use Rattle.json_shape.specs.Members.{has_only, is_mach, head_key, head_word, head_number, is_text, is_list, text_at, number_at, list_at}
use Rattle.json_shape.specs.Operations.{dotted, op_named, is_oneway}
use Rattle.json_shape.specs.Records.{Begun}
use Rattle.json_shape.specs.Texts.{text_of}
use Rattle.json_shape.specs.Written.{json_of}

-- the keys of a request record
abbrev pub is_request_key : Back → List ℕ → Bool
is_request_key b k =
    bytes_eq k (codes "op") || bytes_eq k (codes "args") || bytes_eq k (head_key b) || (is_mach b && bytes_eq k (codes "local"))

-- a request record: an object of these members, each of its sort
abbrev pub is_request : Back → Data → Bool
is_request b j =
    has_only (is_request_key b) j && is_text (get (codes "op") j) && is_list (get (codes "args") j)
    && is_some (head_number (get (head_key b) j)) && is_some (head_number (get (codes "local") j))

-- a head from its numbers, and whether a reply is awaited
abbrev pub head_of : Back → ℕ → ℕ → Bool → Head
head_of back.Xdr id local wants = record { id = id; remote = 0; local = 0; wants = true; order = Big }
head_of back.CdrBig id local wants = record { id = id; remote = 0; local = 0; wants = wants; order = Big }
head_of back.CdrLittle id local wants = record { id = id; remote = 0; local = 0; wants = wants; order = Little }
head_of back.Mach id local wants = record { id = 0; remote = id; local = local; wants = true; order = Big }

-- a port for a reply that never comes
abbrev pub is_idle_port : Op → ℕ → Bool
is_idle_port o port = not o.has_reply && not (port == 0)

-- a record over Mach that has such a port
abbrev pub is_unanswered : Back → Op → Data → Bool
is_unanswered b o j = is_mach b && is_idle_port o (number_at (codes "local") j)

-- the request of an operation
abbrev pub asked : Binding → Data → ℕ → Op → Begun
asked b j k o = record {
  op = k;
  head = head_of b.back (number_at (head_key b.back) j) (number_at (codes "local") j) (not (is_oneway b k));
  face = face_at b.nodes b.shapes o.request;
  tree = list_at (codes "args") j;
}

abbrev pub asked_of : Binding → Data → Option (ℕ × Op) → Result Begun RecordErr
asked_of b j None = Err errors.Op
asked_of b j (Some o) = if is_unanswered b.back o.1 j then Err errors.Head else Ok (asked b j o.0 o.1)

-- the request that a tree begins, or the first refusal
abbrev pub request_of : Binding → Data → Result Begun RecordErr
request_of b j = if is_request b.back j then asked_of b j (op_named b (text_at (codes "op") j)) else Err errors.Request

-- ---- what is written

-- a head's numbers before other members
abbrev pub head_json : Back → Head → Members → Members
head_json b h ms =
    put (head_key b) (number (unsigned (head_word b h)))
    (if is_mach b then put (codes "local") (number (unsigned h.local)) ms else ms)

-- the request record of a value
abbrev pub request_json : Binding → Op → Head → Val → Data
request_json b o h v =
    object (put (codes "op") (string (text_of (dotted b.unit.interfaces o)))
    (head_json b.back h (put (codes "args") (json_of (face_at b.nodes b.shapes o.request) v) no_members)))
