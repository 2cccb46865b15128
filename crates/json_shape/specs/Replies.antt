-- Reply records.
use Rattle.std.specs.Prelude.{Bool, true, ◌&&◌, ◌||◌, is_some, is_none, ℕ, zero, suc, ℤ, pos, negsuc, length, nat_lt, List, [], map, Option, Some, None, option_map, unwrap_or, Result, Ok, Err, if◌then◌else◌, slice_index_or, codes}
use Rattle.std.specs.Str.{bytes_eq}
use Rattle.mint.specs.Types.{Ty}
use Rattle.mint.specs.Typed.{IsWellTyped}
use Rattle.mint.specs.Values.{Val, arm, seen}
use Rattle.wire_def.specs.declared.encoding.Back.{Back}
use Rattle.wire_def.specs.declared.head.Head.{Head}
use Rattle.wire_def.specs.declared.outcome.Outcome.{Outcome}
use Rattle.wire_def.specs.declared.outcome.Outcome.TheVariants.{Answer, Refused}
use Rattle.wire_def.specs.declared.outcome.Refusal.{Refusal}
use Rattle.wire_def.specs.declared.outcome.Refusal.TheVariants as refusal
use Rattle.aoi.specs.Plain.{PlainRaise}
use Rattle.pres.specs.declared.ops.Op.{Op}
use Rattle.pres.specs.Bindings.{Binding}
use Rattle.pres.specs.Faces.{Face, choice, face_at}
use Rattle.pres.specs.Raises.{raise_from, raises}
use Rattle.serde_json.specs.Data.{Data, Items, no_items, item, Members, no_members, number, unsigned, string, array, object, put}
use Rattle.serde_json.specs.Find.{get, as_array, of_integer}
use Rattle.json_shape.specs.declared.errors.RecordErr.{RecordErr}
use Rattle.json_shape.specs.declared.errors.RecordErr.TheVariants as errors
use Rattle.json_shape.specs.Members.{has_only, head_key, head_word, head_number, is_text, is_list, is_table, text_at, number_at, list_at, table_at, any_at}
use Rattle.json_shape.specs.Operations.{dotted, op_named}
use Rattle.json_shape.specs.Records.{Begun}
use Rattle.json_shape.specs.Requests.{head_of}
use Rattle.json_shape.specs.Texts.{text_of}
use Rattle.json_shape.specs.Written.{arm_json, after_json}

-- the keys of a reply record
abbrev pub is_reply_key : Back → List ℕ → Bool
is_reply_key b k =
    bytes_eq k (codes "op") || bytes_eq k (head_key b) || bytes_eq k (codes "result") || bytes_eq k (codes "outs")
    || bytes_eq k (codes "raise") || bytes_eq k (codes "members")

-- an answer: a result and outs, and no exception's members
abbrev pub is_given : Data → Bool
is_given j = is_none (get (codes "members") j) && is_list (get (codes "outs") j)

-- an exception and its members, and nothing of an answer
abbrev pub is_raised : Data → Bool
is_raised j =
    is_text (get (codes "raise") j) && is_none (get (codes "result") j) && is_none (get (codes "outs") j)
    && is_table (get (codes "members") j)

-- a reply record: an object of these members, each of its sort
abbrev pub is_reply : Back → Data → Bool
is_reply b j =
    has_only (is_reply_key b) j && is_text (get (codes "op") j) && is_some (head_number (get (head_key b) j))
    && (if is_some (get (codes "raise") j) then is_raised j else is_given j)

-- the items of an array
abbrev pub items_of : Data → Items
items_of j = unwrap_or (as_array j) no_items

-- an answer as a choice of arm 0: the result and then the outs
abbrev pub given_tree : Data → Data
given_tree j = arm_json (number (unsigned 0)) (array (item (any_at (codes "result") j) (items_of (list_at (codes "outs") j))))

-- the k-th exception as a choice of arm k: its members
abbrev pub raised_tree : List PlainRaise → Data → Option Data
raised_tree rs j =
    option_map (λ k. arm_json (number (unsigned k)) (table_at (codes "members") j))
    (raise_from (text_at (codes "raise") j) 1 rs)

-- a reply as a choice, unless it is an exception that the operation does not list
abbrev pub reply_tree : List PlainRaise → Data → Option Data
reply_tree rs j = if is_some (get (codes "raise") j) then raised_tree rs j else Some (given_tree j)

-- the reply of an operation
abbrev pub reported : Binding → Data → ℕ → Op → Data → Begun
reported b j k o tree = record {
  op = k;
  head = head_of b.back (number_at (head_key b.back) j) 0 true;
  face = face_at b.nodes b.shapes o.reply;
  tree = tree;
}

abbrev pub reported_of : Binding → Data → ℕ → Op → Option Data → Result Begun RecordErr
reported_of b j k o None = Err errors.Shape
reported_of b j k o (Some tree) = Ok (reported b j k o tree)

abbrev pub answered_of : Binding → Data → Option (ℕ × Op) → Result Begun RecordErr
answered_of b j None = Err errors.Op
answered_of b j (Some o) = if o.1.has_reply then reported_of b j o.0 o.1 (reply_tree (raises b o.0) j) else Err errors.Op

-- the reply that a tree begins, or the first refusal
abbrev pub reply_of : Binding → Data → Result Begun RecordErr
reply_of b j = if is_reply b.back j then answered_of b j (op_named b (text_at (codes "op") j)) else Err errors.Request

-- a reply record has a head number
abbrev pub has_head : Back → Data → Bool
has_head b j = is_some (get (head_key b) j)

-- the reply that a tree without a head number begins, or the first refusal
abbrev pub given_of : Binding → Data → Result Begun RecordErr
given_of b j = if has_head b.back j then Err errors.Request else reply_of b j

-- ---- what is written

-- the name of the exception at a place
abbrev pub raise_name : List PlainRaise → ℕ → List ℕ
raise_name rs k = slice_index_or (map (λ r. r.name) rs) k []

-- the members of an answer
abbrev pub given_members : Option Items → Members
given_members (Some (item result outs)) = put (codes "result") result (put (codes "outs") (array outs) no_members)
given_members _ = no_members

-- the members of the exception at a place
abbrev pub raised_members : List PlainRaise → ℕ → Data → Members
raised_members rs k j =
    if nat_lt k (length rs) then put (codes "raise") (string (text_of (raise_name rs k))) (put (codes "members") j no_members)
    else no_members

-- the members of an answer, or of an exception, by the number of the arm
abbrev pub after_members : List PlainRaise → ℤ → Data → Members
after_members rs (pos zero) j = given_members (as_array j)
after_members rs (pos (suc k)) j = raised_members rs k j
after_members rs (negsuc k) j = no_members

-- the members of a reply's value
abbrev pub answer_members : List PlainRaise → Face → Val → Members
answer_members rs (choice s arms) (arm n v) = after_members rs n (after_json arms n v)
answer_members rs _ _ = no_members

abbrev pub word : ℕ → Data
word n = number (unsigned n)

-- the name of a refusal
abbrev pub refusal_name : Refusal → List ℕ
refusal_name refusal.ProgUnavail = codes "PROG_UNAVAIL"
refusal_name (refusal.ProgMismatch low high) = codes "PROG_MISMATCH"
refusal_name refusal.ProcUnavail = codes "PROC_UNAVAIL"
refusal_name refusal.GarbageArgs = codes "GARBAGE_ARGS"
refusal_name refusal.SystemErr = codes "SYSTEM_ERR"
refusal_name (refusal.RpcMismatch low high) = codes "RPC_MISMATCH"
refusal_name (refusal.AuthError status) = codes "AUTH_ERROR"
refusal_name (refusal.SystemException id minor completion) = codes "SYSTEM_EXCEPTION"
refusal_name (refusal.UserException id) = codes "USER_EXCEPTION"
refusal_name (refusal.RetCode code) = codes "RETCODE"

-- what a refusal says
abbrev pub refusal_says : Refusal → Items
refusal_says (refusal.ProgMismatch low high) = item (word low) (item (word high) no_items)
refusal_says (refusal.RpcMismatch low high) = item (word low) (item (word high) no_items)
refusal_says (refusal.AuthError status) = item (word status) no_items
refusal_says (refusal.SystemException id minor completion) =
    item (string (text_of id)) (item (word minor) (item (word completion) no_items))
refusal_says (refusal.UserException id) = item (string (text_of id)) no_items
refusal_says (refusal.RetCode code) = item (number (of_integer code)) no_items
refusal_says _ = no_items

-- a refusal as the items of an array
abbrev pub refusal_json : Refusal → Items
refusal_json why = item (string (refusal_name why)) (refusal_says why)

-- an answer that is well typed
abbrev pub IsOutcome : Ty → Outcome → Type 0
IsOutcome t (Answer value) = IsWellTyped t (seen value)
IsOutcome t (Refused why) = Unit {0}

-- the members of a refusal
abbrev pub refused_members : Refusal → Members
refused_members why = put (codes "refused") (array (refusal_json why)) no_members

-- the members of what a call came to
abbrev pub outcome_members : List PlainRaise → Face → Outcome → Members
outcome_members rs f (Answer value) = answer_members rs f (seen value)
outcome_members rs f (Refused why) = refused_members why

-- a reply record by the name of its operation, with other members
abbrev pub reply_named : Back → Head → List ℕ → Members → Data
reply_named b h name ms = object (put (codes "op") (string (text_of name)) (put (head_key b) (word (head_word b h)) ms))

-- a reply record with the members of what its call came to
abbrev pub reply_with : Binding → Op → Head → Members → Data
reply_with b o h ms = reply_named b.back h (dotted b.unit.interfaces o) ms

-- the reply record of what a call came to
abbrev pub reply_json : Binding → ℕ → Op → Head → Outcome → Data
reply_json b k o h outcome =
    reply_with b o h (outcome_members (raises b k) (face_at b.nodes b.shapes o.reply) outcome)
