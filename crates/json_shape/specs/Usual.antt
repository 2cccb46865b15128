-- What is read of tokens of text, where they are in the usual form.
use Rattle.std.specs.Prelude.{◌≡◌, ◌≤◌, ◌<◌, ◌^◌, ◌++◌, ℕ, ℤ, List, [], ◌∷◌, Option, Some, None, Result, Ok, true, false, not, is_some, option_and_then, unwrap_or, if◌then◌else◌, codes}
use Rattle.std.specs.Borrow.{Bor}
use Rattle.json.specs.Json as text
use Rattle.json.specs.Token.{Token, end_object, key}
use Rattle.json.specs.Tree.{depth, items_depth, json_tokens, items_tokens, members_depth, members_tokens}
use Rattle.mint.specs.declared.kind.Kind.{Kind}
use Rattle.mint.specs.Values.{Val, Vals}
use Rattle.wire_def.specs.declared.encoding.Back.{Back}
use Rattle.wire_def.specs.declared.head.Head.{Head}
use Rattle.pres.specs.declared.ops.Op.{Op}
use Rattle.pres.specs.Bindings.{Binding}
use Rattle.pres.specs.Faces.{Arms, Face}
use Rattle.pres.specs.Faces as face
use Rattle.serde_json.specs.Data.{Data, Items, Members, no_members, number, unsigned}
use Rattle.serde_json.specs.Data as json
use Rattle.serde_json.specs.Read.{of_json, of_items, of_members, read}
use Rattle.json_shape.specs.declared.errors.RecordErr.{RecordErr}
use Rattle.json_shape.specs.declared.records.RequestRec.{RequestRec}
use Rattle.serde_json.specs.Find.{as_array}
use Rattle.json_shape.specs.Members.{head_key, is_mach}
use Rattle.json_shape.specs.Presents.{size, Presents}
use Rattle.json_shape.specs.Reading.{after}
use Rattle.json_shape.specs.Records.{Begun, Comes}
use Rattle.json_shape.specs.Replies.{reply_of}
use Rattle.json_shape.specs.Operations.{is_oneway}
use Rattle.json_shape.specs.Requests.{head_of, is_idle_port, request_of}
use Rattle.json_shape.specs.Scalars.{each_in}

-- a tree of text is a tree, of which f gives x
pub record IsRead {X : Type 0} (j : text.Json) (f : Data → Option X) (x : X) : Type 0 where
  pub tree : Data
  pub is : of_json j ≡ Some tree
  pub gives : f tree ≡ Some x

-- the items of an array are trees, of which f gives values
pub record AreRead {X : Type 0} (js : text.Items) (f : Items → Option X) (vs : X) : Type 0 where
  pub trees : Items
  pub are : of_items js ≡ Some trees
  pub gives : f trees ≡ Some vs

-- the members of an object are so many members, of which f gives values
pub record MembersRead (ms : text.Members) (n : ℕ) (f : Members → Option Vals) (vs : Vals) : Type 0 where
  pub members : Members
  pub are : of_members ms no_members ≡ Some members
  pub number : size members ≡ n
  pub gives : f members ≡ Some vs

-- ---- tokens

-- from `old` to `new` there are the tokens of a tree of text that nests no deeper than d, of which f gives x
pub record Reads {X : Type 0} (d : ℕ) (old new : List Token) (f : Data → Option X) (x : X) : Type 0 where
  pub source : text.Json
  pub takes : old ≡ json_tokens source ++ new
  pub nests : depth source ≤ d
  pub read : IsRead source f x

-- the same of items with the end of their array
pub record ItemsTaken {X : Type 0} (d : ℕ) (old new : List Token) (f : Items → Option X) (vs : X) : Type 0 where
  pub items : text.Items
  pub takes : old ≡ items_tokens items ++ new
  pub nests : items_depth items ≤ d
  pub read : AreRead items f vs

-- the same of members with the end of their object
pub record MembersTaken (d : ℕ) (old new : List Token) (n : ℕ) (f : Members → Option Vals) (vs : Vals) : Type 0 where
  pub members : text.Members
  pub takes : old ≡ members_tokens members ++ new
  pub nests : members_depth members ≤ d
  pub read : MembersRead members n f vs

-- the numbers of a kind that an array is
abbrev pub listed_in : Kind → Data → Option (List ℤ)
listed_in k j = option_and_then (each_in k) (as_array j)

-- a member before others, where it is there
abbrev pub put_some : List ℕ → Option text.Json → text.Members → text.Members
put_some k None ms = ms
put_some k (Some j) ms = text.member k j ms

-- a member of a text that may be there, and what it is as a tree
abbrev pub IsTree : Option text.Json → Option Data → Type 0
IsTree None None = Unit {0}
IsTree (Some j) (Some d) = of_json j ≡ Some d
IsTree _ _ = ⊥

-- the same of the member with the value of a choice, which may be absent, and of the end of the choice
pub record ArmTaken (d : ℕ) (old new : List Token) (arms : Arms) (n : ℤ) (v : Val) : Type 0 where
  pub value : Option text.Json
  pub takes : old ≡ members_tokens (put_some (codes "value") value text.no_members) ++ new
  pub nests : members_depth (put_some (codes "value") value text.no_members) ≤ d
  pub tree : Option Data
  pub is : IsTree value tree
  pub gives : after arms n (unwrap_or tree json.null) ≡ Some v

-- ---- records

-- the token of a key, or of the end of an object
abbrev pub key_token : Option (Bor (List ℕ)) → Token
key_token None = end_object
key_token (Some k) = key k.now

-- the tokens of a member that may be there
abbrev pub some_tokens : List ℕ → Option text.Json → List Token
some_tokens k None = []
some_tokens k (Some j) = key k ∷ json_tokens j

-- a member is a head number of 32 bits, or both are absent
abbrev pub IsNumber : Option text.Json → Option ℕ → Type 0
IsNumber None None = Unit {0}
IsNumber (Some j) (Some n) = (of_json j ≡ Some (number (unsigned n))) × (n < 2 ^ 32)
IsNumber _ _ = ⊥

-- a member that may be there nests nothing
abbrev pub IsFlat : Option text.Json → Type 0
IsFlat None = Unit {0}
IsFlat (Some j) = depth j ≤ 0

-- the token of a number of 32 bits
pub record WordRead (old new : List Token) (n : ℕ) : Type 0 where
  pub digits : List ℕ
  pub takes : old ≡ Token.number digits ∷ new
  pub is : of_json (text.number digits) ≡ Some (number (unsigned n))
  pub small : n < 2 ^ 32

-- from `old` to `new` there are the tokens of a member that may be there, which is a head number
pub record WordTaken (k : List ℕ) (old new : List Token) (n : Option ℕ) : Type 0 where
  pub member : Option text.Json
  pub takes : old ≡ some_tokens k member ++ new
  pub flat : IsFlat member
  pub is : IsNumber member n

-- the second head number, which records have over Mach alone
abbrev pub port_of : Back → Option text.Json → Option text.Json
port_of k local = if is_mach k then local else None

-- the same of the second head number
pub record PortTaken (b : Back) (old new : List Token) (n : Option ℕ) : Type 0 where
  pub local : Option text.Json
  pub takes : old ≡ some_tokens (codes "local") (port_of b local) ++ new
  pub flat : IsFlat local
  pub is : IsNumber local n

-- the same of both head numbers
pub record HeadsTaken (b : Back) (old new : List Token) (id local : Option ℕ) : Type 0 where
  pub between : List Token
  pub first : WordTaken (head_key b) old between id
  pub second : PortTaken b between new local

-- a head number that stands once, before the operation or after it; 0 where it is absent
abbrev pub once_of : Option ℕ → Option ℕ → Option ℕ
once_of None after = Some (unwrap_or after 0)
once_of (Some n) None = Some n
once_of (Some n) (Some m) = None

-- a head has the numbers before the operation or after it, and a reply is not missing
pub record IsHeadOf (b : Binding) (k : ℕ) (o : Op) (ids locals : Option ℕ × Option ℕ) (h : Head) : Type 0 where
  pub id : ℕ
  pub local : ℕ
  pub is_id : once_of ids.0 ids.1 ≡ Some id
  pub is_local : once_of locals.0 locals.1 ≡ Some local
  pub answered : is_idle_port o local ≡ false
  pub is : h ≡ head_of b.back id local (not (is_oneway b k))

-- a member that stands once, before the operation or after it, or is absent
abbrev pub IsOnce : Option text.Json → Option text.Json → Option text.Json → Type 0
IsOnce None after o = o ≡ after
IsOnce (Some j) None o = o ≡ Some j
IsOnce (Some j) (Some i) o = ⊥

-- members after the operation: the head number, over Mach the second one, the arguments
abbrev pub members_after : Back → Option text.Json → Option text.Json → Option text.Json → text.Members
members_after k id local args =
    put_some (head_key k) id (put_some (codes "local") (port_of k local) (put_some (codes "args") args text.no_members))

-- members before others: the arguments, the head number, over Mach the second one
abbrev pub put_before : Back → Option text.Json → Option text.Json → Option text.Json → text.Members → text.Members
put_before k id local args ms =
    put_some (codes "args") args (put_some (head_key k) id (put_some (codes "local") (port_of k local) ms))

-- a record of these members in a usual order; only the operation must be there
pub record IsRecord (k : Back) (j op : text.Json) (id local args : Option text.Json) : Type 0 where
  pub id_before : Option text.Json
  pub id_after : Option text.Json
  pub local_before : Option text.Json
  pub local_after : Option text.Json
  pub args_before : Option text.Json
  pub args_after : Option text.Json
  pub is : j ≡ text.object
      (put_before k id_before local_before args_before (text.member (codes "op") op (members_after k id_after local_after args_after)))
  pub id_once : IsOnce id_before id_after id
  pub local_once : IsOnce local_before local_after local
  pub args_once : IsOnce args_before args_after args

-- a member is a head number: 0 where it is absent
abbrev pub IsWord : Option text.Json → ℕ → Type 0
IsWord None n = n ≡ 0
IsWord (Some j) n = of_json j ≡ Some (number (unsigned n))

-- the arguments: an empty array where the member is absent
abbrev pub args_of : Option text.Json → text.Json
args_of args = unwrap_or args (text.array text.no_items)

-- a tree of text is an array, which presents a value
pub record IsPresented (j : text.Json) (f : Face) (v : Val) : Type 0 where
  pub tree : Data
  pub is : of_json j ≡ Some tree
  pub listed : is_some (as_array tree) ≡ true
  pub presents : Presents f tree v

-- a face of values without names
abbrev pub AreValues : Face → Type 0
AreValues (face.values ps) = Unit {0}
AreValues _ = ⊥

-- from `old` to `new` there are the tokens of the arguments, where they are there, and of the end of the record; or of
-- an absent member and the end. They present a value
pub record ArgsTaken (d : ℕ) (old new : List Token) (f : Face) (v : Val) : Type 0 where
  pub args : Option text.Json
  pub takes : old ≡ members_tokens (put_some (codes "args") args text.no_members) ++ new
  pub nests : members_depth (put_some (codes "args") args text.no_members) ≤ d
  pub is : IsPresented (args_of args) f v

-- from `old` to `new` there are the tokens of an array, which presents a value
pub record ArrayTaken (d : ℕ) (old new : List Token) (f : Face) (v : Val) : Type 0 where
  pub source : text.Json
  pub takes : old ≡ json_tokens source ++ new
  pub nests : depth source ≤ d
  pub is : IsPresented source f v

-- what trees begin as records
abbrev pub Begins : Type 0
Begins = Data → Result Begun RecordErr

-- a tree of text is a tree, and the record is what it presents
pub record IsRecordOf (begun : Begins) (j : text.Json) (r : RequestRec) : Type 0 where
  pub tree : Data
  pub is : of_json j ≡ Some tree
  pub comes : Comes (begun tree) (Ok r)

-- from `old` to `new` there are the tokens of members and of the end of their object, which is the record
pub record RecordTaken (d : ℕ) (begun : Begins) (old new : List Token) (r : RequestRec) : Type 0 where
  pub members : text.Members
  pub takes : old ≡ members_tokens members ++ new
  pub nests : members_depth members ≤ d
  pub is : IsRecordOf begun (text.object members) r

-- a text is a tree, and the record is what it presents
pub record IsRecordIn (begun : Begins) (line : List ℕ) (r : RequestRec) : Type 0 where
  pub tree : Data
  pub is : read line ≡ Some tree
  pub comes : Comes (begun tree) (Ok r)

-- a text is a tree, and the record is the request that it presents
abbrev pub IsRequestIn : Binding → List ℕ → RequestRec → Type 0
IsRequestIn b = IsRecordIn (request_of b)

-- a text is a tree, and the record is the reply that it presents
abbrev pub IsReplyIn : Binding → List ℕ → RequestRec → Type 0
IsReplyIn b = IsRecordIn (reply_of b)
