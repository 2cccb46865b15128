-- Request records in the usual form.
use Rattle.std.proofs.Common.{◌≡◌, ℕ, ◌<◌, ◌≤◌, ◌^◌, ℤ, pos, List, [], ◌∷◌, ◌++◌, Bool, true, false, not, ◌&&◌, Option, Some, None, Ok, option_map, refl, sym, ap, ◌∙◌, codes, subst, arith, append_assoc}
use Rattle.std.specs.Prelude.{if◌then◌else◌, is_some, option_and_then, unwrap_or}
use Rattle.json.specs.Json as text
use Rattle.json.specs.Lex.{tokens}
use Rattle.json.specs.Token.{Token, begin_object, end_object, key}
use Rattle.json.specs.Token as token
use Rattle.json.specs.Tree.{json_tokens, members_depth, members_tokens}
use Rattle.json.proofs.Printed.Trees.{value-json_tokens}
use Rattle.mint.specs.Typed.{IsWellTyped}
use Rattle.mint.specs.Types.{Ty}
use Rattle.mint.specs.Values.{Val, seen}
use Rattle.wire_def.specs.declared.encoding.Back.{Back}
use Rattle.wire_def.specs.declared.encoding.Back.TheVariants as back
use Rattle.wire_def.specs.declared.head.Head.{Head}
use Rattle.pres.specs.declared.ops.Op.{Op}
use Rattle.pres.specs.Bindings.{Binding}
use Rattle.pres.specs.Faces.{Face, face_at, type_of}
use Rattle.pres.specs.Faces as face
use Rattle.serde_json.specs.Data.{Data, array, no_items, number, object, string, unsigned}
use Rattle.serde_json.specs.Data as json
use Rattle.serde_json.specs.Find.{as_array, as_str, of_integer}
use Rattle.serde_json.specs.Read.{number_of, of_json}
use Rattle.json_shape.specs.declared.records.RequestRec.{RequestRec}
use Rattle.json_shape.specs.Members.{head_key, head_number, is_list, is_mach, list_at, number_at, text_at}
use Rattle.json_shape.specs.Operations.{is_oneway, op_named}
use Rattle.json_shape.specs.Presents.{Presents}
use Rattle.json_shape.specs.Reading.{value_of}
use Rattle.json_shape.specs.Records.{Comes}
use Rattle.json_shape.specs.Requests.{head_of, is_idle_port, is_unanswered, request_of}
use Rattle.json_shape.specs.Usual.{args_of, members_after, Begins, once_of, port_of, put_before, put_some, some_tokens, AreValues, ArgsTaken, ArrayTaken, HeadsTaken, IsFlat, IsHeadOf, IsNumber, IsOnce, IsPresented, IsRecord, IsRecordIn, IsRecordOf, IsWord, PortTaken, Reads, RecordTaken, WordRead, WordTaken}
use Rattle.json_shape.proofs.Options.{one_some}
use Rattle.json_shape.proofs.Shown.{read_presents}
use Rattle.json_shape.proofs.ReadBack.{head_read, whole}
use Rattle.json_shape.proofs.UsualMembers.{args_there, args_tree, head_there, is_usual, local_there, members_of, op_there, parted, port_answered, port_kept, port_number, port_once, port_tree, usual_tree, word_tree}

-- the number of a head
pub word_read : (s : List ℕ) (n : ℤ) (m : ℕ) → number_of s ≡ Some (of_integer n) → pos m ≡ n
    → of_json (text.number s) ≡ Some (number (unsigned m))
word_read s n m read same = ap (option_map number) read ∙ ap (λ (z : ℤ). Some (number (of_integer z))) (sym same)

pub ruleset words = (word_read)

-- a record that has the operation, the head and a value of such members
pub usual_comes : (b : Binding) (j op : text.Json) (id local args : Option text.Json) (t : List ℕ) (n m k : ℕ) (o : Op) (r : RequestRec)
    → IsRecord b.back j op id local args → n < 2 ^ 32 → m < 2 ^ 32 → of_json op ≡ Some (string t) → IsWord id n → IsWord local m
    → op_named b t ≡ Some (k, o) → is_idle_port o m ≡ false → IsPresented (args_of args) (face_at b.nodes b.shapes o.request) (seen r.value)
    → r.op ≡ k → r.head ≡ head_of b.back n m (not (is_oneway b k)) → IsRecordOf (request_of b) j r
usual_comes b j op id local args t n m k o r has small little is_op is_id is_local named busy value number_is head_is =
    let f : Face = face_at b.nodes b.shapes o.request in
    let wants : Bool = not (is_oneway b k) in
    let word = word_tree id n small is_id in
    let port = port_tree b.back local m little is_local in
    let given = args_tree args f (seen r.value) value in
    let i = parted has.id_before has.id_after id word.tree has.id_once word.alike in
    let l = parted (port_of b.back has.local_before) (port_of b.back has.local_after) (port_of b.back local) port.tree
    (port_once b.back has.local_before has.local_after local has.local_once) port.alike in
    let a = parted has.args_before has.args_after args given.tree has.args_once given.alike in
    let d : Data = object (members_of b.back t i.trees l.trees a.trees) in
    let is =
    is_usual b.back t has.local_before has.local_after i.trees l.trees a.trees l.alike_before l.alike_after n (port_number b.back m)
    (ap head_number i.is ∙ word.number) (ap head_number l.is ∙ port.number) (ap is_list a.is ∙ given.listed) in
    let op_is : text_at (codes "op") d ≡ t =
    ap (λ (x : Option Data). unwrap_or (option_and_then as_str x) (codes "")) (op_there b.back t i.trees l.trees a.trees) in
    let word_is : number_at (head_key b.back) d ≡ n =
    ap (λ (x : Option Data). unwrap_or (head_number x) 0) (head_there b.back t i.trees l.trees a.trees ∙ i.is)
    ∙ ap (λ (x : Option ℕ). unwrap_or x 0) word.number in
    let port_is : number_at (codes "local") d ≡ port_number b.back m =
    ap (λ (x : Option Data). unwrap_or (head_number x) 0) (local_there b.back t i.trees l.trees a.trees ∙ l.is)
    ∙ ap (λ (x : Option ℕ). unwrap_or x 0) port.number in
    let idle : is_unanswered b.back o d ≡ false =
    ap (λ (x : ℕ). is_mach b.back && is_idle_port o x) port_is ∙ port_answered b.back o m busy in
    let begun = whole b d k o is (ap (op_named b) op_is ∙ named) idle in
    let heads : head_read b.back d wants ≡ head_of b.back n m wants =
    ap (λ (x : ℕ). head_of b.back x (number_at (codes "local") d) wants) word_is
    ∙ ap (λ (x : ℕ). head_of b.back n x wants) port_is ∙ port_kept b.back n m wants in
    let presents : Presents f (list_at (codes "args") d) (seen r.value) =
    subst (λ (x : Option Data). Presents f (unwrap_or x (array no_items)) (seen r.value))
    (sym (args_there b.back t i.trees l.trees a.trees ∙ a.is)) given.presents in
    record {
      tree = d;
      is = ap of_json has.is
          ∙ usual_tree b.back op t has.id_before has.id_after has.local_before has.local_after has.args_before has.args_after i.trees
          l.trees a.trees is_op i.alike_before i.alike_after l.alike_before l.alike_after a.alike_before a.alike_after;
      comes = subst (λ x. Comes x (Ok r)) (sym begun) (number_is, head_is ∙ sym heads, presents);
    }

-- ---- arguments

-- what is read of a node of values without names is an array
values_listed : (f : Face) (d : Data) (v : Val) → AreValues f → value_of f d ≡ Some v → is_some (as_array d) ≡ true
unfolding value_of
values_listed (face.values ps) (json.array js) v h is = refl
values_listed (face.values ps) _ v h is = absurd cc
values_listed _ d v h is = absurd h

-- an array that was read
pub array_taken : (d : ℕ) (old new : List Token) (f : Face) (v : Val) (t : Ty) → t ≡ type_of f → Reads d old new (value_of f) v
    → AreValues f → IsWellTyped t v → ArrayTaken d old new f v
array_taken d old new f v t same h listed typed = record {
  source = h.source;
  takes = h.takes;
  nests = h.nests;
  is = record {
    tree = h.read.tree;
    is = h.read.is;
    listed = values_listed f h.read.tree v listed h.read.gives;
    presents = read_presents f h.read.tree v t same h.read.gives typed;
  };
}

-- an empty array
pub empty_presented : (f : Face) (v : Val) (t : Ty) → t ≡ type_of f → value_of f (array no_items) ≡ Some v → IsWellTyped t v
    → IsPresented (text.array text.no_items) f v
empty_presented f v t same is typed =
    record { tree = array no_items; is = refl; listed = refl; presents = read_presents f (array no_items) v t same is typed }

pub args_absent : (d : ℕ) (old new : List Token) (f : Face) (v : Val) → old ≡ end_object ∷ new
    → IsPresented (text.array text.no_items) f v → ArgsTaken d old new f v
args_absent d old new f v ends is = record { args = None; takes = ends; nests = omega arith; is = is }

pub args_taken : (d : ℕ) (old now past new : List Token) (f : Face) (v : Val) → old ≡ key (codes "args") ∷ now
    → ArrayTaken d now past f v → past ≡ end_object ∷ new → ArgsTaken d old new f v
args_taken d old now past new f v begins h ends = record {
  args = Some h.source;
  takes = begins
      ∙ ap (λ (ts : List Token). key (codes "args") ∷ ts)
      (h.takes ∙ ap (λ (ts : List Token). json_tokens h.source ++ ts) ends
      ∙ sym (append_assoc (json_tokens h.source) (end_object ∷ []) new));
  nests = omega (arith, h.nests);
  is = h.is;
}

-- ---- head numbers

-- a head number with its key
pub word_taken : (k : List ℕ) (old now past new : List Token) (n : ℕ) → old ≡ key k ∷ now → WordRead now past n → past ≡ new
    → WordTaken k old new (Some n)
word_taken k old now past new n begins h same = record {
  member = Some (text.number h.digits);
  takes = begins ∙ ap (λ (ts : List Token). key k ∷ ts) (h.takes ∙ ap (λ (ts : List Token). token.number h.digits ∷ ts) same);
  flat = omega arith;
  is = (h.is, h.small);
}

pub word_absent : (k : List ℕ) (ts : List Token) → WordTaken k ts ts None
word_absent k ts = record { member = None; takes = refl; flat = tt; is = tt }

pub local_taken : (b : Back) (old new : List Token) (n : Option ℕ) → is_mach b ≡ true → WordTaken (codes "local") old new n
    → PortTaken b old new n
local_taken b old new n mach h = record {
  local = h.member;
  takes = h.takes ∙ ap (λ (t : Bool). some_tokens (codes "local") (if t then h.member else None) ++ new) (sym mach);
  flat = h.flat;
  is = h.is;
}

pub local_absent : (b : Back) (ts : List Token) → is_mach b ≡ false → PortTaken b ts ts None
local_absent b ts mach = record {
  local = None;
  takes = ap (λ (t : Bool). some_tokens (codes "local") (if t then None else None) ++ ts) (sym mach);
  flat = tt;
  is = tt;
}

-- a head number that stands once
record Once (before after : Option text.Json) (n : ℕ) : Type 0 where
  member : Option text.Json
  once : IsOnce before after member
  is : IsWord member n
  small : n < 2 ^ 32

number_once : (before after : Option text.Json) (m n : Option ℕ) (x : ℕ) → IsNumber before m → IsNumber after n → once_of m n ≡ Some x
    → Once before after x
number_once None None None None x p q is =
    let same : 0 ≡ x = one_some 0 x is in
    record { member = None; once = refl; is = sym same; small = omega (arith, same) }
number_once None (Some j) None (Some n) x p q is =
    let same : n ≡ x = one_some n x is in
    record {
      member = Some j;
      once = refl;
      is = q.0 ∙ ap (λ (y : ℕ). Some (number (unsigned y))) same;
      small = omega (arith, same, q.1);
    }
number_once (Some j) None (Some m) None x p q is =
    let same : m ≡ x = one_some m x is in
    record {
      member = Some j;
      once = refl;
      is = p.0 ∙ ap (λ (y : ℕ). Some (number (unsigned y))) same;
      small = omega (arith, same, p.1);
    }
number_once (Some j) (Some i) (Some m) (Some n) x p q is = absurd cc
number_once None None None (Some n) x p q is = absurd q
number_once None (Some j) None None x p q is = absurd q
number_once None after (Some m) n x p q is = absurd p
number_once (Some j) after None n x p q is = absurd p
number_once (Some j) None (Some m) (Some n) x p q is = absurd q
number_once (Some j) (Some i) (Some m) None x p q is = absurd q

-- ---- members

-- a member that may be there, before members
pub member_first : (k : List ℕ) (o : Option text.Json) (ms : text.Members) (rest : List Token)
    → some_tokens k o ++ (members_tokens ms ++ rest) ≡ members_tokens (put_some k o ms) ++ rest
member_first k None ms rest = refl
member_first k (Some j) ms rest = ap (λ (ts : List Token). key k ∷ ts) (sym (append_assoc (json_tokens j) (members_tokens ms) rest))

member_within : (d : ℕ) (k : List ℕ) (o : Option text.Json) (ms : text.Members) → IsFlat o → members_depth ms ≤ d
    → members_depth (put_some k o ms) ≤ d
member_within d k None ms flat h = h
member_within d k (Some j) ms flat h = omega (arith, flat, h)

port_flat : (b : Back) (o : Option text.Json) → IsFlat o → IsFlat (port_of b o)
port_flat back.Xdr o flat = tt
port_flat back.CdrBig o flat = tt
port_flat back.CdrLittle o flat = tt
port_flat back.Mach o flat = flat

-- head numbers before members
module _ (b : Back) (old mid rest : List Token) (n m : Option ℕ) (h : HeadsTaken b old mid n m) (ms : text.Members) where
  abbrev pub with_heads : text.Members
  with_heads = put_some (head_key b) h.first.member (put_some (codes "local") (port_of b h.second.local) ms)

  heads_first : mid ≡ members_tokens ms ++ rest → old ≡ members_tokens with_heads ++ rest
  heads_first same =
      h.first.takes
      ∙ ap (λ (ts : List Token). some_tokens (head_key b) h.first.member ++ ts)
      (h.second.takes ∙ ap (λ (ts : List Token). some_tokens (codes "local") (port_of b h.second.local) ++ ts) same
      ∙ member_first (codes "local") (port_of b h.second.local) ms rest)
      ∙ member_first (head_key b) h.first.member (put_some (codes "local") (port_of b h.second.local) ms) rest

  heads_within : (d : ℕ) → members_depth ms ≤ d → members_depth with_heads ≤ d
  heads_within d below =
      member_within d (head_key b) h.first.member (put_some (codes "local") (port_of b h.second.local) ms) h.first.flat
      (member_within d (codes "local") (port_of b h.second.local) ms (port_flat b h.second.local h.second.flat) below)

op_within : (d : ℕ) (t : List ℕ) (ms : text.Members) → members_depth ms ≤ d
    → members_depth (text.member (codes "op") (text.string t) ms) ≤ d
op_within d t ms h = omega (arith, h)

-- a record of head numbers on both sides of an operation, and of arguments on one side
taken_comes : (b : Binding) (o0 o1 m0 m1 : List Token) (n0 n1 p0 p1 : Option ℕ) (before : HeadsTaken b.back o0 m0 n0 p0)
    → (after : HeadsTaken b.back o1 m1 n1 p1) (args0 args1 args : Option text.Json) (t : List ℕ) (k : ℕ) (o : Op) (h : Head)
    → (r : RequestRec) → IsOnce args0 args1 args → op_named b t ≡ Some (k, o) → IsHeadOf b k o (n0, n1) (p0, p1) h
    → IsPresented (args_of args) (face_at b.nodes b.shapes o.request) (seen r.value) → r.op ≡ k → r.head ≡ h
    → IsRecordOf (request_of b)
    (text.object
    (put_before b.back before.first.member before.second.local args0
    (text.member (codes "op") (text.string t) (members_after b.back after.first.member after.second.local args1)))) r
taken_comes b o0 o1 m0 m1 n0 n1 p0 p1 before after args0 args1 args t k o h r once named head value number_is head_is =
    let id = number_once before.first.member after.first.member n0 n1 head.id before.first.is after.first.is head.is_id in
    let local = number_once before.second.local after.second.local p0 p1 head.local before.second.is after.second.is head.is_local in
    usual_comes b _ (text.string t) id.member local.member args t head.id head.local k o r
    (record {
      id_before = before.first.member;
      id_after = after.first.member;
      local_before = before.second.local;
      local_after = after.second.local;
      args_before = args0;
      args_after = args1;
      is = refl;
      id_once = id.once;
      local_once = local.once;
      args_once = once;
    })
    id.small local.small refl id.is local.is named head.answered value number_is (head_is ∙ head.is)

-- the operation before the arguments
pub op_first : (b : Binding) (first now opened named_at tail heads_past new : List Token) (n0 n1 p0 p1 : Option ℕ) (t : List ℕ) (k : ℕ)
    → (o : Op) (h : Head) (r : RequestRec) → first ≡ now → HeadsTaken b.back now opened n0 p0
    → opened ≡ key (codes "op") ∷ token.string t ∷ named_at → named_at ≡ tail → HeadsTaken b.back tail heads_past n1 p1
    → ArgsTaken 126 heads_past new (face_at b.nodes b.shapes o.request) (seen r.value) → op_named b t ≡ Some (k, o)
    → IsHeadOf b k o (n0, n1) (p0, p1) h → r.op ≡ k → r.head ≡ h → RecordTaken 126 (request_of b) first new r
op_first b first now opened named_at tail heads_past new n0 n1 p0 p1 t k o h r same before is_op next after args named head number_is
    head_is =
    let given = put_some (codes "args") args.args text.no_members in
    let from_op = text.member (codes "op") (text.string t) (with_heads b.back tail heads_past new n1 p1 after given) in
    let rest = next ∙ heads_first b.back tail heads_past new n1 p1 after given args.takes in
    record {
      members = with_heads b.back now opened new n0 p0 before from_op;
      takes = same
          ∙ heads_first b.back now opened new n0 p0 before from_op
          (is_op ∙ ap (λ (ts : List Token). key (codes "op") ∷ token.string t ∷ ts) rest);
      nests = heads_within b.back now opened new n0 p0 before from_op 126
          (op_within 126 t _ (heads_within b.back tail heads_past new n1 p1 after given 126 args.nests));
      is = taken_comes b now tail opened heads_past n0 n1 p0 p1 before after None args.args args.args t k o h r refl named head args.is
          number_is head_is;
    }

-- the arguments before the operation
pub args_first : (b : Binding) (first begun past now opened named_at tail heads_past new : List Token) (n0 n1 p0 p1 : Option ℕ) (t : List ℕ)
    → (k : ℕ) (o : Op) (h : Head) (r : RequestRec) → first ≡ key (codes "args") ∷ begun
    → ArrayTaken 126 begun past (face_at b.nodes b.shapes o.request) (seen r.value) → past ≡ now → HeadsTaken b.back now opened n0 p0
    → opened ≡ key (codes "op") ∷ token.string t ∷ named_at → named_at ≡ tail → HeadsTaken b.back tail heads_past n1 p1
    → heads_past ≡ end_object ∷ new → op_named b t ≡ Some (k, o) → IsHeadOf b k o (n0, n1) (p0, p1) h → r.op ≡ k → r.head ≡ h
    → RecordTaken 126 (request_of b) first new r
args_first b first begun past now opened named_at tail heads_past new n0 n1 p0 p1 t k o h r is_args args same before is_op next after
    ends named head number_is head_is =
    let from_op = text.member (codes "op") (text.string t) (with_heads b.back tail heads_past new n1 p1 after text.no_members) in
    let rest = next ∙ heads_first b.back tail heads_past new n1 p1 after text.no_members ends in
    let members = with_heads b.back now opened new n0 p0 before from_op in
    let all = same
    ∙ heads_first b.back now opened new n0 p0 before from_op
    (is_op ∙ ap (λ (ts : List Token). key (codes "op") ∷ token.string t ∷ ts) rest) in
    let below = heads_within b.back now opened new n0 p0 before from_op 126
    (op_within 126 t _ (heads_within b.back tail heads_past new n1 p1 after text.no_members 126 (omega arith))) in
    record {
      members = text.member (codes "args") args.source members;
      takes = is_args
          ∙ ap (λ (ts : List Token). key (codes "args") ∷ ts)
          (args.takes ∙ ap (λ (ts : List Token). json_tokens args.source ++ ts) all
          ∙ sym (append_assoc (json_tokens args.source) (members_tokens members) new));
      nests = omega (arith, args.nests, below);
      is = taken_comes b now tail opened heads_past n0 n1 p0 p1 before after (Some args.source) None (Some args.source) t k o h r refl
          named head args.is number_is head_is;
    }

-- the record of a whole text
pub line_record : (begun : Begins) (line now new : List Token) (text_of_line : List ℕ) (r : RequestRec) → line ≡ tokens text_of_line
    → line ≡ begin_object ∷ now → RecordTaken 126 begun now new r → new ≡ [] → IsRecordIn begun text_of_line r
line_record begun line now new text_of_line r is begins h ends =
    let j = text.object h.members in
    let all : tokens text_of_line ≡ json_tokens j ++ [] =
    sym is ∙ begins
    ∙ ap (λ (ts : List Token). begin_object ∷ ts) (h.takes ∙ ap (λ (ts : List Token). members_tokens h.members ++ ts) ends) in
    let read_all : text.value 127 (tokens text_of_line) ≡ Some (j, []) =
    ap (text.value 127) all ∙ value-json_tokens j 127 [] (omega (arith, h.nests)) in
    record {
      tree = h.is.tree;
      is = ap (λ x. option_and_then of_json (option_and_then (λ p. text.if_last p.0 p.1) x)) read_all ∙ h.is.is;
      comes = h.is.comes;
    }
