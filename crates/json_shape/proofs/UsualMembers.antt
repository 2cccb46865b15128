-- The members of request records in the usual form, by cases on what is there.
use Rattle.std.proofs.Common.{◌≡◌, ℕ, ◌<◌, ◌^◌, List, Bool, true, false, ◌&&◌, Option, Some, None, Ordering, Less, Equal, Greater, nat_cmp, bytes_eq, option_map, refl, sym, ap, ◌∙◌, codes, subst}
use Rattle.std.specs.Prelude.{if◌then◌else◌, is_some, unwrap_or}
use Rattle.std.specs.Ordering.{match_ordering}
use Rattle.std.specs.Cmp.Lexicographic.{slice_cmp}
use Rattle.std.proofs.lemmas.Slice.Eq.{bytes_eq-Decides}
use Rattle.json.specs.Json as text
use Rattle.mint.specs.Values.{Val}
use Rattle.wire_def.specs.declared.encoding.Back.{Back}
use Rattle.wire_def.specs.declared.encoding.Back.TheVariants as back
use Rattle.pres.specs.declared.ops.Op.{Op}
use Rattle.pres.specs.Faces.{Face}
use Rattle.serde_json.specs.Data.{Data, Members, array, member, no_items, no_members, number, object, put, string, unsigned}
use Rattle.serde_json.specs.Find.{get, get_member}
use Rattle.serde_json.specs.Read.{of_json, of_members}
use Rattle.serde_json.proofs.Views.{get_member-put, get_member-put_other}
use Rattle.json_shape.specs.Members.{each_key, head_key, head_number, is_list, is_mach, is_text}
use Rattle.json_shape.specs.Presents.{Presents}
use Rattle.json_shape.specs.Requests.{head_of, is_idle_port, is_request, is_request_key}
use Rattle.json_shape.specs.Usual.{args_of, members_after, port_of, put_before, put_some, IsOnce, IsPresented, IsTree, IsWord}
use Rattle.json_shape.specs.UsualReplies.{set_some}
use Rattle.json_shape.proofs.ReadBack.{in_word}
use Rattle.wire_def.proofs.ScalarGrammar.{left_true, right_true}

-- ---- members that may be there

-- the next member of a text is set among those before it
pub set_next : (k : List ℕ) (o : Option text.Json) (d : Option Data) (ms : text.Members) (acc : Members) → IsTree o d
    → of_members (put_some k o ms) acc ≡ of_members ms (set_some k d acc)
set_next k None None ms acc h = refl
set_next k None (Some d) ms acc h = absurd h
set_next k (Some j) None ms acc h = absurd h
set_next k (Some j) (Some d) ms acc h = rw h refl

-- it is found by its key
pub found_set : (q : List ℕ) (o : Option Data) (ms : Members) → get_member q ms ≡ None → get_member q (set_some q o ms) ≡ o
found_set q None ms none = none
found_set q (Some d) ms none = get_member-put q d ms

-- other keys find what they found
pub found_past : (q k : List ℕ) (o : Option Data) (ms : Members) → bytes_eq q k ≡ false → get_member q (set_some k o ms) ≡ get_member q ms
found_past q k None ms other = refl
found_past q k (Some d) ms other =
    get_member-put_other q k d ms (λ e. let same : bytes_eq q k ≡ true = (bytes_eq-Decides q k).1 e in absurd cc)

keys_put : (p : List ℕ → Bool) (k : List ℕ) (d : Data) (ms : Members) → p k ≡ true → each_key p ms ≡ true → each_key p (put k d ms) ≡ true
keys_put p k d no_members is all = rw is refl
keys_put p k d (member l e ms) is all =
    step (slice_cmp nat_cmp k l) (keys_put p k d ms is (right_true (p l) (each_key p ms) all)) where
      step : (o : Ordering) → each_key p (put k d ms) ≡ true
          → each_key p (match_ordering o (member k d (member l e ms)) (member l d ms) (member l e (put k d ms))) ≡ true
      step Less more = rw is all
      step Equal more = all
      step Greater more = rw (left_true (p l) (each_key p ms) all) more

-- all keys are still of those
pub keys_set : (p : List ℕ → Bool) (k : List ℕ) (o : Option Data) (ms : Members) → p k ≡ true → each_key p ms ≡ true
    → each_key p (set_some k o ms) ≡ true
keys_set p k None ms is all = all
keys_set p k (Some d) ms is all = keys_put p k d ms is all

-- ---- the members of a request record

-- a member that stands before the operation or after it
abbrev pub later : Option Data → Option Data → Option Data
later before None = before
later before (Some d) = Some d

-- set where it stands, it is found by its key
pub found_later : (q : List ℕ) (before after : Option Data) (ms : Members) → get_member q ms ≡ before
    → get_member q (set_some q after ms) ≡ later before after
found_later q before None ms is = is
found_later q before (Some d) ms is = get_member-put q d ms

-- a member of a text that stands once, as trees before the operation and after it
pub record Parted (before after : Option text.Json) (d : Option Data) : Type 0 where
  pub trees : Option Data × Option Data
  pub alike_before : IsTree before trees.0
  pub alike_after : IsTree after trees.1
  pub is : later trees.0 trees.1 ≡ d

pub later_alone : (d : Option Data) → later None d ≡ d
later_alone None = refl
later_alone (Some d) = refl

pub parted : (before after o : Option text.Json) (d : Option Data) → IsOnce before after o → IsTree o d → Parted before after d
parted None after o d once alike = record {
  trees = (None, d);
  alike_before = tt;
  alike_after = subst (λ (x : Option text.Json). IsTree x d) once alike;
  is = later_alone d;
}
parted (Some j) None o d once alike = record {
  trees = (d, None);
  alike_before = subst (λ (x : Option text.Json). IsTree x d) once alike;
  alike_after = tt;
  is = refl;
}
parted (Some j) (Some i) o d once alike = absurd once

-- the members before the operation of a record
abbrev pub members_before : Back → Option Data × Option Data → Option Data × Option Data → Option Data × Option Data → Members
members_before k id local args =
    set_some (codes "local") local.0 (set_some (head_key k) id.0 (set_some (codes "args") args.0 no_members))

-- the members of a record whose operation is t
abbrev pub members_of : Back → List ℕ → Option Data × Option Data → Option Data × Option Data → Option Data × Option Data → Members
members_of k t id local args =
    set_some (codes "args") args.1
    (set_some (codes "local") local.1 (set_some (head_key k) id.1 (put (codes "op") (string t) (members_before k id local args))))

-- the tree of a record in a usual order
module _ (k : Back) (op : text.Json) (t : List ℕ) (i0 i1 l0 l1 a0 a1 : Option text.Json) (i l a : Option Data × Option Data)
    (is_op : of_json op ≡ Some (string t)) (i_before : IsTree i0 i.0) (i_after : IsTree i1 i.1)
    (l_before : IsTree (port_of k l0) l.0) (l_after : IsTree (port_of k l1) l.1)
    (a_before : IsTree a0 a.0) (a_after : IsTree a1 a.1)
  where
    -- the text from its operation on
    abbrev pub from_op : text.Members
    from_op = text.member (codes "op") op (members_after k i1 l1 a1)

    before_op : of_members (put_before k i0 l0 a0 from_op) no_members ≡ of_members from_op (members_before k i l a)
    before_op =
        set_next (codes "args") a0 a.0 _ no_members a_before ∙ set_next (head_key k) i0 i.0 _ _ i_before
        ∙ set_next (codes "local") (port_of k l0) l.0 from_op _ l_before

    after_op : of_members from_op (members_before k i l a) ≡ Some (members_of k t i l a)
    after_op =
        set_next (codes "op") (Some op) (Some (string t)) (members_after k i1 l1 a1) (members_before k i l a) is_op
        ∙ set_next (head_key k) i1 i.1 _ _ i_after ∙ set_next (codes "local") (port_of k l1) l.1 _ _ l_after
        ∙ set_next (codes "args") a1 a.1 text.no_members _ a_after

    pub usual_tree : of_json (text.object (put_before k i0 l0 a0 from_op)) ≡ Some (object (members_of k t i l a))
    usual_tree = ap (option_map object) (before_op ∙ after_op)

-- a key that is none of the others
abbrev IsApart : List ℕ → Type 0
IsApart h =
    (bytes_eq (codes "op") h ≡ false) × (bytes_eq (codes "local") h ≡ false) × (bytes_eq (codes "args") h ≡ false)
    × (bytes_eq h (codes "op") ≡ false) × (bytes_eq h (codes "local") ≡ false) × (bytes_eq h (codes "args") ≡ false)

head_apart : (k : Back) → IsApart (head_key k)
head_apart back.Xdr = (refl, refl, refl, refl, refl, refl)
head_apart back.CdrBig = (refl, refl, refl, refl, refl, refl)
head_apart back.CdrLittle = (refl, refl, refl, refl, refl, refl)
head_apart back.Mach = (refl, refl, refl, refl, refl, refl)

module _ (k : Back) (t : List ℕ) (i l a : Option Data × Option Data) where
  -- the operation among the members before it
  with_op : (q : List ℕ) → bytes_eq q (codes "op") ≡ false
      → get_member q (put (codes "op") (string t) (members_before k i l a)) ≡ get_member q (members_before k i l a)
  with_op q other = found_past q (codes "op") (Some (string t)) (members_before k i l a) other

  pub op_there : get (codes "op") (object (members_of k t i l a)) ≡ Some (string t)
  op_there =
      found_past (codes "op") (codes "args") a.1 _ refl ∙ found_past (codes "op") (codes "local") l.1 _ refl
      ∙ found_past (codes "op") (head_key k) i.1 _ (head_apart k).0 ∙ get_member-put (codes "op") (string t) (members_before k i l a)

  pub head_there : get (head_key k) (object (members_of k t i l a)) ≡ later i.0 i.1
  head_there =
      found_past (head_key k) (codes "args") a.1 _ (head_apart k).5 ∙ found_past (head_key k) (codes "local") l.1 _ (head_apart k).4
      ∙ found_later (head_key k) i.0 i.1 _
      (with_op (head_key k) (head_apart k).3 ∙ found_past (head_key k) (codes "local") l.0 _ (head_apart k).4
      ∙ found_set (head_key k) i.0 _ (found_past (head_key k) (codes "args") a.0 no_members (head_apart k).5))

  pub local_there : get (codes "local") (object (members_of k t i l a)) ≡ later l.0 l.1
  local_there =
      found_past (codes "local") (codes "args") a.1 _ refl
      ∙ found_later (codes "local") l.0 l.1 _
      (found_past (codes "local") (head_key k) i.1 _ (head_apart k).1 ∙ with_op (codes "local") refl
      ∙ found_set (codes "local") l.0 _
      (found_past (codes "local") (head_key k) i.0 _ (head_apart k).1 ∙ found_past (codes "local") (codes "args") a.0 no_members refl))

  pub args_there : get (codes "args") (object (members_of k t i l a)) ≡ later a.0 a.1
  args_there =
      found_later (codes "args") a.0 a.1 _
      (found_past (codes "args") (codes "local") l.1 _ refl ∙ found_past (codes "args") (head_key k) i.1 _ (head_apart k).2
      ∙ with_op (codes "args") refl ∙ found_past (codes "args") (codes "local") l.0 _ refl
      ∙ found_past (codes "args") (head_key k) i.0 _ (head_apart k).2 ∙ found_set (codes "args") a.0 no_members refl)

head_known : (k : Back) → is_request_key k (head_key k) ≡ true
head_known back.Xdr = refl
head_known back.CdrBig = refl
head_known back.CdrLittle = refl
head_known back.Mach = refl

absent : (d : Option Data) → IsTree None d → d ≡ None
absent None h = refl
absent (Some d) h = absurd h

local_known : (k : Back) (local : Option text.Json) (l : Option Data) (ms : Members) → IsTree (port_of k local) l
    → each_key (is_request_key k) ms ≡ true → each_key (is_request_key k) (set_some (codes "local") l ms) ≡ true
local_known back.Xdr local l ms h all = rw (absent l h) all
local_known back.CdrBig local l ms h all = rw (absent l h) all
local_known back.CdrLittle local l ms h all = rw (absent l h) all
local_known back.Mach local l ms h all = keys_set (is_request_key back.Mach) (codes "local") l ms refl all

all_true : (a b c d e : Bool) → a ≡ true → b ≡ true → c ≡ true → d ≡ true → e ≡ true → (a && b && c && d && e) ≡ true
all_true a b c d e p q r s t = rw (p, q, r, s, t) refl

-- these members are a request record
module _ (k : Back) (t : List ℕ) (l0 l1 : Option text.Json) (i l a : Option Data × Option Data)
    (before : IsTree (port_of k l0) l.0) (after : IsTree (port_of k l1) l.1) where
  known_before : each_key (is_request_key k) (members_before k i l a) ≡ true
  known_before =
      local_known k l0 l.0 _ before
      (keys_set (is_request_key k) (head_key k) i.0 _ (head_known k) (keys_set (is_request_key k) (codes "args") a.0 no_members refl refl))

  all_known : each_key (is_request_key k) (members_of k t i l a) ≡ true
  all_known =
      keys_set (is_request_key k) (codes "args") a.1 _ refl
      (local_known k l1 l.1 _ after
      (keys_set (is_request_key k) (head_key k) i.1 _ (head_known k)
      (keys_put (is_request_key k) (codes "op") (string t) (members_before k i l a) refl known_before)))

  pub is_usual : (n m : ℕ) → head_number (later i.0 i.1) ≡ Some n → head_number (later l.0 l.1) ≡ Some m → is_list (later a.0 a.1) ≡ true
      → is_request k (object (members_of k t i l a)) ≡ true
  is_usual n m word port listed =
      all_true _ _ _ _ _ all_known
      (ap is_text (op_there k t i l a)) (ap is_list (args_there k t i l a) ∙ listed)
      (ap (λ o. is_some (head_number o)) (head_there k t i l a) ∙ ap is_some word)
      (ap (λ o. is_some (head_number o)) (local_there k t i l a) ∙ ap is_some port)

-- ---- what the members are

-- a head number in a tree
pub record WordTree (o : Option text.Json) (n : ℕ) : Type 0 where
  pub tree : Option Data
  pub alike : IsTree o tree
  pub number : head_number tree ≡ Some n

pub word_tree : (o : Option text.Json) (n : ℕ) → n < 2 ^ 32 → IsWord o n → WordTree o n
word_tree None n small is = record { tree = None; alike = tt; number = ap Some (sym is) }
word_tree (Some j) n small is = record { tree = Some (number (unsigned n)); alike = is; number = in_word n small }

-- the number of a port, which is 0 but over Mach
abbrev pub port_number : Back → ℕ → ℕ
port_number k n = if is_mach k then n else 0

pub port_tree : (k : Back) (local : Option text.Json) (n : ℕ) → n < 2 ^ 32 → IsWord local n → WordTree (port_of k local) (port_number k n)
port_tree back.Xdr local n small is = record { tree = None; alike = tt; number = refl }
port_tree back.CdrBig local n small is = record { tree = None; alike = tt; number = refl }
port_tree back.CdrLittle local n small is = record { tree = None; alike = tt; number = refl }
port_tree back.Mach local n small is = word_tree local n small is

-- the second head number stands once over Mach, and nowhere else
pub port_once : (k : Back) (before after o : Option text.Json) → IsOnce before after o
    → IsOnce (port_of k before) (port_of k after) (port_of k o)
port_once back.Xdr before after o once = refl
port_once back.CdrBig before after o once = refl
port_once back.CdrLittle before after o once = refl
port_once back.Mach before after o once = once

-- a head has this number of a port
pub port_kept : (k : Back) (n m : ℕ) (wants : Bool) → head_of k n (port_number k m) wants ≡ head_of k n m wants
port_kept back.Xdr n m wants = refl
port_kept back.CdrBig n m wants = refl
port_kept back.CdrLittle n m wants = refl
port_kept back.Mach n m wants = refl

-- where a port is not idle, no reply is missing
pub port_answered : (k : Back) (o : Op) (m : ℕ) → is_idle_port o m ≡ false → (is_mach k && is_idle_port o (port_number k m)) ≡ false
port_answered back.Xdr o m idle = refl
port_answered back.CdrBig o m idle = refl
port_answered back.CdrLittle o m idle = refl
port_answered back.Mach o m idle = idle

-- arguments in a tree
pub record ArgsTree (o : Option text.Json) (f : Face) (v : Val) : Type 0 where
  pub tree : Option Data
  pub alike : IsTree o tree
  pub listed : is_list tree ≡ true
  pub presents : Presents f (unwrap_or tree (array no_items)) v

pub args_tree : (o : Option text.Json) (f : Face) (v : Val) → IsPresented (args_of o) f v → ArgsTree o f v
args_tree None f v is =
    let same : is.tree ≡ array no_items = let there : Some (array no_items) ≡ Some is.tree = is.is in cc in
    record { tree = None; alike = tt; listed = refl; presents = subst (λ (d : Data). Presents f d v) same is.presents }
args_tree (Some j) f v is = record { tree = Some is.tree; alike = is.is; listed = is.listed; presents = is.presents }
