-- Members that may be there, read one after the other, by induction on them.
use Rattle.std.proofs.Common.{◌≡◌, ℕ, ◌≤◌, max, List, [], ◌∷◌, ◌++◌, Bool, true, false, Option, Some, None, bytes_eq, option_map, refl, sym, ap, ◌∙◌, arith, subst, codes}
use Rattle.std.specs.Prelude.{if◌then◌else◌}
use Rattle.std.proofs.lemmas.Slice.Eq.{bytes_eq-Decides}
use Rattle.json.specs.Json as text
use Rattle.json.specs.Token.{Token, key}
use Rattle.json.specs.Token as token
use Rattle.json.specs.Tree.{depth, json_tokens, members_depth, members_tokens}
use Rattle.wire_def.specs.declared.encoding.Back.{Back}
use Rattle.serde_json.specs.Data.{Data, Members, put, string}
use Rattle.serde_json.specs.Find.{get_member}
use Rattle.serde_json.specs.Read.{of_json, of_members}
use Rattle.serde_json.proofs.Views.{get_member-put}
use Rattle.json_shape.specs.Members.{each_key}
use Rattle.json_shape.specs.Replies.{is_reply_key, word}
use Rattle.json_shape.specs.Usual.{put_some, some_tokens, IsFlat, IsNumber, IsTree, Reads, WordTaken}
use Rattle.json_shape.specs.UsualReplies.{set_all, set_some, AreKnown, AreTaken, MemberTaken, Named, NestsIn}
use Rattle.json_shape.proofs.UsualMembers.{found_past, keys_set, later, set_next}
use Rattle.json_shape.proofs.UsualRecords.{member_first}

-- ---- what was taken

-- the members of a text, and the trees that they are
pub record Whole (d : ℕ) (ms : Named) (old new : List Token) : Type 0 where
  pub members : text.Members
  pub takes : old ≡ members_tokens members ++ new
  pub nests : members_depth members ≤ d
  pub are : (acc : Members) → of_members members acc ≡ Some (set_all ms acc)

nests_more : (d : ℕ) (k : List ℕ) (o : Option text.Json) (ms : text.Members) → NestsIn d o → members_depth ms ≤ d
    → members_depth (put_some k o ms) ≤ d
nests_more d k None ms one h = h
nests_more d k (Some j) ms one h = omega (arith, one, h)

pub whole : (d : ℕ) (ms : Named) (old new : List Token) → AreTaken d ms old new → Whole d ms old new
whole d [] old new h = record { members = text.no_members; takes = h; nests = omega arith; are = λ acc. refl }
whole d (m ∷ ms) old new h =
    let rest = whole d ms h.0 new h.2 in
    record {
      members = put_some m.0 h.1.member rest.members;
      takes = h.1.takes ∙ ap (λ (ts : List Token). some_tokens m.0 h.1.member ++ ts) rest.takes
          ∙ member_first m.0 h.1.member rest.members new;
      nests = nests_more d m.0 h.1.member rest.members h.1.nests rest.nests;
      are = λ acc. set_next m.0 h.1.member m.1 rest.members acc h.1.is ∙ rest.are (set_some m.0 m.1 acc);
    }

flat_nests : (d : ℕ) (o : Option text.Json) → IsFlat o → NestsIn d o
flat_nests d None h = tt
flat_nests d (Some j) h = omega (arith, h)

number_tree : (o : Option text.Json) (n : Option ℕ) → IsNumber o n → IsTree o (option_map word n)
number_tree None None h = tt
number_tree None (Some n) h = absurd h
number_tree (Some j) None h = absurd h
number_tree (Some j) (Some n) h = h.0

-- a head number
pub word_member : (d : ℕ) (k : List ℕ) (old new : List Token) (n : Option ℕ) → WordTaken k old new n
    → MemberTaken d k old new (option_map word n)
word_member d k old new n h = record {
  member = h.member;
  takes = h.takes;
  nests = flat_nests d h.member h.flat;
  is = number_tree h.member n h.is;
}

-- a string
pub text_member : (d : ℕ) (k t : List ℕ) (old new : List Token) → old ≡ key k ∷ token.string t ∷ new
    → MemberTaken d k old new (Some (string t))
text_member d k t old new same = record { member = Some (text.string t); takes = same; nests = omega arith; is = refl }

-- a member that is absent
pub absent_member : (d : ℕ) (k : List ℕ) (ts : List Token) → MemberTaken d k ts ts None
absent_member d k ts = record { member = None; takes = refl; nests = tt; is = tt }

-- a tree of text with its key
pub tree_member : {X : Type 0} → (d : ℕ) (k : List ℕ) (old now past new : List Token) (f : Data → Option X) (x : X) → old ≡ key k ∷ now
    → (h : Reads d now past f x) → past ≡ new
    → MemberTaken d k old new (Some h.read.tree)
tree_member d k old now past new f x begins h same = record {
  member = Some h.source;
  takes = begins ∙ ap (λ (ts : List Token). key k ∷ ts) (h.takes ∙ ap (λ (ts : List Token). json_tokens h.source ++ ts) same);
  nests = h.nests;
  is = h.read.is;
}

-- ---- what is found

-- the last member with a key, and where there is none what was there before
abbrev pub found : List ℕ → Named → Option Data → Option Data
found q [] o = o
found q (m ∷ ms) o = found q ms (if bytes_eq q m.0 then later o m.1 else o)

same_either : (b : Bool) (o : Option Data) → o ≡ (if b then o else o)
same_either true o = refl
same_either false o = refl

got_some : (q k : List ℕ) (d : Data) (ms : Members) (b : Bool) → bytes_eq q k ≡ b
    → get_member q (put k d ms) ≡ (if b then Some d else get_member q ms)
got_some q k d ms true same =
    subst (λ (x : List ℕ). get_member q (put x d ms) ≡ Some d) ((bytes_eq-Decides q k).0 same) (get_member-put q d ms)
got_some q k d ms false other = found_past q k (Some d) ms other

got_one : (q k : List ℕ) (o : Option Data) (ms : Members)
    → get_member q (set_some k o ms) ≡ (if bytes_eq q k then later (get_member q ms) o else get_member q ms)
got_one q k None ms = same_either (bytes_eq q k) (get_member q ms)
got_one q k (Some d) ms = got_some q k d ms (bytes_eq q k) refl

-- a member is found by its key
pub got : (q : List ℕ) (ms : Named) (acc : Members) → get_member q (set_all ms acc) ≡ found q ms (get_member q acc)
got q [] acc = refl
got q (m ∷ ms) acc = got q ms (set_some m.0 m.1 acc) ∙ ap (found q ms) (got_one q m.0 m.1 acc)

later_step : (b : Bool) (o a x : Option Data)
    → later (if b then later o a else o) x ≡ later o (later (if b then later None a else None) x)
later_step b o a (Some d) = refl
later_step true o None None = refl
later_step true o (Some e) None = refl
later_step false o a None = refl

-- what was there before is behind what is found
pub found_after : (q : List ℕ) (ms : Named) (o : Option Data) → found q ms o ≡ later o (found q ms None)
found_after q [] o = refl
found_after q (m ∷ ms) o =
    found_after q ms (if bytes_eq q m.0 then later o m.1 else o) ∙ later_step (bytes_eq q m.0) o m.1 (found q ms None)
    ∙ ap (later o) (sym (found_after q ms (if bytes_eq q m.0 then later None m.1 else None)))

-- all keys are known
pub keys_all : (k : Back) (ms : Named) (acc : Members) → AreKnown k ms → each_key (is_reply_key k) acc ≡ true
    → each_key (is_reply_key k) (set_all ms acc) ≡ true
keys_all k [] acc known all = all
keys_all k (m ∷ ms) acc known all = keys_all k ms (set_some m.0 m.1 acc) known.1 (keys_set (is_reply_key k) m.0 m.1 acc known.0 all)
