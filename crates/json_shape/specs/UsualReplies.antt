-- What is read of tokens of reply records, where they are in the usual form.
use Rattle.std.specs.Prelude.{◌≡◌, ◌≤◌, ◌<◌, ◌^◌, ◌++◌, ℕ, ℤ, List, [], ◌∷◌, Bool, true, Option, Some, None, is_some, option_map, unwrap_or, if◌then◌else◌, codes, IfSome}
use Rattle.json.specs.Json as text
use Rattle.json.specs.Token.{Token, end_object}
use Rattle.json.specs.Tree.{depth}
use Rattle.mint.specs.declared.value.Value.{Value}
use Rattle.mint.specs.Values.{Val, Vals, val, all_seen, seen}
use Rattle.wire_def.specs.declared.encoding.Back.{Back}
use Rattle.aoi.specs.Plain.{PlainRaise}
use Rattle.pres.specs.Faces.{Face}
use Rattle.serde_json.specs.Data.{Data, Items, Members, array, item, no_items, no_members, object, put}
use Rattle.serde_json.specs.Data as json
use Rattle.serde_json.specs.Find.{get}
use Rattle.json_shape.specs.Members.{any_at, head_key, list_at}
use Rattle.json_shape.specs.Reading.{value_of}
use Rattle.json_shape.specs.Replies.{is_given, is_raised, is_reply_key, items_of, reply_tree, word}
use Rattle.json_shape.specs.Usual.{some_tokens, IsTree, ItemsTaken}

-- a member that may be there nests no deeper than d
abbrev pub NestsIn : ℕ → Option text.Json → Type 0
NestsIn d None = Unit {0}
NestsIn d (Some j) = depth j ≤ d

-- from `old` to `new` there are the tokens of a member that may be there, which is a tree
pub record MemberTaken (d : ℕ) (k : List ℕ) (old new : List Token) (tree : Option Data) : Type 0 where
  pub member : Option text.Json
  pub takes : old ≡ some_tokens k member ++ new
  pub nests : NestsIn d member
  pub is : IsTree member tree

-- members that may be there, by their keys
abbrev pub Named : Type 0
Named = List (List ℕ × Option Data)

-- from `old` to `new` there are the tokens of members that may be there, and of the end of their object
abbrev pub AreTaken : ℕ → Named → List Token → List Token → Type 0
AreTaken d [] old new = old ≡ end_object ∷ new
AreTaken d (m ∷ ms) old new = (now : List Token) × MemberTaken d m.0 old now m.1 × AreTaken d ms now new

-- a member among others, where it is there
abbrev pub set_some : List ℕ → Option Data → Members → Members
set_some k None ms = ms
set_some k (Some d) ms = put k d ms

-- members among others, one after the other
abbrev pub set_all : Named → Members → Members
set_all [] ms = ms
set_all (m ∷ more) ms = set_all more (set_some m.0 m.1 ms)

-- the object of members
abbrev pub object_of : Named → Data
object_of ms = object (set_all ms no_members)

-- from `old` to `new` there are the tokens of the result, or it is absent: a value
pub record ResultTaken (d : ℕ) (old new : List Token) (f : Face) (v : Val) : Type 0 where
  pub tree : Option Data
  pub taken : MemberTaken d (codes "result") old new tree
  pub gives : value_of f (unwrap_or tree json.null) ≡ Some v

-- the same of the parameters that come out, whose values follow a first one
pub record OutsTaken (d : ℕ) (old new : List Token) (f : Items → Option Vals) (first : Value) (vs : List Value) : Type 0 where
  pub tree : Option Data
  pub taken : MemberTaken d (codes "outs") old new tree
  pub items : Items
  pub are : unwrap_or tree (array no_items) ≡ array items
  pub outs : List Value
  pub is : vs ≡ first ∷ outs
  pub gives : f items ≡ Some (all_seen outs)

-- from `old` to `new` there are the tokens of items and of the end of their array, whose values follow a first one
pub record ItemsOf (d : ℕ) (old new : List Token) (f : Items → Option Vals) (first : Value) (vs : List Value) : Type 0 where
  pub outs : List Value
  pub is : vs ≡ first ∷ outs
  pub taken : ItemsTaken d old new f (all_seen outs)

-- the keys of members are those of a reply record
abbrev pub AreKnown : Back → Named → Type 0
AreKnown k [] = Unit {0}
AreKnown k (m ∷ ms) = (is_reply_key k m.0 ≡ true) × AreKnown k ms

-- the members of a reply record but the operation, with a head number that may be there
pub record IsPart (k : Back) (ms : Named) (n : Option ℕ) : Type 0 where
  pub known : AreKnown k ms
  pub no_op : get (codes "op") (object_of ms) ≡ None
  pub head : get (head_key k) (object_of ms) ≡ option_map word n
  pub small : IfSome n (λ x. x < 2 ^ 32)

-- such members that give an answer of the result and of what comes out, of which f gives x
pub record GivenBy {X : Type 0} (d : ℕ) (k : Back) (old new : List Token) (f : Items → Option X) (n : Option ℕ) (x : X) : Type 0 where
  pub members : Named
  pub taken : AreTaken d members old new
  pub part : IsPart k members n
  pub unraised : get (codes "raise") (object_of members) ≡ None
  pub given : is_given (object_of members) ≡ true
  pub gives : f (item (any_at (codes "result") (object_of members)) (items_of (list_at (codes "outs") (object_of members)))) ≡ Some x

-- the same of values
abbrev pub GivenTaken : ℕ → Back → List Token → List Token → (Items → Option Vals) → Option ℕ → List Value → Type 0
GivenTaken d k old new f n vs = GivenBy d k old new f n (all_seen vs)

-- the same of one value, of the array of them
abbrev pub InnerTaken : ℕ → Back → List Token → List Token → Face → Option ℕ → Val → Type 0
InnerTaken d k old new f n v = GivenBy d k old new (λ js. value_of f (array js)) n v

-- such members that give the value of a reply
pub record AnswerTaken (d : ℕ) (k : Back) (rs : List PlainRaise) (old new : List Token) (f : Face) (n : Option ℕ) (v : Val) : Type 0 where
  pub members : Named
  pub taken : AreTaken d members old new
  pub part : IsPart k members n
  pub answers : (if is_some (get (codes "raise") (object_of members)) then is_raised (object_of members)
      else is_given (object_of members)) ≡ true
  pub tree : Data
  pub is : reply_tree rs (object_of members) ≡ Some tree
  pub gives : value_of f tree ≡ Some v
