-- Each line has an answer.
use Rattle.std.proofs.Common.{◌≡◌, ◌⊎◌, inl, inr, ℕ, pos, List, Bool, true, false, take, drop, Result, Ok, Err, Option, Some, None, refl, map}
use Rattle.std.specs.Prelude.{◌+◌, ◌==◌, codes, slice_index_or, unwrap_or, if◌then◌else◌}
use Rattle.std.specs.List.{position}
use Rattle.std.specs.Ordering.{int_eq}
use Rattle.hex.specs.Hex.{decode_of}
use Rattle.hex.specs.declared.error.FromHexError.{FromHexError}
use Rattle.hex.proofs.HexLemmas.{decode_of-ok}
use Rattle.mint.specs.Sound.{IsSound, ArmsSound}
use Rattle.mint.specs.Types.{Scalar, Ty, void_type, choice_type, Arms, no_other, others, arm_type as arm_of, type_at}
use Rattle.pres.specs.declared.ops.Op.{Op}
use Rattle.pres.specs.Bindings.{Binding}
use Rattle.serde_json.specs.Data.{Data}
use Rattle.wire_def.specs.Grammar.{AreOctets}
use Rattle.head_kit.proofs.Exact.{all_octets}
use Rattle.json_shape.specs.declared.errors.RecordErr.{RecordErr}
use Rattle.json_shape.specs.declared.errors.RecordErr.TheVariants as errors
use Rattle.json_shape.specs.Laws.{IsPresented}
use Rattle.json_shape.specs.Operations.{replying}
use Rattle.json_shape.specs.Records.{Begun}
use Rattle.json_shape.specs.Replies.{reply_of}
use Rattle.json_shape.specs.Requests.{request_of}
use Rattle.json_shape.proofs.Deciding.{value_or_none}
use Rattle.flick_engine.specs.declared.errors.MessageErr.{MessageErr}
use Rattle.flick_engine.proofs.Existing.{something}
use Rattle.flick_engine.proofs.ExistingReplies.{something_reply}
use Rattle.flick_engine.specs.Messages.{request_type}
use Rattle.flick_engine.specs.Received.{ReadCall}
use Rattle.flick_engine.specs.Replies.{reply_type, arm_type_in, arm_type}
use Rattle.flick_engine.specs.RepliesReceived.{ReadReply}
use Rattle.stub_codes.specs.Stubs.{Coded}
use Rattle.flick_lines.specs.declared.verb.Verb.{Verb}
use Rattle.flick_lines.specs.declared.verb.Verb.TheVariants.{Marshal, Unmarshal, Reply, Unreply, Count}
use Rattle.flick_lines.specs.Counted.{call_counted}
use Rattle.flick_lines.specs.Marshalled.{record_refusal, call_digits, reply_digits, Beginning, Texts, IsMessage, IsOfRecord, IsOfTree, tree_of}
use Rattle.flick_lines.specs.Unmarshalled.{answer_text, request_text, reply_text, IsOfOctets, IsOfReply, IsParted}
use Rattle.flick_lines.specs.Verbs.{IsAnswerTo}

-- a binding that messages are made of: the types of its requests and replies are sound
pub record IsFit (b : Binding) : Type 0 where
  pub requests : (op : ℕ) → IsSound (request_type b op)
  pub replies : (op k : ℕ) → IsSound (arm_type b op k)

-- ---- records

message_has : (m : Texts) (r : Begun) → IsPresented r.face r.tree ⊎ (IsPresented r.face r.tree → ⊥)
    → (a : List ℕ) × IsMessage m r a
message_has m r (inl (v, p)) = (m r.op r.head v, inl (v, p, refl))
message_has m r (inr none) = (record_refusal errors.Shape, inr ((λ v p. none (v, p)), refl))

record_has : (m : Texts) (r : Result Begun RecordErr) → (a : List ℕ) × IsOfRecord m r a
record_has m (Err e) = (record_refusal e, refl)
record_has m (Ok r) = message_has m r (value_or_none r.face r.tree)

tree_has : (begun : Beginning) (m : Texts) (tree : Option Data) → (a : List ℕ) × IsOfTree begun m tree a
tree_has begun m None = (codes "! json", refl)
tree_has begun m (Some tree) = record_has m (begun tree)

-- ---- messages

-- octets are something
abbrev Reads : {R : Type 0} → (List ℕ → Result R MessageErr → Type 0) → Type 0
Reads {R} Is = (o : List ℕ) → AreOctets o → (x : Result R MessageErr) × Is o x

octets_have : {R : Type 0} (Is : List ℕ → Result R MessageErr → Type 0) (text : R → List ℕ) → Reads Is
    → (line : List ℕ) (o : Result (List ℕ) FromHexError) → decode_of line ≡ o → (a : List ℕ) × IsOfOctets Is text o a
octets_have Is text reads line (Err e) is = (codes "! hex", refl)
octets_have Is text reads line (Ok o) is =
    let (x, read) = reads o (all_octets o (decode_of-ok line o is).3) in
    (answer_text text x, (x, read, refl))

reply_has : (b : Binding) → IsFit b → (k : Option ℕ) (digits : List ℕ) → (a : List ℕ) × IsOfReply b k digits a
reply_has b fit None digits = (record_refusal errors.Op, refl)
reply_has b fit (Some k) digits =
    octets_have (ReadReply b k) (reply_text b k) (something_reply b k (fit.replies k)) digits (decode_of digits) refl

parted_has : (b : Binding) → IsFit b → (line : List ℕ) (n : Option ℕ) → (a : List ℕ) × IsParted b line n a
parted_has b fit line None = (record_refusal errors.Request, refl)
parted_has b fit line (Some n) = reply_has b fit (replying b (take n line)) (drop (n + 1) line)

-- ---- lines

pub text_has : (c : Coded) → IsFit c.binding → (v : Verb) (octets : List ℕ) → (a : List ℕ) × IsAnswerTo v c octets a
text_has c fit Marshal octets = tree_has (request_of c.binding) (call_digits c.binding c.minor) (tree_of octets)
text_has c fit Unmarshal octets =
    octets_have (ReadCall c.binding) (request_text c.binding) (something c.binding fit.requests) octets (decode_of octets) refl
text_has c fit Reply octets = tree_has (reply_of c.binding) (reply_digits c.binding c.minor) (tree_of octets)
text_has c fit Unreply octets = parted_has c.binding fit octets (position (λ o. o == 32) octets)
text_has c fit Count octets = tree_has (request_of c.binding) (call_counted c) (tree_of octets)

-- ---- the types of a binding

-- the type of an arm, or of none
if_sound : (t : Bool) (x y : Option Ty) → IsSound (unwrap_or x void_type) → IsSound (unwrap_or y void_type)
    → IsSound (unwrap_or (if t then x else y) void_type)
if_sound true x y p q = p
if_sound false x y p q = q

arm_sound : (s : Scalar) (arms : Arms) (k : ℕ) → ArmsSound arms → IsSound (unwrap_or (arm_type_in (choice_type s arms) k) void_type)
arm_sound s no_other k h = refl
arm_sound s (others t) k h = h
arm_sound s (arm_of m t arms) k h =
    if_sound (int_eq (pos k) m) (Some t) (arm_type_in (choice_type s arms) k) h.0 (arm_sound s arms k h.1)

in_sound : (t : Ty) (k : ℕ) → IsSound t → IsSound (unwrap_or (arm_type_in t k) void_type)
in_sound (choice_type s arms) k h = arm_sound s arms k h.1
in_sound _ k h = refl

-- the types of a binding's table are sound, and so are those of its requests and replies
pub all_fit : (b : Binding) → ((id : ℕ) → IsSound (type_at b.nodes id)) → IsFit b
all_fit b sound = record {
  requests = λ op. sound (slice_index_or (map (λ (o : Op). o.request) b.ops) op 0);
  replies = λ op k. in_sound (reply_type b op) k (sound (slice_index_or (map (λ (o : Op). o.reply) b.ops) op 0));
}
