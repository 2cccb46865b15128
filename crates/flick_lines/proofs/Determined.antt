-- A line has one answer.
use Rattle.std.proofs.Common.{◌≡◌, inl, inr, ℕ, List, take, drop, Result, Ok, Err, Option, Some, None, sym, ◌∙◌, ap}
use Rattle.std.specs.Prelude.{◌+◌, ◌==◌}
use Rattle.std.specs.List.{position}
use Rattle.hex.specs.Hex.{decode_of}
use Rattle.hex.specs.declared.error.FromHexError.{FromHexError}
use Rattle.mint.specs.Values.{Val}
use Rattle.pres.specs.Bindings.{Binding}
use Rattle.serde_json.specs.Data.{Data}
use Rattle.json_shape.specs.declared.errors.RecordErr.{RecordErr}
use Rattle.json_shape.specs.Operations.{replying}
use Rattle.json_shape.specs.Records.{Begun}
use Rattle.json_shape.specs.Replies.{reply_of}
use Rattle.json_shape.specs.Requests.{request_of}
use Rattle.json_shape.proofs.Options.{one_some}
use Rattle.json_shape.proofs.Shown.{shown}
use Rattle.flick_engine.proofs.Deciding.{determined}
use Rattle.flick_engine.proofs.DecidingReplies.{determined_reply}
use Rattle.flick_engine.specs.declared.errors.MessageErr.{MessageErr}
use Rattle.flick_engine.specs.Received.{ReadCall}
use Rattle.flick_engine.specs.RepliesReceived.{ReadReply}
use Rattle.stub_codes.specs.Stubs.{Coded}
use Rattle.flick_lines.specs.declared.verb.Verb.{Verb}
use Rattle.flick_lines.specs.declared.verb.Verb.TheVariants.{Marshal, Unmarshal, Reply, Unreply, Count}
use Rattle.flick_lines.specs.Counted.{call_counted}
use Rattle.flick_lines.specs.Marshalled.{call_digits, reply_digits, Beginning, Texts, IsMessage, IsOfRecord, IsOfTree, tree_of}
use Rattle.flick_lines.specs.Unmarshalled.{answer_text, request_text, reply_text, IsOfOctets, IsOfReply, IsParted}
use Rattle.flick_lines.specs.Verbs.{IsAnswerTo}

-- ---- records

one_message : (m : Texts) (r : Begun) (x y : List ℕ) → IsMessage m r x → IsMessage m r y → x ≡ y
one_message m r x y (inl (v, p, e)) (inl (w, q, f)) =
    let same : v ≡ w = one_some v w (sym (shown r.face r.tree v p.shows) ∙ shown r.face r.tree w q.shows) in
    e ∙ ap (λ (u : Val). m r.op r.head u) same ∙ sym f
one_message m r x y (inl (v, p, e)) (inr (none, f)) = absurd (none v p)
one_message m r x y (inr (none, e)) (inl (w, q, f)) = absurd (none w q)
one_message m r x y (inr (none, e)) (inr (more, f)) = e ∙ sym f

one_of_record : (m : Texts) (r : Result Begun RecordErr) (x y : List ℕ) → IsOfRecord m r x → IsOfRecord m r y → x ≡ y
one_of_record m (Err e) x y p q = p ∙ sym q
one_of_record m (Ok r) x y p q = one_message m r x y p q

one_of_tree : (begun : Beginning) (m : Texts) (tree : Option Data) (x y : List ℕ)
    → IsOfTree begun m tree x → IsOfTree begun m tree y → x ≡ y
one_of_tree begun m None x y p q = p ∙ sym q
one_of_tree begun m (Some tree) x y p q = one_of_record m (begun tree) x y p q

-- ---- messages

-- octets are one thing
abbrev AreOne : {R : Type 0} → (List ℕ → Result R MessageErr → Type 0) → Type 0
AreOne {R} Is = (o : List ℕ) (x y : Result R MessageErr) → Is o x → Is o y → x ≡ y

one_of_octets : {R : Type 0} (Is : List ℕ → Result R MessageErr → Type 0) (text : R → List ℕ) → AreOne Is
    → (o : Result (List ℕ) FromHexError) (x y : List ℕ) → IsOfOctets Is text o x → IsOfOctets Is text o y → x ≡ y
one_of_octets Is text one (Err e) x y p q = p ∙ sym q
one_of_octets Is text one (Ok o) x y (v, p, e) (w, q, f) = e ∙ ap (answer_text text) (one o v w p q) ∙ sym f

one_of_reply : (b : Binding) (k : Option ℕ) (digits x y : List ℕ) → IsOfReply b k digits x → IsOfReply b k digits y → x ≡ y
one_of_reply b None digits x y p q = p ∙ sym q
one_of_reply b (Some k) digits x y p q =
    one_of_octets (ReadReply b k) (reply_text b k) (determined_reply b k) (decode_of digits) x y p q

one_parted : (b : Binding) (line : List ℕ) (n : Option ℕ) (x y : List ℕ) → IsParted b line n x → IsParted b line n y → x ≡ y
one_parted b line None x y p q = p ∙ sym q
one_parted b line (Some n) x y p q = one_of_reply b (replying b (take n line)) (drop (n + 1) line) x y p q

-- ---- lines

pub one_to : (v : Verb) (c : Coded) (octets x y : List ℕ) → IsAnswerTo v c octets x → IsAnswerTo v c octets y → x ≡ y
one_to Marshal c octets x y p q = one_of_tree (request_of c.binding) (call_digits c.binding c.minor) (tree_of octets) x y p q
one_to Unmarshal c octets x y p q =
    one_of_octets (ReadCall c.binding) (request_text c.binding) (determined c.binding) (decode_of octets) x y p q
one_to Reply c octets x y p q = one_of_tree (reply_of c.binding) (reply_digits c.binding c.minor) (tree_of octets) x y p q
one_to Unreply c octets x y p q = one_parted c.binding octets (position (λ o. o == 32) octets) x y p q
one_to Count c octets x y p q = one_of_tree (request_of c.binding) (call_counted c) (tree_of octets) x y p q
