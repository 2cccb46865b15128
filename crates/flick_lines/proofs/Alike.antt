-- Lines are answered the same over bindings of one unit over one back end; by `count` where the code is the same.
use Rattle.std.proofs.Common.{◌≡◌, ℕ, List, length, refl, ap, ◌∙◌}
use Rattle.hex.specs.Hex.{decode_of}
use Rattle.pres.specs.Bindings.{Binding}
use Rattle.stub_codes.specs.declared.stub.Stub.{Stub}
use Rattle.stub_codes.specs.Stubs.{Coded}
use Rattle.flick_engine.specs.Messages.{message}
use Rattle.flick_engine.specs.Replies.{reply_message}
use Rattle.flick_lines.specs.declared.verb.Verb.{Verb}
use Rattle.flick_lines.specs.declared.verb.Verb.TheVariants.{Marshal, Unmarshal, Reply, Unreply, Count}
use Rattle.flick_lines.specs.Counted.{call_counted, counted_of, counts_of}
use Rattle.flick_lines.specs.Marshalled.{call_digits, digits_of, reply_digits, tree_of}
use Rattle.flick_lines.specs.Verbs.{IsAnswerTo}
use Rattle.flick_lines.proofs.Twins.{AreTwins, message_alike, reply_message_alike}
use Rattle.flick_lines.proofs.TwinMessages.{calls_over, unreplied_over}
use Rattle.flick_lines.proofs.TwinRecords.{AreSaid, requests_over, replies_over}

-- ---- texts

calls_said : (b c : Binding) (m n : ℕ) → AreTwins b c → m ≡ n → AreSaid (length b.ops) (call_digits b m) (call_digits c n)
calls_said b c m n t same op below h v =
    ap digits_of (message_alike b c t m op below h v ∙ ap (λ (k : ℕ). message c k op h v) same)

replies_said : (b c : Binding) (m n : ℕ) → AreTwins b c → m ≡ n → AreSaid (length b.ops) (reply_digits b m) (reply_digits c n)
replies_said b c m n t same op below h v =
    ap digits_of (reply_message_alike b c t m op below h v ∙ ap (λ (k : ℕ). reply_message c k op h v) same)

counted_said : (c d : Coded) → AreTwins c.binding d.binding → c.minor ≡ d.minor → c.stubs ≡ d.stubs
    → AreSaid (length c.binding.ops) (call_counted c) (call_counted d)
counted_said c d t minors code op below h v =
    ap (λ (m : List ℕ). counted_of m (counts_of c.stubs op h v))
    (message_alike c.binding d.binding t c.minor op below h v ∙ ap (λ (k : ℕ). message d.binding k op h v) minors)
    ∙ ap (λ (s : List Stub). counted_of (message d.binding d.minor op h v) (counts_of s op h v)) code

-- ---- lines

pub answer_over : (verb : Verb) (c d : Coded) → AreTwins c.binding d.binding → c.minor ≡ d.minor → (verb ≡ Count → c.stubs ≡ d.stubs)
    → (octets a : List ℕ) → IsAnswerTo verb c octets a → IsAnswerTo verb d octets a
answer_over Marshal c d t minors code octets a h =
    requests_over c.binding d.binding t (call_digits c.binding c.minor) (call_digits d.binding d.minor)
    (calls_said c.binding d.binding c.minor d.minor t minors)
    (tree_of octets) a h
answer_over Unmarshal c d t minors code octets a h = calls_over c.binding d.binding t (decode_of octets) a h
answer_over Reply c d t minors code octets a h =
    replies_over c.binding d.binding t (reply_digits c.binding c.minor) (reply_digits d.binding d.minor)
    (replies_said c.binding d.binding c.minor d.minor t minors)
    (tree_of octets) a h
answer_over Unreply c d t minors code octets a h = unreplied_over c.binding d.binding t octets a h
answer_over Count c d t minors code octets a h =
    requests_over c.binding d.binding t (call_counted c) (call_counted d) (counted_said c d t minors (code refl)) (tree_of octets) a h
