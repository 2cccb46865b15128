-- What is sent of a line is what its answer makes of the buffer, and what is sent one after the other adds up.
use Rattle.std.proofs.Common.{◌≡◌, inl, inr, ℕ, ◌+◌, ◌≤◌, Bool, true, false, List, [], ◌∷◌, length, Option, Some, None, Result, Ok, Err, refl, sym, ap, ◌∙◌, subst, arith}
use Rattle.std.specs.Prelude.{◌⊎◌, IfSome, OnOk, if◌then◌else◌, nat_le, option_map}
use Rattle.std.proofs.lemmas.Bool.{leb-true, leb-false}
use Rattle.kit_base.specs.Causes.{raised}
use Rattle.kit_base.specs.Limits.{longest_message}
use Rattle.mint.specs.Values.{Val}
use Rattle.wire_def.specs.declared.head.Head.{Head}
use Rattle.raw_buf.specs.declared.tally.Tally.{Tally}
use Rattle.raw_buf.specs.Buf.{Buf, NoneFell}
use Rattle.raw_buf.proofs.Standing.{none_fell-refl}
use Rattle.cast_stub.specs.Meaning.{Cost, no_cost, sum}
use Rattle.stub_machine.specs.Sending.{paid}
use Rattle.stub_codes.specs.Stubs.{Coded, sent_cost}
use Rattle.serde_json.specs.Data.{Data}
use Rattle.json_shape.specs.declared.errors.RecordErr.{RecordErr}
use Rattle.json_shape.specs.Laws.{IsPresented}
use Rattle.json_shape.specs.Records.{Begun}
use Rattle.json_shape.specs.Replies.{reply_of}
use Rattle.json_shape.specs.Requests.{request_of}
use Rattle.json_shape.proofs.Deciding.{value_or_none}
use Rattle.json_shape.proofs.Options.{one_some}
use Rattle.json_shape.proofs.Shown.{shown}
use Rattle.flick_engine.specs.Costs.{answer_cost}
use Rattle.flick_engine.specs.Messages.{message}
use Rattle.flick_engine.specs.Replies.{reply_message}
use Rattle.flick_lines.specs.declared.verb.Verb.{Verb}
use Rattle.flick_lines.specs.declared.verb.Verb.TheVariants.{Marshal, Unmarshal, Reply, Unreply, Count}
use Rattle.flick_lines.specs.Marshalled.{Beginning, Texts, tree_of}
use Rattle.flick_lines.proofs.Options.{on-ok}
use Rattle.flick_lines.specs.Paid.{Runs, Costs, by_code, call_by_code, reply_by_code, IsPaid, IsPaidOnce, IsPaidRecord, IsPaidTree}
use Rattle.flick_lines.specs.Sent.{Sending, nothing, too_long, sends, Sent, message_sent, call_sent, reply_sent, IsSentOnce, IsSentRecord, IsSentTree, IsCallSent, IsSentTo, IsPaidFor, Sends, SendsTo, total, held, IsSpentBy}

-- ---- counts

-- counts as a whole
abbrev counts : ℕ → ℕ → ℕ → ℕ → Tally
counts a b c d = record { checks = a; moves = b; stores = c; rows = d }

same_counts : (a a' b b' c c' d d' : ℕ) → a ≡ a' → b ≡ b' → c ≡ c' → d ≡ d' → counts a b c d ≡ counts a' b' c' d'
same_counts a a' b b' c c' d d' p q r s = rw (p, q, r, s) refl

raised-zero : (n : ℕ) → n ≡ raised n 0
raised-zero n = omega arith

raised-sum : (n a b : ℕ) → raised (raised n a) b ≡ raised n (a + b)
raised-sum n a b = omega arith

raised-least : (n m k most : ℕ) → n ≤ m → raised m k ≤ most → raised n k ≤ most
raised-least n m k most h more = omega (arith, h, more)

pub paid-none : (t : Tally) → t ≡ paid t no_cost
paid-none t =
    same_counts _ _ _ _ _ _ _ _ (raised-zero t.checks) (raised-zero t.moves) (raised-zero t.stores) (raised-zero t.rows)

paid-sum : (t : Tally) (a b : Cost) → paid (paid t a) b ≡ paid t (sum a b)
paid-sum t a b = same_counts _ _ _ _ _ _ _ _ (raised-sum t.checks a.checks b.checks) (raised-sum t.moves a.moves b.moves)
    (raised-sum t.stores a.stores b.stores) (raised-sum t.rows a.rows b.rows)

-- at least a cost more than what was spent before other calls
paid-least : (t u v : Tally) (k : Cost) → NoneFell t u → NoneFell (paid u k) v → NoneFell (paid t k) v
paid-least t u v k stands more = record {
  checks = raised-least t.checks u.checks k.checks v.checks stands.checks more.checks;
  moves = raised-least t.moves u.moves k.moves v.moves stands.moves more.moves;
  stores = raised-least t.stores u.stores k.stores v.stores stands.stores more.stores;
  rows = raised-least t.rows u.rows k.rows v.rows stands.rows more.rows;
}

-- ---- one after the other

-- what is known of the octets is known where less was known before
known-less : (ss : List Sending) (before done : List ℕ) → IfSome (held (Some before) ss) (λ o. done ≡ o)
    → IfSome (held None ss) (λ o. done ≡ o)
known-less [] before done h = tt
known-less (nothing ∷ ss) before done h = known-less ss before done h
known-less (too_long ∷ ss) before done h = h
known-less (sends octets k ∷ ss) before done h = h

pub spent-none : (exact : Bool) (buf : Buf) → IsSpentBy exact [] buf buf
spent-none exact buf = record {
  costs = tt;
  exactly = λ known fit. paid-none buf.spent;
  at_least = subst (λ (t : Tally). NoneFell t buf.spent) (paid-none buf.spent) (none_fell-refl buf.spent);
  done = refl;
  unused = λ none. refl;
}

spent-nothing : (exact : Bool) (ss : List Sending) (old new : Buf) → IsSpentBy exact ss old new → IsSpentBy exact (nothing ∷ ss) old new
spent-nothing exact ss old new h =
    record { costs = h.costs; exactly = h.exactly; at_least = h.at_least; done = h.done; unused = h.unused }

-- at least one cost and then another one is at least their sum
paid-both : (t u v : Tally) (a b : Cost) → NoneFell (paid t a) u → NoneFell (paid u b) v → NoneFell (paid t (sum a b)) v
paid-both t u v a b one other =
    subst (λ (x : Tally). NoneFell x v) (paid-sum t a b) (paid-least (paid t a) u v b one other)

pub spent-more : (exact : Bool) (s : Sending) (ss : List Sending) (old mid new : Buf) → Sends exact s old mid → IsSpentBy exact ss mid new
    → IsSpentBy exact (s ∷ ss) old new
spent-more exact nothing ss old mid new same h =
    spent-nothing exact ss old new (subst (λ (b : Buf). IsSpentBy exact ss b new) same h)
spent-more exact too_long ss old mid new stands h = record {
  costs = h.costs;
  exactly = λ known fit. absurd fit;
  at_least = paid-least old.spent mid.spent new.spent (total ss) stands h.at_least;
  done = known-less ss mid.done new.done h.done;
  unused = λ none. absurd none;
}
spent-more exact (sends octets None) ss old mid new (done, paid) h = absurd paid
spent-more exact (sends octets (Some k)) ss old mid new (done, (least, spent)) h = record {
  costs = h.costs;
  exactly = λ known fit. h.exactly known fit ∙ ap (λ (t : Tally). paid t (total ss)) (spent known) ∙ paid-sum old.spent k (total ss);
  at_least = paid-both old.spent mid.spent new.spent k (total ss) least h.at_least;
  done = subst (λ (d : List ℕ). IfSome (held (Some d) ss) (λ o. new.done ≡ o)) done h.done;
  unused = λ none. absurd none;
}

-- ---- a line

-- this is sent, and becomes of the buffer
abbrev pub IsDone : Bool → (Sending → Type 0) → Buf → Buf → Type 0
IsDone exact Is old new = (s : Sending) × Is s × Sends exact s old new

-- what a run makes of the buffer is what is sent
abbrev pub IsRun : Sent → Runs → Type 0
IsRun sent run = (op : ℕ) (h : Head) (v : Val) (old new : Buf) → run op h v old new → NoneFell old.spent new.spent
    → Sends true (sent op h v) old new

once_sent : (sent : Sent) (run : Runs) → IsRun sent run → (r : Begun) (old new : Buf)
    → IsPresented r.face r.tree ⊎ (IsPresented r.face r.tree → ⊥)
    → IsPaidOnce run r old new → NoneFell old.spent new.spent → IsDone true (IsSentOnce sent r) old new
once_sent sent run does r old new (inl (v, p)) (some, none) stands =
    (sent r.op r.head v, inl (v, p, refl), does r.op r.head v old new (some v p) stands)
once_sent sent run does r old new (inr never) (some, none) stands =
    (nothing, inr ((λ v p. never (v, p)), refl), none (λ v p. never (v, p)))

record_sent : (sent : Sent) (run : Runs) → IsRun sent run → (x : Result Begun RecordErr) (old new : Buf)
    → IsPaidRecord run x old new → NoneFell old.spent new.spent → IsDone true (IsSentRecord sent x) old new
record_sent sent run does (Err e) old new same stands = (nothing, refl, same)
record_sent sent run does (Ok r) old new h stands = once_sent sent run does r old new (value_or_none r.face r.tree) h stands

tree_sent : (sent : Sent) (run : Runs) → IsRun sent run → (begun : Beginning) (tree : Option Data) (old new : Buf)
    → IsPaidTree run begun tree old new → NoneFell old.spent new.spent → IsDone true (IsSentTree sent begun tree) old new
tree_sent sent run does begun None old new same stands = (nothing, refl, same)
tree_sent sent run does begun (Some tree) old new h stands = record_sent sent run does (begun tree) old new h stands

-- ---- a message

-- a cost that raises counts is there
pub cost_there : (t u : Tally) (o : Option Cost) → option_map (paid t) o ≡ Some u → (k : Cost) × (o ≡ Some k) × (u ≡ paid t k)
cost_there t u None e = absurd (cc e)
cost_there t u (Some k) e = (k, refl, sym (one_some (paid t k) u e))

-- exactly so much is at least so much
pub least_exact : (t u : Tally) → u ≡ t → NoneFell t u
least_exact t u e = subst (λ (x : Tally). NoneFell t x) (sym e) (none_fell-refl t)

-- a cost that raised counts was paid
pub paid-exactly : (exact : Bool) (o : Option Cost) (t u : Tally) → option_map (paid t) o ≡ Some u → IsPaidFor exact o t u
paid-exactly exact o t u e =
    let (k, is, more) = cost_there t u o e in
    subst (λ (x : Option Cost). IsPaidFor exact x t u) (sym is) (least_exact (paid t k) u more, λ known. more)

message_within : (message_of : Texts) (cost_of : Costs) (op : ℕ) (h : Head) (v : Val) (old new : Buf) (b : Bool)
    → nat_le (length (message_of op h v)) longest_message ≡ b → by_code message_of cost_of op h v old new → NoneFell old.spent new.spent
    → Sends true (if b then sends (message_of op h v) (cost_of op h v) else too_long) old new
message_within message_of cost_of op h v old new false long ran stands = stands
message_within message_of cost_of op h v old new true short ran stands =
    let (done, alone, counts) = ran (leb-true (length (message_of op h v)) longest_message short) in
    (done, paid-exactly true (cost_of op h v) old.spent new.spent counts)

message_runs : (message_of : Texts) (cost_of : Costs) → IsRun (message_sent message_of cost_of) (by_code message_of cost_of)
message_runs message_of cost_of op h v old new ran stands =
    message_within message_of cost_of op h v old new (nat_le (length (message_of op h v)) longest_message) refl ran stands

pub call_runs : (c : Coded) → IsRun (call_sent c) (call_by_code c)
call_runs c op h v old new ran stands = message_runs (message c.binding c.minor) (sent_cost c.stubs) op h v old new ran stands

reply_runs : (c : Coded) → IsRun (reply_sent c) (reply_by_code c)
reply_runs c op h v old new ran stands =
    message_runs (reply_message c.binding c.minor) (answer_cost c.stubs c.minor) op h v old new ran stands

-- ---- a verb

call_done : (c : Coded) (line : List ℕ) (old new : Buf)
    → IsPaidTree (call_by_code c) (request_of c.binding) (tree_of line) old new
    → NoneFell old.spent new.spent → IsDone true (IsCallSent c line) old new
call_done c line old new made stands =
    tree_sent (call_sent c) (call_by_code c) (call_runs c) (request_of c.binding) (tree_of line) old new made stands

-- what a verb makes of the buffer is what it sends of the line
pub verb_done : (verb : Verb) (c : Coded) (line : List ℕ) (old new : Buf) → IsPaid verb c line old new → NoneFell old.spent new.spent
    → IsDone true (IsSentTo verb c line) old new
verb_done Marshal c line old new made stands = call_done c line old new made stands
verb_done Unmarshal c line old new same stands = (nothing, refl, same)
verb_done Reply c line old new made stands =
    tree_sent (reply_sent c) (reply_by_code c) (reply_runs c) (reply_of c.binding) (tree_of line) old new made stands
verb_done Unreply c line old new same stands = (nothing, refl, same)
verb_done Count c line old new made stands = call_done c line old new made stands

-- ---- as a clause of calls

pub verb_sends : {X E : Type 0} (verb v : Verb) (c : Coded) (line : List ℕ) (y : Result X E) (old new : Buf) → verb ≡ v
    → OnOk y (IsPaid v c line old new) → NoneFell old.spent new.spent → OnOk y (SendsTo verb c line old new)
verb_sends verb v c line y old new is paid stands =
    on-ok y (SendsTo verb c line old new) (IsPaid v c line old new)
    (λ made. subst (λ (w : Verb). SendsTo w c line old new) (sym is) (verb_done v c line old new made stands)) paid

-- ---- one alone

once_alone : (sent : Sent) (r : Begun) (s t : Sending) → IsSentOnce sent r s → IsSentOnce sent r t → s ≡ t
once_alone sent r s t (inl (v, p, is)) (inl (w, q, other)) =
    let same : v ≡ w = one_some v w (sym (shown r.face r.tree v p.shows) ∙ shown r.face r.tree w q.shows) in
    is ∙ ap (λ (u : Val). sent r.op r.head u) same ∙ sym other
once_alone sent r s t (inl (v, p, is)) (inr (never, other)) = absurd (never v p)
once_alone sent r s t (inr (never, is)) (inl (w, q, other)) = absurd (never w q)
once_alone sent r s t (inr (never, is)) (inr (none, other)) = is ∙ sym other

record_alone : (sent : Sent) (x : Result Begun RecordErr) (s t : Sending) → IsSentRecord sent x s → IsSentRecord sent x t → s ≡ t
record_alone sent (Err e) s t is other = is ∙ sym other
record_alone sent (Ok r) s t is other = once_alone sent r s t is other

tree_alone : (sent : Sent) (begun : Beginning) (tree : Option Data) (s t : Sending) → IsSentTree sent begun tree s
    → IsSentTree sent begun tree t → s ≡ t
tree_alone sent begun None s t is other = is ∙ sym other
tree_alone sent begun (Some tree) s t is other = record_alone sent (begun tree) s t is other

-- a verb sends one thing of a line
pub one_sent : (verb : Verb) (c : Coded) (line : List ℕ) (s t : Sending) → IsSentTo verb c line s → IsSentTo verb c line t → s ≡ t
one_sent Marshal c line s t is other = tree_alone (call_sent c) (request_of c.binding) (tree_of line) s t is other
one_sent Unmarshal c line s t is other = is ∙ sym other
one_sent Reply c line s t is other = tree_alone (reply_sent c) (reply_of c.binding) (tree_of line) s t is other
one_sent Unreply c line s t is other = is ∙ sym other
one_sent Count c line s t is other = tree_alone (call_sent c) (request_of c.binding) (tree_of line) s t is other

-- ---- something

once_something : (sent : Sent) (r : Begun) → IsPresented r.face r.tree ⊎ (IsPresented r.face r.tree → ⊥)
    → (s : Sending) × IsSentOnce sent r s
once_something sent r (inl (v, p)) = (sent r.op r.head v, inl (v, p, refl))
once_something sent r (inr never) = (nothing, inr ((λ v p. never (v, p)), refl))

record_something : (sent : Sent) (x : Result Begun RecordErr) → (s : Sending) × IsSentRecord sent x s
record_something sent (Err e) = (nothing, refl)
record_something sent (Ok r) = once_something sent r (value_or_none r.face r.tree)

tree_something : (sent : Sent) (begun : Beginning) (tree : Option Data) → (s : Sending) × IsSentTree sent begun tree s
tree_something sent begun None = (nothing, refl)
tree_something sent begun (Some tree) = record_something sent (begun tree)

-- a verb sends something of each line, or nothing
pub some_sent : (verb : Verb) (c : Coded) (line : List ℕ) → (s : Sending) × IsSentTo verb c line s
some_sent Marshal c line = tree_something (call_sent c) (request_of c.binding) (tree_of line)
some_sent Unmarshal c line = (nothing, refl)
some_sent Reply c line = tree_something (reply_sent c) (reply_of c.binding) (tree_of line)
some_sent Unreply c line = (nothing, refl)
some_sent Count c line = tree_something (call_sent c) (request_of c.binding) (tree_of line)
