-- What a run of an operation's code has done, as it is promised of the operation.
use Rattle.std.proofs.Common.{◌≡◌, ℕ, ◌+◌, ◌<◌, ◌≤◌, List, length, Option, None, Some, option_map, Result, Ok, Err, OnOk, slice_get, sym, ap, subst, ◌∙◌, arith}
use Rattle.kit_base.specs.Limits.{longest_message}
use Rattle.mint.specs.Values.{Val}
use Rattle.wire_def.specs.declared.head.Head.{Head}
use Rattle.raw_buf.specs.declared.tally.Tally.{Tally}
use Rattle.cast_stub.specs.declared.send.SendCode.{SendCode}
use Rattle.cast_stub.specs.Meaning.{Cost, cost, AreCovered}
use Rattle.cast_stub.specs.Parts.{on_some}
use Rattle.cast_stub.specs.Subs.{sent_steps}
use Rattle.stub_machine.specs.Sending.{paid, IsLong}
use Rattle.pres.specs.Bindings.{Binding}
use Rattle.stub_codes.specs.declared.stub.Stub.{Stub}
use Rattle.stub_codes.specs.Backs.{IsMinorOver, reply_form, reply_head}
use Rattle.stub_codes.specs.Messages.{framed}
use Rattle.stub_codes.specs.Replies.{HasArm, arm_message, arm_type}
use Rattle.stub_codes.specs.Sending.{Sends}
use Rattle.stub_codes.specs.Stubs.{AreReplying, replies_in, sent_cost, reply_code_at, reply_cost}
use Rattle.stub_codes.proofs.Following.{some_same}

-- ---- sending

module _ {A E : Type 0} (r : Result A E) where
  -- what was appended is what the code means
  pub sent_is : (x : Option (List ℕ)) (d m : List ℕ) → x ≡ Some m → OnOk r (x ≡ Some d) → OnOk r (d ≡ m)
  sent_is x d m means = by_case r where
    by_case : (y : Result A E) → OnOk y (x ≡ Some d) → OnOk y (d ≡ m)
    by_case (Ok a) h = some_same d m (sym h ∙ means)
    by_case (Err e) h = tt

  pub sent_short : (x : Option (List ℕ)) (d m : List ℕ) (n : ℕ) → x ≡ Some m → OnOk r (x ≡ Some d) → OnOk r (length d ≤ n)
      → OnOk r (length m ≤ n)
  sent_short x d m n means = by_case r where
    by_case : (y : Result A E) → OnOk y (x ≡ Some d) → OnOk y (length d ≤ n) → OnOk y (length m ≤ n)
    by_case (Ok a) h few = subst (λ (o : List ℕ). length o ≤ n) (some_same d m (sym h ∙ means)) few
    by_case (Err e) h few = tt

  -- the cost of the operation's code
  pub sent_paid : (stubs : List Stub) (op : ℕ) (s : Stub) (h : Head) (v : Val) (t u : Tally) → slice_get stubs op ≡ Some s
      → OnOk r (option_map (paid t) (cost s.send h v) ≡ Some u) → OnOk r (option_map (paid t) (sent_cost stubs op h v) ≡ Some u)
  sent_paid stubs op s h v t u found ran =
      subst (λ (x : Option Stub). OnOk r (option_map (paid t) (on_some x (λ (y : Stub). cost y.send h v)) ≡ Some u)) (sym found) ran

  -- that of the arm's code, where its run costs the same
  pub reply_paid : (stubs : List Stub) (op k m : ℕ) (s : SendCode) (h : Head) (v : Val) (x : Option Cost) (t u : Tally)
      → reply_code_at stubs op k m ≡ Some s → cost s h v ≡ x → OnOk r (option_map (paid t) x ≡ Some u)
      → OnOk r (option_map (paid t) (reply_cost stubs op k m h v) ≡ Some u)
  reply_paid stubs op k m s h v x t u found same ran =
      let kept : reply_cost stubs op k m h v ≡ x = ap (λ (o : Option SendCode). on_some o (λ (y : SendCode). cost y h v)) found ∙ same in
      subst (λ (c : Option Cost). OnOk r (option_map (paid t) c ≡ Some u)) (sym kept) ran

-- what the arm's code means with the head that has the reply's id
pub reply_means : (b : Binding) (m op k : ℕ) (h sent : Head) (v : Val) (x : Option (List ℕ)) → sent ≡ reply_head b op h
    → x ≡ Some (framed b.back (reply_form b m op k sent) (arm_type b op k) v) → x ≡ Some (arm_message b m op k h v)
reply_means b m op k h sent v x is means =
    means ∙ ap (λ (g : Head). Some (framed b.back (reply_form b m op k g) (arm_type b op k) v)) is

-- ---- room

-- the code of an operation covers its request
pub request_covered : (stubs : List Stub) (op : ℕ) (s : Stub) (h : Head) (v : Val) → slice_get stubs op ≡ Some s
    → AreCovered (sent_steps s.send h v) 0 → AreCovered (on_some (slice_get stubs op) (λ (y : Stub). sent_steps y.send h v)) 0
request_covered stubs op s h v found is =
    subst (λ (x : Option Stub). AreCovered (on_some x (λ (y : Stub). sent_steps y.send h v)) 0) (sym found) is

-- that of an arm its reply
pub reply_covered : (stubs : List Stub) (op k m : ℕ) (s : SendCode) (h : Head) (v : Val) → reply_code_at stubs op k m ≡ Some s
    → AreCovered (sent_steps s h v) 0 → AreCovered (on_some (reply_code_at stubs op k m) (λ (y : SendCode). sent_steps y h v)) 0
reply_covered stubs op k m s h v found is =
    subst (λ (x : Option SendCode). AreCovered (on_some x (λ (y : SendCode). sent_steps y h v)) 0) (sym found) is

-- ---- when it is too long

pub sent_long : (x : Option (List ℕ)) (m : List ℕ) → x ≡ Some m → IsLong 0 x → longest_message < length m
sent_long x m means long =
    let more : 4194304 < 0 + length m = subst (IsLong 0) means long in
    omega (arith, more)

-- ---- the code of an arm

-- it stands at the arm's place of the operation's codes
pub kept_at : (stubs : List Stub) (op k m : ℕ) (s : Stub) (code : SendCode) → slice_get stubs op ≡ Some s
    → slice_get (replies_in s m) k ≡ Some code → reply_code_at stubs op k m ≡ Some code
kept_at stubs op k m s code found there =
    ap (λ (x : Option Stub). on_some x (λ (y : Stub). slice_get (replies_in y m) k)) found ∙ there

-- and sends the replies with the arm
pub kept_is : (b : Binding) (stubs : List Stub) (op k m : ℕ) (s : Stub) (code : SendCode) → AreReplying b stubs
    → slice_get stubs op ≡ Some s → HasArm b op k → IsMinorOver b.back m → slice_get (replies_in s m) k ≡ Some code
    → Sends b.back (reply_form b m op k) (arm_type b op k) code
kept_is b stubs op k m s code replying found has version there =
    let (kept, at, sends) = replying op s found m version k has in
    subst (λ (x : SendCode). Sends b.back (reply_form b m op k) (arm_type b op k) x) (some_same kept code (sym at ∙ there)) sends

-- there is one
pub none_kept : (b : Binding) (stubs : List Stub) (op k m : ℕ) (s : Stub) → AreReplying b stubs → slice_get stubs op ≡ Some s
    → HasArm b op k → IsMinorOver b.back m → slice_get (replies_in s m) k ≡ None → ⊥
none_kept b stubs op k m s replying found has version none =
    let (kept, at, sends) = replying op s found m version k has in
    never_none kept (slice_get (replies_in s m) k) at none where
      never_none : (x : SendCode) (y : Option SendCode) → y ≡ Some x → y ≡ None → ⊥
      never_none x y e f = let same = sym e ∙ f in absurd cc
