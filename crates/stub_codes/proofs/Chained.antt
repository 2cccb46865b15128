-- The codes of operations and of their arms, one after the other.
use Rattle.std.proofs.Common.{◌≡◌, ◌↔◌, ◌<◌, ◌⊎◌, inl, inr, ℕ, zero, suc, List, [], ◌∷◌, ◌++◌, length, Some, Result, Ok, Err, IfOk, slice_get, refl, sym, ap, subst, ◌∙◌, arith}
use Rattle.kit_base.specs.declared.errors.NoMemory.{NoMemory}
use Rattle.mint.specs.Types.{Ty}
use Rattle.cast_stub.specs.declared.send.SendCode.{SendCode}
use Rattle.stub_lower.specs.Leads.{Leads}
use Rattle.pres.specs.Bindings.{Binding}
use Rattle.stub_codes.specs.declared.stub.Stub.{Stub}
use Rattle.stub_codes.specs.Backs.{encoding, other_encoding, IsMinorOver, lead, reply_form}
use Rattle.stub_codes.specs.Messages.{request_type}
use Rattle.stub_codes.specs.Replies.{HasArm, arm_type}
use Rattle.stub_codes.specs.Receiving.{Receives, ReceivesOther}
use Rattle.stub_codes.specs.Sending.{Sends, SendsAfter}
use Rattle.stub_codes.specs.Stubs.{HasReplies, IsStub, AreReplying, AreStubs, replies_in}
use Rattle.stub_codes.proofs.Following.{some_same}
use Rattle.stub_codes.proofs.Leading.{are_heads, are_reply_heads}
use Rattle.stub_codes.proofs.Places.{item_at}

-- the code of an operation, from the codes of its request's node
pub stub_made : (b : Binding) (m op : ℕ) (t : Ty) (first : SendCode) (s : Stub) → t ≡ request_type b op → Leads (lead b m op) first
    → SendsAfter b.back first t s.send
    → Receives (encoding b.back) (request_type b op) s.recv → ReceivesOther (other_encoding b.back) (request_type b op) s.other
    → ((n k : ℕ) → k < length (replies_in s n) → HasArm b op k) → IsStub b m op s
stub_made b m op t first s same leads sends receives other arms =
    record {
      send = subst (λ (u : Ty). Sends b.back (lead b m op) u s.send) same (sends (lead b m op) leads (are_heads b.back b m op));
      recv = receives;
      other = other;
      arms = arms;
    }

-- it sends the replies to an operation with an arm
abbrev pub IsKept : Binding → ℕ → ℕ → ℕ → SendCode → Type 0
IsKept b m op k code = Sends b.back (reply_form b m op k) (arm_type b op k) code

-- the code of an arm, from that of the arm's node
pub reply_made : (b : Binding) (m op k : ℕ) (t : Ty) (first : SendCode) (r : Result SendCode NoMemory) → t ≡ arm_type b op k
    → Leads (reply_form b m op k) first → IfOk r (λ code. SendsAfter b.back first t code) → IfOk r (λ code. IsKept b m op k code)
reply_made b m op k t first (Ok code) same leads sends =
    subst (λ (u : Ty). Sends b.back (reply_form b m op k) u code) same
    (sends (reply_form b m op k) leads (are_reply_heads b.back b m op k))
reply_made b m op k t first (Err e) same leads sends = tt

-- ---- a list of codes

-- where a list is longer by one, each item is one of the list or the last
last_or_in : {A : Type 0} (xs : List A) (x y : A) (i : ℕ) → slice_get (xs ++ x ∷ []) i ≡ Some y
    → (slice_get xs i ≡ Some y) ⊎ ((i ≡ length xs) × (x ≡ y))
last_or_in [] x y zero e = inr (refl, some_same x y e)
last_or_in [] x y (suc i) e = absurd cc
last_or_in (z ∷ xs) x y zero e = inl e
last_or_in (z ∷ xs) x y (suc i) e = later (last_or_in xs x y i e) where
  later : (slice_get xs i ≡ Some y) ⊎ ((i ≡ length xs) × (x ≡ y))
      → (slice_get (z ∷ xs) (suc i) ≡ Some y) ⊎ ((suc i ≡ length (z ∷ xs)) × (x ≡ y))
  later (inl h) = inl h
  later (inr h) = inr (ap suc h.0, h.1)

-- one item more, each of which is what its place asks for
pub grown : {A : Type 0} (P : ℕ → A → Type 0) (xs : List A) (x : A) (n : ℕ) → length xs ≡ n
    → ((i : ℕ) (y : A) → slice_get xs i ≡ Some y → P i y) → P n x → (i : ℕ) (y : A) → slice_get (xs ++ x ∷ []) i ≡ Some y → P i y
grown {A = A} P xs x n many each is i y e = placed (last_or_in xs x y i e) where
  placed : (slice_get xs i ≡ Some y) ⊎ ((i ≡ length xs) × (x ≡ y)) → P i y
  placed (inl h) = each i y h
  placed (inr h) = subst (λ (j : ℕ). P j y) (sym (h.0 ∙ many)) (subst (λ (z : A). P n z) h.1 is)

-- one code more
pub one_more : (b : Binding) (m : ℕ) (xs : List Stub) (x : Stub) (n : ℕ) → length xs ≡ n → AreStubs b m xs → IsStub b m n x
    → AreStubs b m (xs ++ x ∷ [])
one_more b m xs x n many each is = grown (IsStub b m) xs x n many each is

-- it sends the replies to an operation, in each version
abbrev pub SendsReplies : Binding → ℕ → Stub → Type 0
SendsReplies b op s = (n : ℕ) → IsMinorOver b.back n → HasReplies b n op (replies_in s n)

pub one_replying_more : (b : Binding) (xs : List Stub) (x : Stub) (n : ℕ) → length xs ≡ n → AreReplying b xs → SendsReplies b n x
    → AreReplying b (xs ++ x ∷ [])
one_replying_more b xs x n many each is = grown (SendsReplies b) xs x n many each is

-- ---- the codes of arms

-- each of a list is the code of the arm of its place
abbrev pub AreKept : Binding → ℕ → ℕ → List SendCode → Type 0
AreKept b m op codes = (k : ℕ) (code : SendCode) → slice_get codes k ≡ Some code → IsKept b m op k code

pub one_reply_more : (b : Binding) (m op : ℕ) (xs : List SendCode) (x : SendCode) (n : ℕ) → length xs ≡ n → AreKept b m op xs
    → IsKept b m op n x → AreKept b m op (xs ++ x ∷ [])
one_reply_more b m op xs x n many each is = grown (IsKept b m op) xs x n many each is

-- as many as there are arms
module _ (b : Binding) (m op : ℕ) (codes : List SendCode) (n : ℕ) (many : length codes ≡ n) (arms : (k : ℕ) → HasArm b op k ↔ k < n) where
  pub kept_replies : AreKept b m op codes → HasReplies b m op codes
  kept_replies each k has =
      let less : k < n = (arms k).0 has in
      let (code, found) = item_at codes k (omega (arith, less, many)) in
      (code, found, each k code found)

  pub kept_arms : (k : ℕ) → k < length codes → HasArm b op k
  kept_arms k less = (arms k).1 (omega (arith, less, many))
