-- A value that was received is what the message has, and nothing else.
use Rattle.std.proofs.Common.{◌≡◌, ◌↔◌, ℕ, ◌+◌, List, sym, subst, ◌∙◌, arith}
use Rattle.mint.specs.Types.{Ty}
use Rattle.mint.specs.Values.{Val}
use Rattle.wire_def.specs.declared.encoding.Encoding.{Encoding}
use Rattle.wire_def.specs.declared.fault.FaultKind.{FaultKind}
use Rattle.wire_def.specs.Grammar.{Reading, got, stop}
use Rattle.wire_def.specs.Laws.{BeginsWith}
use Rattle.wire_def.specs.Reading.{read}
use Rattle.wire_def.specs.Stops.{Stops}
use Rattle.wire_def.proofs.Encodings.{grammar}
use Rattle.wire_def.proofs.Begins.{reads, same_got}

module _ (e : Encoding) (t : Ty) (p : ℕ) (o : List ℕ) where
  never_both : (v : Val) (q : ℕ) (a : List ℕ) (k : FaultKind) (at : ℕ) (x : Reading FaultKind Val) → x ≡ got v q a → x ≡ stop k at → ⊥
  never_both v q a k at x first second = let same = sym first ∙ second in cc

  -- at most one value begins octets, in so many of them
  pub first_same : (v w : Val) (m n : ℕ) → BeginsWith e t p o v m → BeginsWith e t p o w n → (v ≡ w) × (m ≡ n)
  first_same v w m n h j =
      let same = same_got v w (p + m) (p + n) _ _ (read e t p o) (reads e t p o v m h) (reads e t p o w n j) in
      (same.0, omega (arith, same.1))

  -- and then there is no fault
  pub no_fault : (v : Val) (m : ℕ) (k : FaultKind) (at : ℕ) → BeginsWith e t p o v m → Stops e t p o k at → ⊥
  no_fault v m k at h s = never_both v (p + m) _ k at (read e t p o) (reads e t p o v m h) ((grammar e t).stops p o k at s)

  -- a value of so many octets that was found
  pub value_is : (w : Val) (n : ℕ) → BeginsWith e t p o w n → (v : Val) (used : ℕ) → ((w ≡ v) × (n ≡ used)) ↔ BeginsWith e t p o v used
  value_is w n h v used = (
    λ (is : (w ≡ v) × (n ≡ used)). subst (λ (x : Val). BeginsWith e t p o x used) is.0 (subst (λ (m : ℕ). BeginsWith e t p o w m) is.1 h),
    λ (j : BeginsWith e t p o v used). first_same w v n used h j,
  )

  pub no_stop : (w : Val) (n : ℕ) → BeginsWith e t p o w n → (k : FaultKind) (at : ℕ) → ⊥ ↔ Stops e t p o k at
  no_stop w n h k at = (λ (f : ⊥). absurd f, λ (s : Stops e t p o k at). no_fault w n k at h s)
