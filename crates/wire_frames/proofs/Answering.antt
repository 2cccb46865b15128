-- What `next` answers, by what stands first.
use Rattle.std.proofs.Common.{◌≡◌, ◌≢◌, ℕ, zero, suc, ◌+◌, ◌≤◌, List, length, take, Bool, true, false, refl, sym, ap, ◌∙◌}
use Rattle.std.specs.Prelude.{nat_lt, Some, None, Ok, Err, if◌then◌else◌}
use Rattle.wire_def.specs.declared.encoding.Back.{Back}
use Rattle.wire_def.specs.declared.encoding.Back.TheVariants.{Xdr, CdrBig, CdrLittle, Mach}
use Rattle.wire_frames.specs.declared.frames.FrameErr.{FrameErr}
use Rattle.wire_frames.specs.declared.frames.FrameErr.TheVariants.{Magic, Size, NoMemory}
use Rattle.wire_frames.specs.Framed.{has_magic, giop_length, mach_length}
use Rattle.wire_frames.specs.First.{First, whole, bad, more, after, end_of, record_within, size_in, octets_in, behind, sized, first_giop, first_mach, first, IsMessage}
use Rattle.wire_frames.proofs.Choosing.{short, long, cut_off, ended, going, far, cut_short, there, is_sized}
use Rattle.wire_frames.proofs.Fragments.{step}
use Rattle.wire_frames.proofs.Found.{giop_found, mach_found, first_fits}

-- ---- a fault is never out of memory

after_bad : (a : List ℕ) (n : ℕ) (x : First) (e : FrameErr) → after a n x ≡ bad e → x ≡ bad e
after_bad a n (whole m k) e h = absurd cc
after_bad a n (bad f) e h = cc
after_bad a n more e h = absurd cc

record_sure : (k sum : ℕ) (s : List ℕ) → record_within k sum s ≢ bad NoMemory
record_sure zero sum s e = absurd cc
record_sure (suc k) sum s e = elim (step k sum s _ e) [
  | short less is ↦ absurd cc
  | long header over is ↦ absurd cc
  | cut_off header few less is ↦ absurd cc
  | ended all few last is ↦ absurd cc
  | going all few last is ↦ record_sure k (sum + size_in s) (behind s) (after_bad (octets_in s) (4 + size_in s) _ NoMemory (sym is))
]

sized_sure : (n : ℕ) (s : List ℕ) → sized n s ≢ bad NoMemory
sized_sure n s e = elim (is_sized (length s) n (whole (take n s) n) _ e) [
  | far over is ↦ absurd cc
  | cut_short few less is ↦ absurd cc
  | there few all is ↦ absurd cc
]

giop_sure : (s : List ℕ) → first_giop s ≢ bad NoMemory
unfolding first_giop
giop_sure s e = by_length (nat_lt (length s) 12) e where
  by_magic : (b : Bool) → (if b then sized (giop_length s) s else bad Magic) ≢ bad NoMemory
  by_magic true e = sized_sure (giop_length s) s e
  by_magic false e = absurd cc

  by_length : (b : Bool) → (if b then more else if has_magic s then sized (giop_length s) s else bad Magic) ≢ bad NoMemory
  by_length true e = absurd cc
  by_length false e = by_magic (has_magic s) e

mach_sure : (s : List ℕ) → first_mach s ≢ bad NoMemory
unfolding first_mach
mach_sure s e = by_length (nat_lt (length s) 8) e where
  by_size : (b : Bool) → (if b then bad Size else sized (mach_length s) s) ≢ bad NoMemory
  by_size true e = absurd cc
  by_size false e = sized_sure (mach_length s) s e

  by_length : (b : Bool) → (if b then more else if nat_lt (mach_length s) 24 then bad Size else sized (mach_length s) s) ≢ bad NoMemory
  by_length true e = absurd cc
  by_length false e = by_size (nat_lt (mach_length s) 24) e

first_sure : (back : Back) (s : List ℕ) → first back s ≢ bad NoMemory
first_sure Xdr s = record_sure (length s) 0 s
first_sure CdrBig s = giop_sure s
first_sure CdrLittle s = giop_sure s
first_sure Mach s = mach_sure s

end_sure_of : (x : First) → x ≢ bad NoMemory → end_of x ≢ Err NoMemory
end_sure_of (whole m n) h e = absurd cc
end_sure_of (bad f) h e = let same : f ≡ NoMemory = cc in h (ap bad same)
end_sure_of more h e = absurd cc

pub end_sure : (back : Back) (s : List ℕ) → end_of (first back s) ≢ Err NoMemory
end_sure back s = end_sure_of (first back s) (first_sure back s)

-- ---- from the place where a frame ends

pub ends_message : (x : First) (n : ℕ) → end_of x ≡ Ok (Some n) → (m : List ℕ) × IsMessage x m n
ends_message (whole m k) n e = let same : k ≡ n = cc in (m, ap (whole m) same)
ends_message (bad f) n e = absurd cc
ends_message more n e = absurd cc

pub ends_none : (x : First) → end_of x ≡ Ok None → x ≡ more
ends_none (whole m k) e = absurd cc
ends_none (bad f) e = absurd cc
ends_none more e = refl

pub ends_bad : (x : First) (f : FrameErr) → end_of x ≡ Err f → x ≡ bad f
ends_bad (whole m k) f e = absurd cc
ends_bad (bad g) f e = ap bad cc
ends_bad more f e = absurd cc

-- ---- messages that say their own length

-- the message is the frame, over each back end but XDR
pub prefix_is_message : (back : Back) (s : List ℕ) (n : ℕ) → back ≢ Xdr → ((m : List ℕ) × IsMessage (first back s) m n)
    → IsMessage (first back s) (take n s) n
prefix_is_message Xdr s n h m = absurd (h refl)
prefix_is_message CdrBig s n h (m, e) = e ∙ ap (λ (x : List ℕ). whole x n) (giop_found s m n e).prefix
prefix_is_message CdrLittle s n h (m, e) = e ∙ ap (λ (x : List ℕ). whole x n) (giop_found s m n e).prefix
prefix_is_message Mach s n h (m, e) = e ∙ ap (λ (x : List ℕ). whole x n) (mach_found s m n e).prefix

pub used_fits : (back : Back) (s : List ℕ) (n : ℕ) → ((m : List ℕ) × IsMessage (first back s) m n) → n ≤ length s
used_fits back s n (m, e) = (first_fits back s m n e).within
