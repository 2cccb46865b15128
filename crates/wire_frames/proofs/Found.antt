-- What is found of a message: its frame lies within the stream, and it is within the limit.
use Rattle.std.proofs.Common.{◌≡◌, ℕ, zero, suc, ◌+◌, ◌≤◌, List, ◌++◌, length, take, drop, Bool, true, false, refl, sym, ap, ◌∙◌, length-append, arith}
use Rattle.std.proofs.lemmas.Bool.{ltb-false}
use Rattle.std.proofs.lemmas.List.{length-drop, length-take}
use Rattle.std.specs.Prelude.{nat_lt, if◌then◌else◌}
use Rattle.kit_base.specs.Limits.{longest_message}
use Rattle.wire_def.specs.declared.encoding.Back.{Back}
use Rattle.wire_def.specs.declared.encoding.Back.TheVariants.{Xdr, CdrBig, CdrLittle, Mach}
use Rattle.wire_frames.specs.declared.frames.FrameErr.TheVariants.{Magic, Size}
use Rattle.wire_frames.specs.Framed.{has_magic, giop_length, mach_length}
use Rattle.wire_frames.specs.First.{First, whole, bad, more, after, record_within, size_in, octets_in, behind, sized, first_giop, first_mach, first}
use Rattle.wire_frames.proofs.Choosing.{short, long, cut_off, ended, going, far, cut_short, there, is_sized}
use Rattle.wire_frames.proofs.Fragments.{step}

-- a frame within a stream, of a message that makes with what is before it no more than the limit
pub record Fits (sum : ℕ) (s m : List ℕ) (n : ℕ) : Type 0 where
  pub some : 4 ≤ n
  pub within : n ≤ length s
  pub few : sum + length m ≤ longest_message

-- a message that was found after fragments was found behind them
pub found_after : (a : List ℕ) (k : ℕ) (x : First) (m : List ℕ) (n : ℕ) → after a k x ≡ whole m n
    → (b : List ℕ) × (j : ℕ) × (x ≡ whole b j) × (m ≡ a ++ b) × (n ≡ k + j)
found_after a k (whole b j) m n e = (b, j, refl, cc, cc)
found_after a k (bad f) m n e = absurd cc
found_after a k more m n e = absurd cc

pub same_message : (a m : List ℕ) (k n : ℕ) → whole a k ≡ whole m n → (m ≡ a) × (n ≡ k)
same_message a m k n e = (cc, cc)

pub record_fits : (k sum : ℕ) (s m : List ℕ) (n : ℕ) → record_within k sum s ≡ whole m n → Fits sum s m n
record_fits zero sum s m n e = absurd cc
record_fits (suc k) sum s m n e = elim (step k sum s _ e) [
  | short less is ↦ absurd cc
  | long header over is ↦ absurd cc
  | cut_off header few less is ↦ absurd cc
  | ended all few last is ↦
      let same = same_message _ _ _ _ (sym is) in
      let size : length m ≡ size_in s = omega (arith, ap length same.0, length-take (size_in s) (drop 4 s), length-drop 4 s, all) in
      record { some = omega (arith, same.1); within = omega (arith, same.1, all); few = omega (arith, size, few) }
  | going all few last is ↦
      let f = found_after (octets_in s) (4 + size_in s) _ m n (sym is) in
      let inner = record_fits k (sum + size_in s) (behind s) f.0 f.1 f.2 in
      let size : length (octets_in s) ≡ size_in s = omega (arith, length-take (size_in s) (drop 4 s), length-drop 4 s, all) in
      let sizes : length m ≡ length (octets_in s) + length f.0 = ap length f.3 ∙ length-append (octets_in s) f.0 in
      record {
        some = omega (arith, f.4);
        within = omega (arith, f.4, inner.within, length-drop (4 + size_in s) s, all);
        few = omega (arith, inner.few, size, sizes);
      }
]

sized_fits : (l : ℕ) (s m : List ℕ) (n : ℕ) → 4 ≤ l → sized l s ≡ whole m n → Fits 0 s m n × (m ≡ take n s) × (n ≡ l)
sized_fits l s m n least e = elim (is_sized (length s) l (whole (take l s) l) _ e) [
  | far over is ↦ absurd cc
  | cut_short few less is ↦ absurd cc
  | there few all is ↦
      let same = same_message _ _ _ _ (sym is) in
      let size : length m ≡ l = omega (arith, ap length same.0, length-take l s, all) in (
        record { some = omega (arith, same.1, least); within = omega (arith, same.1, all); few = omega (arith, size, few) },
        same.0 ∙ ap (λ (k : ℕ). take k s) (sym same.1),
        same.1,
      )
]

-- what is told of a GIOP message that was found
pub record GiopFound (s m : List ℕ) (n : ℕ) : Type 0 where
  pub fits : Fits 0 s m n
  pub prefix : m ≡ take n s
  pub long : n ≡ giop_length s
  pub header : 12 ≤ length s
  pub magic : has_magic s ≡ true

pub giop_found : (s m : List ℕ) (n : ℕ) → first_giop s ≡ whole m n → GiopFound s m n
unfolding first_giop
giop_found s m n e = by_length (nat_lt (length s) 12) refl e where
  by_magic : (b : Bool) → has_magic s ≡ b → 12 ≤ length s → (if b then sized (giop_length s) s else bad Magic) ≡ whole m n
      → GiopFound s m n
  by_magic true is h e =
      let f = sized_fits (giop_length s) s m n (omega arith) e in
      record { fits = f.0; prefix = f.1; long = f.2; header = h; magic = is }
  by_magic false is h e = absurd cc

  by_length : (b : Bool) → nat_lt (length s) 12 ≡ b
      → (if b then more else if has_magic s then sized (giop_length s) s else bad Magic) ≡ whole m n → GiopFound s m n
  by_length true is e = absurd cc
  by_length false is e = by_magic (has_magic s) refl (ltb-false _ _ is) e

-- what is told of a Mach message that was found
pub record MachFound (s m : List ℕ) (n : ℕ) : Type 0 where
  pub fits : Fits 0 s m n
  pub prefix : m ≡ take n s
  pub long : n ≡ mach_length s
  pub header : 24 ≤ n

pub mach_found : (s m : List ℕ) (n : ℕ) → first_mach s ≡ whole m n → MachFound s m n
unfolding first_mach
mach_found s m n e = by_length (nat_lt (length s) 8) refl e where
  by_size : (b : Bool) → nat_lt (mach_length s) 24 ≡ b → (if b then bad Size else sized (mach_length s) s) ≡ whole m n
      → MachFound s m n
  by_size true is e = absurd cc
  by_size false is e =
      let h : 24 ≤ mach_length s = ltb-false _ _ is in
      let f = sized_fits (mach_length s) s m n (omega (arith, h)) e in
      record { fits = f.0; prefix = f.1; long = f.2; header = omega (arith, f.2, h) }

  by_length : (b : Bool) → nat_lt (length s) 8 ≡ b
      → (if b then more else if nat_lt (mach_length s) 24 then bad Size else sized (mach_length s) s) ≡ whole m n → MachFound s m n
  by_length true is e = absurd cc
  by_length false is e = by_size (nat_lt (mach_length s) 24) refl e

-- what stands first lies within the stream
pub first_fits : (back : Back) (s m : List ℕ) (n : ℕ) → first back s ≡ whole m n → Fits 0 s m n
first_fits Xdr s m n e = record_fits (length s) 0 s m n e
first_fits CdrBig s m n e = (giop_found s m n e).fits
first_fits CdrLittle s m n e = (giop_found s m n e).fits
first_fits Mach s m n e = (mach_found s m n e).fits
