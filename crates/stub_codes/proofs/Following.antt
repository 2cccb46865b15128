-- Steps after the octets of a head, and the length of chunks, by induction on the steps and on the code.
use Rattle.std.proofs.Common.{◌≡◌, ℕ, ◌+◌, ◌-◌, ◌^◌, ◌%◌, ◌≤◌, Bool, true, false, ◌&&◌, nat_le, if◌then◌else◌, List, [], ◌∷◌, ◌++◌, length, replicate, Option, None, Some, option_map, refl, sym, ap, ◌∙◌, append_assoc, length-append, arith}
use Rattle.std.proofs.lemmas.Bool.{le-leb, leb-true}
use Rattle.kit_base.specs.Bytes.{written}
use Rattle.mint.specs.Values.{Val}
use Rattle.wire_def.specs.declared.head.Head.{Head}
use Rattle.wire_def.specs.Scalars.{gap}
use Rattle.wire_def.specs.Orders.{in_order}
use Rattle.raw_buf.proofs.Views.{written-after}
use Rattle.cast_stub.specs.Block.{Block, stop, chunk}
use Rattle.cast_stub.specs.Follows.{flat}
use Rattle.cast_stub.specs.Framed.{lead_length}
use Rattle.cast_stub.specs.Meaning.{wrote}
use Rattle.cast_stub.specs.Parts.{on_some}
use Rattle.cast_stub.specs.Puts.{filled}
use Rattle.cast_stub.specs.Steps.{Step, Room, Pad, Stored, Widened, Copied, Patched, Steps, Calls, both, steps}
use Rattle.cast_stub.proofs.Followed.{mapped}
use Rattle.cast_stub.proofs.Filled.{length-filled}
use Rattle.stub_lower.specs.Leads.{chunk_puts}

pub some_same : {A : Type 0} (a b : A) → Some a ≡ Some b → a ≡ b
some_same a b e = cc

-- ---- steps after octets

opened_patch : (x y : Bool) (z : List ℕ) (f : List ℕ → Option (List ℕ)) (r : List ℕ) → on_some (if x && y then Some z else None) f ≡ Some r
    → (x ≡ true) × (y ≡ true) × (f z ≡ Some r)
opened_patch true true z f r e = (refl, refl, e)
opened_patch true false z f r e = absurd cc
opened_patch false y z f r e = absurd cc

closed_patch : (x y : Bool) (z : List ℕ) (f : List ℕ → Option (List ℕ)) (r : List ℕ) → x ≡ true → y ≡ true → f z ≡ Some r
    → on_some (if x && y then Some z else None) f ≡ Some r
closed_patch true true z f r d e h = h
closed_patch true false z f r d e h = absurd cc
closed_patch false y z f r d e h = absurd cc

-- octets over others, after a head
over : (q o x : List ℕ) (at : ℕ) → length q ≤ at → written (q ++ o) (at - 0) x ≡ q ++ written o (at - length q) x
over q o x at h =
    let e : at - 0 ≡ length q + (at - length q) = omega (arith, h) in
    ap (λ (k : ℕ). written (q ++ o) k x) e ∙ written-after q o x (at - length q)

grouped : (q o x : List ℕ) (ss : List Step) (r : List ℕ) → wrote 0 (q ++ (o ++ x)) ss ≡ Some r → wrote 0 ((q ++ o) ++ x) ss ≡ Some r
grouped q o x ss r h = ap (λ (y : List ℕ). wrote 0 y ss) (append_assoc q o x) ∙ h

-- what steps write after octets, they write also where these stand in a message
pub after : (q : List ℕ) (ss : List Step) (o r : List ℕ) → wrote (length q) o ss ≡ Some r → wrote 0 (q ++ o) ss ≡ Some (q ++ r)
after q [] o r e = ap (λ (x : List ℕ). Some (q ++ x)) (some_same o r e)
after q (Room n ∷ ss) o r e = after q ss o r e
after q (Pad a ∷ ss) o r e =
    let far : 0 + length (q ++ o) ≡ length q + length o = omega (arith, length-append q o) in
    let zeros : List ℕ = replicate (gap (length q + length o) a) 0 in
    ap (λ (n : ℕ). wrote 0 ((q ++ o) ++ replicate (gap n a) 0) ss) far ∙ grouped q o zeros ss (q ++ r) (after q ss (o ++ zeros) r e)
after q (Stored os k ∷ ss) o r e = grouped q o os ss (q ++ r) (after q ss (o ++ os) r e)
after q (Widened os k ∷ ss) o r e = grouped q o os ss (q ++ r) (after q ss (o ++ os) r e)
after q (Copied os ∷ ss) o r e = grouped q o os ss (q ++ r) (after q ss (o ++ os) r e)
after q (Patched at sub order ∷ ss) o r e =
    let x = in_order order 4 ((length q + length o + 2 ^ 32 - sub) % 2 ^ 32) in
    let far : 0 + length (q ++ o) ≡ length q + length o = omega (arith, length-append q o) in
    let w = opened_patch (nat_le (length q) at) (nat_le (at + 4) (length q + length o)) (written o (at - length q) x)
    (λ (a : List ℕ). wrote (length q) a ss) r e in
    let low : length q ≤ at = leb-true (length q) at w.0 in
    let high : at + 4 ≤ length q + length o = leb-true (at + 4) (length q + length o) w.1 in
    ap (λ (m : ℕ). on_some (if nat_le 0 at && nat_le (at + 4) m then Some
    (written (q ++ o) (at - 0) (in_order order 4 ((m + 2 ^ 32 - sub) % 2 ^ 32))) else None) (λ (a : List ℕ). wrote 0 a ss)) far
    ∙ closed_patch (nat_le 0 at) (nat_le (at + 4) (length q + length o)) (written (q ++ o) (at - 0) x) (λ (a : List ℕ). wrote 0 a ss)
    (q ++ r)
    (le-leb 0 at (omega arith)) (le-leb (at + 4) (length q + length o) high)
    (ap (λ (z : List ℕ). wrote 0 z ss) (over q o x at low) ∙ after q ss (written o (at - length q) x) r w.2)

-- ---- chunks

-- chunks alone are chunks and aligns alone
pub chunks-flat : (b : Block) (n : ℕ) → chunk_puts b ≡ Some n → flat b ≡ Some n
chunks-flat stop n e = e
chunks-flat (chunk s ps b) n e =
    let m = mapped (λ k. length ps + k) (chunk_puts b) n e in
    ap (option_map (λ k. length ps + k)) (chunks-flat b m.0 m.1 ∙ sym m.1) ∙ e
chunks-flat _ n e = absurd cc

-- a chunk, and what follows it
after_chunk : (f : Option (List ℕ)) (k : ℕ) (y : Steps) (p : ℕ) (a o : List ℕ)
    → on_some (both (on_some f (λ os. Some (Stored os k ∷ []))) y) (wrote p a) ≡ Some o
    → (os : List ℕ) × (f ≡ Some os) × (on_some y (wrote p (a ++ os)) ≡ Some o)
after_chunk None k y p a o e = absurd cc
after_chunk (Some os) k None p a o e = absurd cc
after_chunk (Some os) k (Some ls) p a o e = (os, refl, e)

added : (s m n : ℕ) → option_map (λ k. s + k) (Some m) ≡ Some n → s + m ≡ n
added s m n e = some_same (s + m) n e

-- chunks append as many octets as they say
pub chunks-append : (c : Calls) (h : Head) (v : Val) (b : Block) (n p : ℕ) (a o : List ℕ) → lead_length b ≡ Some n
    → on_some (steps c h b v) (wrote p a) ≡ Some o → length o ≡ length a + n
chunks-append c h v stop n p a o e w = omega (arith, some_same 0 n e, ap length (some_same a o w))
chunks-append c h v (chunk s ps b) n p a o e w =
    let m = mapped (λ k. s + k) (lead_length b) n e in
    let sum : s + m.0 ≡ n = added s m.0 n (sym (ap (option_map (λ (k : ℕ). s + k)) m.1) ∙ e) in
    let x = after_chunk (filled s ps h v) (length ps) (steps c h b v) p a o w in
    let one : length x.0 ≡ s = length-filled h v ps s x.0 x.1 in
    let rest : length o ≡ length (a ++ x.0) + m.0 = chunks-append c h v b m.0 p (a ++ x.0) o m.1 x.2 in
    omega (arith, sum, one, rest, length-append a x.0)
chunks-append c h v _ n p a o e w = absurd cc
