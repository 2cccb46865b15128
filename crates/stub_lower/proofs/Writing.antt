-- What steps append, piece by piece.
use Rattle.std.proofs.Common.{◌≡◌, ℕ, ◌+◌, List, [], ◌∷◌, ◌++◌, length, Some, None, refl, sym, ap, subst, ◌∙◌, arith, append_assoc, length-append}
use Rattle.std.proofs.lemmas.List.{append-nil}
use Rattle.mint.specs.Values.{Val}
use Rattle.wire_def.specs.declared.encoding.Encoding.{Encoding}
use Rattle.wire_def.specs.declared.encoding.Encoding.TheVariants.{Xdr, CdrBig, CdrLittle, Mach}
use Rattle.wire_def.specs.declared.head.Head.{Head}
use Rattle.cast_stub.specs.declared.put.Put.{Put}
use Rattle.cast_stub.specs.Parts.{on_some}
use Rattle.cast_stub.specs.Puts.{put_octets, offset}
use Rattle.cast_stub.specs.Steps.{Steps, both, chunk_steps}
use Rattle.cast_stub.specs.Meaning.{wrote}
use Rattle.cast_stub.proofs.Folding.{wrote-append}
use Rattle.cast_stub.proofs.Putting.{placed_whole, full_whole}
use Rattle.wire_def.specs.Places.{IsPlace}

-- ---- positions that an encoding speaks of

pub place_sum : (e : Encoding) (p q : ℕ) → IsPlace e p → IsPlace e q → IsPlace e (p + q)
place_sum Xdr p q h j = omega arith
place_sum Mach p q h j = omega arith
place_sum CdrBig p q h j = tt
place_sum CdrLittle p q h j = tt

pub place_zero : (e : Encoding) → IsPlace e 0
place_zero Xdr = refl
place_zero Mach = refl
place_zero CdrBig = tt
place_zero CdrLittle = tt

-- ---- steps that append these octets from a position

abbrev pub Writes : Steps → ℕ → List ℕ → Type 0
Writes x p o = (base : ℕ) (front : List ℕ) → base + length front ≡ p → on_some x (wrote base front) ≡ Some (front ++ o)

joined : (x y : Steps) (base : ℕ) (front o o' : List ℕ) → on_some x (wrote base front) ≡ Some (front ++ o)
    → on_some y (wrote base (front ++ o)) ≡ Some ((front ++ o) ++ o')
    → on_some (both x y) (wrote base front) ≡ Some (front ++ (o ++ o'))
joined None y base front o o' h k = absurd cc
joined (Some a) None base front o o' h k = absurd cc
joined (Some a) (Some b) base front o o' h k =
    wrote-append base front a b ∙ ap (λ x. on_some x (λ z. wrote base z b)) h ∙ k ∙ ap Some (append_assoc front o o')

pub both-writes : (x y : Steps) (p : ℕ) (o o' : List ℕ) → Writes x p o → Writes y (p + length o) o' → Writes (both x y) p (o ++ o')
both-writes x y p o o' h k base front at =
    joined x y base front o o' (h base front at) (k base (front ++ o) (omega (arith, length-append front o)))

pub none-writes : (p : ℕ) → Writes (Some []) p []
none-writes p base front at = ap Some (sym (append-nil front))

pub writes_same : (x : Steps) (p : ℕ) (o o' : List ℕ) → o ≡ o' → Writes x p o → Writes x p o'
writes_same x p o o' e h = subst (Writes x p) e h

-- and nothing after
pub writes_stop : (x : Steps) (p : ℕ) (o : List ℕ) → Writes x p o → Writes (both x (Some [])) p o
writes_stop x p o h =
    writes_same (both x (Some [])) p (o ++ []) o (append-nil o) (both-writes x (Some []) p o [] h (none-writes (p + length o)))

-- ---- the same from a position that the encoding speaks of, and up to one

abbrev pub Sends : Encoding → Steps → ℕ → List ℕ → Type 0
Sends e x p o = IsPlace e p → IsPlace e (length o) × Writes x p o

pub both-sends : (e : Encoding) (x y : Steps) (p : ℕ) (o o' : List ℕ) → Sends e x p o → Sends e y (p + length o) o'
    → Sends e (both x y) p (o ++ o')
both-sends e x y p o o' h k ok =
    let first = h ok in
    let after = k (place_sum e p (length o) ok first.0) in (
      subst (IsPlace e) (sym (length-append o o')) (place_sum e (length o) (length o') first.0 after.0),
      both-writes x y p o o' first.1 after.1,
    )

pub none-sends : (e : Encoding) (p : ℕ) → Sends e (Some []) p []
none-sends e p ok = (place_zero e, none-writes p)

pub sends_same : (e : Encoding) (x : Steps) (p : ℕ) (o o' : List ℕ) → o ≡ o' → Sends e x p o → Sends e x p o'
sends_same e x p o o' same h = subst (Sends e x p) same h

pub sends_stop : (e : Encoding) (x : Steps) (p : ℕ) (o : List ℕ) → Sends e x p o → Sends e (both x (Some [])) p o
sends_stop e x p o h =
    sends_same e (both x (Some [])) p (o ++ []) o (append-nil o) (both-sends e x (Some []) p o [] h (none-sends e (p + length o)))

-- ---- a put that fills its chunk

pub put-writes : (w : ℕ) (x : Put) (h : Head) (v : Val) (os : List ℕ) (p : ℕ) → offset x ≡ 0 → put_octets h x v ≡ Some os → length os ≡ w
    → Writes (chunk_steps w (x ∷ []) h v) p os
put-writes w x h v os p first is long base front at =
    subst (λ (k : ℕ). on_some (chunk_steps k (x ∷ []) h v) (wrote base front) ≡ Some (front ++ os)) long
    (rw (is, first, placed_whole os, full_whole os) refl)
