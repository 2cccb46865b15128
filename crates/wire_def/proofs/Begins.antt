-- What is read where octets begin with a value.
use Rattle.std.proofs.Common.{◌≡◌, ℕ, ◌+◌, List, ◌++◌, length, take, drop, sym, ◌∙◌, arith}
use Rattle.std.proofs.lemmas.List.{take-append-drop, length-take}
use Rattle.mint.specs.Types.{Ty}
use Rattle.mint.specs.Values.{Val}
use Rattle.wire_def.specs.declared.encoding.Encoding.{Encoding}
use Rattle.wire_def.specs.declared.fault.FaultKind.{FaultKind}
use Rattle.wire_def.specs.Grammar.{Reading, got}
use Rattle.wire_def.specs.Laws.{BeginsWith}
use Rattle.wire_def.specs.Reading.{read}
use Rattle.wire_def.proofs.Encodings.{grammar}

pub reads : (e : Encoding) (t : Ty) (p : ℕ) (o : List ℕ) (v : Val) (used : ℕ) → BeginsWith e t p o v used
    → read e t p o ≡ got v (p + used) (drop used o)
reads e t p o v used h =
    let long : length (take used o) ≡ used = omega (arith, length-take used o, h.there) in
    let whole : take used o ++ drop used o ≡ o = take-append-drop used o in
    let there = (grammar e t).reads p (take used o) (drop used o) v h.spelled.octets in
    rw (whole, long) at there

-- one value, and one place behind it
pub same_got : (v w : Val) (q r : ℕ) (a b : List ℕ) (x : Reading FaultKind Val) → x ≡ got v q a → x ≡ got w r b → (v ≡ w) × (q ≡ r)
same_got v w q r a b x first second = let same = sym first ∙ second in (cc, cc)
