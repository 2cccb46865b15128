-- What stub code sends, stub code receives.
use Rattle.std.proofs.Common.{◌≡◌, ℕ, ◌+◌, List, length, take, Some, sym, ap, ◌∙◌, arith, length-append}
use Rattle.std.proofs.Math.Seq.{take-append_seam}
use Rattle.mint.specs.Types.{Ty}
use Rattle.mint.specs.Values.{Val}
use Rattle.wire_def.specs.declared.encoding.Encoding.{Encoding}
use Rattle.wire_def.specs.Laws.{BeginsWith}
use Rattle.wire_def.specs.Reading.{read}
use Rattle.wire_def.specs.Send.{send}
use Rattle.wire_def.proofs.Encodings.{sent_spells}
use Rattle.cast_stub.specs.Got.{IsExact, received, reported, given}
use Rattle.cast_stub.specs.Runs.{Run, gives, refuses, strays}
use Rattle.stub_round.specs.RoundTrip.{WhatIsSentIsReceived}
use Rattle.wire_def.proofs.Begins.{reads, same_got}

module _ (e : Encoding) (t : Ty) (p : ℕ) (o : List ℕ) where
  -- a run that is exact, over octets that begin with a value's
  gives_it : (v : Val) (used : ℕ) (x : Run Val) → BeginsWith e t p o v used → IsExact e t p o x
      → (tests : ℕ) × (reported x ≡ given v (p + used) tests)
  gives_it v used (gives w s) begins exact =
      let same = same_got v w (p + used) (p + exact.0) _ _ (read e t p o) (reads e t p o v used begins) (reads e t p o w exact.0 exact.3) in
      (s.tests, ap (λ (y : Val). given y s.pos s.tests) (sym same.0) ∙ ap (λ (q : ℕ). given v q s.tests) (exact.1 ∙ sym same.1))
  gives_it v used refuses begins exact = absurd (exact v used begins)
  gives_it v used strays begins exact = absurd exact

some_same : (a b : List ℕ) → Some a ≡ Some b → a ≡ b
some_same a b e = cc

pub returned : WhatIsSentIsReceived
returned e t sends receives means sound h v s octets rest place typed is left oct short =
    let sent_octets : octets ≡ send e t s.pos v = some_same _ _ (sym is ∙ means h v s.pos place typed) in
    let first : take (length octets) s.left ≡ octets = ap (take (length octets)) left ∙ take-append_seam octets rest in
    let begins : BeginsWith e t s.pos s.left v (length octets) = record {
      there = omega (arith, ap length left, length-append octets rest);
      spelled = rw (first, sent_octets) (sent_spells e t s.pos v typed);
    } in
    gives_it e t s.pos s.left v (length octets) (received receives t s) begins (sound s place oct short)
