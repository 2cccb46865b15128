-- A run that gives what the reader gives is exact.
use Rattle.std.proofs.Common.{◌≡◌, ℕ, ◌+◌, ◌≤◌, List, length, take, drop, sym, ap, ◌∙◌, arith, length-append}
use Rattle.std.proofs.lemmas.List.{take_at}
use Rattle.std.proofs.Math.Seq.{drop-append_seam}
use Rattle.mint.specs.Types.{Ty}
use Rattle.mint.specs.Sound.{IsSound}
use Rattle.mint.specs.Values.{Val}
use Rattle.wire_def.specs.declared.encoding.Encoding.{Encoding}
use Rattle.wire_def.specs.declared.fault.FaultKind.{FaultKind}
use Rattle.wire_def.specs.Grammar.{Reading, got, stop, AreOctets}
use Rattle.wire_def.specs.Reading.{read}
use Rattle.wire_def.proofs.Grammars.{octets_before}
use Rattle.wire_def.proofs.Typing.{typed}
use Rattle.wire_def.proofs.Encodings.{grammar, are_light}
use Rattle.cast_stub.specs.Runs.{Run, gives, refuses, strays}
use Rattle.wire_def.specs.Laws.{BeginsWith}
use Rattle.cast_stub.specs.Got.{IsExact}
use Rattle.stub_lower.proofs.Agreeing.{Agrees, Same}
use Rattle.wire_def.proofs.Begins.{reads}

module _ (e : Encoding) (t : Ty) (sound : IsSound t) (p : ℕ) (o : List ℕ) (oct : AreOctets o) (short : p + length o ≤ 4194304) where
  stop_no_value : (k : FaultKind) (at : ℕ) → read e t p o ≡ stop k at → (v : Val) (used : ℕ) → BeginsWith e t p o v used → ⊥
  stop_no_value k at is v used h = let f = reads e t p o v used h in cc

  pub exact : (K : ℕ → Type 0) (x : Run Val) (r : Reading FaultKind Val) → read e t p o ≡ r → Agrees K Same x r → IsExact e t p o x
  exact K refuses (stop k at) is h = stop_no_value k at is
  exact K refuses (got y q rest) is h = absurd h
  exact K strays (stop k at) is h = absurd h
  exact K strays (got y q rest) is h = absurd h
  exact K (gives v s) (stop k at) is h = absurd h
  exact K (gives v s) (got y q rest) is h =
      let here = (grammar e t).spelled p o y q rest oct is in
      let a : List ℕ = here.0 in
      let first : take (length a) o ≡ a = ap (take (length a)) here.1 ∙ take_at a rest (length a) (omega arith) in
      let after : drop (length a) o ≡ rest = ap (drop (length a)) here.1 ∙ drop-append_seam a rest in
      let within : length a ≤ 4194304 = omega (arith, ap length here.1, length-append a rest) in
      let weighs = are_light e t sound p a y within here.3 in (
        length a,
        h.1 ∙ here.2,
        h.2 ∙ sym after,
        record {
          there = omega (arith, ap length here.1, length-append a rest);
          spelled = rw (first, h.0) (record {
            typed = record { is_of = typed e t p a y (octets_before a rest (rw here.1 at oct)) here.3; light = omega (arith, weighs) };
            octets = here.3;
          });
        },
      )
