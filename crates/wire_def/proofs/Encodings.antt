-- The laws, over each encoding.
use Rattle.std.proofs.Common.{◌⊎◌, inl, inr, ℕ, ◌+◌, ◌≤◌, List, length, arith, length-append, ap}
use Rattle.mint.specs.Types.{Ty}
use Rattle.wire_def.specs.declared.encoding.Encoding.{Encoding}
use Rattle.wire_def.specs.Grammar.{AreOctets}
use Rattle.mint.specs.Sound.{IsSound}
use Rattle.wire_def.specs.Laws.{SentSpells, OneValue, NoneBegins, BeginsSpelled, HasFault, SpelledOrStopped, BodiesAreLight, ReadingIsGrammar}
use Rattle.wire_def.proofs.Grammars.{octets_before}
use Rattle.wire_def.proofs.TypeGrammar.{type_is}
use Rattle.wire_def.proofs.Lawful.{one_value, no_prefix, something, not_both, one_fault}
use Rattle.wire_def.proofs.Sent.{sent}
use Rattle.wire_def.proofs.Typing.{typed}
use Rattle.wire_def.proofs.Room.{light}

module _ (e : Encoding) where
  pub grammar : ReadingIsGrammar e
  grammar t = type_is e t

  pub sent_spells : SentSpells e
  sent_spells t p v h = record { typed = h; octets = sent e t p v h.is_of h.light }

  pub one : OneValue e
  one t p o v w h j = one_value (grammar t) p o v w h.octets j.octets

  pub none_begins : NoneBegins e
  none_begins t p a b v w h j = no_prefix (grammar t) p a b v w h.octets j.octets

  pub are_light : BodiesAreLight e
  are_light t sound p o v short h = light e t sound p o v short h

  module _ (t : Ty) (sound : IsSound t) (p : ℕ) (o : List ℕ) (oct : AreOctets o) (short : p + length o ≤ 4194304) where
    either : BeginsSpelled e t p o ⊎ HasFault e t p o
    either = elim (something (grammar t) p o oct) [
      | inl (v, a, b, is, h) ↦
          let within : length a ≤ 4194304 = omega (arith, ap length is, length-append a b) in
          let weighs = are_light t sound p a v within h in
          inl (
            a,
            b,
            v,
            is,
            record {
              typed = record { is_of = typed e t p a v (octets_before a b (rw is at oct)) h; light = omega (arith, weighs) };
              octets = h;
            },
          )
      | inr f ↦ inr f
    ]

    not_both_here : BeginsSpelled e t p o → HasFault e t p o → ⊥
    not_both_here (a, b, v, is, h) (k, at, f) = not_both (grammar t) p a b v k at h.octets (rw is at f)

  pub decided : SpelledOrStopped e
  decided t sound p o oct short = record {
    either = either t sound p o oct short;
    not_both = not_both_here t sound p o oct short;
    one_fault = one_fault (grammar t) p o;
  }
