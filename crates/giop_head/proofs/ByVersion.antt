-- What differs between versions is a grammar in each.
use Rattle.std.proofs.Common.{◌≡◌, ℕ, zero, suc, List, [], length, refl, ap, ◌∙◌}
use Rattle.std.specs.Prelude.{slice_index}
use Rattle.wire_def.specs.declared.fault.HeadErr.TheVariants.{Item}
use Rattle.wire_def.specs.declared.head.Order.{Order}
use Rattle.wire_def.specs.Grammar.{Spelling, IsGrammar}
use Rattle.wire_def.proofs.Grammars.{done, mapped, both_are, tested_are}
use Rattle.wire_def.proofs.HeadItems.{body_is}
use Rattle.head_kit.specs.Words.{up_to}
use Rattle.giop_head.specs.Items.{short_place}
use Rattle.giop_head.specs.Versions.{FirstSpell, FirstStop, pass_first, TailSpells, TailStops, pass_tail, LastSpell, LastStop, pass_last, CloseSpells, CloseStops, pass_close, is_odd, WantsSpells, WantsStops, read_wants, TargetSpells, TargetStops, read_target}
use Rattle.giop_head.proofs.Leaves.{short_is, flag_is, padding_is}
use Rattle.giop_head.proofs.Passed.{contexts_are, any_sequence_is}

abbrev Empty : Spelling (Unit {0})
Empty p o x = o ≡ []

pub first_is : (m : ℕ) (r : Order) → IsGrammar (pass_first m r) (FirstSpell m r) (FirstStop m r)
first_is zero r = contexts_are r
first_is (suc m) r = done tt Empty (λ p. refl) (λ p o y h. (h, refl))

tail_is : (n : ℕ) (r : Order) → IsGrammar (pass_tail n r) (TailSpells n r) (TailStops n r)
unfolding pass_tail
tail_is n r = mapped (λ (x : Unit {0} × Unit {0}). x.1) (TailSpells n r) (both_are (contexts_are r) (λ contexts. padding_is n))
    (λ p o x h. h)
    (λ p o y h. ((tt, tt), refl, h))

pub last_is : (m n : ℕ) (r : Order) → IsGrammar (pass_last m n r) (LastSpell m n r) (LastStop m n r)
last_is zero n r = done tt Empty (λ p. refl) (λ p o y h. (h, refl))
last_is (suc m) n r = tail_is n r

pub close_is : (m n : ℕ) (r : Order) → IsGrammar (pass_close m n r) (CloseSpells m n r) (CloseStops m n r)
close_is zero n r = any_sequence_is r
close_is (suc m) n r = tail_is n r

pub wants_is : (m : ℕ) → IsGrammar (read_wants m) (WantsSpells m) (WantsStops m)
wants_is zero = flag_is
wants_is (suc m) = mapped (λ (x : List ℕ). is_odd (slice_index x 0)) (WantsSpells (suc m)) (body_is 4)
    (λ p o x (same, long). (ap length same ∙ long, ap (λ z. is_odd (slice_index z 0)) same))
    (λ p o y (long, is). (o, is, (refl, long)))

abbrev Key : Spelling ℕ
Key p o t = (o ≡ []) × (0 ≡ t)

pub target_is : (m : ℕ) (r : Order) → IsGrammar (read_target m r) (TargetSpells m r) (TargetStops m r)
target_is zero r = done 0 Key (λ p. (refl, refl)) (λ p o y h. h)
target_is (suc m) r = tested_are (up_to 2) Item short_place (short_is r)
