-- The heads of Reply messages are a grammar.
use Rattle.std.proofs.Common.{◌≡◌, ℕ, zero, suc, ◌≤◌, List, [], refl, subst, arith}
use Rattle.std.specs.Prelude.{Err, Option, Some}
use Rattle.std.proofs.lemmas.Bool.{leb-true}
use Rattle.wire_def.specs.declared.head.Order.{Order}
use Rattle.wire_def.specs.declared.fault.HeadErr.{HeadErr}
use Rattle.wire_def.specs.Grammar.{got, map_got, Spelling, Parts, IsGrammar}
use Rattle.wire_def.proofs.Grammars.{mapped_stop, done, mapped, both_are}
use Rattle.head_kit.specs.Readers.{Stopped, reported}
use Rattle.giop_head.specs.declared.header.Heading.{Heading}
use Rattle.giop_head.specs.declared.header.HeadKind.TheVariants.{Replies}
use Rattle.giop_head.specs.Items.{LongSpells, read_long, PassSpells, StringSpells}
use Rattle.giop_head.specs.Versions.{FirstSpell, pass_first, LastSpell}
use Rattle.giop_head.specs.Header.{HeaderSpells, read_header}
use Rattle.giop_head.specs.Reported.{reply_reported}
use Rattle.giop_head.specs.Reply.{Fate, answer, user, system, SystemSpells, FateSpells, ReplySpells, SystemStops, DetailStops, FateStops, ReplyStops, read_system, read_detail, read_fate, read_head_of_reply}
use Rattle.giop_head.proofs.Leaves.{long_is, pass_is, string_is}
use Rattle.giop_head.proofs.ByVersion.{first_is, last_is}
use Rattle.giop_head.proofs.Headers.{header_is, is_expected, replies_one}

abbrev Exception : Type 0
Exception = List ℕ × (ℕ × ℕ)

abbrev Thrown : Order → Spelling Fate
Thrown r p o f = (x : Exception) × (system x.0 x.1.0 x.1.1 ≡ f) × SystemSpells r p o x

system_is : (r : Order) → IsGrammar (read_system r) (Thrown r) (SystemStops r)
unfolding read_system
system_is r =
    mapped
    (λ (x : Exception). system x.0 x.1.0 x.1.1) (Thrown r) (both_are (string_is r) (λ s.
    both_are (long_is r) (λ minor. pass_is r 2))) (λ p o x h. (x, refl, h)) (λ p o f h. h)

abbrev Bare : Spelling Fate
Bare p o f = (o ≡ []) × (answer ≡ f)

abbrev DetailOf : Order → ℕ → Spelling Fate
DetailOf r zero p o f = Bare p o f
DetailOf r (suc zero) p o f = (s : List ℕ) × (user s ≡ f) × StringSpells r p o s
DetailOf r (suc (suc m)) p o f = Thrown r p o f

detail_is : (r : Order) (m : ℕ) → IsGrammar (read_detail r m) (DetailOf r m) (DetailStops r m)
detail_is r zero = done answer Bare (λ p. (refl, refl)) (λ p o y h. h)
detail_is r (suc zero) = mapped user (DetailOf r 1) (string_is r) (λ p o s h. (s, refl, h)) (λ p o f h. h)
detail_is r (suc (suc m)) = system_is r

abbrev Told : ℕ → ℕ → Order → ℕ → Spelling Fate
Told m n r status p o f = Parts p o (λ a. PassSpells r 2 p a status) (λ q b.
    Parts q b (λ a. LastSpell m n r q a tt) (λ q' b'. DetailOf r status q' b' f))

fate_forth : (m n : ℕ) (r : Order) (status p : ℕ) (o : List ℕ) (f : Fate) → Told m n r status p o f → FateSpells m n r p o f
fate_forth m n r zero p o f (a, b, is, (number, few), (c, d, is', contexts, (none, same))) =
    subst (λ z. FateSpells m n r p o z) same (a, b, is, number, (c, d, is', contexts, none))
fate_forth m n r (suc zero) p o f (a, b, is, (number, few), (c, d, is', contexts, (s, same, id))) =
    subst (λ z. FateSpells m n r p o z) same (a, b, is, number, (c, d, is', contexts, id))
fate_forth m n r (suc (suc k)) p o f (a, b, is, (number, few), (c, d, is', contexts, (x, same, thrown))) =
    let most : suc (suc k) ≤ 2 = leb-true _ _ few in
    let two : k ≡ 0 = omega (arith, most) in
    subst (λ z. FateSpells m n r p o z) same
    (a, b, is, subst (λ (z : ℕ). LongSpells r p a (suc (suc z))) two number, (c, d, is', contexts, thrown))

fate_back : (m n : ℕ) (r : Order) (p : ℕ) (o : List ℕ) (f : Fate) → FateSpells m n r p o f
    → (x : ℕ × (Unit {0} × Fate)) × (x.1.1 ≡ f) × Told m n r x.0 p o x.1.1
fate_back m n r p o answer (a, b, is, number, (c, d, is', contexts, none)) =
    ((0, (tt, answer)), refl, (a, b, is, (number, refl), (c, d, is', contexts, (none, refl))))
fate_back m n r p o (user s) (a, b, is, number, (c, d, is', contexts, id)) =
    ((1, (tt, user s)), refl, (a, b, is, (number, refl), (c, d, is', contexts, (s, refl, id))))
fate_back m n r p o (system s minor completion) (a, b, is, number, (c, d, is', contexts, thrown)) = (
  (2, (tt, system s minor completion)),
  refl,
  (a, b, is, (number, refl), (c, d, is', contexts, ((s, (minor, completion)), refl, thrown))),
)

fate_is : (m n : ℕ) (r : Order) → IsGrammar (read_fate m n r) (FateSpells m n r) (FateStops m n r)
unfolding read_fate
fate_is m n r = mapped (λ (x : ℕ × (Unit {0} × Fate)). x.1.1) (FateSpells m n r)
    (both_are (pass_is r 2) (λ status. both_are (last_is m n r) (λ contexts. detail_is r status)))
    (λ p o x h. fate_forth m n r x.0 p o x.1.1 h)
    (fate_back m n r)

abbrev some_fate : Fate → Option Fate
some_fate f = Some f

abbrev Values : Type 0
Values = Heading × (Unit {0} × (ℕ × Fate))

abbrev Fields : ℕ → ℕ → Order → ℕ → Fate → ℕ → List ℕ → Type 0
Fields m n r id f p o = Parts p o (λ a. FirstSpell m r p a tt) (λ q b.
    Parts q b (λ a. LongSpells r q a id) (λ s c. FateSpells m n r s c f))

forth : (n : ℕ) (r : Order) (m type id : ℕ) (f : Fate) (p : ℕ) (o : List ℕ)
    → Parts p o (λ a. HeaderSpells Replies n p a (record { order = r; message_type = type; minor = m })) (Fields m n r id f)
    → ReplySpells n p o (record { order = r; minor = m; id = id; fate = f })
forth n r m type id f p o (a, b, is, header, fields) =
    let one : type ≡ 1 =
    replies_one type (is_expected Replies n a (record { order = r; message_type = type; minor = m }) header.1) in
    (a, b, is, subst (λ z. HeaderSpells Replies n p a (record { order = r; message_type = z; minor = m })) one header, fields)

pub reply_is : (n : ℕ) → IsGrammar (read_head_of_reply n) (ReplySpells n) (ReplyStops n)
reply_is n = mapped (λ (x : Values). record { order = x.0.order; minor = x.0.minor; id = x.1.1.0; fate = x.1.1.1 }) (ReplySpells n)
    (both_are (header_is Replies n) (λ h.
    both_are (first_is h.minor h.order) (λ contexts. both_are (long_is h.order) (λ id. fate_is h.minor n h.order))))
    (λ p o x h. forth n x.0.order x.0.minor x.0.message_type x.1.1.0 x.1.1.1 p o h)
    (λ p o y h. ((record { order = y.order; message_type = 1; minor = y.minor }, (tt, (y.id, y.fate))), refl, h))

-- a reply stops where how it fared does
pub stopped_late : (n p : ℕ) (o : List ℕ) (h : Heading) (q s id t : ℕ) (a b c : List ℕ) (e : HeadErr)
    → read_header Replies n p o ≡ got h q a → pass_first h.minor h.order q a ≡ got tt s b → read_long h.order s b ≡ got id t c
    → Stopped e (map_got some_fate (read_fate h.minor n h.order t c))
    → reported reply_reported (read_head_of_reply n p o) ≡ Err e
stopped_late n p o h q s id t a b c e header contexts number (at, stops) =
    rw (header, contexts, number, mapped_stop some_fate (read_fate h.minor n h.order t c) e at stops) refl
