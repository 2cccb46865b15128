-- Lists of eight.
use Rattle.std.proofs.Common.{◌≡◌, ℕ, zero, suc, ◌+◌, ◌-◌, ◌*◌, ◌/◌, ◌≤◌, max, List, [], ◌∷◌, get_or, length, true, nat_le, refl, ap, ◌∙◌, arith}
use Rattle.std.specs.List.{list_all}
use Rattle.std.proofs.lemmas.Bool.{leb-true}
use Rattle.mint.specs.declared.kind.Kind.{Kind}
use Rattle.mint.specs.declared.kind.Kind.TheVariants as kind
use Rattle.mint.specs.declared.kind.Count.{Count}
use Rattle.mint.specs.Types.{number, label, text, row_of}
use Rattle.wire_def.specs.declared.encoding.Encoding.{Encoding}
use Rattle.wire_def.specs.declared.encoding.Encoding.TheVariants.{Xdr, CdrBig, CdrLittle, Mach}
use Rattle.wire_def.specs.Scalars.{gap}
use Rattle.wire_def.specs.Lone.{IsPlain}
use Rattle.wire_def.proofs.ScalarGrammar.{left_true, right_true}
use Rattle.storage_class.specs.Classing.{greatest}
use Rattle.storage_class.specs.Spans.{scalar_span, elements_length, array_most, array_counted, text_counted, array_span}
use Rattle.wire_def.proofs.DescribedGrammar.{no_gap}

pub reported_at : (f : List ℕ) (i : ℕ) → list_all (λ n. nat_le n 4294967295) f ≡ true → get_or f i 0 ≤ 4294967295
reported_at [] i h = omega arith
reported_at (n ∷ ns) zero h = leb-true n 4294967295 (left_true _ _ h)
reported_at (n ∷ ns) (suc i) h = reported_at ns i (right_true (nat_le n 4294967295) _ h)

pub eight : (f : List ℕ) → length f ≡ 8
    → get_or f 0 0 ∷ get_or f 1 0 ∷ get_or f 2 0 ∷ get_or f 3 0 ∷ get_or f 4 0 ∷ get_or f 5 0 ∷ get_or f 6 0 ∷ get_or f 7 0 ∷ [] ≡ f
eight (a ∷ b ∷ c ∷ d ∷ e ∷ f ∷ g ∷ h ∷ []) long = refl
eight _ long = absurd cc

max_joins : (a b c : ℕ) → max (max a b) c ≡ max a (max b c)
max_joins a b c = omega arith

four : (a b c d : ℕ) (ns : List ℕ) → max (max a (max b (max c d))) (greatest ns) ≡ greatest (a ∷ b ∷ c ∷ d ∷ ns)
four a b c d ns = max_joins a (max b (max c d)) (greatest ns)
    ∙ ap (max a) (max_joins b (max c d) (greatest ns) ∙ ap (max b) (max_joins c d (greatest ns)))

last_four : (a b c d : ℕ) → max a (max b (max c d)) ≡ greatest (a ∷ b ∷ c ∷ d ∷ [])
last_four a b c d = ap (λ z. max a (max b (max c z))) (no_gap d) where
  no_gap : (n : ℕ) → n ≡ max n 0
  no_gap n = omega arith

pub greatest_of : (f : List ℕ) → length f ≡ 8
    → max (max (get_or f 0 0) (max (get_or f 1 0) (max (get_or f 2 0) (get_or f 3 0))))
    (max (get_or f 4 0) (max (get_or f 5 0) (max (get_or f 6 0) (get_or f 7 0))))
    ≡ greatest f
greatest_of (a ∷ b ∷ c ∷ d ∷ e ∷ f ∷ g ∷ h ∷ []) long =
    ap (max (max a (max b (max c d)))) (last_four e f g h) ∙ four a b c d (e ∷ f ∷ g ∷ h ∷ [])
greatest_of _ long = absurd cc

pub ruleset eights = (reported_at, eight, greatest_of)

pub label_same : (e : Encoding) (ls : List Rattle.std.proofs.Common.ℤ) → scalar_span e (number kind.I32) ≡ scalar_span e (label ls)
label_same Xdr ls = refl
label_same CdrBig ls = refl
label_same CdrLittle ls = refl
label_same Mach ls = refl

pub ruleset scalars = (label_same)

pub padded : (n : ℕ) → (n + 3) / 4 * 4 ≡ n * 1 + gap n 4
padded n = omega arith

pub row_counted : (e : Encoding) (k : Kind) (c : Count) → IsPlain e → array_span e (row_of k c) ≡ array_counted e (row_of k c) c
row_counted Xdr k c h = refl
row_counted CdrBig k c h = refl
row_counted CdrLittle k c h = refl
row_counted Mach k c h = absurd h

pub text_counted_of : (e : Encoding) (c : Count) → IsPlain e → (e ≡ Xdr → ⊥) → array_span e (text c) ≡ text_counted e c
text_counted_of Xdr c h other = absurd (other refl)
text_counted_of CdrBig c h other = refl
text_counted_of CdrLittle c h other = refl
text_counted_of Mach c h other = absurd h

pub text_most : (e : Encoding) (c : Count) (n : ℕ) → IsPlain e → (e ≡ Xdr → ⊥)
    → array_most e (text c) n ≡ 7 + (0 + elements_length e (text c) n)
text_most Xdr c n h other = absurd (other refl)
text_most CdrBig c n h other = refl
text_most CdrLittle c n h other = refl
text_most Mach c n h other = absurd h

pub ruleset arrays = (padded, no_gap, row_counted, text_counted_of, text_most)
