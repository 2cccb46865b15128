-- Credentials and verifiers are a grammar.
use Rattle.std.proofs.Common.{◌≡◌, ℕ, ◌≤◌, List, ◌++◌, length, replicate, refl, arith}
use Rattle.std.proofs.lemmas.Bool.{leb-true, le-leb}
use Rattle.wire_def.specs.declared.fault.HeadErr.TheVariants.{Cred}
use Rattle.wire_def.specs.declared.head.Order.TheVariants.{Big}
use Rattle.wire_def.specs.Grammar.{Spelling, Parts, IsGrammar}
use Rattle.wire_def.specs.Scalars.{gap}
use Rattle.wire_def.specs.HeadItems.{BodySpells}
use Rattle.wire_def.proofs.Grammars.{mapped, both_are}
use Rattle.wire_def.proofs.HeadItems.{body_is}
use Rattle.head_kit.specs.Words as kit
use Rattle.head_kit.specs.Words.{IsWord, up_to}
use Rattle.back_xdr.specs.Words.{word, WordSpells, PassSpells}
use Rattle.back_xdr.specs.Auth.{Auth, AuthSpells, AuthStops, read_auth}
use Rattle.head_kit.proofs.Words.{word_is, pass_is}
use Rattle.back_xdr.proofs.Pads.{pad_is}

-- the items of one, in their order
abbrev Items : Spelling (ℕ × (ℕ × (List ℕ × Unit {0})))
Items p o x =
    Parts p o (λ a. WordSpells p a x.0) (λ q b.
    Parts q b (λ a. PassSpells (up_to 400) q a x.1.0) (λ r c.
    Parts r c (λ a. BodySpells x.1.0 r a x.1.1.0) (λ s d. d ≡ replicate (gap x.1.0 4) 0)))

forth : (p : ℕ) (o : List ℕ) (x : ℕ × (ℕ × (List ℕ × Unit {0}))) → Items p o x → AuthSpells p o (record { flavour = x.0; body = x.1.1.0 })
unfolding AuthSpells kit.WordSpells
forth p o x (a, b, is, (first, fits), (a', b', is', ((second, fits'), most), (a'', b'', is'', (third, long), fourth))) =
    let bound : x.1.0 ≤ 400 = leb-true _ _ most in
    (rw (is, first, is', second, is'', third, fourth, long) refl, (fits, rw long bound))

back : (p : ℕ) (o : List ℕ) (y : Auth) → AuthSpells p o y
    → (x : ℕ × (ℕ × (List ℕ × Unit {0}))) × (record { flavour = x.0; body = x.1.1.0 } ≡ y) × Items p o x
unfolding AuthSpells kit.WordSpells
back p o y (is, (flavour, bound)) =
    let n = length y.body in
    let few : IsWord n = omega (arith, bound) in
    let pad : List ℕ = replicate (gap n 4) 0 in (
      (y.flavour, (n, (y.body, tt))),
      refl,
      (
        word y.flavour,
        word n ++ (y.body ++ pad),
        is,
        (refl, flavour),
        (word n, y.body ++ pad, refl, ((refl, few), le-leb _ _ bound), (y.body, pad, refl, (refl, refl), refl)),
      ),
    )

pub auth_is : IsGrammar read_auth AuthSpells AuthStops
unfolding read_auth AuthStops
auth_is = mapped (λ x. record { flavour = x.0; body = x.1.1.0 }) AuthSpells
    (both_are (word_is Big) (λ flavour. both_are (pass_is Big (up_to 400) Cred) (λ n. both_are (body_is n) (λ body. pad_is (gap n 4)))))
    forth back
