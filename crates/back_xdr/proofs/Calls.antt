-- The heads of calls are a grammar.
use Rattle.std.proofs.Common.{◌≡◌, ℕ, List, refl, arith}
use Rattle.std.proofs.lemmas.Bool.{eqb-true}
use Rattle.wire_def.specs.declared.fault.HeadErr.TheVariants.{Version, Type_}
use Rattle.wire_def.specs.declared.head.Order.TheVariants.{Big}
use Rattle.wire_def.specs.Grammar.{Spelling, Parts, IsGrammar}
use Rattle.wire_def.proofs.Grammars.{mapped, both_are}
use Rattle.head_kit.specs.Words as kit
use Rattle.head_kit.specs.Words.{only}
use Rattle.back_xdr.specs.Words.{WordSpells, PassSpells}
use Rattle.back_xdr.specs.Auth.{AuthSpells}
use Rattle.back_xdr.specs.Call.{Call, Values, call_in, CallSpells, CallStops, read_head_of_call}
use Rattle.head_kit.proofs.Words.{word_is, pass_is}
use Rattle.back_xdr.proofs.Auths.{auth_is}

-- the items of one, in their order
abbrev Items : Spelling Values
Items p o x =
    Parts p o (λ a. WordSpells p a x.0) (λ p1 o1.
    Parts p1 o1 (λ a. PassSpells (only 0) p1 a x.1.0) (λ p2 o2.
    Parts p2 o2 (λ a. PassSpells (only 2) p2 a x.1.1.0) (λ p3 o3.
    Parts p3 o3 (λ a. WordSpells p3 a x.1.1.1.0) (λ p4 o4.
    Parts p4 o4 (λ a. WordSpells p4 a x.1.1.1.1.0) (λ p5 o5.
    Parts p5 o5 (λ a. WordSpells p5 a x.1.1.1.1.1.0) (λ p6 o6.
    Parts p6 o6 (λ a. AuthSpells p6 a x.1.1.1.1.1.1.0) (λ p7 o7. AuthSpells p7 o7 x.1.1.1.1.1.1.1)))))))

forth : (p : ℕ) (o : List ℕ) (x : Values) → Items p o x → CallSpells p o (call_in x)
unfolding AuthSpells kit.WordSpells
forth p o x (
  a,
  b,
  is,
  (first, fits),
  (
    a1,
    b1,
    is1,
    ((first1, fits1), kind),
    (
      a2,
      b2,
      is2,
      ((first2, fits2), protocol),
      (
        a3,
        b3,
        is3,
        (first3, fits3),
        (a4, b4, is4, (first4, fits4), (a5, b5, is5, (first5, fits5), (a6, b6, is6, (first6, fits6), (first7, fits7)))),
      ),
    ),
  ),
) =
    let zero_ : x.1.0 ≡ 0 = eqb-true _ _ kind in
    let two : x.1.1.0 ≡ 2 = eqb-true _ _ protocol in (
      rw (is, first, is1, first1, is2, first2, is3, first3, is4, first4, is5, first5, is6, first6, first7, zero_, two) refl,
      record { xid = fits; program = fits3; version = fits4; procedure = fits5; cred = fits6; verf = fits7 },
    )

back : (p : ℕ) (o : List ℕ) (y : Call) → CallSpells p o y → (x : Values) × (call_in x ≡ y) × Items p o x
unfolding AuthSpells kit.WordSpells
back p o y (is, fits) = (
  (y.xid, (0, (2, (y.program, (y.version, (y.procedure, (y.cred, y.verf))))))),
  refl,
  (
    _,
    _,
    is,
    (refl, fits.xid),
    (
      _,
      _,
      refl,
      ((refl, omega arith), refl),
      (
        _,
        _,
        refl,
        ((refl, omega arith), refl),
        (
          _,
          _,
          refl,
          (refl, fits.program),
          (
            _,
            _,
            refl,
            (refl, fits.version),
            (
              _,
              _,
              refl,
              (refl, fits.procedure),
              (_, _, refl, (refl, fits.cred), (refl, fits.verf)),
            ),
          ),
        ),
      ),
    ),
  ),
)

pub call_is : IsGrammar read_head_of_call CallSpells CallStops
call_is = mapped call_in CallSpells
    (both_are (word_is Big) (λ xid. both_are (pass_is Big (only 0) Type_) (λ type. both_are (pass_is Big (only 2) Version) (λ protocol.
    both_are (word_is Big) (λ program. both_are (word_is Big) (λ version. both_are (word_is Big) (λ procedure.
    both_are auth_is (λ cred. auth_is))))))))
    forth back
