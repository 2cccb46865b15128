-- What follows the head of a message is the body that was sent: to set the size changes nothing behind it.
use Rattle.std.proofs.Common.{◌≡◌, ◌≤◌, ◌+◌, ◌-◌, ℕ, List, ◌++◌, length, take, drop, length-append, refl, ◌∙◌, arith}
use Rattle.std.proofs.lemmas.List.{drop_at, length-take}
use Rattle.std.proofs.lemmas.Slice.{drop-append-drop}
use Rattle.kit_base.specs.Bytes.{be, le, written}
use Rattle.wire_def.specs.declared.encoding.Back.{Back}
use Rattle.wire_def.specs.declared.encoding.Back.TheVariants as back
use Rattle.flick_engine.specs.Backs.{sized}

-- octets that are written before a place change nothing from there on
behind : (o w : List ℕ) (at n : ℕ) → at ≤ length o → at + length w ≤ n → drop n (written o at w) ≡ drop n o
behind o w at n below fits =
    drop-append-drop (at + length w) o (take at o ++ w) n fits (omega (arith, below, length-append (take at o) w, length-take at o))

-- four octets that are written in a head leave the body behind it
in_head : (o body w : List ℕ) (at : ℕ) → length w ≡ 4 → at + 4 ≤ length o → drop (length o) (written (o ++ body) at w) ≡ body
in_head o body w at four fits =
    behind (o ++ body) w at (length o) (omega (arith, fits, length-append o body)) (omega (arith, fits, four))
    ∙ drop_at o body (length o) refl

pub follows : (k : Back) (o body : List ℕ) → 12 ≤ length o → drop (length o) (sized k (o ++ body)) ≡ body
follows back.Xdr o body long = drop_at o body (length o) refl
follows back.CdrBig o body long = in_head o body (be 4 (length (o ++ body) - 12)) 8 refl (omega (arith, long))
follows back.CdrLittle o body long = in_head o body (le 4 (length (o ++ body) - 12)) 8 refl (omega (arith, long))
follows back.Mach o body long = in_head o body (le 4 (length (o ++ body))) 4 refl (omega (arith, long))
