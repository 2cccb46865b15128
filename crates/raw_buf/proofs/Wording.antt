-- What words cost, one after another.
use Rattle.std.proofs.Common.{◌≡◌, ℕ, suc, ◌+◌, ◌*◌, ◌<◌, List, ◌++◌, length, take, drop, get_or, refl, sym, ap, ◌∙◌, arith}
use Rattle.std.proofs.Math.Seq.{drop-drop, take-suc}
use Rattle.std.proofs.lemmas.List.{flat_map_more}
use Rattle.kit_base.specs.Bytes.{be}
use Rattle.kit_base.specs.Causes.{raised}
use Rattle.raw_buf.specs.declared.tally.Tally.{Tally}
use Rattle.raw_buf.specs.Buf.{moved, stored}
use Rattle.raw_buf.specs.Words.{words, worded}

abbrev pub tally : ℕ → ℕ → ℕ → ℕ → Tally
tally a b c d = record { checks = a; moves = b; stores = c; rows = d }

same_tally : (a b b' c c' d : ℕ) → b ≡ b' → c ≡ c' → tally a b c d ≡ tally a b' c' d
same_tally a b b' c c' d p q = rw (p, q) refl

pub worded_zero : (t : Tally) → t ≡ worded 0 t
worded_zero t =
    let moves : t.moves ≡ raised t.moves 0 = omega arith in
    let stores : t.stores ≡ raised t.stores 0 = omega arith in
    same_tally t.checks t.moves (raised t.moves 0) t.stores (raised t.stores 0) t.rows moves stores

pub worded_more : (n : ℕ) (t : Tally) → moved (stored (worded n t)) ≡ worded (n + 1) t
worded_more n t =
    let moves : raised (raised t.moves n) 1 ≡ raised t.moves (n + 1) = omega arith in
    let stores : raised (raised t.stores n) 1 ≡ raised t.stores (n + 1) = omega arith in
    same_tally t.checks (raised (raised t.moves n) 1) (raised t.moves (n + 1)) (raised (raised t.stores n) 1) (raised t.stores (n + 1))
    t.rows moves stores

-- four octets after so many words
pub drop_more : (n : ℕ) (os : List ℕ) → drop 4 (drop (4 * n) os) ≡ drop (4 * (n + 1)) os
drop_more n os =
    let next : 4 * n + 4 ≡ 4 * (n + 1) = omega arith in
    drop-drop 4 (4 * n) os ∙ ap (λ (k : ℕ). drop k os) next

-- one word after others
pub words_more : (d ns : List ℕ) (i : ℕ) → i < length ns → (d ++ words (take i ns)) ++ be 4 (get_or ns i 0) ≡ d ++ words (take (i + 1) ns)
words_more d ns i lt =
    let next : suc i ≡ i + 1 = omega arith in
    flat_map_more (be 4) d (take i ns) (get_or ns i 0)
    ∙ ap (λ (l : List ℕ). d ++ words l) (sym (take-suc ns i 0 lt) ∙ ap (λ (k : ℕ). take k ns) next)
