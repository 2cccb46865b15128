-- The first end of a line that is sought from a place on, by induction on the octets that were passed over.
use Rattle.std.proofs.Common.{◌≡◌, ℕ, zero, suc, ◌+◌, ◌-◌, ◌<◌, ◌≤◌, ◌==◌, ◌≢◌, List, ◌∷◌, ◌++◌, length, take, drop, drop-cons, get_or, sym, ◌∙◌, ap, subst, arith}
use Rattle.std.proofs.lemmas.List.{get_or-drop, take-append-drop, take_all, length-drop}
use Rattle.std.proofs.lemmas.List.Elements.{All-more}
use Rattle.std.proofs.lemmas.Bool.Decides.{nat_tests}
use Rattle.memchr.specs.Find.{NoneBefore, Nowhere, Passes, is_byte}
use Rattle.kit_base.specs.Lines.{HasNoEnd}

-- the first end is at a place
abbrev pub IsFirstEnd : List ℕ → ℕ → Type 0
IsFirstEnd rest n = NoneBefore (Passes (is_byte 10) rest) 0 (length rest) n × Passes (is_byte 10) rest n

-- octets without the end of a line
abbrev pub IsWithout : List ℕ → Type 0
IsWithout rest = Nowhere (Passes (is_byte 10) rest) 0 (length rest)

-- where no end was passed over, none ends before the place that was come to
pub none_before : (octets : List ℕ) (from n : ℕ) → HasNoEnd (take from octets)
    → Nowhere (Passes (is_byte 10) (drop from octets)) 0 n → from + n ≤ length octets → HasNoEnd (take (from + n) octets)
none_before octets from zero none passed within =
    let same : from ≡ from + 0 = omega arith in
    subst (λ (i : ℕ). HasNoEnd (take i octets)) same none
none_before octets from (suc n) none passed within =
    let so_far = none_before octets from n none (λ k low high. passed k low (omega (arith, high))) (omega (arith, within)) in
    let here = get_or-drop from octets n 0 in
    let next : from + n + 1 ≡ from + suc n = omega arith in
    let more = All-more (λ x. x ≢ 10) octets (from + n) 0 (omega (arith, within)) so_far
    (λ e. passed n (omega arith) (omega arith) (ap (λ (x : ℕ). x == 10) (here ∙ e))) in
    subst (λ (i : ℕ). HasNoEnd (take i octets)) next more

-- octets are cut at the first end that was found
pub cut_at : (octets : List ℕ) (from n : ℕ) → from + n < length octets → Passes (is_byte 10) (drop from octets) n
    → octets ≡ take (from + n) octets ++ 10 ∷ drop (from + n + 1) octets
cut_at octets from n within here =
    let value : get_or octets (from + n) 0 ≡ 10 = grind (arith, nat_tests, here, get_or-drop from octets n 0) in
    let cut : drop (from + n) octets ≡ get_or octets (from + n) 0 ∷ drop (suc (from + n)) octets = drop-cons octets (from + n) 0 within in
    let next : suc (from + n) ≡ from + n + 1 = omega arith in
    let rest : drop (from + n) octets ≡ 10 ∷ drop (from + n + 1) octets = rw (value, next) at cut in
    sym (take-append-drop (from + n) octets) ∙ ap (λ (l : List ℕ). take (from + n) octets ++ l) rest

-- where none was passed over to the end of what is left, there is none at all
pub none_at_all : (octets : List ℕ) (from : ℕ) → from ≤ length octets → HasNoEnd (take from octets)
    → Nowhere (Passes (is_byte 10) (drop from octets)) 0 (length (drop from octets)) → HasNoEnd octets
none_at_all octets from within none passed =
    let n = length octets - from in
    let count : length (drop from octets) ≡ n = length-drop from octets in
    let whole : from + n ≡ length octets = omega (arith, within) in
    let all = none_before octets from n none (λ k low high. passed k low (omega (arith, high, count))) (omega (arith, whole)) in
    subst HasNoEnd (take_all (from + n) octets (omega (arith, whole))) all
