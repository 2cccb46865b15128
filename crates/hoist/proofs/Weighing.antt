-- What hoisted code ensures, weighed against groups of parts.
use Rattle.std.proofs.Common.{◌≡◌, ℕ, zero, suc, ◌+◌, ◌*◌, ◌<◌, ◌≤◌, Bool, true, false, nat_lt, List, [], ◌∷◌, ◌++◌, Option, None, Some, refl, ap, arith}
use Rattle.std.proofs.lemmas.Bool.Decides.{nat_tests}
use Rattle.mint.specs.Values.{Val}
use Rattle.wire_def.specs.declared.head.Head.{Head}
use Rattle.cast_stub.specs.Parts.{on_some, at, length_in}
use Rattle.cast_stub.specs.Block.{ensure, ensure_row}
use Rattle.cast_stub.specs.Steps.{Step, Room, Steps, both, Calls, steps}
use Rattle.cast_stub.specs.Meaning.{Cost, costs}
use Rattle.cast_stub.proofs.Folding.{costs-append}
use Rattle.hoist.specs.Hoisted.{Pending, nothing, octets, row, Hoisted, some_octets, closed, flat, small, loop, apart, raised, beside, settled}

-- how often steps look at the buffer
abbrev pub checks : List Step → ℕ
checks ss = (costs ss).checks

pub checks-append : (a b : List Step) → checks (a ++ b) ≡ checks a + checks b
checks-append a b = ap (λ (c : Cost). c.checks) (costs-append a b)

abbrev pub spent : Steps → ℕ
spent None = 0
spent (Some ss) = checks ss

-- 8,192 for each look, and so many more
abbrev pub weigh : Steps → ℕ → ℕ
weigh None a = 0
weigh (Some ss) a = 8192 * checks ss + a

pub weigh_less : (s : Steps) (a b : ℕ) → a ≤ b → weigh s a ≤ weigh s b
weigh_less None a b le = omega arith
weigh_less (Some ss) a b le = omega (arith, le)

pub weigh_more : (s : Steps) (a b d : ℕ) → a ≤ b + d → weigh s a ≤ weigh s b + d
weigh_more None a b d le = omega arith
weigh_more (Some ss) a b d le = omega (arith, le)

pub weigh_both : (x s : Steps) (a : ℕ) → weigh (both x s) a ≤ 8192 * spent x + weigh s a
weigh_both None s a = omega arith
weigh_both (Some x) None a = omega arith
weigh_both (Some x) (Some y) a = omega (arith, checks-append x y)

pub weigh_quiet : (x s : Steps) (a : ℕ) → spent x ≡ 0 → weigh (both x s) a ≤ weigh s a
weigh_quiet x s a e = let b = weigh_both x s a in omega (arith, b, e)

weigh_room : (n : ℕ) (s : Steps) (a : ℕ) → weigh (both (Some (Room n ∷ [])) s) a ≤ weigh s (8192 + a)
weigh_room n None a = omega arith
weigh_room n (Some ss) a = omega (arith, checks-append (Room n ∷ []) ss)

weigh_row : (z : Option ℕ) (u n : ℕ) (s : Steps) (a : ℕ)
    → weigh (both (on_some z (λ k. Some (Room (k * u + n) ∷ []))) s) a ≤ weigh s (8192 + a)
weigh_row None u n s a = omega arith
weigh_row (Some k) u n s a = weigh_room (k * u + n) s a

-- what is to be ensured, at least and at most
abbrev pub low : Pending → ℕ
low nothing = 0
low (octets n j) = j
low (row p u n) = 8192

abbrev pub high : Pending → ℕ
high nothing = 0
high (octets n j) = suc j
high (row p u n) = 8192

abbrev whole : Pending → ℕ
whole nothing = 0
whole _ = 8192

low_some : (n k : ℕ) → low (some_octets n k) ≤ k
low_some zero k = omega arith
low_some (suc n) k = omega arith

pub high_low : (p : Pending) → high p ≤ low p + 1
high_low nothing = omega arith
high_low (octets n j) = omega arith
high_low (row p u n) = omega arith

module _ (c : Calls) (h : Head) (v : Val) where
  -- at least, and at most
  abbrev pub least : Hoisted → ℕ
  least x = weigh (steps c h x.0 v) (low x.1)

  abbrev pub greatest : Hoisted → ℕ
  greatest x = weigh (steps c h x.0 v) (high x.1)

  pub greatest_least : (x : Hoisted) → greatest x ≤ least x + 1
  greatest_least x = weigh_more (steps c h x.0 v) (high x.1) (low x.1) 1 (high_low x.1)

  closed_whole : (x : Hoisted) (a : ℕ) → weigh (steps c h (closed x) v) a ≤ weigh (steps c h x.0 v) (whole x.1 + a)
  closed_whole (b, nothing) a = weigh_less (steps c h b v) a (0 + a) (omega arith)
  closed_whole (b, octets n j) a = weigh_room n (steps c h b v) a
  closed_whole (b, row p u n) a = weigh_row (on_some (at p v) length_in) u n (steps c h b v) a

  -- code that is closed
  pub closed_fits : (x : Hoisted) (g : ℕ) → greatest x ≤ 8192 * g → spent (steps c h (closed x) v) ≤ g
  closed_fits (b, p) g le = spent_fits (steps c h (closed (b, p)) v) (closed_whole (b, p) 0) where
    up : (s : Steps) (p : Pending) → weigh s (high p) ≤ 8192 * g → weigh s (whole p + 0) ≤ 8192 * g
    up None p e = omega arith
    up (Some ss) nothing e = omega (arith, e)
    up (Some ss) (octets n j) e = omega (arith, e)
    up (Some ss) (row q u n) e = omega (arith, e)

    spent_fits : (s : Steps) → weigh s 0 ≤ weigh (steps c h b v) (whole p + 0) → spent s ≤ g
    spent_fits None e = omega arith
    spent_fits (Some ss) e = let f = up (steps c h b v) p le in omega (arith, e, f)

  module _ (own : Steps) (quiet : spent own ≡ 0) where
    after_own : (s : Steps) (a b d : ℕ) → a ≤ b + d → weigh (both own s) a ≤ weigh s b + d
    after_own s a b d le = let x = weigh_quiet own s a quiet in let y = weigh_more s a b d le in omega (arith, x, y)

    low_raised : (n : ℕ) (p : Pending) → low (raised n p) ≤ low p + 0
    low_raised n nothing = let e = low_some n 0 in omega (arith, e)
    low_raised n (octets m j) = omega arith
    low_raised n (row p u m) = omega arith

    pub flat_least : (n : ℕ) (x : Hoisted) → weigh (both own (steps c h (settled (flat n) x).0 v)) (low (settled (flat n) x).1) ≤ least x
    flat_least n (b, p) = let e = after_own (steps c h b v) (low (raised n p)) (low p) 0 (low_raised n p) in omega (arith, e)

    pub small_least : (n k : ℕ) (x : Hoisted)
        → weigh (both own (steps c h (settled (small n k) x).0 v)) (low (settled (small n k) x).1) ≤ least x + k
    small_least n k (b, nothing) = let e = low_some n k in after_own (steps c h b v) (low (some_octets n k)) 0 k (omega (arith, e))
    small_least n k (b, octets m j) = cut (nat_lt 8192 j) refl where
      cut : (z : Bool) → nat_lt 8192 j ≡ z
          → weigh (both own (steps c h (beside z n k m j b).0 v)) (low (beside z n k m j b).1) ≤ weigh (steps c h b v) j + k
      cut true e =
          let full : 8192 < j = grind (arith, nat_tests, e) in
          let f = low_some n k in
          let x = weigh_quiet own (steps c h (ensure m b) v) (low (some_octets n k)) quiet in
          let y = weigh_room m (steps c h b v) (low (some_octets n k)) in
          let w = weigh_more (steps c h b v) (8192 + low (some_octets n k)) j k (omega (arith, full, f)) in
          omega (arith, x, y, w)
      cut false e = after_own (steps c h b v) (j + k) j k (omega arith)
    small_least n k (b, row q u m) =
        let f = low_some n k in
        let x = weigh_quiet own (steps c h (ensure_row q u m b) v) (low (some_octets n k)) quiet in
        let y = weigh_row (on_some (at q v) length_in) u m (steps c h b v) (low (some_octets n k)) in
        let w = weigh_more (steps c h b v) (8192 + low (some_octets n k)) 8192 k (omega (arith, f)) in
        omega (arith, x, y, w)

    up_row : (s : Steps) (a b g : ℕ) → a ≤ 8192 + b → weigh s b ≤ 8192 * g → weigh (both own s) a ≤ 8192 * suc g
    up_row s a b g le e = let x = weigh_quiet own s a quiet in let y = weigh_more s a b 8192 (omega (arith, le)) in omega (arith, x, y, e)

    pub loop_greatest : (p : List ℕ) (u : ℕ) (x : Hoisted) (g : ℕ) → least x ≤ 8192 * g
        → weigh (both own (steps c h (settled (loop p u) x).0 v)) (high (settled (loop p u) x).1) ≤ 8192 * suc g
    loop_greatest p u (b, nothing) g le = up_row (steps c h b v) 8192 0 g (omega arith) le
    loop_greatest p u (b, octets n j) g le = up_row (steps c h b v) 8192 j g (omega arith) le
    loop_greatest p u (b, row q w m) g le =
        let x = weigh_quiet own (steps c h (ensure_row q w m b) v) 8192 quiet in
        let y = weigh_row (on_some (at q v) length_in) w m (steps c h b v) 8192 in
        let k = weigh_more (steps c h b v) (8192 + 8192) 8192 8192 (omega arith) in
        omega (arith, x, y, k, le)

  -- an operation whose bodies ensure by themselves
  pub apart_greatest : (own : Steps) (n g : ℕ) (x : Hoisted) → spent own ≤ n → greatest x ≤ 8192 * g
      → weigh (both own (steps c h (settled apart x).0 v)) (high (settled apart x).1) ≤ 8192 * (n + g)
  apart_greatest own n g x le e =
      let f = closed_fits x g e in
      let y = weigh_both own (steps c h (closed x) v) 0 in
      let z = weigh_spent (steps c h (closed x) v) in
      omega (arith, f, y, z, le) where
        weigh_spent : (s : Steps) → weigh s 0 ≤ 8192 * spent s
        weigh_spent None = omega arith
        weigh_spent (Some ss) = omega arith
