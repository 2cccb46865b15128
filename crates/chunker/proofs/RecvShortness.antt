-- In chunked receive code at most seven needs and skips stand together: each skip that is kept makes a greater multiple known.
use Rattle.std.proofs.Common.{◌≡◌, ℕ, zero, suc, ◌+◌, ◌≤◌, List, [], ◌∷◌, ◌++◌, map, Option, Some, None, Bool, true, false, if◌then◌else◌, refl, arith}
use Rattle.wire_def.specs.Scalars.{gap}
use Rattle.cast_stub.specs.declared.recv.Get.{Get}
use Rattle.cast_stub.specs.RecvBlock.{Recv, finish, need, need_row, skip_any, skip_zero, pass, desc, row_block, row_wide, each, switch, if_there, call, Cases, no_default, default, case}
use Rattle.cast_stub.specs.Steps.{is_width}
use Rattle.chunker.specs.declared.phase.Phase.{Phase}
use Rattle.chunker.specs.Left.{meet_end, or_unknown, by_fours}
use Rattle.chunker.specs.Phases.{unknown, modulo, shift, is_known, aligned}
use Rattle.chunker.specs.RecvChunked.{moved, zeros, unread, seen_with, taken, closed, chunked, cases_chunked}
use Rattle.chunker.specs.RecvKept.{AreFewAfter, FewInCases, AreTestsFew}
use Rattle.chunker.specs.RecvLeft.{leave, cases_leave, looped, switched, perhaps}
use Rattle.chunker.proofs.Shortness.{Allows, allowed, six, allows_known, two_more, Known, meet_known, aligned_known, EndKnown, meet_end_known}
use Rattle.cast_stub.proofs.Widths.{one, wide_is}

few_taken : (k n : ℕ) (gs : List Get) (r : Recv) → AreFewAfter 7 k r → AreFewAfter 7 k (taken n gs r)
few_taken k n (g ∷ gs) r h = h
few_taken k zero [] r h = h
few_taken k (suc n) [] r h = h

-- behind so many, with one more perhaps
few_closed : (k n : ℕ) (gs : List Get) (m : ℕ) (r : Recv) → ((j : ℕ) → j ≤ suc k → AreFewAfter 7 j r) → AreFewAfter 7 k (closed n gs m r)
few_closed k n gs zero r f = few_taken k n gs r (f k (omega arith))
few_closed k n gs (suc m) r f = few_taken (suc k) n gs r (f (suc k) (omega arith))

mutual
  leave_known : (b : Recv) (ph : Phase) → Known ph → Known (leave ph b)
  leave_known finish ph k = k
  leave_known (need n r) ph k = leave_known r ph k
  leave_known (need_row p u e r) ph k = leave_known r ph k
  leave_known (skip_any a r) ph k = leave_known r (aligned ph a) (aligned_known ph a k)
  leave_known (skip_zero a r) ph k = leave_known r (aligned ph a) (aligned_known ph a k)
  leave_known (pass n gs r) ph k = leave_known r (shift ph n) k
  leave_known (desc p name size mul r) ph k = leave_known r unknown one
  leave_known (row_block p o r) ph k = leave_known r unknown one
  leave_known (row_wide p o r) ph k = leave_known r (by_fours ph) (meet_known ph (shift ph 4))
  leave_known (each p b r) ph k = leave_known r (looped ph b) (meet_known ph (leave unknown b))
  leave_known (switch p cs r) ph k = leave_known r (switched ph cs) (ends_known cs ph None k tt)
  leave_known (if_there p b r) ph k = leave_known r (perhaps ph b) (meet_known ph (leave ph b))
  leave_known (call i p r) ph k = leave_known r unknown one

  ends_known : (cs : Cases) (ph : Phase) (e : Option Phase) → Known ph → EndKnown e → Known (or_unknown (cases_leave ph e cs))
  ends_known no_default ph None k l = one
  ends_known no_default ph (Some x) k l = l
  ends_known (default b) ph e k l = meet_end_known e (leave ph b) (leave_known b ph k)
  ends_known (case n b cs) ph e k l = ends_known cs ph (Some (meet_end e (leave ph b))) k (meet_end_known e (leave ph b)
      (leave_known b ph k))

-- a skip that becomes part of the take, is kept, or refuses
skip_few : (a : ℕ) (next other rest : Recv) (ph : Phase) (w k n : ℕ) (gs : List Get) (m : ℕ) → Allows ph.m w → k ≤ w → AreFewAfter 7 k next
    → ((j : ℕ) → AreFewAfter 7 (suc j) rest → AreFewAfter 7 j other) → ((x i : ℕ) → Allows a x → i ≤ x → AreFewAfter 7 i rest)
    → (last : Recv) → AreFewAfter 7 k last
    → AreFewAfter 7 k (if is_width a then (if is_known ph a then next else closed n gs m other) else last)
skip_few a next other rest ph w k n gs m g le on apart off last same = by_width (is_width a) refl where
  by_known : (s : Bool) → is_known ph a ≡ s → is_width a ≡ true → AreFewAfter 7 k (if s then next else closed n gs m other)
  by_known true e v = on
  by_known false e v =
      let x = allowed a (wide_is a v) in
      few_closed k n gs m other (λ j l.
      apart j (off x.many (suc j) x.allows (omega (arith, l, le, two_more ph.m w a x.many g x.allows e))))

  by_width : (t : Bool) → is_width a ≡ t → AreFewAfter 7 k (if t then (if is_known ph a then next else closed n gs m other) else last)
  by_width true v = by_known (is_known ph a) refl v
  by_width false v = same

-- at the start of a block
fresh_of : (b : Recv) (ph : Phase) → Known ph → ((w : ℕ) → Allows ph.m w → AreTestsFew 7 (chunked ph 0 [] 0 b))
    → AreTestsFew 7 (chunked ph 0 [] 0 b)
fresh_of b ph known f = let x = allowed ph.m known in f x.many x.allows

mutual
  pub few : (b : Recv) (ph : Phase) (w k n : ℕ) (gs : List Get) (m : ℕ) → Allows ph.m w → k ≤ w → AreFewAfter 7 k (chunked ph n gs m b)
  few finish ph w k n gs m g le = few_closed k n gs m finish (λ j l. omega (arith, l, le, six ph.m w g))
  few (need i r) ph w k n gs m g le = few r ph w k n gs (seen_with m n i) g le
  few (need_row p u x r) ph w k n gs m g le =
      few_closed k n gs m (need_row p u x (chunked ph 0 [] 0 r)) (λ j l. (
        omega (arith, l, le, six ph.m w g),
        few r ph w 0 0 [] 0 g (omega arith),
      ))
  few (skip_any a r) ph w k n gs m g le =
      let i = gap ph.r a in
      let rest = chunked (modulo a 0) 0 [] 0 r in
      skip_few a (chunked (shift ph i) (n + i) gs (seen_with m n i) r) (skip_any a rest) rest ph w k n gs m g le
      (few r (shift ph i) w k (n + i) gs (seen_with m n i) g le) (λ j h. h) (λ x j y l. few r (modulo a 0) x j 0 [] 0 y l)
      (chunked ph n (gs ++ unread n a) m r) (few r ph w k n (gs ++ unread n a) m g le)
  few (skip_zero a r) ph w k n gs m g le =
      let i = gap ph.r a in
      let rest = chunked (modulo a 0) 0 [] 0 r in
      skip_few a (chunked (shift ph i) (n + i) (gs ++ zeros n i) (seen_with m n i) r) (skip_zero a rest) rest ph w k n gs m g le
      (few r (shift ph i) w k (n + i) (gs ++ zeros n i) (seen_with m n i) g le) (λ j h. h) (λ x j y l. few r (modulo a 0) x j 0 [] 0 y l)
      (chunked ph n (gs ++ unread n a) m r) (few r ph w k n (gs ++ unread n a) m g le)
  few (pass s hs r) ph w k n gs m g le = few r (shift ph s) w k (n + s) (gs ++ map (moved n) hs) m g le
  few (desc p name size mul r) ph w k n gs m g le =
      few_closed k n gs m (desc p name size mul (chunked unknown 0 [] 0 r)) (λ j l. (
        omega (arith, l, le, six ph.m w g),
        fresh_of r unknown one (λ z y. few r unknown z 0 0 [] 0 y (omega arith)),
      ))
  few (row_block p o r) ph w k n gs m g le =
      few_closed k n gs m (row_block p o (chunked unknown 0 [] 0 r)) (λ j l. (
        omega (arith, l, le, six ph.m w g),
        fresh_of r unknown one (λ z y. few r unknown z 0 0 [] 0 y (omega arith)),
      ))
  few (row_wide p o r) ph w k n gs m g le =
      few_closed k n gs m (row_wide p o (chunked (by_fours ph) 0 [] 0 r)) (λ j l. (
        omega (arith, l, le, six ph.m w g),
        fresh_of r (by_fours ph) (meet_known ph (shift ph 4)) (λ z y. few r (by_fours ph) z 0 0 [] 0 y (omega arith)),
      ))
  few (each p b r) ph w k n gs m g le =
      let s = looped ph b in
      let known = meet_known ph (leave unknown b) in
      few_closed k n gs m (each p (chunked s 0 [] 0 b) (chunked s 0 [] 0 r)) (λ j l. (
        omega (arith, l, le, six ph.m w g),
        (
          fresh_of b s known (λ z y. few b s z 0 0 [] 0 y (omega arith)),
          fresh_of r s known (λ z y. few r s z 0 0 [] 0 y (omega arith)),
        ),
      ))
  few (switch p cs r) ph w k n gs m g le =
      let s = switched ph cs in
      few_closed k n gs m (switch p (cases_chunked ph cs) (chunked s 0 [] 0 r)) (λ j l. (
        omega (arith, l, le, six ph.m w g),
        (
          few_cases cs ph w g,
          fresh_of r s (ends_known cs ph None (allows_known ph w g) tt) (λ z y. few r s z 0 0 [] 0 y (omega arith)),
        ),
      ))
  few (if_there p b r) ph w k n gs m g le =
      let s = perhaps ph b in
      few_closed k n gs m (if_there p (chunked ph 0 [] 0 b) (chunked s 0 [] 0 r)) (λ j l. (
        omega (arith, l, le, six ph.m w g),
        (
          few b ph w 0 0 [] 0 g (omega arith),
          fresh_of r s (meet_known ph (leave ph b)) (λ z y. few r s z 0 0 [] 0 y (omega arith)),
        ),
      ))
  few (call i p r) ph w k n gs m g le =
      few_closed k n gs m (call i p (chunked unknown 0 [] 0 r)) (λ j l. (
        omega (arith, l, le, six ph.m w g),
        fresh_of r unknown one (λ z y. few r unknown z 0 0 [] 0 y (omega arith)),
      ))

  pub few_cases : (cs : Cases) (ph : Phase) (w : ℕ) → Allows ph.m w → FewInCases 7 (cases_chunked ph cs)
  few_cases no_default ph w g = tt
  few_cases (default b) ph w g = few b ph w 0 0 [] 0 g (omega arith)
  few_cases (case i b cs) ph w g = (few b ph w 0 0 [] 0 g (omega arith), few_cases cs ph w g)

pub few_fresh : (b : Recv) (ph : Phase) → Known ph → AreTestsFew 7 (chunked ph 0 [] 0 b)
few_fresh b ph known = fresh_of b ph known (λ w g. few b ph w 0 0 [] 0 g (omega arith))
