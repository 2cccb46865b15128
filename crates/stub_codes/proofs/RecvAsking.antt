-- Code in which few needs and skips stand together makes no more tests than are allowed for the value that it gives, by induction on the block.
use Rattle.std.proofs.Common.{◌≡◌, ℕ, suc, ◌+◌, ◌*◌, ◌≤◌, ℤ, List, Option, None, Some, Bool, true, false, if◌then◌else◌, refl, ap, arith}
use Rattle.std.specs.Ordering.{int_eq}
use Rattle.mint.specs.Values.{Val, arm_in}
use Rattle.cast_stub.specs.Draft.{Draft, settle, length_in}
use Rattle.cast_stub.specs.Fill.{within, part, all_got, fill_each, fill_arm, fill_present, Callees, fill, fill_case}
use Rattle.cast_stub.specs.Into.{needed, passed, skipped, all_zero, desc_into, row_into, wide_into}
use Rattle.cast_stub.specs.Met.{of_some, of_each, of_present}
use Rattle.cast_stub.specs.Parts.{on_some, at, elements_in}
use Rattle.cast_stub.specs.RecvBlock.{Recv, finish, need, need_row, skip_any, skip_zero, pass, desc, row_block, row_wide, each, switch, if_there, call, Cases, no_default, default, case}
use Rattle.cast_stub.specs.Runs.{Place, Run, Filler, then_run, if_some}
use Rattle.chunker.specs.RecvKept.{AreFewAfter, FewInCases}
use Rattle.copy_inline.specs.RecvCallFree.{HasNoCall, CasesHaveNoCall}
use Rattle.stub_codes.specs.Asked.{asked_after, case_asked}
use Rattle.stub_codes.proofs.RecvGiven.{Gives, gives_then, gives_to, both_give, needed_same, passed_same, skipped_same, desc_up, within_up, row_up, wide_up, gets_up, row_need_same}
use Rattle.stub_codes.proofs.RecvLasting.{Kept, lasts}
use Rattle.stub_codes.proofs.RecvMade.{Fills, MadeAt, within_fills, By, in_turns, each_by, arm_by, present_by, settled_at}

module _ (c : Callees) where
  -- behind so many tests of a run, no more than are allowed for what the draft settles to
  abbrev pub Asks : Recv → ℕ → Type 0
  Asks b i = (d : Draft) (s : Place)
      → Gives (fill c b d s) (λ x u. (v : Val) → settle x ≡ Some v → u.tests + i ≤ s.tests + (7 + asked_after 7 b v))

  -- one more test, or none, of the same run
  asks_more : (op : Run Draft) (r : Recv) (i j k : ℕ) (s : Place) → Gives op (λ x u. u.tests ≤ s.tests + k) → j ≡ i + k
      → Asks r j
      → Gives (then_run op (fill c r)) (λ x u. (v : Val) → settle x ≡ Some v → u.tests + i ≤ s.tests + (7 + asked_after 7 r v))
  asks_more op r i j k s up sum rest =
      gives_then op (fill c r) (λ x u. u.tests ≤ s.tests + k)
      (λ x u. (v : Val) → settle x ≡ Some v → u.tests + i ≤ s.tests + (7 + asked_after 7 r v)) up
      (λ (y : Draft) (t : Place) few.
      gives_to (fill c r y t) (λ x u. (v : Val) → settle x ≡ Some v → u.tests + j ≤ t.tests + (7 + asked_after 7 r v))
      (λ x u. (v : Val) → settle x ≡ Some v → u.tests + i ≤ s.tests + (7 + asked_after 7 r v)) (rest y t)
      (λ (x : Draft) (u : Place) k v is. let most = k v is in omega (arith, most, few, sum)))

  -- another operation, of so many tests, and a new run behind it
  asks_other : (op : Run Draft) (r : Recv) (i k : ℕ) (s : Place) → i ≤ 7 → Gives op (λ x u. u.tests ≤ s.tests + k) → Asks r 0
      → Gives (then_run op (fill c r))
      (λ x u. (v : Val) → settle x ≡ Some v → u.tests + i ≤ s.tests + (7 + (k + (7 + asked_after 7 r v))))
  asks_other op r i k s le up rest =
      gives_then op (fill c r) (λ x u. u.tests ≤ s.tests + k)
      (λ x u. (v : Val) → settle x ≡ Some v → u.tests + i ≤ s.tests + (7 + (k + (7 + asked_after 7 r v)))) up
      (λ (y : Draft) (t : Place) few.
      gives_to (fill c r y t) (λ x u. (v : Val) → settle x ≡ Some v → u.tests + 0 ≤ t.tests + (7 + asked_after 7 r v))
      (λ x u. (v : Val) → settle x ≡ Some v → u.tests + i ≤ s.tests + (7 + (k + (7 + asked_after 7 r v)))) (rest y t)
      (λ (x : Draft) (u : Place) g v is. let most = g v is in omega (arith, most, few, le)))

  -- a row in one piece, and a new run behind it
  asks_row : (op : Run Draft) (r : Recv) (i : ℕ) (s : Place) → i ≤ 7 → Gives op (λ x u. u.tests ≤ s.tests + 0) → Asks r 0
      → Gives (then_run op (fill c r)) (λ x u. (v : Val) → settle x ≡ Some v → u.tests + i ≤ s.tests + (7 + (7 + asked_after 7 r v)))
  asks_row op r i s le up rest =
      gives_to (then_run op (fill c r)) (λ x u. (v : Val) → settle x ≡ Some v → u.tests + i ≤ s.tests + (7 + (0 + (7 + asked_after 7 r v))))
      (λ x u. (v : Val) → settle x ≡ Some v → u.tests + i ≤ s.tests + (7 + (7 + asked_after 7 r v))) (asks_other op r i 0 s le up rest)
      (λ (x : Draft) (u : Place) g v is. let most = g v is in omega (arith, most))

  -- an operation that reads the part at a path, and a new run behind it
  asks_part : (p : List ℕ) (h : Val → ℕ) (op : Filler) (r : Recv) (i : ℕ) (d : Draft) (s : Place) → i ≤ 7 → Fills h op → HasNoCall r
      → Asks r 0
      → Gives (then_run (within p op d s) (fill c r))
      (λ x u. (v : Val) → settle x ≡ Some v → u.tests + i ≤ s.tests + (7 + (of_some (at p v) h + (7 + asked_after 7 r v))))
  asks_part p h op r i d s le fills free rest =
      gives_then (within p op d s) (fill c r) (MadeAt p h s)
      (λ x u. (v : Val) → settle x ≡ Some v → u.tests + i ≤ s.tests + (7 + (of_some (at p v) h + (7 + asked_after 7 r v))))
      (within_fills p h op fills d s)
      (λ (y : Draft) (t : Place) made.
      gives_to (fill c r y t)
      (λ x u. ((v : Val) → settle x ≡ Some v → u.tests + 0 ≤ t.tests + (7 + asked_after 7 r v)) × Kept y x)
      (λ x u. (v : Val) → settle x ≡ Some v → u.tests + i ≤ s.tests + (7 + (of_some (at p v) h + (7 + asked_after 7 r v))))
      (both_give (fill c r y t) (λ x u. (v : Val) → settle x ≡ Some v → u.tests + 0 ≤ t.tests + (7 + asked_after 7 r v)) (λ x u. Kept y x)
      (rest y t) (lasts c r free y t))
      (λ (x : Draft) (u : Place) g v is.
      let most = g.0 v is in
      let few = made.2 in
      let cost : of_some (at p v) h ≡ h made.0 =
      ap (λ (z : Option Val). of_some z h) (settled_at p x v made.0 (g.1 p made.0 made.1) is) in
      omega (arith, most, few, cost, le)))

  -- a body by itself
  pub asks_body : (b : Recv) → Asks b 0 → By (λ w. 7 + asked_after 7 b w) (fill c b)
  asks_body b h d s =
      gives_to (fill c b d s) (λ x u. (v : Val) → settle x ≡ Some v → u.tests + 0 ≤ s.tests + (7 + asked_after 7 b v))
      (λ x u. (v : Val) → settle x ≡ Some v → u.tests ≤ s.tests + (7 + asked_after 7 b v)) (h d s)
      (λ (x : Draft) (u : Place) g v is. let most = g v is in omega (arith, most))

  -- what is said of a part of a value that is there
  turns_at : (z : Option Val) (g : Val → ℕ) → of_some z (in_turns g) ≡ of_some (on_some z elements_in) (of_each g)
  turns_at None g = refl
  turns_at (Some w) g = refl

  arm_at : (z : Option Val) (g : ℤ → Val → ℕ) → of_some z (λ w. of_some (arm_in w) (λ a. g a.0 a.1))
      ≡ of_some (on_some z arm_in) (λ a. g a.0 a.1)
  arm_at None g = refl
  arm_at (Some w) g = refl

  mutual
    pub asks : (b : Recv) (i : ℕ) → HasNoCall b → AreFewAfter 7 i b → Asks b i
    asks finish i free few d s = λ v is. omega (arith, few)
    asks (need n r) i free few d s =
        asks_more (needed n d s) r i (suc i) 1 s
        (gives_to (needed n d s) (λ x u. (x ≡ d) × (u.tests ≤ s.tests + 1)) (λ x u. u.tests ≤ s.tests + 1) (needed_same n d s)
        (λ (x : Draft) (u : Place) k. k.1)) (omega arith) (asks r (suc i) free few)
    asks (skip_any a r) i free few d s =
        asks_more (skipped (λ o. true) a d s) r i (suc i) 1 s
        (gives_to (skipped (λ o. true) a d s) (λ x u. (x ≡ d) × (u.tests ≤ s.tests + 1)) (λ x u. u.tests ≤ s.tests + 1)
        (skipped_same (λ o. true) a d s) (λ (x : Draft) (u : Place) k. k.1)) (omega arith) (asks r (suc i) free few)
    asks (skip_zero a r) i free few d s =
        asks_more (skipped all_zero a d s) r i (suc i) 1 s
        (gives_to (skipped all_zero a d s) (λ x u. (x ≡ d) × (u.tests ≤ s.tests + 1)) (λ x u. u.tests ≤ s.tests + 1)
        (skipped_same all_zero a d s) (λ (x : Draft) (u : Place) k. k.1)) (omega arith) (asks r (suc i) free few)
    asks (pass n gs r) i free few d s =
        gives_then (all_got gs d s) (λ x t. then_run (passed n x t) (fill c r)) (λ x u. u.tests ≤ s.tests)
        (λ x u. (v : Val) → settle x ≡ Some v → u.tests + i ≤ s.tests + (7 + asked_after 7 r v)) (gets_up gs d s)
        (λ (y : Draft) (t : Place) up.
        asks_more (passed n y t) r i i 0 s
        (gives_to (passed n y t) (λ x u. (x ≡ y) × (u.tests ≤ t.tests + 0)) (λ x u. u.tests ≤ s.tests + 0) (passed_same n y t)
        (λ (x : Draft) (u : Place) k. omega (arith, up, k.1))) (omega arith) (asks r i free few))
    asks (need_row p m e r) i free few d s =
        asks_other (if_some (part p d) (λ x. if_some (length_in x) (λ n. needed (n * m + e) d s))) r i 1 s few.0
        (gives_to (if_some (part p d) (λ x. if_some (length_in x) (λ n. needed (n * m + e) d s))) (λ x u. (x ≡ d) × (u.tests ≤ s.tests + 1))
        (λ x u. u.tests ≤ s.tests + 1) (row_need_same p m e d s) (λ (x : Draft) (u : Place) k. k.1)) (asks r 0 free few.1)
    asks (desc p name size mul r) i free few d s =
        asks_other (within p (desc_into name size mul) d s) r i 2 s few.0
        (within_up (λ s u. u.tests ≤ s.tests + 2) p (desc_into name size mul) (desc_up name size mul) d s) (asks r 0 free few.1)
    asks (row_block p o r) i free few d s =
        asks_row (within p (row_into o) d s) r i s few.0 (within_up (λ s u. u.tests ≤ s.tests + 0) p (row_into o) (row_up o) d s)
        (asks r 0 free few.1)
    asks (row_wide p o r) i free few d s =
        asks_row (within p (wide_into o) d s) r i s few.0 (within_up (λ s u. u.tests ≤ s.tests + 0) p (wide_into o) (wide_up o) d s)
        (asks r 0 free few.1)
    asks (each p b r) i free few d s =
        let g : Val → ℕ = λ w. 7 + asked_after 7 b w in
        gives_to (then_run (within p (fill_each (fill c b)) d s) (fill c r))
        (λ x u. (v : Val) → settle x ≡ Some v → u.tests + i ≤ s.tests + (7 + (of_some (at p v) (in_turns g) + (7 + asked_after 7 r v))))
        (λ x u. (v : Val) → settle x ≡ Some v → u.tests + i ≤ s.tests + (7 + asked_after 7 (each p b r) v))
        (asks_part p (in_turns g) (fill_each (fill c b)) r i d s few.0
        (each_by g (fill c b) (asks_body b (asks b 0 free.0 (few.1).0))) free.1 (asks r 0 free.1 (few.1).1))
        (λ (x : Draft) (u : Place) k v is. let most = k v is in let same = turns_at (at p v) g in omega (arith, most, same))
    asks (switch p cs r) i free few d s =
        let g : ℤ → Val → ℕ = case_asked 7 cs in
        gives_to (then_run (within p (fill_arm (fill_case c cs)) d s) (fill c r))
        (λ x u. (v : Val) → settle x ≡ Some v
        → u.tests + i ≤ s.tests + (7 + (of_some (at p v) (λ w. of_some (arm_in w) (λ a. g a.0 a.1)) + (7 + asked_after 7 r v))))
        (λ x u. (v : Val) → settle x ≡ Some v → u.tests + i ≤ s.tests + (7 + asked_after 7 (switch p cs r) v))
        (asks_part p (λ w. of_some (arm_in w) (λ a. g a.0 a.1)) (fill_arm (fill_case c cs)) r i d s few.0
        (arm_by g (fill_case c cs) (cases_ask cs free.0 (few.1).0)) free.1 (asks r 0 free.1 (few.1).1))
        (λ (x : Draft) (u : Place) k v is. let most = k v is in let same = arm_at (at p v) g in omega (arith, most, same))
    asks (if_there p b r) i free few d s =
        let g : Val → ℕ = λ w. 7 + asked_after 7 b w in
        asks_part p (of_present g) (fill_present (fill c b)) r i d s few.0
        (present_by g (fill c b) (asks_body b (asks b 0 free.0 (few.1).0))) free.1 (asks r 0 free.1 (few.1).1)
    asks (call k p r) i free few d s = absurd free

    cases_ask : (cs : Cases) → CasesHaveNoCall cs → FewInCases 7 cs → (n : ℤ) → By (case_asked 7 cs n) (fill_case c cs n)
    cases_ask no_default free few n d s = tt
    cases_ask (default b) free few n d s = asks_body b (asks b 0 free few) d s
    cases_ask (case m b cs) free few n d s =
        either (int_eq n m) (asks_body b (asks b 0 free.0 few.0) d s) (cases_ask cs free.1 few.1 n d s) where
          either : (y : Bool)
              → Gives (fill c b d s) (λ x u. (v : Val) → settle x ≡ Some v → u.tests ≤ s.tests + (7 + asked_after 7 b v))
              → Gives (fill_case c cs n d s) (λ x u. (v : Val) → settle x ≡ Some v → u.tests ≤ s.tests + case_asked 7 cs n v)
              → Gives (if y then fill c b d s else fill_case c cs n d s)
              (λ x u. (v : Val) → settle x ≡ Some v → u.tests ≤ s.tests + (if y then 7 + asked_after 7 b v else case_asked 7 cs n v))
          either true h g = h
          either false h g = g
