-- Chunked receive code gives what the given code gives, or refuses as it does, after no more tests, by induction on the block.
use Rattle.std.proofs.Common.{◌≡◌, ℕ, ◌+◌, ◌*◌, ◌≤◌, ℤ, List, [], ◌++◌, append-nil, length, map, take, drop, max, nat_lt, nat_le, None, Bool, true, false, if◌then◌else◌, refl, sym, ap, ◌∙◌, subst, arith, ltb-true, ltb-false, leb-true, le-leb}
use Rattle.std.specs.Ordering.{int_eq}
use Rattle.kit_base.specs.Causes.{raised}
use Rattle.wire_def.specs.Scalars.{gap}
use Rattle.cast_stub.specs.declared.recv.Get.{Get}
use Rattle.cast_stub.specs.RecvBlock.{Recv, finish, need, need_row, skip_any, skip_zero, pass, desc, row_block, row_wide, each, switch, if_there, call, Cases, no_default, default, case}
use Rattle.cast_stub.specs.Draft.{Draft, length_in}
use Rattle.cast_stub.specs.Into.{needed, passed, skipped, all_zero, desc_into, row_into, wide_into}
use Rattle.cast_stub.specs.Fill.{within, part, all_got, fill_each, fill_arm, fill_present, Callees, fill, fill_case}
use Rattle.cast_stub.specs.Runs.{Place, Run, gives, refuses, strays, then_run, if_some}
use Rattle.cast_stub.specs.Steps.{is_width}
use Rattle.chunker.specs.declared.phase.Phase.{Phase}
use Rattle.chunker.specs.Left.{by_fours}
use Rattle.chunker.specs.Phases.{AtPhase, unknown, modulo, shift, is_known}
use Rattle.chunker.specs.RecvChunked.{moved, zeros, unread, seen_with, closed, chunked, cases_chunked}
use Rattle.chunker.specs.RecvKept.{after_tests, EndsAs}
use Rattle.chunker.specs.RecvLeft.{leave, looped, switched, perhaps}
use Rattle.chunker.proofs.Known.{at_shift, known_gap, behind_gap, at_fours, meet_first, meet_second}
use Rattle.chunker.proofs.RecvEnding.{leads_anywhere, row_need_leads, left, case_left, turn}
use Rattle.chunker.proofs.RecvFaring.{AllFare, Somewhere, stands_to, ends_then, ends_some, needed_fares, skipped_fares, desc_fares, row_fares, wide_fares, within_fares, each_fares, arm_fares, present_fares, skipped_leads, within_leads, wide_leads, each_leads, arm_leads, present_leads}
use Rattle.chunker.proofs.RecvMoved.{Same, all_moved}
use Rattle.chunker.proofs.RecvOpening.{one_test, Opens, opens_none, behind, before, ended, lacks, opens_need, opens_pass, opens_gets, refused_gets, unread_refuses, zeros_got}
use Rattle.chunker.proofs.RecvStuck.{after_need, short, refused, stuck}
use Rattle.cast_stub.proofs.Widths.{wide_is}

row_need_fares : (P : ℕ → Type 0) (p : List ℕ) (u e : ℕ)
    → AllFare P (λ d s. if_some (part p d) (λ x. if_some (length_in x) (λ n. needed (n * u + e) d s)))
    (λ d s. if_some (part p d) (λ x. if_some (length_in x) (λ n. needed (n * u + e) d s)))
row_need_fares P p u e d s k at le =
    ends_some (part p d) (λ x. if_some (length_in x) (λ n. needed (n * u + e) d s))
    (λ x. if_some (length_in x) (λ n. needed (n * u + e) d (after_tests k s)))
    (λ (x : Draft). ends_some (length_in x) (λ n. needed (n * u + e) d s) (λ n. needed (n * u + e) d (after_tests k s))
    (λ (n : ℕ). needed_fares P (n * u + e) d s k at le))

module _ (c f : Callees) (agree : (k : ℕ) → AllFare Somewhere (c k) (f k)) where
  -- what a block becomes behind an open take ends as the block does, from where the given code is
  abbrev pub Goes : Recv → Phase → ℕ → List Get → ℕ → Type 0
  Goes b ph n gs m = (e : Draft) (t : Place) (d : Draft) (s : Place) → AtPhase ph s.pos → Opens n gs m e t d s
      → EndsAs (fill c b d s) (fill f (chunked ph n gs m b) e t)

  -- ---- needs and takes

  need_goes : (k : ℕ) (r : Recv) (ph : Phase) (n : ℕ) (gs : List Get) (m : ℕ) → Goes r ph n gs (seen_with m n k)
      → Goes (need k r) ph n gs m
  need_goes k r ph n gs m go e t d s at o = by_test (nat_lt (length s.left) k) refl where
    by_test : (b : Bool) → nat_lt (length s.left) k ≡ b
        → EndsAs (then_run (if b then refuses else gives d (after_need k s)) (fill c r)) (fill f (chunked ph n gs (seen_with m n k) r) e t)
    by_test true is =
        stuck f r ph n gs (seen_with m n k) e t (short (lacks n gs m e t d s o k (ltb-true (length s.left) k is)))
    by_test false is = go e t d (after_need k s) at (opens_need n gs m e t d s o k (ltb-false (length s.left) k is))

  pass_goes : (k : ℕ) (hs : List Get) (r : Recv) (ph : Phase) (n : ℕ) (gs : List Get) (m : ℕ)
      → Goes r (shift ph k) (n + k) (gs ++ map (moved n) hs) m → Goes (pass k hs r) ph n gs m
  pass_goes k hs r ph n gs m go e t d s at o = by_run (all_got hs d s) refl where
    enough : Place
    enough = record { pos = 0; left = t.left; near = max m t.near; tests = 0 }

    further : (x : Run Draft) → all_got hs d s ≡ x → (u : Place) → u.left ≡ t.left → max m t.near ≤ u.near
        → Same s x u (all_got (map (moved n) hs) d u)
    further x is u same near =
        subst (λ z. Same s z u (all_got (map (moved n) hs) d u)) is (all_moved hs n d s u (before n gs m e t d s o u same near))

    by_near : (y : Draft) → ((u : Place) → u.left ≡ t.left → max m t.near ≤ u.near → all_got (map (moved n) hs) d u ≡ gives y u)
        → (b : Bool) → nat_le k s.near ≡ b
        → EndsAs (then_run (if b then gives y (behind k s) else strays) (fill c r))
        (fill f (chunked (shift ph k) (n + k) (gs ++ map (moved n) hs) m r) e t)
    by_near y is true le =
        go e t y (behind k s) (at_shift ph s.pos k at)
        (opens_pass n (gs ++ map (moved n) hs) m e t y s (opens_gets n gs m e t d s o (map (moved n) hs) y is) k (leb-true k s.near le))
    by_near y is false le = tt

    by_run : (x : Run Draft) → all_got hs d s ≡ x
        → EndsAs (then_run x (λ y v. then_run (passed k y v) (fill c r)))
        (fill f (chunked (shift ph k) (n + k) (gs ++ map (moved n) hs) m r) e t)
    by_run (gives y v) is =
        let here : v ≡ s = (further (gives y v) is enough refl (omega arith)).0 in
        subst (λ (w : Place). EndsAs (then_run (passed k y w) (fill c r))
        (fill f (chunked (shift ph k) (n + k) (gs ++ map (moved n) hs) m r) e t)) (sym here)
        (by_near y (λ u same near. (further (gives y v) is u same near).1) (nat_le k s.near) refl)
    by_run refuses is =
        stuck f r (shift ph k) (n + k) (gs ++ map (moved n) hs) m e t
        (refused (refused_gets n gs m e t d s o (map (moved n) hs) (λ (u : Place) same near. further refuses is u same near)))
    by_run strays is = tt

  -- ---- skips

  -- a skip of so many octets, whose test is what gets do
  skip_goes : (test : List ℕ → Bool) (zs : List Get) (k : ℕ) (r : Recv) (ph : Phase) (n : ℕ) (gs : List Get) (m : ℕ) (e : Draft) (t : Place)
      (d : Draft) (s : Place)
      → Goes r (shift ph k) (n + k) (gs ++ zs) (seen_with m n k) → AtPhase ph s.pos → Opens n gs m e t d s
      → (k ≤ length s.left → (u : Place) → u.left ≡ t.left → n + k ≤ u.near
      → all_got zs d u ≡ (if test (take k s.left) then gives d u else refuses))
      → EndsAs (then_run (then_run (needed k d s) (λ x v. if test (take k v.left) then passed k x v else refuses)) (fill c r))
      (fill f (chunked (shift ph k) (n + k) (gs ++ zs) (seen_with m n k) r) e t)
  skip_goes test zs k r ph n gs m e t d s go at o reads = by_need (nat_lt (length s.left) k) refl where
    j : ℕ
    j = seen_with m n k

    made : Run Draft
    made = fill f (chunked (shift ph k) (n + k) (gs ++ zs) j r) e t

    s' : Place
    s' = after_need k s

    wide : (w : Opens n gs j e t d s') (u : Place) → max j t.near ≤ u.near → n + k ≤ u.near
    wide w u near = omega (arith, w.near, near)

    by_test : Opens n gs j e t d s' → k ≤ length s.left → (b : Bool) → test (take k s.left) ≡ b
        → EndsAs (then_run (if b then passed k d s' else refuses) (fill c r)) made
    by_test w le true is =
        let zeros_read : Opens n (gs ++ zs) j e t d s' = opens_gets n gs j e t d s' w zs d
        (λ (u : Place) same near.
        reads le u same (wide w u near) ∙ ap (λ (b : Bool). if b then gives d u else refuses) is) in
        let near : k ≤ max k s.near = omega arith in
        subst (λ (b : Bool). EndsAs (then_run (if b then gives d (behind k s') else strays) (fill c r)) made) (sym
        (le-leb k (max k s.near) near))
        (go e t d (behind k s') (at_shift ph s.pos k at) (opens_pass n (gs ++ zs) j e t d s' zeros_read k near))
    by_test w le false is =
        stuck f r (shift ph k) (n + k) (gs ++ zs) j e t
        (refused (refused_gets n gs j e t d s' w zs
        (λ (u : Place) same near. reads le u same (wide w u near) ∙ ap (λ (b : Bool). if b then gives d u else refuses) is)))

    by_need : (b : Bool) → nat_lt (length s.left) k ≡ b
        → EndsAs (then_run (then_run (if b then refuses else gives d s') (λ x v. if test (take k v.left) then passed k x v else refuses))
        (fill c r)) made
    by_need true is =
        stuck f r (shift ph k) (n + k) (gs ++ zs) j e t (short (lacks n gs m e t d s o k (ltb-true (length s.left) k is)))
    by_need false is =
        let le : k ≤ length s.left = ltb-false (length s.left) k is in
        by_test (opens_need n gs m e t d s o k le) le (test (take k s.left)) refl

  -- a skip that refuses
  unread_goes : (a : ℕ) (r : Recv) (ph : Phase) (n : ℕ) (gs : List Get) (m : ℕ) (e : Draft) (t : Place) (d : Draft) (s : Place)
      → is_width a ≡ false → Opens n gs m e t d s
      → fill f (chunked ph n (gs ++ unread n a) m r) e t ≡ refuses
  unread_goes a r ph n gs m e t d s not_wide o =
      stuck f r ph n (gs ++ unread n a) m e t
      (refused (refused_gets n gs m e t d s o (unread n a) (λ (u : Place) same near. unread_refuses n a d u not_wide)))

  -- from no open take
  goes_on : (r : Recv) (ph : Phase) → Goes r ph 0 [] 0 → AllFare (AtPhase ph) (fill c r) (fill f (chunked ph 0 [] 0 r))
  goes_on r ph go x u k at le = go x (after_tests k u) x u at (opens_none x u k le)

  -- a skip that is kept
  kept_goes : (test : List ℕ → Bool) (a : ℕ) (r rest : Recv) (n : ℕ) (gs : List Get) (m : ℕ) (e : Draft) (t : Place) (d : Draft)
      (s : Place)
      → is_width a ≡ true → Opens n gs m e t d s → AllFare (AtPhase (modulo a 0)) (fill c r) (fill f (chunked (modulo a 0) 0 [] 0 r))
      → ((x : Draft) (u : Place)
      → fill f rest x u ≡ then_run (skipped test a x u) (fill f (chunked (modulo a 0) 0 [] 0 r)))
      → EndsAs (then_run (skipped test a d s) (fill c r)) (fill f (closed n gs m rest) e t)
  kept_goes test a r rest n gs m e t d s width o go is =
      let k = raised t.tests (one_test m) in
      ended n gs m e t d s o f rest (then_run (skipped test a d s) (fill c r))
      (subst (λ z. EndsAs (then_run (skipped test a d s) (fill c r)) z) (sym (is d (after_tests k s)))
      (ends_then (AtPhase (modulo a 0)) (skipped test a d s) (skipped test a d (after_tests k s)) (fill c r)
      (fill f (chunked (modulo a 0) 0 [] 0 r)) (skipped_fares Somewhere test a d s k tt o.tests)
      (skipped_leads Somewhere (AtPhase (modulo a 0)) test a (λ p e u. behind_gap a p (wide_is a width)) d s tt) go))

  any_goes : (a : ℕ) (r : Recv) (ph : Phase) (n : ℕ) (gs : List Get) (m : ℕ)
      → Goes r (shift ph (gap ph.r a)) (n + gap ph.r a) gs (seen_with m n (gap ph.r a)) → Goes r (modulo a 0) 0 [] 0
      → Goes (skip_any a r) ph n gs m
  any_goes a r ph n gs m known kept e t d s at o = by_width (is_width a) refl where
    k : ℕ
    k = gap ph.r a

    next : Recv
    next = chunked (shift ph k) (n + k) gs (seen_with m n k) r

    apart : Recv
    apart = closed n gs m (skip_any a (chunked (modulo a 0) 0 [] 0 r))

    by_known : is_width a ≡ true → (b : Bool) → is_known ph a ≡ b
        → EndsAs (then_run (skipped (λ o. true) a d s) (fill c r)) (fill f (if b then next else apart) e t)
    by_known width true is =
        let same : gap s.pos a ≡ k = known_gap ph a s.pos is at in
        let none : gs ++ [] ≡ gs = append-nil gs in
        let run : EndsAs (then_run (then_run (needed k d s) (λ x v. if true then passed k x v else refuses)) (fill c r)) (fill f next e t) =
        subst (λ (l : List Get). EndsAs (then_run (then_run (needed k d s) (λ x v. if true then passed k x v else refuses)) (fill c r))
        (fill f (chunked (shift ph k) (n + k) l (seen_with m n k) r) e t)) none
        (skip_goes (λ o. true) [] k r ph n gs m e t d s
        (subst (λ (l : List Get). Goes r (shift ph k) (n + k) l (seen_with m n k)) (sym none) known) at o
        (λ le u same near. refl)) in
        subst (λ (b : Bool). EndsAs (then_run (if b then then_run (needed (gap s.pos a) d s) (λ x v. if true then passed (gap s.pos a) x v
        else refuses) else refuses) (fill c r)) (fill f next e t)) (sym width)
        (subst (λ (g : ℕ). EndsAs (then_run (then_run (needed g d s) (λ x v. if true then passed g x v else refuses)) (fill c r))
        (fill f next e t)) (sym same) run)
    by_known width false is =
        kept_goes (λ o. true) a r (skip_any a (chunked (modulo a 0) 0 [] 0 r)) n gs m e t d s width o (goes_on r (modulo a 0) kept)
        (λ x u. refl)

    by_width : (b : Bool) → is_width a ≡ b
        → EndsAs (then_run (if b then then_run (needed (gap s.pos a) d s) (λ x v. if true then passed (gap s.pos a) x v else refuses)
        else refuses) (fill c r))
        (fill f (if b then (if is_known ph a then next else apart) else chunked ph n (gs ++ unread n a) m r) e t)
    by_width true is =
        subst (λ (b : Bool). EndsAs (then_run (if b then then_run (needed (gap s.pos a) d s) (λ x v. if true then passed (gap s.pos a) x v
        else refuses) else refuses) (fill c r)) (fill f (if is_known ph a then next else apart) e t)) is
        (by_known is (is_known ph a) refl)
    by_width false is = unread_goes a r ph n gs m e t d s is o

  zero_goes : (a : ℕ) (r : Recv) (ph : Phase) (n : ℕ) (gs : List Get) (m : ℕ)
      → Goes r (shift ph (gap ph.r a)) (n + gap ph.r a) (gs ++ zeros n (gap ph.r a)) (seen_with m n (gap ph.r a))
      → Goes r (modulo a 0) 0 [] 0
      → Goes (skip_zero a r) ph n gs m
  zero_goes a r ph n gs m known kept e t d s at o = by_width (is_width a) refl where
    k : ℕ
    k = gap ph.r a

    next : Recv
    next = chunked (shift ph k) (n + k) (gs ++ zeros n k) (seen_with m n k) r

    apart : Recv
    apart = closed n gs m (skip_zero a (chunked (modulo a 0) 0 [] 0 r))

    -- zeros are read as they are tested
    reads : k ≤ length s.left → (u : Place) → u.left ≡ t.left → n + k ≤ u.near
        → all_got (zeros n k) d u ≡ (if all_zero (take k s.left) then gives d u else refuses)
    reads le u same near =
        let here : drop n u.left ≡ s.left = ap (drop n) same ∙ sym o.left in
        zeros_got n k d u near (subst (λ (l : List ℕ). k ≤ length l) (sym here) le)
        ∙ ap (λ (l : List ℕ). if all_zero (take k l) then gives d u else refuses) here

    by_known : is_width a ≡ true → (b : Bool) → is_known ph a ≡ b
        → EndsAs (then_run (skipped all_zero a d s) (fill c r)) (fill f (if b then next else apart) e t)
    by_known width true is =
        let same : gap s.pos a ≡ k = known_gap ph a s.pos is at in
        let run = skip_goes all_zero (zeros n k) k r ph n gs m e t d s known at o reads in
        subst (λ (b : Bool). EndsAs (then_run (if b then then_run (needed (gap s.pos a) d s) (λ x v.
        if all_zero (take (gap s.pos a) v.left) then passed (gap s.pos a) x v
        else refuses) else refuses) (fill c r)) (fill f next e t)) (sym width)
        (subst (λ (g : ℕ). EndsAs (then_run (then_run (needed g d s) (λ x v. if all_zero (take g v.left) then passed g x v else refuses))
        (fill c r)) (fill f next e t)) (sym same) run)
    by_known width false is =
        kept_goes all_zero a r (skip_zero a (chunked (modulo a 0) 0 [] 0 r)) n gs m e t d s width o (goes_on r (modulo a 0) kept)
        (λ x u. refl)

    by_width : (b : Bool) → is_width a ≡ b
        → EndsAs (then_run (if b then then_run (needed (gap s.pos a) d s) (λ x v.
        if all_zero (take (gap s.pos a) v.left) then passed (gap s.pos a) x v else refuses) else refuses) (fill c r))
        (fill f (if b then (if is_known ph a then next else apart) else chunked ph n (gs ++ unread n a) m r) e t)
    by_width true is =
        subst (λ (b : Bool). EndsAs (then_run (if b then then_run (needed (gap s.pos a) d s) (λ x v.
        if all_zero (take (gap s.pos a) v.left) then passed (gap s.pos a) x v
        else refuses) else refuses) (fill c r)) (fill f (if is_known ph a then next else apart) e t)) is
        (by_known is (is_known ph a) refl)
    by_width false is = unread_goes a r ph n gs m e t d s is o

  -- ---- blocks

  mutual
    pub begins : (b : Recv) (ph : Phase) (n : ℕ) (gs : List Get) (m : ℕ) → Goes b ph n gs m
    begins finish ph n gs m = λ e t d s at o.
        ended n gs m e t d s o f finish (gives d s) (raised t.tests (one_test m), o.tests, refl)
    begins (need k r) ph n gs m = need_goes k r ph n gs m (begins r ph n gs (seen_with m n k))
    begins (need_row p u x r) ph n gs m = λ e t d s at o.
        let op : Draft → Place → Run Draft = λ d s. if_some (part p d) (λ y. if_some (length_in y) (λ i. needed (i * u + x) d s)) in
        let k = raised t.tests (one_test m) in
        ended n gs m e t d s o f (need_row p u x (chunked ph 0 [] 0 r)) (then_run (op d s) (fill c r))
        (ends_then (AtPhase ph) (op d s) (op d (after_tests k s)) (fill c r) (fill f (chunked ph 0 [] 0 r))
        (row_need_fares (AtPhase ph) p u x d s k at o.tests) (row_need_leads (AtPhase ph) p u x d s at)
        (goes_on r ph (begins r ph 0 [] 0)))
    begins (skip_any a r) ph n gs m =
        any_goes a r ph n gs m (begins r (shift ph (gap ph.r a)) (n + gap ph.r a) gs (seen_with m n (gap ph.r a)))
        (begins r (modulo a 0) 0 [] 0)
    begins (skip_zero a r) ph n gs m =
        zero_goes a r ph n gs m
        (begins r (shift ph (gap ph.r a)) (n + gap ph.r a) (gs ++ zeros n (gap ph.r a)) (seen_with m n (gap ph.r a)))
        (begins r (modulo a 0) 0 [] 0)
    begins (pass k hs r) ph n gs m = pass_goes k hs r ph n gs m (begins r (shift ph k) (n + k) (gs ++ map (moved n) hs) m)
    begins (desc p name size mul r) ph n gs m = λ e t d s at o.
        let k = raised t.tests (one_test m) in
        ended n gs m e t d s o f (desc p name size mul (chunked unknown 0 [] 0 r))
        (then_run (within p (desc_into name size mul) d s) (fill c r))
        (ends_then (AtPhase unknown) (within p (desc_into name size mul) d s) (within p (desc_into name size mul) d (after_tests k s))
        (fill c r) (fill f (chunked unknown 0 [] 0 r))
        (within_fares (AtPhase ph) p (desc_into name size mul) (desc_into name size mul) (desc_fares (AtPhase ph) name size mul) d s k at
        o.tests) (leads_anywhere (AtPhase ph) (within p (desc_into name size mul)) d s at) (goes_on r unknown (begins r unknown 0 [] 0)))
    begins (row_block p w r) ph n gs m = λ e t d s at o.
        let k = raised t.tests (one_test m) in
        ended n gs m e t d s o f (row_block p w (chunked unknown 0 [] 0 r)) (then_run (within p (row_into w) d s) (fill c r))
        (ends_then (AtPhase unknown) (within p (row_into w) d s) (within p (row_into w) d (after_tests k s)) (fill c r)
        (fill f (chunked unknown 0 [] 0 r)) (within_fares (AtPhase ph) p (row_into w) (row_into w) (row_fares (AtPhase ph) w) d s k at
        o.tests) (leads_anywhere (AtPhase ph) (within p (row_into w)) d s at) (goes_on r unknown (begins r unknown 0 [] 0)))
    begins (row_wide p w r) ph n gs m = λ e t d s at o.
        let k = raised t.tests (one_test m) in
        ended n gs m e t d s o f (row_wide p w (chunked (by_fours ph) 0 [] 0 r)) (then_run (within p (wide_into w) d s) (fill c r))
        (ends_then (AtPhase (by_fours ph)) (within p (wide_into w) d s) (within p (wide_into w) d (after_tests k s)) (fill c r)
        (fill f (chunked (by_fours ph) 0 [] 0 r))
        (within_fares (AtPhase ph) p (wide_into w) (wide_into w) (wide_fares (AtPhase ph) w) d s k at o.tests)
        (within_leads (AtPhase ph) (AtPhase (by_fours ph)) p (wide_into w) (wide_leads (AtPhase ph) (AtPhase (by_fours ph)) w (at_fours ph))
        d s at) (goes_on r (by_fours ph) (begins r (by_fours ph) 0 [] 0)))
    begins (each p b r) ph n gs m = λ e t d s at o.
        let k = raised t.tests (one_test m) in
        let l = looped ph b in
        let start : AtPhase l s.pos = meet_first ph (leave unknown b) s.pos at in
        let inner = chunked l 0 [] 0 b in
        ended n gs m e t d s o f (each p inner (chunked l 0 [] 0 r)) (then_run (within p (fill_each (fill c b)) d s) (fill c r))
        (ends_then (AtPhase l) (within p (fill_each (fill c b)) d s) (within p (fill_each (fill f inner)) d (after_tests k s)) (fill c r)
        (fill f (chunked l 0 [] 0 r))
        (within_fares (AtPhase l) p (fill_each (fill c b)) (fill_each (fill f inner))
        (each_fares (AtPhase l) (fill c b) (fill f inner) (goes_on b l (begins b l 0 [] 0)) (turn c b ph)) d s k start o.tests)
        (within_leads (AtPhase l) (AtPhase l) p (fill_each (fill c b)) (each_leads (AtPhase l) (fill c b) (turn c b ph)) d s start)
        (goes_on r l (begins r l 0 [] 0)))
    begins (switch p cs r) ph n gs m = λ e t d s at o.
        let k = raised t.tests (one_test m) in
        let l = switched ph cs in
        ended n gs m e t d s o f (switch p (cases_chunked ph cs) (chunked l 0 [] 0 r))
        (then_run (within p (fill_arm (fill_case c cs)) d s) (fill c r))
        (ends_then (AtPhase l) (within p (fill_arm (fill_case c cs)) d s)
        (within p (fill_arm (fill_case f (cases_chunked ph cs))) d (after_tests k s)) (fill c r) (fill f (chunked l 0 [] 0 r))
        (within_fares (AtPhase ph) p (fill_arm (fill_case c cs)) (fill_arm (fill_case f (cases_chunked ph cs)))
        (arm_fares (AtPhase ph) (fill_case c cs) (fill_case f (cases_chunked ph cs)) (case_begins cs ph)) d s k at o.tests)
        (within_leads (AtPhase ph) (AtPhase l) p (fill_arm (fill_case c cs))
        (arm_leads (AtPhase ph) (AtPhase l) (fill_case c cs) (λ (i : ℤ). case_left c cs i ph None)) d s at)
        (goes_on r l (begins r l 0 [] 0)))
    begins (if_there p b r) ph n gs m = λ e t d s at o.
        let k = raised t.tests (one_test m) in
        let l = perhaps ph b in
        let inner = chunked ph 0 [] 0 b in
        ended n gs m e t d s o f (if_there p inner (chunked l 0 [] 0 r)) (then_run (within p (fill_present (fill c b)) d s) (fill c r))
        (ends_then (AtPhase l) (within p (fill_present (fill c b)) d s) (within p (fill_present (fill f inner)) d (after_tests k s))
        (fill c r) (fill f (chunked l 0 [] 0 r))
        (within_fares (AtPhase ph) p (fill_present (fill c b)) (fill_present (fill f inner))
        (present_fares (AtPhase ph) (fill c b) (fill f inner) (goes_on b ph (begins b ph 0 [] 0))) d s k at o.tests)
        (within_leads (AtPhase ph) (AtPhase l) p (fill_present (fill c b))
        (present_leads (AtPhase ph) (AtPhase l) (fill c b) (meet_first ph (leave ph b))
        (λ (x : Draft) (u : Place) here.
        stands_to (AtPhase (leave ph b)) (AtPhase l) (fill c b x u) (meet_second ph (leave ph b)) (left c b ph x u here))) d s at)
        (goes_on r l (begins r l 0 [] 0)))
    begins (call i p r) ph n gs m = λ e t d s at o.
        let k = raised t.tests (one_test m) in
        ended n gs m e t d s o f (call i p (chunked unknown 0 [] 0 r)) (then_run (within p (c i) d s) (fill c r))
        (ends_then (AtPhase unknown) (within p (c i) d s) (within p (f i) d (after_tests k s)) (fill c r)
        (fill f (chunked unknown 0 [] 0 r)) (within_fares Somewhere p (c i) (f i) (agree i) d s k tt o.tests)
        (leads_anywhere (AtPhase ph) (within p (c i)) d s at) (goes_on r unknown (begins r unknown 0 [] 0)))

    pub case_begins : (cs : Cases) (ph : Phase) (i : ℤ) → AllFare (AtPhase ph) (fill_case c cs i) (fill_case f (cases_chunked ph cs) i)
    case_begins no_default ph i = λ x u k at le. tt
    case_begins (default b) ph i = goes_on b ph (begins b ph 0 [] 0)
    case_begins (case j b cs) ph i =
        either (int_eq i j) (goes_on b ph (begins b ph 0 [] 0)) (case_begins cs ph i) where
          either : (y : Bool) → AllFare (AtPhase ph) (fill c b) (fill f (chunked ph 0 [] 0 b))
              → AllFare (AtPhase ph) (fill_case c cs i) (fill_case f (cases_chunked ph cs) i)
              → AllFare (AtPhase ph) (λ x u. if y then fill c b x u else fill_case c cs i x u)
              (λ x u. if y then fill f (chunked ph 0 [] 0 b) x u else fill_case f (cases_chunked ph cs) i x u)
          either true h g = h
          either false h g = g

  -- a block at a phase, and what becomes of it
  pub fares : (b : Recv) (ph : Phase) → AllFare (AtPhase ph) (fill c b) (fill f (chunked ph 0 [] 0 b))
  fares b ph = goes_on b ph (begins b ph 0 [] 0)
