-- Chunked code sends what the given code sends, with the room and the checks that it has, by induction on the block.
use Rattle.std.proofs.Common.{◌≡◌, ℕ, zero, suc, ◌+◌, ◌*◌, ◌≤◌, ℤ, List, [], ◌∷◌, ◌++◌, length, map, replicate, Option, Some, None, Bool, true, false, if◌then◌else◌, refl, sym, ap, ◌∙◌, subst, arith, length-append}
use Rattle.std.specs.Ordering.{int_eq}
use Rattle.std.proofs.lemmas.List.{length-map}
use Rattle.mint.specs.Values.{Val, arm_in}
use Rattle.wire_def.specs.declared.head.Head.{Head}
use Rattle.wire_def.specs.Scalars.{gap}
use Rattle.cast_stub.specs.declared.put.Put.{Put}
use Rattle.cast_stub.specs.Block.{Block, stop, ensure, ensure_row, align, chunk, row_copy, row_swap, row_wide, each, switch, if_there, call, patch, Cases, no_default, default, case}
use Rattle.cast_stub.specs.Parts.{on_some, at, elements_in, length_in}
use Rattle.cast_stub.specs.Puts.{filled}
use Rattle.cast_stub.specs.Steps.{Step, Room, Pad, Stored, Patched, Steps, both, over, if_present, is_width, Calls, steps, case_steps, align_steps, chunk_steps, row_room, copy_steps, swap_steps, wide_steps}
use Rattle.cast_stub.proofs.Appending.{both_first}
use Rattle.chunker.specs.declared.phase.Phase.{Phase}
use Rattle.chunker.specs.Chunked.{moved, consts_joined, zeros, chunk_of, closed, chunked, cases_chunked}
use Rattle.chunker.specs.Left.{by_fours, leave, looped, switched, perhaps}
use Rattle.chunker.specs.Phases.{AtPhase, unknown, modulo, shift, is_known}
use Rattle.chunker.proofs.Ending.{Leads, leads_some, leads_on_some, leads_over, leads_present, leads_anywhere, leads_wide, place, left, turn, case_left}
use Rattle.chunker.proofs.Filled.{filled_two, filled_joined, filled_zeros, zeros_few, joined_few}
use Rattle.chunker.proofs.Keeping.{Keeps, Becomes, becomes_same, becomes_both, becomes_on_some, becomes_over, becomes_present, becomes_at, becomes_if, none_stored, fewer_stored, two_stored, padded_stored, strip}
use Rattle.chunker.proofs.Known.{at_shift, known_gap, behind_gap, meet_first, meet_second}
use Rattle.cast_stub.proofs.Widths.{wide_is}
use Rattle.cast_stub.proofs.Filled.{length-filled}

-- behind a chunk that is open
abbrev pub Behind : Phase → ℕ → ℕ → Type 0
Behind ph n p = AtPhase ph (p + n)

-- a chunk that is open, before steps
abbrev pub open_before : List ℕ → ℕ → Steps → Steps
open_before o k x = both (Some (Stored o k ∷ [])) x

nothing_filled : (n : ℕ) (h : Head) (v : Val) (o : List ℕ) → filled n [] h v ≡ Some o → o ≡ []
nothing_filled zero h v o e = let same : [] ≡ o = cc in sym same
nothing_filled (suc n) h v o e = absurd cc

stripped : (ph : Phase) (x y : Steps) → Becomes (Behind ph 0) (open_before [] 0 x) y → Becomes (AtPhase ph) x y
stripped ph x y f ss e =
    let t = f (Stored [] 0 ∷ ss) (ap (open_before [] 0) e) in
    record { made = t.made; is = t.is; keeps = λ p a. strip p ss t.made (t.keeps p (here p a)) }
  where
    here : (p : ℕ) → AtPhase ph p → Behind ph 0 p
    here p a = let same : p ≡ p + 0 = omega arith in subst (AtPhase ph) same a

module _ (h : Head) (c d : Calls) (agree : (k : ℕ) (A : ℕ → Type 0) (w : Val) → Becomes A (c k w) (d k w)) where
  -- ---- the open chunk is ended

  chunk_becomes : (A : ℕ → Type 0) (v : Val) (n : ℕ) (o : List ℕ) (k : ℕ) (qs : List Put) (r : Block) (x : Steps) (B : ℕ → Type 0)
      → filled n qs h v ≡ Some o → length qs ≤ k → ((p : ℕ) → A p → B (p + length o)) → Becomes B x (steps d h r v)
      → Becomes A (open_before o k x) (steps d h (chunk_of n qs r) v)
  chunk_becomes A v n o k [] r x B f le to g =
      subst (Becomes A (open_before o k x)) (both_first (steps d h r v))
      (becomes_both A B (Some (Stored o k ∷ [])) (Some []) x (steps d h r v)
      (λ ss e. let same : Stored o k ∷ [] ≡ ss = cc in
      record {
        made = [];
        is = refl;
        keeps = λ p a. subst (λ (l : List Step). Keeps p l []) same (none_stored p k o
            (nothing_filled n h v o f));
      })
      (leads_some (Stored o k ∷ []) A B to) g)
  chunk_becomes A v n o k (q ∷ qs) r x B f le to g =
      becomes_both A B (Some (Stored o k ∷ [])) (chunk_steps n (q ∷ qs) h v) x (steps d h r v)
      (λ ss e. let same : Stored o k ∷ [] ≡ ss = cc in
      record {
        made = Stored o (length (q ∷ qs)) ∷ [];
        is = ap (λ (y : Option (List ℕ)). on_some y (λ z. Some (Stored z (length (q ∷ qs)) ∷ []))) f;
        keeps = λ p a. subst (λ (l : List Step). Keeps p l (Stored o (length (q ∷ qs)) ∷ [])) same
            (fewer_stored p k (length (q ∷ qs)) o le);
      })
      (leads_some (Stored o k ∷ []) A B to) g

  ended : (ph : Phase) (v : Val) (n : ℕ) (ps : List Put) (o : List ℕ) (r : Block) (x : Steps) → filled n ps h v ≡ Some o
      → Becomes (AtPhase ph) x (steps d h r v)
      → Becomes (Behind ph n) (open_before o (length ps) x) (steps d h (closed n ps r) v)
  ended ph v n ps o r x f g =
      chunk_becomes (Behind ph n) v n o (length ps) (consts_joined 0 [] ps) r x (AtPhase ph) (filled_joined h v n ps o f) (joined_few ps)
      (λ p a. subst (λ (k : ℕ). AtPhase ph (p + k)) (sym (length-filled h v ps n o f)) a) g

  -- ---- the open chunk goes on

  more_chunk : (ph : Phase) (v : Val) (n s : ℕ) (ps qs : List Put) (o : List ℕ) (x y : Steps) (z : Option (List ℕ)) → filled s qs h v ≡ z
      → ((w : List ℕ) → z ≡ Some w
      → Becomes (Behind (shift ph s) (n + s)) (open_before (o ++ w) (length (ps ++ map (moved n) qs)) x) y)
      → Becomes (Behind ph n) (open_before o (length ps) (both (on_some z (λ w. Some (Stored w (length qs) ∷ []))) x)) y
  more_chunk ph v n s ps qs o x y None f g ss e = absurd cc
  more_chunk ph v n s ps qs o None y (Some w) f g ss e = absurd cc
  more_chunk ph v n s ps qs o (Some a) y (Some w) f g ss e =
      let t = g w refl (Stored (o ++ w) (length (ps ++ map (moved n) qs)) ∷ a) refl in
      let same : Stored o (length ps) ∷ Stored w (length qs) ∷ a ≡ ss = cc in
      let many : length (ps ++ map (moved n) qs) ≡ length ps + length qs =
      length-append ps (map (moved n) qs) ∙ ap (λ (k : ℕ). length ps + k) (length-map qs (moved n)) in
      record {
        made = t.made;
        is = t.is;
        keeps = λ p at. subst (λ (l : List Step). Keeps p l t.made) same
            (two_stored p (length ps) (length qs) (length (ps ++ map (moved n) qs)) o w a t.made many (t.keeps p (further p at)));
      }
    where
      further : (p : ℕ) → Behind ph n p → Behind (shift ph s) (n + s) p
      further p at = let sum : p + n + s ≡ p + (n + s) = omega arith in subst (AtPhase (shift ph s)) sum (at_shift ph (p + n) s at)

  more_zeros : (ph : Phase) (v : Val) (n a : ℕ) (ps : List Put) (o : List ℕ) (x y : Steps) → length o ≡ n → is_known ph a ≡ true
      → Becomes (Behind (shift ph (gap ph.r a)) (n + gap ph.r a))
      (open_before (o ++ replicate (gap ph.r a) 0) (length (ps ++ zeros n (gap ph.r a))) x) y
      → Becomes (Behind ph n) (open_before o (length ps) (both (Some (Pad a ∷ [])) x)) y
  more_zeros ph v n a ps o None y long known g ss e = absurd cc
  more_zeros ph v n a ps o (Some b) y long known g ss e =
      let k = gap ph.r a in
      let t = g (Stored (o ++ replicate k 0) (length (ps ++ zeros n k)) ∷ b) refl in
      let same : Stored o (length ps) ∷ Pad a ∷ b ≡ ss = cc in
      let many : length (ps ++ zeros n k) ≡ length ps + length (zeros n k) = length-append ps (zeros n k) in
      let few : length (ps ++ zeros n k) ≤ length ps + 1 = omega (arith, many, zeros_few n k) in
      record {
        made = t.made;
        is = t.is;
        keeps = λ p at. subst (λ (l : List Step). Keeps p l t.made) same
            (padded_stored p (length ps) (length (ps ++ zeros n k)) a k o b t.made
            (ap (λ (i : ℕ). gap (p + i) a) long ∙ known_gap ph a (p + n) known at) few (t.keeps p (further p at)));
      }
    where
      further : (p : ℕ) → Behind ph n p → Behind (shift ph (gap ph.r a)) (n + gap ph.r a) p
      further p at =
          let k = gap ph.r a in
          let sum : p + n + k ≡ p + (n + k) = omega arith in subst (AtPhase (shift ph k)) sum (at_shift ph (p + n) k at)

  -- an align: at a known phase the open chunk goes on, else it is ended
  align_goes : (a : ℕ) (r : Block) (v : Val) (ph : Phase) (n : ℕ) (ps : List Put) (o : List ℕ) → filled n ps h v ≡ Some o
      → Becomes (Behind (shift ph (gap ph.r a)) (n + gap ph.r a))
      (open_before (o ++ replicate (gap ph.r a) 0) (length (ps ++ zeros n (gap ph.r a))) (steps c h r v))
      (steps d h (chunked (shift ph (gap ph.r a)) (n + gap ph.r a) (ps ++ zeros n (gap ph.r a)) r) v)
      → Becomes (AtPhase (modulo a 0)) (steps c h r v) (steps d h (chunked (modulo a 0) 0 [] r) v)
      → Becomes (Behind ph n) (open_before o (length ps) (both (align_steps a) (steps c h r v))) (steps d h (chunked ph n ps
      (align a r)) v)
  align_goes a r v ph n ps o f on off = by_width (is_width a) refl where
    by_known : (k : Bool) → is_known ph a ≡ k → is_width a ≡ true
        → Becomes (Behind ph n) (open_before o (length ps) (both (Some (Pad a ∷ [])) (steps c h r v)))
        (steps d h (if k then chunked (shift ph (gap ph.r a)) (n + gap ph.r a) (ps ++ zeros n (gap ph.r a)) r
        else closed n ps (align a (chunked (modulo a 0) 0 [] r))) v)
    by_known true e w =
        more_zeros ph v n a ps o (steps c h r v) (steps d h (chunked (shift ph (gap ph.r a)) (n + gap ph.r a) (ps ++ zeros n
        (gap ph.r a)) r) v)
        (length-filled h v ps n o f) e
        on
    by_known false e w =
        ended ph v n ps o (align a (chunked (modulo a 0) 0 [] r)) (both (Some (Pad a ∷ [])) (steps c h r v)) f
        (becomes_both (AtPhase ph) (AtPhase (modulo a 0)) (Some (Pad a ∷ [])) (align_steps a) (steps c h r v)
        (steps d h (chunked (modulo a 0) 0 [] r) v)
        (subst (λ (t : Bool). Becomes (AtPhase ph) (Some (Pad a ∷ [])) (if t then Some (Pad a ∷ []) else None)) (sym w)
        (becomes_same (AtPhase ph) (Some (Pad a ∷ []))))
        (leads_some (Pad a ∷ []) (AtPhase ph) (AtPhase (modulo a 0)) (λ p t. behind_gap a p (wide_is a w)))
        off)

    by_width : (t : Bool) → is_width a ≡ t
        → Becomes (Behind ph n) (open_before o (length ps) (both (if t then Some (Pad a ∷ []) else None) (steps c h r v)))
        (steps d h (if t then (if is_known ph a then chunked (shift ph (gap ph.r a)) (n + gap ph.r a) (ps ++ zeros n (gap ph.r a)) r
        else closed n ps (align a (chunked (modulo a 0) 0 [] r))) else chunked ph n ps r) v)
    by_width true w = by_known (is_known ph a) refl w
    by_width false w = λ ss e. absurd cc

  -- without an open chunk
  begun : (b : Block) (v : Val) (ph : Phase) → Becomes (Behind ph 0) (open_before [] 0 (steps c h b v)) (steps d h (chunked ph 0 [] b) v)
      → Becomes (AtPhase ph) (steps c h b v) (steps d h (chunked ph 0 [] b) v)
  begun b v ph f = stripped ph (steps c h b v) (steps d h (chunked ph 0 [] b) v) f

  -- steps that stay, before a block that begins anew
  stays_before : (ph end : Phase) (r : Block) (v : Val) (x : Steps) → Leads x (AtPhase ph) (AtPhase end)
      → Becomes (AtPhase end) (steps c h r v) (steps d h (chunked end 0 [] r) v)
      → Becomes (AtPhase ph) (both x (steps c h r v)) (both x (steps d h (chunked end 0 [] r) v))
  stays_before ph end r v x leads rest =
      becomes_both (AtPhase ph) (AtPhase end) x x (steps c h r v) (steps d h (chunked end 0 [] r) v) (becomes_same (AtPhase ph) x) leads
      rest

  -- ---- blocks

  mutual
    pub goes_on : (b : Block) (v : Val) (ph : Phase) (n : ℕ) (ps : List Put) (o : List ℕ) → filled n ps h v ≡ Some o
        → Becomes (Behind ph n) (open_before o (length ps) (steps c h b v)) (steps d h (chunked ph n ps b) v)
    goes_on stop v ph n ps o f = ended ph v n ps o stop (Some []) f (becomes_same (AtPhase ph) (Some []))
    goes_on (ensure k r) v ph n ps o f =
        ended ph v n ps o (ensure k (chunked ph 0 [] r)) (both (Some (Room k ∷ [])) (steps c h r v)) f
        (stays_before ph ph r v (Some (Room k ∷ [])) (leads_some (Room k ∷ []) (AtPhase ph) (AtPhase ph) (λ p a. a))
        (begun r v ph (goes_on r v ph 0 [] [] refl)))
    goes_on (ensure_row q u x r) v ph n ps o f =
        ended ph v n ps o (ensure_row q u x (chunked ph 0 [] r)) (both (row_room q u x v) (steps c h r v)) f
        (stays_before ph ph r v (row_room q u x v)
        (leads_on_some (on_some (at q v) length_in) (λ m. Some (Room (m * u + x) ∷ [])) (AtPhase ph) (AtPhase ph)
        (λ m. leads_some (Room (m * u + x) ∷ []) (AtPhase ph) (AtPhase ph) (λ p a. a))) (begun r v ph (goes_on r v ph 0 [] [] refl)))
    goes_on (align a r) v ph n ps o f =
        align_goes a r v ph n ps o f
        (goes_on r v (shift ph (gap ph.r a)) (n + gap ph.r a) (ps ++ zeros n (gap ph.r a)) (o ++ replicate (gap ph.r a) 0)
        (filled_zeros h v n (gap ph.r a) ps o f)) (begun r v (modulo a 0) (goes_on r v (modulo a 0) 0 [] [] refl))
    goes_on (chunk s qs r) v ph n ps o f =
        more_chunk ph v n s ps qs o (steps c h r v) (steps d h (chunked (shift ph s) (n + s) (ps ++ map (moved n) qs) r) v)
        (filled s qs h v) refl
        (λ w e. goes_on r v (shift ph s) (n + s) (ps ++ map (moved n) qs) (o ++ w) (filled_two h v n s ps qs o w f e))
    goes_on (row_copy q r) v ph n ps o f =
        ended ph v n ps o (row_copy q (chunked unknown 0 [] r)) (both (copy_steps q v) (steps c h r v)) f
        (stays_before ph unknown r v (copy_steps q v) (leads_anywhere (copy_steps q v) (AtPhase ph))
        (begun r v unknown (goes_on r v unknown 0 [] [] refl)))
    goes_on (row_swap q r) v ph n ps o f =
        ended ph v n ps o (row_swap q (chunked unknown 0 [] r)) (both (swap_steps q v) (steps c h r v)) f
        (stays_before ph unknown r v (swap_steps q v) (leads_anywhere (swap_steps q v) (AtPhase ph))
        (begun r v unknown (goes_on r v unknown 0 [] [] refl)))
    goes_on (row_wide q w r) v ph n ps o f =
        ended ph v n ps o (row_wide q w (chunked (by_fours ph) 0 [] r)) (both (wide_steps q w v) (steps c h r v)) f
        (stays_before ph (by_fours ph) r v (wide_steps q w v) (leads_wide ph q w v)
        (begun r v (by_fours ph) (goes_on r v (by_fours ph) 0 [] [] refl)))
    goes_on (each q b r) v ph n ps o f =
        let s = looped ph b in
        ended ph v n ps o (each q (chunked s 0 [] b) (chunked s 0 [] r))
        (both (on_some (on_some (at q v) elements_in) (over (steps c h b))) (steps c h r v)) f
        (becomes_at (AtPhase s) (AtPhase ph)
        (both (on_some (on_some (at q v) elements_in) (over (steps c h b))) (steps c h r v))
        (both (on_some (on_some (at q v) elements_in) (over (steps d h (chunked s 0 [] b)))) (steps d h (chunked s 0 [] r) v))
        (λ p a. meet_first ph (leave unknown b) p a)
        (becomes_both (AtPhase s) (AtPhase s) (on_some (on_some (at q v) elements_in) (over (steps c h b)))
        (on_some (on_some (at q v) elements_in) (over (steps d h (chunked s 0 [] b)))) (steps c h r v) (steps d h (chunked s 0 [] r) v)
        (becomes_on_some (AtPhase s) (on_some (at q v) elements_in) (over (steps c h b)) (over (steps d h (chunked s 0 [] b)))
        (becomes_over (AtPhase s) (steps c h b) (steps d h (chunked s 0 [] b)) (λ w. begun b w s (goes_on b w s 0 [] [] refl))
        (turn c h b ph)))
        (leads_on_some (on_some (at q v) elements_in) (over (steps c h b)) (AtPhase s) (AtPhase s)
        (leads_over (steps c h b) (AtPhase s) (turn c h b ph)))
        (begun r v s (goes_on r v s 0 [] [] refl))))
    goes_on (switch q cs r) v ph n ps o f =
        let s = switched ph cs in
        ended ph v n ps o (switch q (cases_chunked ph cs) (chunked s 0 [] r))
        (both (on_some (on_some (at q v) arm_in) (λ a. case_steps c h cs a.0 a.1)) (steps c h r v)) f
        (becomes_both (AtPhase ph) (AtPhase s) (on_some (on_some (at q v) arm_in) (λ a. case_steps c h cs a.0 a.1))
        (on_some (on_some (at q v) arm_in) (λ a. case_steps d h (cases_chunked ph cs) a.0 a.1)) (steps c h r v)
        (steps d h (chunked s 0 [] r) v)
        (becomes_on_some (AtPhase ph) (on_some (at q v) arm_in) (λ a. case_steps c h cs a.0 a.1)
        (λ a. case_steps d h (cases_chunked ph cs) a.0 a.1) (λ a. case_begins cs a.0 a.1 ph))
        (leads_on_some (on_some (at q v) arm_in) (λ a. case_steps c h cs a.0 a.1) (AtPhase ph) (AtPhase s)
        (λ a. case_left c h cs a.0 a.1 ph None))
        (begun r v s (goes_on r v s 0 [] [] refl)))
    goes_on (if_there q b r) v ph n ps o f =
        let s = perhaps ph b in
        ended ph v n ps o (if_there q (chunked ph 0 [] b) (chunked s 0 [] r))
        (both (on_some (at q v) (if_present (steps c h b))) (steps c h r v)) f
        (becomes_both (AtPhase ph) (AtPhase s) (on_some (at q v) (if_present (steps c h b)))
        (on_some (at q v) (if_present (steps d h (chunked ph 0 [] b)))) (steps c h r v) (steps d h (chunked s 0 [] r) v)
        (becomes_on_some (AtPhase ph) (at q v) (if_present (steps c h b)) (if_present (steps d h (chunked ph 0 [] b)))
        (becomes_present (AtPhase ph) (steps c h b) (steps d h (chunked ph 0 [] b)) (λ w. begun b w ph (goes_on b w ph 0 [] [] refl))))
        (leads_on_some (at q v) (if_present (steps c h b)) (AtPhase ph) (AtPhase s)
        (leads_present (steps c h b) (AtPhase ph) (AtPhase s) (λ p a. meet_first ph (leave ph b) p a)
        (λ w ss e p a. meet_second ph (leave ph b) (place p ss) (left c h b w ph ss e p a))))
        (begun r v s (goes_on r v s 0 [] [] refl)))
    goes_on (call k q r) v ph n ps o f =
        ended ph v n ps o (call k q (chunked unknown 0 [] r)) (both (on_some (at q v) (c k)) (steps c h r v)) f
        (becomes_both (AtPhase ph) (AtPhase unknown) (on_some (at q v) (c k)) (on_some (at q v) (d k)) (steps c h r v)
        (steps d h (chunked unknown 0 [] r) v)
        (becomes_on_some (AtPhase ph) (at q v) (c k) (d k) (agree k (AtPhase ph)))
        (leads_anywhere (on_some (at q v) (c k)) (AtPhase ph)) (begun r v unknown (goes_on r v unknown 0 [] [] refl)))
    goes_on (patch x s w r) v ph n ps o f =
        ended ph v n ps o (patch x s w (chunked ph 0 [] r)) (both (Some (Patched x s w ∷ [])) (steps c h r v)) f
        (stays_before ph ph r v (Some (Patched x s w ∷ [])) (leads_some (Patched x s w ∷ []) (AtPhase ph) (AtPhase ph) (λ p a. a))
        (begun r v ph (goes_on r v ph 0 [] [] refl)))

    pub case_begins : (cs : Cases) (m : ℤ) (w : Val) (ph : Phase)
        → Becomes (AtPhase ph) (case_steps c h cs m w) (case_steps d h (cases_chunked ph cs) m w)
    case_begins no_default m w ph = becomes_same (AtPhase ph) None
    case_begins (default b) m w ph = begun b w ph (goes_on b w ph 0 [] [] refl)
    case_begins (case i b cs) m w ph =
        becomes_if (AtPhase ph) (int_eq m i) (steps c h b w) (steps d h (chunked ph 0 [] b) w) (case_steps c h cs m w)
        (case_steps d h (cases_chunked ph cs) m w) (begun b w ph (goes_on b w ph 0 [] [] refl)) (case_begins cs m w ph)

  pub begins : (b : Block) (v : Val) (ph : Phase) → Becomes (AtPhase ph) (steps c h b v) (steps d h (chunked ph 0 [] b) v)
  begins b v ph = begun b v ph (goes_on b v ph 0 [] [] refl)
