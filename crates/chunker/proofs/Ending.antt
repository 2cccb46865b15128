-- Where a run of a block ends: at a place of what is left behind it, by induction on the block.
use Rattle.std.proofs.Common.{◌≡◌, ℕ, ◌+◌, ◌*◌, ℤ, List, [], ◌∷◌, ◌++◌, length, Option, Some, None, Bool, true, false, if◌then◌else◌, refl, sym, ap, ◌∙◌, subst, arith}
use Rattle.std.specs.Ordering.{int_eq}
use Rattle.std.proofs.lemmas.List.{length-append}
use Rattle.mint.specs.Values.{Val, Vals, no_more, val, absent, present, arm_in, row_in}
use Rattle.wire_def.specs.declared.head.Order.{Order}
use Rattle.wire_def.specs.declared.head.Order.TheVariants.{Big, Little}
use Rattle.wire_def.specs.declared.head.Head.{Head}
use Rattle.wire_def.specs.Orders.{in_order}
use Rattle.wire_def.specs.Scalars.{gap}
use Rattle.cast_stub.specs.declared.put.Put.{Put}
use Rattle.cast_stub.specs.Block.{Block, stop, ensure, ensure_row, align, chunk, row_copy, row_swap, row_wide, each, switch, if_there, call, patch, Cases, no_default, default, case}
use Rattle.cast_stub.specs.Parts.{on_some, at, elements_in, length_in}
use Rattle.cast_stub.specs.Puts.{word, half_of, wrapped, filled}
use Rattle.cast_stub.specs.Steps.{Step, Room, Pad, Stored, Widened, Copied, Patched, Steps, both, over, if_present, is_width, Calls, steps, case_steps, align_steps, chunk_steps, row_room, wide, copy_steps, swap_steps, wide_steps}
use Rattle.chunker.specs.declared.phase.Phase.{Phase}
use Rattle.chunker.specs.Left.{meet_end, or_unknown, by_fours, leave, cases_leave, looped, switched, perhaps}
use Rattle.chunker.specs.Phases.{AtPhase, unknown, shift, aligned, meet}
use Rattle.chunker.proofs.Known.{anywhere, at_shift, at_aligned, at_fours, meet_first, meet_second}
use Rattle.cast_stub.proofs.Filled.{some_of, length-filled}

-- the place behind steps
abbrev pub place : ℕ → List Step → ℕ
place p [] = p
place p (Room n ∷ ss) = place p ss
place p (Pad a ∷ ss) = place (p + gap p a) ss
place p (Stored os k ∷ ss) = place (p + length os) ss
place p (Widened os k ∷ ss) = place (p + length os) ss
place p (Copied os ∷ ss) = place (p + length os) ss
place p (Patched at sub order ∷ ss) = place p ss

pub place-append : (p : ℕ) (a b : List Step) → place p (a ++ b) ≡ place (place p a) b
place-append p [] b = refl
place-append p (Room n ∷ a) b = place-append p a b
place-append p (Pad x ∷ a) b = place-append (p + gap p x) a b
place-append p (Stored os k ∷ a) b = place-append (p + length os) a b
place-append p (Widened os k ∷ a) b = place-append (p + length os) a b
place-append p (Copied os ∷ a) b = place-append (p + length os) a b
place-append p (Patched at sub order ∷ a) b = place-append p a b

-- steps lead from such places to such places
abbrev pub Leads : Steps → (ℕ → Type 0) → (ℕ → Type 0) → Type 0
Leads x A B = (ss : List Step) → x ≡ Some ss → (p : ℕ) → A p → B (place p ss)

pub leads_both : (x y : Steps) (A B C : ℕ → Type 0) → Leads x A B → Leads y B C → Leads (both x y) A C
leads_both None y A B C f g ss e p a = absurd cc
leads_both (Some s) None A B C f g ss e p a = absurd cc
leads_both (Some s) (Some t) A B C f g ss e p a =
    let same : s ++ t ≡ ss = cc in
    subst (λ (l : List Step). C (place p l)) same (subst C (sym (place-append p s t)) (g t refl (place p s) (f s refl p a)))

pub leads_on_some : {X : Type 0} (o : Option X) (f : X → Steps) (A B : ℕ → Type 0) → ((x : X) → Leads (f x) A B) → Leads (on_some o f) A B
leads_on_some None f A B g ss e p a = absurd cc
leads_on_some (Some x) f A B g ss e p a = g x ss e p a

pub leads_over : (f : Val → Steps) (A : ℕ → Type 0) → ((w : Val) → Leads (f w) A A) → (vs : Vals) → Leads (over f vs) A A
leads_over f A g no_more ss e p a =
    let same : [] ≡ ss = cc in subst (λ (l : List Step). A (place p l)) same a
leads_over f A g (val v vs) ss e p a = leads_both (f v) (over f vs) A A A (g v) (leads_over f A g vs) ss e p a

pub leads_present : (f : Val → Steps) (A B : ℕ → Type 0) → ((p : ℕ) → A p → B p) → ((w : Val) → Leads (f w) A B) → (v : Val)
    → Leads (if_present f v) A B
leads_present f A B k g absent ss e p a = let same : [] ≡ ss = cc in subst (λ (l : List Step). B (place p l)) same (k p a)
leads_present f A B k g (present v) ss e p a = g v ss e p a
leads_present f A B k g _ ss e p a = absurd cc

-- a list of steps that is there
pub leads_some : (s : List Step) (A B : ℕ → Type 0) → ((p : ℕ) → A p → B (place p s)) → Leads (Some s) A B
leads_some s A B f ss e p a = let same : s ≡ ss = cc in subst (λ (l : List Step). B (place p l)) same (f p a)

-- to anywhere
pub leads_anywhere : (x : Steps) (A : ℕ → Type 0) → Leads x A (AtPhase unknown)
leads_anywhere x A ss e p a = anywhere (place p ss)

pub leads_align : (ph : Phase) (a : ℕ) → Leads (align_steps a) (AtPhase ph) (AtPhase (aligned ph a))
leads_align ph a = by_test (is_width a) refl where
  by_test : (b : Bool) → is_width a ≡ b → Leads (if b then Some (Pad a ∷ []) else None) (AtPhase ph) (AtPhase (aligned ph a))
  by_test true t = leads_some (Pad a ∷ []) (AtPhase ph) (AtPhase (aligned ph a)) (λ p at. at_aligned ph a p t at)
  by_test false t = λ ss e p at. absurd cc

chunk_leads : (ph : Phase) (s : ℕ) (ps : List Put) (h : Head) (v : Val) (x : Option (List ℕ)) → filled s ps h v ≡ x
    → Leads (on_some x (λ o. Some (Stored o (length ps) ∷ []))) (AtPhase ph) (AtPhase (shift ph s))
chunk_leads ph s ps h v None f = λ ss e p at. absurd cc
chunk_leads ph s ps h v (Some o) f =
    leads_some (Stored o (length ps) ∷ []) (AtPhase ph) (AtPhase (shift ph s)) (λ p at.
    subst (λ (k : ℕ). AtPhase (shift ph s) (p + k)) (sym (length-filled h v ps s o f)) (at_shift ph p s at))

pub leads_chunk : (ph : Phase) (s : ℕ) (ps : List Put) (h : Head) (v : Val) → Leads (chunk_steps s ps h v) (AtPhase ph) (AtPhase
    (shift ph s))
leads_chunk ph s ps h v = chunk_leads ph s ps h v (filled s ps h v) refl

-- ---- wide rows

four_of : (o : Order) (z : ℤ) (os : List ℕ) → word 4 o z ≡ Some os → length os ≡ 4
four_of o z os e =
    let m = some_of (on_some (half_of 4) (λ h. wrapped h z)) (λ (n : ℕ). Some (in_order o 4 n)) os e in
    let same : in_order o 4 m.0 ≡ os = cc in
    sym (ap length same) ∙ four_long o m.0
  where
    four_long : (o : Order) (n : ℕ) → length (in_order o 4 n) ≡ 4
    four_long Big n = refl
    four_long Little n = refl

wide_length : (o : Order) (ns : List ℤ) (os : List ℕ) → wide o ns ≡ Some os → length os ≡ length ns * 4
wide_length o [] os e = let same : [] ≡ os = cc in sym (ap length same)
wide_length o (n ∷ ns) os e =
    let a = some_of (word 4 o n) (λ (x : List ℕ). on_some (wide o ns) (λ (y : List ℕ). Some (x ++ y))) os e in
    let b = some_of (wide o ns) (λ (y : List ℕ). Some (a.0 ++ y)) os a.1.1 in
    let same : a.0 ++ b.0 ≡ os = cc in
    let first : length a.0 ≡ 4 = four_of o n a.0 a.1.0 in
    let rest : length b.0 ≡ length ns * 4 = wide_length o ns b.0 b.1.0 in
    let sum : length (a.0 ++ b.0) ≡ length a.0 + length b.0 = length-append {A = ℕ} a.0 b.0 in
    let whole : length os ≡ length (a.0 ++ b.0) = sym (ap length same) in
    omega (arith, first, rest, sum, whole)

pub leads_wide : (ph : Phase) (q : List ℕ) (o : Order) (v : Val) → Leads (wide_steps q o v) (AtPhase ph) (AtPhase (by_fours ph))
leads_wide ph q o v =
    leads_on_some (on_some (at q v) row_in) (λ r. on_some (wide o r.1) (λ os. Some (Widened os (length r.1) ∷ []))) (AtPhase ph)
    (AtPhase (by_fours ph)) (λ r. of_wide r.1 (wide o r.1) refl)
  where
    of_wide : (ns : List ℤ) (x : Option (List ℕ)) → wide o ns ≡ x
        → Leads (on_some x (λ os. Some (Widened os (length ns) ∷ []))) (AtPhase ph) (AtPhase (by_fours ph))
    of_wide ns None f = λ ss e p at. absurd cc
    of_wide ns (Some os) f =
        leads_some (Widened os (length ns) ∷ []) (AtPhase ph) (AtPhase (by_fours ph)) (λ p at.
        subst (λ (k : ℕ). AtPhase (by_fours ph) (p + k)) (sym (wide_length o ns os f)) (at_fours ph p (length ns) at))

-- ---- blocks

-- an end, met with those of more bodies
pub stays : (ph x : Phase) (cs : Cases) (p : ℕ) → AtPhase x p → AtPhase (or_unknown (cases_leave ph (Some x) cs)) p
stays ph x no_default p at = at
stays ph x (default b) p at = meet_first x (leave ph b) p at
stays ph x (case n b cs) p at = stays ph (meet x (leave ph b)) cs p (meet_first x (leave ph b) p at)

pub at_end : (e : Option Phase) (b : Phase) (p : ℕ) → AtPhase b p → AtPhase (meet_end e b) p
at_end None b p at = at
at_end (Some a) b p at = meet_second a b p at

module _ (c : Calls) (h : Head) where
  mutual
    pub left : (b : Block) (v : Val) (ph : Phase) → Leads (steps c h b v) (AtPhase ph) (AtPhase (leave ph b))
    left stop v ph = leads_some [] (AtPhase ph) (AtPhase ph) (λ p at. at)
    left (ensure n r) v ph =
        leads_both (Some (Room n ∷ [])) (steps c h r v) (AtPhase ph) (AtPhase ph) (AtPhase (leave ph r))
        (leads_some (Room n ∷ []) (AtPhase ph) (AtPhase ph) (λ p at. at)) (left r v ph)
    left (ensure_row q u x r) v ph =
        leads_both (row_room q u x v) (steps c h r v) (AtPhase ph) (AtPhase ph) (AtPhase (leave ph r))
        (leads_on_some (on_some (at q v) length_in) (λ n. Some (Room (n * u + x) ∷ [])) (AtPhase ph) (AtPhase ph)
        (λ n. leads_some (Room (n * u + x) ∷ []) (AtPhase ph) (AtPhase ph) (λ p at. at))) (left r v ph)
    left (align a r) v ph =
        leads_both (align_steps a) (steps c h r v) (AtPhase ph) (AtPhase (aligned ph a)) (AtPhase (leave (aligned ph a) r))
        (leads_align ph a) (left r v (aligned ph a))
    left (chunk s ps r) v ph =
        leads_both (chunk_steps s ps h v) (steps c h r v) (AtPhase ph) (AtPhase (shift ph s)) (AtPhase (leave (shift ph s) r))
        (leads_chunk ph s ps h v) (left r v (shift ph s))
    left (row_copy q r) v ph =
        leads_both (copy_steps q v) (steps c h r v) (AtPhase ph) (AtPhase unknown) (AtPhase (leave unknown r))
        (leads_anywhere (copy_steps q v) (AtPhase ph)) (left r v unknown)
    left (row_swap q r) v ph =
        leads_both (swap_steps q v) (steps c h r v) (AtPhase ph) (AtPhase unknown) (AtPhase (leave unknown r))
        (leads_anywhere (swap_steps q v) (AtPhase ph)) (left r v unknown)
    left (row_wide q o r) v ph =
        leads_both (wide_steps q o v) (steps c h r v) (AtPhase ph) (AtPhase (by_fours ph)) (AtPhase (leave (by_fours ph) r))
        (leads_wide ph q o v) (left r v (by_fours ph))
    left (each q b r) v ph =
        leads_both (on_some (on_some (at q v) elements_in) (over (steps c h b))) (steps c h r v) (AtPhase ph) (AtPhase (looped ph b))
        (AtPhase (leave (looped ph b) r))
        (λ ss e p x.
        leads_on_some (on_some (at q v) elements_in) (over (steps c h b)) (AtPhase (looped ph b)) (AtPhase (looped ph b))
        (leads_over (steps c h b) (AtPhase (looped ph b)) (λ w xs f i a. meet_second ph (leave unknown b) (place i xs)
        (left b w unknown xs f i
        (anywhere i)))) ss e p (meet_first ph (leave unknown b) p x))
        (left r v (looped ph b))
    left (switch q cs r) v ph =
        leads_both (on_some (on_some (at q v) arm_in) (λ a. case_steps c h cs a.0 a.1)) (steps c h r v) (AtPhase ph)
        (AtPhase (switched ph cs)) (AtPhase (leave (switched ph cs) r))
        (leads_on_some (on_some (at q v) arm_in) (λ a. case_steps c h cs a.0 a.1) (AtPhase ph) (AtPhase (switched ph cs))
        (λ a. case_left cs a.0 a.1 ph None)) (left r v (switched ph cs))
    left (if_there q b r) v ph =
        leads_both (on_some (at q v) (if_present (steps c h b))) (steps c h r v) (AtPhase ph) (AtPhase (perhaps ph b))
        (AtPhase (leave (perhaps ph b) r))
        (leads_on_some (at q v) (if_present (steps c h b)) (AtPhase ph) (AtPhase (perhaps ph b))
        (leads_present (steps c h b) (AtPhase ph) (AtPhase (perhaps ph b)) (λ p at. meet_first ph (leave ph b) p at)
        (λ w ss e p at. meet_second ph (leave ph b) (place p ss) (left b w ph ss e p at)))) (left r v (perhaps ph b))
    left (call k q r) v ph =
        leads_both (on_some (at q v) (c k)) (steps c h r v) (AtPhase ph) (AtPhase unknown) (AtPhase (leave unknown r))
        (leads_anywhere (on_some (at q v) (c k)) (AtPhase ph)) (left r v unknown)
    left (patch x s o r) v ph =
        leads_both (Some (Patched x s o ∷ [])) (steps c h r v) (AtPhase ph) (AtPhase ph) (AtPhase (leave ph r))
        (leads_some (Patched x s o ∷ []) (AtPhase ph) (AtPhase ph) (λ p at. at)) (left r v ph)

    pub case_left : (cs : Cases) (n : ℤ) (w : Val) (ph : Phase) (e : Option Phase)
        → Leads (case_steps c h cs n w) (AtPhase ph) (AtPhase (or_unknown (cases_leave ph e cs)))
    case_left no_default n w ph e = λ ss f p at. absurd cc
    case_left (default b) n w ph e = λ ss f p at. at_end e (leave ph b) (place p ss) (left b w ph ss f p at)
    case_left (case m b cs) n w ph e =
        either (int_eq n m) (λ ss f p at.
        stays ph (meet_end e (leave ph b)) cs (place p ss) (at_end e (leave ph b) (place p ss) (left b w ph ss f p at)))
        (case_left cs n w ph (Some (meet_end e (leave ph b))))
      where
        either : (t : Bool) → Leads (steps c h b w) (AtPhase ph) (AtPhase (or_unknown (cases_leave ph (Some (meet_end e
            (leave ph b))) cs)))
            → Leads (case_steps c h cs n w) (AtPhase ph) (AtPhase (or_unknown (cases_leave ph (Some (meet_end e (leave ph b))) cs)))
            → Leads (if t then steps c h b w else case_steps c h cs n w) (AtPhase ph)
            (AtPhase (or_unknown (cases_leave ph (Some (meet_end e (leave ph b))) cs)))
        either true x y = x
        either false x y = y

  -- a turn of a loop begins and ends where the loop is
  pub turn : (b : Block) (ph : Phase) (w : Val) → Leads (steps c h b w) (AtPhase (looped ph b)) (AtPhase (looped ph b))
  turn b ph w ss e p at = meet_second ph (leave unknown b) (place p ss) (left b w unknown ss e p (anywhere p))
