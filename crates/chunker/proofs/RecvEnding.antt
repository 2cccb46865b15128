-- Where a run of receive code ends: at a place of what is left behind it, by induction on the block.
use Rattle.std.proofs.Common.{ℕ, ◌+◌, ◌*◌, ℤ, List, Option, Some, None, Bool, true, false, if◌then◌else◌, refl, arith}
use Rattle.std.specs.Ordering.{int_eq}
use Rattle.cast_stub.specs.declared.recv.Get.{Get}
use Rattle.cast_stub.specs.RecvBlock.{Recv, finish, need, need_row, skip_any, skip_zero, pass, desc, row_block, row_wide, each, switch, if_there, call, Cases, no_default, default, case}
use Rattle.cast_stub.specs.Draft.{Draft, length_in}
use Rattle.cast_stub.specs.Into.{needed, passed, skipped, all_zero, desc_into, row_into, wide_into}
use Rattle.cast_stub.specs.Fill.{within, part, all_got, fill_each, fill_arm, fill_present, Callees, fill, fill_case}
use Rattle.cast_stub.specs.Runs.{Place, Run, gives, refuses, strays, Filler, then_run, if_some}
use Rattle.chunker.specs.declared.phase.Phase.{Phase}
use Rattle.chunker.specs.Left.{meet_end, or_unknown, by_fours}
use Rattle.chunker.specs.Phases.{AtPhase, unknown, shift, aligned, meet}
use Rattle.chunker.specs.RecvLeft.{leave, cases_leave, looped, switched, perhaps}
use Rattle.chunker.proofs.Known.{anywhere, at_shift, at_aligned, at_fours, meet_first, meet_second}
use Rattle.chunker.proofs.Ending.{at_end}
use Rattle.chunker.proofs.RecvFaring.{Stands, AllLead, stands_to, stands_then, stands_some, stands_same, needed_leads, passed_leads, skipped_leads, within_leads, wide_leads, each_leads, arm_leads, present_leads}
use Rattle.chunker.proofs.RecvMoved.{all_moved}

-- gets leave the place as it is
pub gets_lead : (P : ℕ → Type 0) (gs : List Get) → AllLead P (all_got gs) P
gets_lead P gs d s at = stands_same P s s (all_got gs d s) _ (all_moved gs 0 d s s (record { left = refl; near = omega arith })) at

-- to anywhere
pub leads_anywhere : (P : ℕ → Type 0) (f : Filler) → AllLead P f (AtPhase unknown)
leads_anywhere P f d s at = stands_to (λ p. Unit {0}) (AtPhase unknown) (f d s) (λ p u. anywhere p) (of_any (f d s)) where
  of_any : (x : Run Draft) → Stands (λ p. Unit {0}) x
  of_any (gives x t) = tt
  of_any refuses = tt
  of_any strays = tt

pub skip_leads : (test : List ℕ → Bool) (a : ℕ) (ph : Phase) → AllLead (AtPhase ph) (skipped test a) (AtPhase (aligned ph a))
skip_leads test a ph = skipped_leads (AtPhase ph) (AtPhase (aligned ph a)) test a (λ p e at. at_aligned ph a p e at)

pub row_need_leads : (P : ℕ → Type 0) (p : List ℕ) (u e : ℕ)
    → AllLead P (λ d s. if_some (part p d) (λ x. if_some (length_in x) (λ n. needed (n * u + e) d s))) P
row_need_leads P p u e d s at =
    stands_some P (part p d) (λ x. if_some (length_in x) (λ n. needed (n * u + e) d s))
    (λ (x : Draft). stands_some P (length_in x) (λ n. needed (n * u + e) d s) (λ (n : ℕ). needed_leads P (n * u + e) d s at))

-- an end, met with those of more bodies
stays : (ph x : Phase) (cs : Cases) (p : ℕ) → AtPhase x p → AtPhase (or_unknown (cases_leave ph (Some x) cs)) p
stays ph x no_default p at = at
stays ph x (default b) p at = meet_first x (leave ph b) p at
stays ph x (case n b cs) p at = stays ph (meet x (leave ph b)) cs p (meet_first x (leave ph b) p at)

module _ (c : Callees) where
  mutual
    pub left : (b : Recv) (ph : Phase) → AllLead (AtPhase ph) (fill c b) (AtPhase (leave ph b))
    left finish ph d s at = at
    left (need n r) ph d s at =
        stands_then (AtPhase ph) (AtPhase (leave ph r)) (needed n d s) (fill c r) (needed_leads (AtPhase ph) n d s at) (left r ph)
    left (need_row p u e r) ph d s at =
        stands_then (AtPhase ph) (AtPhase (leave ph r)) (if_some (part p d) (λ x. if_some (length_in x) (λ n. needed (n * u + e) d s)))
        (fill c r) (row_need_leads (AtPhase ph) p u e d s at) (left r ph)
    left (skip_any a r) ph d s at =
        stands_then (AtPhase (aligned ph a)) (AtPhase (leave (aligned ph a) r)) (skipped (λ o. true) a d s) (fill c r)
        (skip_leads (λ o. true) a ph d s at) (left r (aligned ph a))
    left (skip_zero a r) ph d s at =
        stands_then (AtPhase (aligned ph a)) (AtPhase (leave (aligned ph a) r)) (skipped all_zero a d s) (fill c r)
        (skip_leads all_zero a ph d s at) (left r (aligned ph a))
    left (pass n gs r) ph d s at =
        stands_then (AtPhase ph) (AtPhase (leave (shift ph n) r)) (all_got gs d s) (λ x t. then_run (passed n x t) (fill c r))
        (gets_lead (AtPhase ph) gs d s at)
        (λ (x : Draft) (t : Place) here.
        stands_then (AtPhase (shift ph n)) (AtPhase (leave (shift ph n) r)) (passed n x t) (fill c r)
        (passed_leads (AtPhase ph) (AtPhase (shift ph n)) n (λ p a. at_shift ph p n a) x t here) (left r (shift ph n)))
    left (desc p name size mul r) ph d s at =
        stands_then (AtPhase unknown) (AtPhase (leave unknown r)) (within p (desc_into name size mul) d s) (fill c r)
        (leads_anywhere (AtPhase ph) (within p (desc_into name size mul)) d s at) (left r unknown)
    left (row_block p o r) ph d s at =
        stands_then (AtPhase unknown) (AtPhase (leave unknown r)) (within p (row_into o) d s) (fill c r)
        (leads_anywhere (AtPhase ph) (within p (row_into o)) d s at) (left r unknown)
    left (row_wide p o r) ph d s at =
        stands_then (AtPhase (by_fours ph)) (AtPhase (leave (by_fours ph) r)) (within p (wide_into o) d s) (fill c r)
        (within_leads (AtPhase ph) (AtPhase (by_fours ph)) p (wide_into o) (wide_leads (AtPhase ph) (AtPhase (by_fours ph)) o (at_fours ph))
        d s at) (left r (by_fours ph))
    left (each p b r) ph d s at =
        stands_then (AtPhase (looped ph b)) (AtPhase (leave (looped ph b) r)) (within p (fill_each (fill c b)) d s) (fill c r)
        (within_leads (AtPhase (looped ph b)) (AtPhase (looped ph b)) p (fill_each (fill c b))
        (each_leads (AtPhase (looped ph b)) (fill c b)
        (λ (x : Draft) (t : Place) here.
        stands_to (AtPhase (leave unknown b)) (AtPhase (looped ph b)) (fill c b x t) (meet_second ph (leave unknown b))
        (left b unknown x t (anywhere t.pos))))
        d s (meet_first ph (leave unknown b) s.pos at)) (left r (looped ph b))
    left (switch p cs r) ph d s at =
        stands_then (AtPhase (switched ph cs)) (AtPhase (leave (switched ph cs) r)) (within p (fill_arm (fill_case c cs)) d s) (fill c r)
        (within_leads (AtPhase ph) (AtPhase (switched ph cs)) p (fill_arm (fill_case c cs))
        (arm_leads (AtPhase ph) (AtPhase (switched ph cs)) (fill_case c cs) (λ (n : ℤ). case_left cs n ph None)) d s at)
        (left r (switched ph cs))
    left (if_there p b r) ph d s at =
        stands_then (AtPhase (perhaps ph b)) (AtPhase (leave (perhaps ph b) r)) (within p (fill_present (fill c b)) d s) (fill c r)
        (within_leads (AtPhase ph) (AtPhase (perhaps ph b)) p (fill_present (fill c b))
        (present_leads (AtPhase ph) (AtPhase (perhaps ph b)) (fill c b) (meet_first ph (leave ph b))
        (λ (x : Draft) (t : Place) here.
        stands_to (AtPhase (leave ph b)) (AtPhase (perhaps ph b)) (fill c b x t) (meet_second ph (leave ph b)) (left b ph x t here)))
        d s at) (left r (perhaps ph b))
    left (call k p r) ph d s at =
        stands_then (AtPhase unknown) (AtPhase (leave unknown r)) (within p (c k) d s) (fill c r)
        (leads_anywhere (AtPhase ph) (within p (c k)) d s at) (left r unknown)

    pub case_left : (cs : Cases) (n : ℤ) (ph : Phase) (e : Option Phase)
        → AllLead (AtPhase ph) (fill_case c cs n) (AtPhase (or_unknown (cases_leave ph e cs)))
    case_left no_default n ph e d s at = tt
    case_left (default b) n ph e d s at =
        stands_to (AtPhase (leave ph b)) (AtPhase (meet_end e (leave ph b))) (fill c b d s) (at_end e (leave ph b)) (left b ph d s at)
    case_left (case m b cs) n ph e d s at =
        either (int_eq n m)
        (stands_to (AtPhase (leave ph b)) (AtPhase (or_unknown (cases_leave ph (Some (meet_end e (leave ph b))) cs))) (fill c b d s)
        (λ p here. stays ph (meet_end e (leave ph b)) cs p (at_end e (leave ph b) p here)) (left b ph d s at))
        (case_left cs n ph (Some (meet_end e (leave ph b))) d s at)
      where
        either : (t : Bool) → Stands (AtPhase (or_unknown (cases_leave ph (Some (meet_end e (leave ph b))) cs))) (fill c b d s)
            → Stands (AtPhase (or_unknown (cases_leave ph (Some (meet_end e (leave ph b))) cs))) (fill_case c cs n d s)
            → Stands (AtPhase (or_unknown (cases_leave ph (Some (meet_end e (leave ph b))) cs)))
            (if t then fill c b d s else fill_case c cs n d s)
        either true x y = x
        either false x y = y

  -- a turn of a loop begins and ends where the loop is
  pub turn : (b : Recv) (ph : Phase) → AllLead (AtPhase (looped ph b)) (fill c b) (AtPhase (looped ph b))
  turn b ph d s at =
      stands_to (AtPhase (leave unknown b)) (AtPhase (looped ph b)) (fill c b d s) (meet_second ph (leave unknown b))
      (left b unknown d s (anywhere s.pos))
