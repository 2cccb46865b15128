-- Code that goes through a type goes through it with its calls replaced, by induction on the type.
use Rattle.std.proofs.Common.{◌≡◌, inl, inr, ℕ, zero, suc, ◌<◌, ◌≤◌, List, [], ◌∷◌, ◌++◌, map, Option, Some, option_map, refl, sym, ap, subst, ◌∙◌, arith, append_assoc}
use Rattle.std.proofs.lemmas.List.{append-nil}
use Rattle.mint.specs.declared.kind.Count.{Count}
use Rattle.mint.specs.declared.kind.Count.TheVariants.{Exactly, AtMost, Any}
use Rattle.mint.specs.Types.{Array, Ty, void_type, scalar_type, array_type, group_type, items_type, choice_type, maybe_type, Tys, no_fields, field, Arms, no_other, others, arm_type}
use Rattle.mint.specs.Blank.{depth, fields_depth, arms_depth}
use Rattle.cast_stub.specs.declared.recv.Get.{Get}
use Rattle.cast_stub.specs.declared.recv.Get.TheVariants as get
use Rattle.cast_stub.specs.RecvBlock.{Recv, finish, need, skip_any, skip_zero, pass, desc, each, switch, if_there, Cases}
use Rattle.cast_stub.specs.RecvAppend.{rebase, get_rebased}
use Rattle.cast_stub.specs.Got.{no_subs}
use Rattle.cast_stub.specs.Traces.{descs, IsGetAt, AreGetsAt, IsAt, IsFlat, IsLoop, IsCount, Going, Child, Loops, TracesBy, FieldsTraceBy, ArmsTraceBy, IsTurned}
use Rattle.cast_stub.specs.Turned.{Layout}
use Rattle.cast_stub.proofs.Followed.{mapped}
use Rattle.cast_stub.proofs.RecvAppending.{append-finish}
use Rattle.copy_inline.specs.RecvSpliced.{spliced, cases_spliced, spliced_or_stop, inlined}
use Rattle.copy_inline.proofs.RecvBlocks.{rebase-append, spliced-append}

-- ---- tests, skips and takes

descs-rebase : (q : List ℕ) (b : Recv) → descs (rebase q b) ≡ descs b
descs-rebase q (need n r) = descs-rebase q r
descs-rebase q (skip_any a r) = descs-rebase q r
descs-rebase q (skip_zero a r) = descs-rebase q r
descs-rebase q (pass n gs r) = descs-rebase q r
descs-rebase q (desc p name size mul r) = ap (option_map suc) (descs-rebase q r)
descs-rebase q _ = refl

spliced-flat : (code : ℕ → Recv) (b : Recv) (n : ℕ) → descs b ≡ Some n → spliced code b ≡ b
spliced-flat code finish n e = refl
spliced-flat code (need k r) n e = ap (need k) (spliced-flat code r n e)
spliced-flat code (skip_any k r) n e = ap (skip_any k) (spliced-flat code r n e)
spliced-flat code (skip_zero k r) n e = ap (skip_zero k) (spliced-flat code r n e)
spliced-flat code (pass k gs r) n e = ap (pass k gs) (spliced-flat code r n e)
spliced-flat code (desc p name size mul r) n e = let m = mapped suc (descs r) n e in ap (desc p name size mul) (spliced-flat code r m.0 m.1)
spliced-flat code _ n e = absurd cc

-- gets of the value at a path are gets of the part
get_at_rebased : (q p : List ℕ) (g : Get) → IsGetAt p g → IsGetAt (q ++ p) (get_rebased q g)
get_at_rebased q p (get.Const off os) h = tt
get_at_rebased q p _ h = ap (λ (x : List ℕ). q ++ x) h

gets_at_rebased : (q p : List ℕ) (gs : List Get) → AreGetsAt p gs → AreGetsAt (q ++ p) (map (get_rebased q) gs)
gets_at_rebased q p [] h = tt
gets_at_rebased q p (g ∷ gs) h = (get_at_rebased q p g h.0, gets_at_rebased q p gs h.1)

at_rebased : (q p : List ℕ) (b : Recv) → IsAt p b → IsAt (q ++ p) (rebase q b)
at_rebased q p (need n r) h = at_rebased q p r h
at_rebased q p (skip_any a r) h = at_rebased q p r h
at_rebased q p (skip_zero a r) h = at_rebased q p r h
at_rebased q p (pass n gs r) h = (gets_at_rebased q p gs h.0, at_rebased q p r h.1)
at_rebased q p (desc r name size mul b) h = (ap (λ (x : List ℕ). q ++ x) h.0, at_rebased q p b h.1)
at_rebased q p _ h = tt

flat_rebased : (q p : List ℕ) (b : Recv) → IsFlat p b → IsFlat (q ++ p) (rebase q b)
flat_rebased q p b h = (descs-rebase q b ∙ h.0, at_rebased q p b h.1)

flat_spliced : (code : ℕ → Recv) (p : List ℕ) (b : Recv) → IsFlat p b → IsFlat p (spliced code b)
flat_spliced code p b h = subst (IsFlat p) (sym (spliced-flat code b 0 h.0)) h

none_rebased : (q : List ℕ) (b : Recv) → b ≡ finish → rebase q b ≡ finish
none_rebased q b h = ap (rebase q) h

none_spliced : (code : ℕ → Recv) (b : Recv) → b ≡ finish → spliced code b ≡ finish
none_spliced code b h = ap (spliced code) h

count_rebased : (c : Count) (q p : List ℕ) (b : Recv) → IsCount p c b → IsCount (q ++ p) c (rebase q b)
count_rebased (Exactly n) q p b h = ap (rebase q) h
count_rebased (AtMost n) q p b h = flat_rebased q p b h
count_rebased Any q p b h = flat_rebased q p b h

count_spliced : (code : ℕ → Recv) (p : List ℕ) (c : Count) (b : Recv) → IsCount p c b → IsCount p c (spliced code b)
count_spliced code p (Exactly n) b h = ap (spliced code) h
count_spliced code p (AtMost n) b h = flat_spliced code p b h
count_spliced code p Any b h = flat_spliced code p b h

-- ---- for a part, and with calls replaced

-- loops that stay what they are
pub record AreKept (L : Loops) : Type 0 where
  pub rebased : (a : Array) (q p : List ℕ) (b : Recv) → L a p b → L a (q ++ p) (rebase q b)
  pub spliced_too : (code : ℕ → Recv) (a : Array) (p : List ℕ) (b : Recv) → L a p b → L a p (spliced code b)

pub own : (F : Going) (below : ℕ) (p : List ℕ) (b : Recv) → Child no_subs F below p b → F below p b
own F below p b (inl f) = f
own F below p b (inr c) = absurd (let none = c.4 in cc)

module _ (L : Loops) (kept : AreKept L) where
  mutual
    rebased : (t : Ty) (below : ℕ) (q p : List ℕ) (b : Recv) → TracesBy L no_subs t below p b
        → TracesBy L no_subs t below (q ++ p) (rebase q b)
    rebased void_type below q p b h = none_rebased q b h
    rebased (scalar_type s) below q p b h = flat_rebased q p b h
    rebased (array_type a) below q p b h = kept.rebased a q p b h
    rebased (group_type ts) below q p b h = fields_rebased ts 0 below q p b h
    rebased (items_type c t) below q p b h =
        (rebase q h.0, h.1, ap (rebase q) h.2 ∙ rebase-append q h.0 (each p h.1 finish), count_rebased c q p h.0 h.3, h.4)
    rebased (choice_type s arms) below q p b h =
        (rebase q h.0, h.1, ap (rebase q) h.2 ∙ rebase-append q h.0 (switch p h.1 finish), flat_rebased q p h.0 h.3, h.4)
    rebased (maybe_type t) below q p b h =
        (rebase q h.0, h.1, ap (rebase q) h.2 ∙ rebase-append q h.0 (if_there p h.1 finish), flat_rebased q p h.0 h.3, h.4)

    fields_rebased : (ts : Tys) (i below : ℕ) (q p : List ℕ) (b : Recv) → FieldsTraceBy L no_subs ts i below p b
        → FieldsTraceBy L no_subs ts i below (q ++ p) (rebase q b)
    fields_rebased no_fields i below q p b h = ap (rebase q) h
    fields_rebased (field t ts) i below q p b h =
        let one = rebased t below q (p ++ i ∷ []) h.0 (own (TracesBy L no_subs t) below (p ++ i ∷ []) h.0 h.3) in (
          rebase q h.0,
          rebase q h.1,
          ap (rebase q) h.2 ∙ rebase-append q h.0 h.1,
          inl (subst (λ (x : List ℕ). TracesBy L no_subs t below x (rebase q h.0)) (sym (append_assoc q p (i ∷ []))) one),
          fields_rebased ts (suc i) below q p h.1 h.4,
        )

  module _ (subs : ℕ → Option Recv) where
    -- what inlining makes of code that goes through a type
    abbrev pub Goes : Ty → Type 0
    Goes t = (n below then : ℕ) (p : List ℕ) (b : Recv) → depth t ≤ n → TracesBy L subs t below p b
        → TracesBy L no_subs t then p (spliced (inlined subs n) b)

    child : (t : Ty) (n below then : ℕ) (p : List ℕ) (b : Recv) → depth t < n → Goes t → Child subs (TracesBy L subs t) below p b
        → TracesBy L no_subs t then p (spliced (inlined subs n) b)
    child t n below then p b lt go (inl f) = go n below then p b (omega arith) f
    child t zero below then p b lt go (inr c) = absurd (omega (arith, lt))
    child t (suc n) below then p b lt go (inr c) =
        let code = spliced (inlined subs n) c.1 in
        let body : TracesBy L no_subs t then [] code = go n c.0 then [] c.1 (omega arith) c.5 in
        let moved : TracesBy L no_subs t then (p ++ []) (rebase p code) = rebased t then p [] code body in
        let is : rebase p code ≡ spliced (inlined subs (suc n)) b =
        ap (λ (o : Option Recv). rebase p (spliced_or_stop (inlined subs n) o)) (sym c.4)
        ∙ sym (append-finish (rebase p (inlined subs (suc n) c.0))) ∙ sym (ap (spliced (inlined subs (suc n))) c.2) in
        subst (TracesBy L no_subs t then p) is (subst (λ (q : List ℕ). TracesBy L no_subs t then q (rebase p code)) (append-nil p) moved)

    mutual
      pub goes : (t : Ty) → Goes t
      goes void_type n below then p b le h = none_spliced (inlined subs n) b h
      goes (scalar_type s) n below then p b le h = flat_spliced (inlined subs n) p b h
      goes (array_type a) n below then p b le h = kept.spliced_too (inlined subs n) a p b h
      goes (group_type ts) n below then p b le h = fields_go ts 0 n below then p b (omega arith) h
      goes (items_type c t) n below then p b le h = (
        spliced (inlined subs n) h.0,
        spliced (inlined subs n) h.1,
        ap (spliced (inlined subs n)) h.2 ∙ spliced-append (inlined subs n) h.0 (each p h.1 finish),
        count_spliced (inlined subs n) p c h.0 h.3,
        inl (child t n below then [] h.1 (omega arith) (goes t) h.4),
      )
      goes (choice_type s arms) n below then p b le h = (
        spliced (inlined subs n) h.0,
        cases_spliced (inlined subs n) h.1,
        ap (spliced (inlined subs n)) h.2 ∙ spliced-append (inlined subs n) h.0 (switch p h.1 finish),
        flat_spliced (inlined subs n) p h.0 h.3,
        arms_go arms n below then h.1 (omega arith) h.4,
      )
      goes (maybe_type t) n below then p b le h = (
        spliced (inlined subs n) h.0,
        spliced (inlined subs n) h.1,
        ap (spliced (inlined subs n)) h.2 ∙ spliced-append (inlined subs n) h.0 (if_there p h.1 finish),
        flat_spliced (inlined subs n) p h.0 h.3,
        inl (child t n below then [] h.1 (omega arith) (goes t) h.4),
      )

      fields_go : (ts : Tys) (i n below then : ℕ) (p : List ℕ) (b : Recv) → fields_depth ts < n → FieldsTraceBy L subs ts i below p b
          → FieldsTraceBy L no_subs ts i then p (spliced (inlined subs n) b)
      fields_go no_fields i n below then p b lt h = ap (spliced (inlined subs n)) h
      fields_go (field t ts) i n below then p b lt h = (
        spliced (inlined subs n) h.0,
        spliced (inlined subs n) h.1,
        ap (spliced (inlined subs n)) h.2 ∙ spliced-append (inlined subs n) h.0 h.1,
        inl (child t n below then (p ++ i ∷ []) h.0 (omega arith) (goes t) h.3),
        fields_go ts (suc i) n below then p h.1 (omega arith) h.4,
      )

      arms_go : (arms : Arms) (n below then : ℕ) (cs : Cases) → arms_depth arms < n → ArmsTraceBy L subs arms below cs
          → ArmsTraceBy L no_subs arms then (cases_spliced (inlined subs n) cs)
      arms_go no_other n below then cs lt h = ap (cases_spliced (inlined subs n)) h
      arms_go (others t) n below then cs lt h = (
        spliced (inlined subs n) h.0,
        ap (cases_spliced (inlined subs n)) h.1,
        inl (child t n below then [] h.0 (omega arith) (goes t) h.2),
      )
      arms_go (arm_type m t arms) n below then cs lt h = (
        spliced (inlined subs n) h.0,
        cases_spliced (inlined subs n) h.1,
        ap (cases_spliced (inlined subs n)) h.2,
        inl (child t n below then [] h.0 (omega arith) (goes t) h.3),
        arms_go arms n below then h.1 (omega arith) h.4,
      )

-- ---- loops

moved_loop : (q p : List ℕ) (b : Recv) → IsLoop p b → IsLoop (q ++ p) (rebase q b)
moved_loop q p b h = record {
  before = rebase q h.before;
  turn = h.turn;
  after = rebase q h.after;
  first = h.first;
  last = h.last;
  whole = ap (rebase q) h.whole ∙ rebase-append q h.before (each p h.turn h.after);
  begins = (descs-rebase q h.before ∙ h.begins.0, at_rebased q p h.before h.begins.1);
  turns = h.turns;
  ends = (descs-rebase q h.after ∙ h.ends.0, at_rebased q p h.after h.ends.1);
  few = h.few;
}

-- a loop holds no call
same_loop : (code : ℕ → Recv) (p : List ℕ) (b : Recv) → IsLoop p b → spliced code b ≡ b
same_loop code p b h =
    ap (spliced code) h.whole ∙ spliced-append code h.before (each p h.turn h.after)
    ∙ rw (spliced-flat code h.before h.first h.begins.0, spliced-flat code h.turn 0 h.turns.0, spliced-flat code h.after h.last h.ends.0)
    (sym h.whole)

pub loops_kept : AreKept (λ a. IsLoop)
loops_kept =
    record { rebased = λ a q p b h. moved_loop q p b h; spliced_too = λ code a p b h. subst (IsLoop p) (sym (same_loop code p b h)) h }

pub turns_kept : (layout : Layout) → AreKept (IsTurned layout)
unfolding moved_loop
turns_kept layout = record {
  rebased = λ a q p b h. record { loop = moved_loop q p b h.loop; number = h.number };
  spliced_too = λ code a p b h. subst (IsTurned layout a p) (sym (same_loop code p b h.loop)) h;
}
