-- Hoisted code makes the same steps, but for the room that it ensures, by induction on the code.
use Rattle.std.proofs.Common.{◌≡◌, ℕ, zero, suc, ◌+◌, ◌-◌, ◌*◌, ℤ, List, [], ◌∷◌, ◌++◌, Option, None, Some, option_map, refl, sym, ap, ◌∙◌, Bool, true, false, nat_lt, if◌then◌else◌}
use Rattle.std.specs.Ordering.{int_eq}
use Rattle.mint.specs.Types.{Ty, Arms, no_other, others, arm_type}
use Rattle.mint.specs.Values.{Val, Vals, no_more, val, items, row as row_value, absent, present, arm_in}
use Rattle.wire_def.specs.declared.head.Head.{Head}
use Rattle.cast_stub.specs.Parts.{on_some, at, elements_in, length_in}
use Rattle.cast_stub.specs.Block.{Block, ensure, ensure_row, align, chunk, each, switch, if_there, patch, Cases, no_default, default, case}
use Rattle.cast_stub.specs.Steps.{Step, Room, Pad, Stored, Widened, Copied, Patched, Steps, both, over, if_present, Calls, steps, case_steps, chunk_steps, align_steps}
use Rattle.cast_stub.specs.Kept.{without_room, unensured, cases_unensured}
use Rattle.hoist.specs.Hoisted.{Pending, nothing, octets, row, Hoisted, some_octets, closed, Plan, flat, small, loop, apart, enough, beside, settled, Roles, Role, is_small, is_row, is_break, loop_plan, body_plan, each_plan, some_plan, switch_plan, kept, items_at, or_void, or_none, hoisted, cases_hoisted}
use Rattle.hoist.specs.Bound.{most, times, bound, cases_bound}
use Rattle.cast_stub.specs.PartTypes.{element_at, present_at, arms_at}
use Rattle.hoist.specs.Laws.{HoistingKeepsSteps, HoistingKeepsCode}
use Rattle.hoist.proofs.TypedParts.{length_at}

-- the steps without room
abbrev bare : Steps → Steps
bare x = option_map without_room x

bare-append : (a b : List Step) → without_room (a ++ b) ≡ without_room a ++ without_room b
bare-append [] b = refl
bare-append (Room n ∷ a) b = bare-append a b
bare-append (Pad x ∷ a) b = ap (λ (l : List Step). Pad x ∷ l) (bare-append a b)
bare-append (Stored o k ∷ a) b = ap (λ (l : List Step). Stored o k ∷ l) (bare-append a b)
bare-append (Widened o k ∷ a) b = ap (λ (l : List Step). Widened o k ∷ l) (bare-append a b)
bare-append (Copied o ∷ a) b = ap (λ (l : List Step). Copied o ∷ l) (bare-append a b)
bare-append (Patched x s o ∷ a) b = ap (λ (l : List Step). Patched x s o ∷ l) (bare-append a b)

bare-both : (x y : Steps) → bare (both x y) ≡ both (bare x) (bare y)
bare-both None y = refl
bare-both (Some a) None = refl
bare-both (Some a) (Some b) = ap (λ (l : List Step). Some l) (bare-append a b)

same_both : (x x' y y' : Steps) → bare x ≡ bare x' → bare y ≡ bare y' → bare (both x y) ≡ bare (both x' y')
same_both x x' y y' e f = bare-both x y ∙ ap (λ (s : Steps). both s (bare y)) e ∙ ap (both (bare x')) f ∙ sym (bare-both x' y')

same_on : {A : Type 0} (x : Option A) (f g : A → Steps) → ((a : A) → bare (f a) ≡ bare (g a)) → bare (on_some x f) ≡ bare (on_some x g)
same_on None f g e = refl
same_on (Some a) f g e = e a

same_over : (f g : Val → Steps) (vs : Vals) → ((w : Val) → bare (f w) ≡ bare (g w)) → bare (over f vs) ≡ bare (over g vs)
same_over f g no_more e = refl
same_over f g (val w vs) e = same_both (f w) (g w) (over f vs) (over g vs) (e w) (same_over f g vs e)

same_present : (f g : Val → Steps) (w : Val) → ((w : Val) → bare (f w) ≡ bare (g w)) → bare (if_present f w) ≡ bare (if_present g w)
same_present f g absent e = refl
same_present f g (present w) e = e w
same_present f g _ e = refl

same_if : (q : Bool) (x x' y y' : Steps) → bare x ≡ bare x' → bare y ≡ bare y' → bare (if q then x else y) ≡ bare (if q then x' else y')
same_if true x x' y y' e f = e
same_if false x x' y y' e f = f

none_after : (x : Steps) → both x None ≡ None
none_after None = refl
none_after (Some a) = refl

room_same : (n : ℕ) (y : Steps) → bare (both (Some (Room n ∷ [])) y) ≡ bare y
room_same n None = refl
room_same n (Some b) = refl

row_same : (z : Option ℕ) (u n : ℕ) (y : Steps) → (z ≡ None → y ≡ None)
    → bare (both (on_some z (λ k. Some (Room (k * u + n) ∷ []))) y) ≡ bare y
row_same None u n y e = ap bare (sym (e refl))
row_same (Some k) u n y e = room_same (k * u + n) y

-- a list whose length is pending is visited by the code
abbrev Reads : Pending → Val → Steps → Type 0
Reads nothing v s = Unit {0}
Reads (octets n j) v s = Unit {0}
Reads (row p u n) v s = length_at p v ≡ None → s ≡ None

reads_some : (n k : ℕ) (v : Val) (s : Steps) → Reads (some_octets n k) v s
reads_some zero k v s = tt
reads_some (suc n) k v s = tt

abbrev Owns : Plan → Val → Steps → Type 0
Owns (loop p u) v own = length_at p v ≡ None → own ≡ None
Owns _ v own = Unit {0}

record Kept (p : Pending) (v : Val) (own s s0 : Steps) : Type 0 where
  same : bare s ≡ bare s0
  reads : Reads p v (both own s)

module _ (c : Calls) (h : Head) (v : Val) where
  closed_same : (x : Hoisted) → Reads x.1 v (steps c h x.0 v) → bare (steps c h (closed x) v) ≡ bare (steps c h x.0 v)
  closed_same (b, nothing) r = refl
  closed_same (b, octets n j) r = room_same n (steps c h b v)
  closed_same (b, row p u n) r = row_same (length_at p v) u n (steps c h b v) r

  settled_same : (plan : Plan) (own : Steps) (x : Hoisted) → Owns plan v own → Reads x.1 v (steps c h x.0 v)
      → Kept (settled plan x).1 v own (steps c h (settled plan x).0 v) (steps c h x.0 v)
  settled_same (flat n) own (b, nothing) o r = record { same = refl; reads = reads_some n 0 v (both own (steps c h b v)) }
  settled_same (flat n) own (b, octets m j) o r = record { same = refl; reads = tt }
  settled_same (flat n) own (b, row p u m) o r = record { same = refl; reads = λ e. ap (both own) (r e) ∙ none_after own }
  settled_same (small n k) own (b, nothing) o r = record { same = refl; reads = reads_some n k v (both own (steps c h b v)) }
  settled_same (small n k) own (b, octets m j) o r = cut (nat_lt enough j) where
    cut : (q : Bool) → Kept (beside q n k m j b).1 v own (steps c h (beside q n k m j b).0 v) (steps c h b v)
    cut true = record { same = room_same m (steps c h b v); reads = reads_some n k v (both own (steps c h (ensure m b) v)) }
    cut false = record { same = refl; reads = tt }
  settled_same (small n k) own (b, row p u m) o r =
      record { same = closed_same (b, row p u m) r; reads = reads_some n k v (both own (steps c h (ensure_row p u m b) v)) }
  settled_same (loop p u) own (b, nothing) o r = record { same = refl; reads = λ e. ap (λ (x : Steps). both x (steps c h b v)) (o e) }
  settled_same (loop p u) own (b, octets m j) o r = record { same = refl; reads = λ e. ap (λ (x : Steps). both x (steps c h b v)) (o e) }
  settled_same (loop p u) own (b, row q w m) o r =
      record { same = closed_same (b, row q w m) r; reads = λ e. ap (λ (x : Steps). both x (steps c h (ensure_row q w m b) v)) (o e) }
  settled_same apart own x o r = record { same = closed_same x r; reads = tt }

kept_same : {A : Type 0} (O : A → Steps) (plan : Plan) (b b' : A) → bare (O b') ≡ bare (O b) → bare (O (kept plan b b')) ≡ bare (O b)
kept_same O (flat n) b b' e = refl
kept_same O (small n k) b b' e = refl
kept_same O (loop p u) b b' e = refl
kept_same O apart b b' e = e

no_elements : (w : Val) → length_in w ≡ None → elements_in w ≡ None
no_elements (items vs) e = absurd cc
no_elements (row_value k ns) e = absurd cc
no_elements _ e = refl

each_reads : (p : List ℕ) (v : Val) (f : Val → Steps) → length_at p v ≡ None → on_some (on_some (at p v) elements_in) (over f) ≡ None
each_reads p v f e = by (at p v) e where
  by : (x : Option Val) → on_some x length_in ≡ None → on_some (on_some x elements_in) (over f) ≡ None
  by None e = refl
  by (Some w) e = ap (λ (y : Option Vals). on_some y (over f)) (no_elements w e)

loop_owns : (role : Role) (n u : Option ℕ) (p : List ℕ) (v : Val) (own : Steps) → (length_at p v ≡ None → own ≡ None)
    → Owns (loop_plan role n u p) v own
loop_owns (is_small k) (Some n) u p v own e = tt
loop_owns (is_small k) None u p v own e = tt
loop_owns is_row n (Some u) p v own e = e
loop_owns is_row n None p v own e = tt
loop_owns is_break n u p v own e = tt

body_owns : (role : Role) (n : Option ℕ) (v : Val) (own : Steps) → Owns (body_plan role n) v own
body_owns (is_small k) (Some n) v own = tt
body_owns (is_small k) None v own = tt
body_owns is_row n v own = tt
body_owns is_break n v own = tt

module _ (c : Calls) (h : Head) (ro : Roles) where
  abbrev Same : Hoisted → Block → Val → Type 0
  Same x b v = (bare (steps c h x.0 v) ≡ bare (steps c h b v)) × Reads x.1 v (steps c h x.0 v)

  whole_same : (x : Hoisted) (b : Block) (v : Val) → Same x b v → bare (steps c h (closed x) v) ≡ bare (steps c h b v)
  whole_same x b v k = closed_same c h v x k.1 ∙ k.0

  -- an operation before code that is kept
  op_same : {A : Type 0} (O : A → Steps) (plan : Plan) (b b' : A) (x : Hoisted) (r : Block) (v : Val) → Owns plan v (O (kept plan b b'))
      → bare (O b') ≡ bare (O b) → Same x r v
      → (bare (both (O (kept plan b b')) (steps c h (settled plan x).0 v)) ≡ bare (both (O b) (steps c h r v)))
      × Reads (settled plan x).1 v (both (O (kept plan b b')) (steps c h (settled plan x).0 v))
  op_same O plan b b' x r v owns e k =
      let s = settled_same c h v plan (O (kept plan b b')) x owns k.1 in (
        same_both (O (kept plan b b')) (O b) (steps c h (settled plan x).0 v) (steps c h r v) (kept_same O plan b b' e) (s.same ∙ k.0),
        s.reads,
      )

  mutual
    keeps : (b : Block) (t : Ty) (v : Val) → Same (hoisted ro t b) b v
    keeps (align a r) t v = op_same (λ (d : ℕ). align_steps d) (flat (a - 1)) a a (hoisted ro t r) r v tt refl (keeps r t v)
    keeps (chunk s ps r) t v = op_same (λ (d : ℕ). chunk_steps d ps h v) (flat s) s s (hoisted ro t r) r v tt refl (keeps r t v)
    keeps (patch a s o r) t v = patch_same (hoisted ro t r) (keeps r t v) where
      patch_same : (x : Hoisted) → Same x r v → Same (patch a s o x.0, x.1) (patch a s o r) v
      patch_same (b, nothing) k =
          (same_both (Some (Patched a s o ∷ [])) (Some (Patched a s o ∷ [])) (steps c h b v) (steps c h r v) refl k.0, tt)
      patch_same (b, octets n j) k =
          (same_both (Some (Patched a s o ∷ [])) (Some (Patched a s o ∷ [])) (steps c h b v) (steps c h r v) refl k.0, tt)
      patch_same (b, row p u n) k = (
        same_both (Some (Patched a s o ∷ [])) (Some (Patched a s o ∷ [])) (steps c h b v) (steps c h r v) refl
            k.0,
        λ e. ap (both (Some (Patched a s o ∷ []))) (k.1 e),
      )
    keeps (each p b r) t v =
        let b' = closed (hoisted ro (or_void (items_at p t)) b) in
        op_same (λ (d : Block). on_some (on_some (at p v) elements_in) (over (steps c h d))) (each_plan ro t p b) b b' (hoisted ro t r) r v
        (loop_owns (ro t p) (on_some (element_at p t) (λ e. times (most e.1) (bound e.0 b))) (on_some (element_at p t) (λ e. bound e.0 b)) p
        v (on_some (on_some (at p v) elements_in) (over (steps c h (kept (each_plan ro t p b) b b'))))
        (each_reads p v (steps c h (kept (each_plan ro t p b) b b'))))
        (same_on (on_some (at p v) elements_in) (over (steps c h b')) (over (steps c h b)) (λ (vs : Vals). same_over (steps c h b')
        (steps c h b) vs (λ (w : Val). whole_same (hoisted ro (or_void (items_at p t)) b) b w (keeps b (or_void (items_at p t)) w))))
        (keeps r t v)
    keeps (if_there p b r) t v =
        let b' = closed (hoisted ro (or_void (present_at p t)) b) in
        op_same (λ (d : Block). on_some (at p v) (if_present (steps c h d))) (some_plan ro t p b) b b' (hoisted ro t r) r v
        (body_owns (ro t p) (on_some (present_at p t) (λ u. bound u b)) v
        (on_some (at p v) (if_present (steps c h (kept (some_plan ro t p b) b b')))))
        (same_on (at p v) (if_present (steps c h b')) (if_present (steps c h b)) (λ (w : Val). same_present (steps c h b') (steps c h b) w
        (λ (u : Val). whole_same (hoisted ro (or_void (present_at p t)) b) b u (keeps b (or_void (present_at p t)) u))))
        (keeps r t v)
    keeps (switch p cs r) t v =
        let cs' = cases_hoisted ro (or_none (arms_at p t)) cs in
        op_same (λ (d : Cases). on_some (on_some (at p v) arm_in) (λ a. case_steps c h d a.0 a.1)) (switch_plan ro t p cs) cs cs'
        (hoisted ro t r) r v
        (body_owns (ro t p) (on_some (arms_at p t) (λ arms. cases_bound arms cs)) v
        (on_some (on_some (at p v) arm_in) (λ a. case_steps c h (kept (switch_plan ro t p cs) cs cs') a.0 a.1)))
        (same_on (on_some (at p v) arm_in) (λ a. case_steps c h cs' a.0 a.1) (λ a. case_steps c h cs a.0 a.1)
        (λ (a : ℤ × Val). cases_keep cs (or_none (arms_at p t)) a.0 a.1))
        (keeps r t v)
    keeps _ t v = (refl, tt)

    cases_keep : (cs : Cases) (arms : Arms) (n : ℤ) (w : Val)
        → bare (case_steps c h (cases_hoisted ro arms cs) n w) ≡ bare (case_steps c h cs n w)
    cases_keep (default b) (others t) n w = whole_same (hoisted ro t b) b w (keeps b t w)
    cases_keep (case m b cs) (arm_type k t arms) n w =
        same_if (int_eq n m) (steps c h (closed (hoisted ro t b)) w) (steps c h b w) (case_steps c h (cases_hoisted ro arms cs) n w)
        (case_steps c h cs n w) (whole_same (hoisted ro t b) b w (keeps b t w)) (cases_keep cs arms n w)
    cases_keep no_default no_other n w = refl
    cases_keep no_default (others t) n w = refl
    cases_keep no_default (arm_type k t arms) n w = refl
    cases_keep (default b) no_other n w = refl
    cases_keep (default b) (arm_type k t arms) n w = refl
    cases_keep (case m b cs) no_other n w = refl
    cases_keep (case m b cs) (others t) n w = refl

pub keeps_steps : HoistingKeepsSteps
keeps_steps ro c h t b v = whole_same c h ro (hoisted ro t b) b v (keeps c h ro b t v)

-- ---- the code

closed_code : (x : Hoisted) → unensured (closed x) ≡ unensured x.0
closed_code (b, nothing) = refl
closed_code (b, octets n j) = refl
closed_code (b, row p u n) = refl

settled_code : (plan : Plan) (x : Hoisted) → unensured (settled plan x).0 ≡ unensured x.0
settled_code (flat n) (b, p) = refl
settled_code (small n k) (b, nothing) = refl
settled_code (small n k) (b, octets m j) = cut (nat_lt enough j) where
  cut : (q : Bool) → unensured (beside q n k m j b).0 ≡ unensured b
  cut true = refl
  cut false = refl
settled_code (small n k) (b, row p u m) = refl
settled_code (loop p u) (b, nothing) = refl
settled_code (loop p u) (b, octets m j) = refl
settled_code (loop p u) (b, row q w m) = refl
settled_code apart x = closed_code x

kept_code : {A B : Type 0} (f : A → B) (plan : Plan) (b b' : A) → f b' ≡ f b → f (kept plan b b') ≡ f b
kept_code f (flat n) b b' e = refl
kept_code f (small n k) b b' e = refl
kept_code f (loop p u) b b' e = refl
kept_code f apart b b' e = e

module _ (ro : Roles) where
  mutual
    same_code : (b : Block) (t : Ty) → unensured (hoisted ro t b).0 ≡ unensured b
    same_code (align a r) t = ap (align a) (settled_code (flat (a - 1)) (hoisted ro t r) ∙ same_code r t)
    same_code (chunk s ps r) t = ap (chunk s ps) (settled_code (flat s) (hoisted ro t r) ∙ same_code r t)
    same_code (patch a s o r) t = ap (patch a s o) (same_code r t)
    same_code (each p b r) t =
        let x = hoisted ro (or_void (items_at p t)) b in
        ap (λ (d : Block). each p d (unensured (settled (each_plan ro t p b) (hoisted ro t r)).0))
        (kept_code unensured (each_plan ro t p b) b (closed x) (closed_code x ∙ same_code b (or_void (items_at p t))))
        ∙ ap (each p (unensured b)) (settled_code (each_plan ro t p b) (hoisted ro t r) ∙ same_code r t)
    same_code (if_there p b r) t =
        let x = hoisted ro (or_void (present_at p t)) b in
        ap (λ (d : Block). if_there p d (unensured (settled (some_plan ro t p b) (hoisted ro t r)).0))
        (kept_code unensured (some_plan ro t p b) b (closed x) (closed_code x ∙ same_code b (or_void (present_at p t))))
        ∙ ap (if_there p (unensured b)) (settled_code (some_plan ro t p b) (hoisted ro t r) ∙ same_code r t)
    same_code (switch p cs r) t =
        ap (λ (d : Cases). switch p d (unensured (settled (switch_plan ro t p cs) (hoisted ro t r)).0)) (kept_code cases_unensured
        (switch_plan ro t p cs) cs (cases_hoisted ro (or_none (arms_at p t)) cs) (same_cases cs (or_none (arms_at p t))))
        ∙ ap (switch p (cases_unensured cs)) (settled_code (switch_plan ro t p cs) (hoisted ro t r) ∙ same_code r t)
    same_code _ t = refl

    same_cases : (cs : Cases) (arms : Arms) → cases_unensured (cases_hoisted ro arms cs) ≡ cases_unensured cs
    same_cases (default b) (others t) = ap default (closed_code (hoisted ro t b) ∙ same_code b t)
    same_cases (case m b cs) (arm_type k t arms) = ap (λ (d : Block). case m d (cases_unensured (cases_hoisted ro arms cs)))
        (closed_code (hoisted ro t b) ∙ same_code b t) ∙ ap (case m (unensured b)) (same_cases cs arms)
    same_cases no_default no_other = refl
    same_cases no_default (others t) = refl
    same_cases no_default (arm_type k t arms) = refl
    same_cases (default b) no_other = refl
    same_cases (default b) (arm_type k t arms) = refl
    same_cases (case m b cs) no_other = refl
    same_cases (case m b cs) (others t) = refl

pub keeps_code : HoistingKeepsCode
keeps_code ro t b = closed_code (hoisted ro t b) ∙ same_code ro b t
