-- What code makes of a set of residues is what it makes of each residue and of none, by induction on the code.
use Rattle.std.proofs.Common.{◌≡◌, ℕ, zero, suc, ◌+◌, ◌-◌, ◌%◌, ◌<◌, ◌≤◌, Bool, true, false, ◌&&◌, ◌||◌, ◌⊎◌, inl, inr, refl, sym, ◌∙◌, subst, arith, List, Option, lit≤, eq-eqb, if◌then◌else◌}
use Rattle.std.specs.Prelude.{nat_eq}
use Rattle.std.proofs.lemmas.Bool.{eqb-true, and_parts, and_from, or_cases, or_left, or_right}
use Rattle.mint.specs.declared.node.Node.{Node}
use Rattle.wire_def.specs.Scalars.{gap}
use Rattle.cast_stub.specs.Steps.{is_width}
use Rattle.cast_stub.specs.Block.{Block, stop, ensure, ensure_row, align, chunk, row_copy, row_swap, row_wide, each, switch, if_there, call, patch, Cases, no_default, default, case}
use Rattle.stub_flat.specs.Places.{Spot, node_of, spot_at, element, present, row_kind, arm_spot, rest_spot}
use Rattle.stub_flat.specs.Residues.{Residues, only, every, none, sum, moved, comes, aligned, is_within, size_first, closing, closed}
use Rattle.stub_flat.specs.Leaves.{width_of, leaves, ways_leave}
use Rattle.stub_flat.proofs.Sets.{Within, closed_has, closed_within}
use Rattle.stub_compare.specs.CompareSets.{Agree}
use Rattle.stub_compare.proofs.CompareBools.{same_truth, chosen, at_or_below}

-- a residue of a set, from which a function leads to another
pub record Origin (f : Residues → Residues) (S : Residues) (r : ℕ) : Type 0 where
  pub residue : ℕ
  pub small : residue < 8
  pub inside : S residue ≡ true
  pub leads : f (only residue) r ≡ true

-- functions that keep what is within, and add nothing
pub record IsLinear (f : Residues → Residues) : Type 0 where
  pub up : (S T : Residues) → Within S T → Within (f S) (f T)
  pub from : (S : Residues) (r : ℕ) → r < 8 → f S r ≡ true → (f none r ≡ true) ⊎ Origin f S r

-- ---- sets

pub itself_in : (k : ℕ) → only k k ≡ true
itself_in k = eq-eqb k k refl

pub only_within : (k : ℕ) (S : Residues) → S k ≡ true → Within (only k) S
only_within k S is r lt e = let P : ℕ → Type 0 = λ q. S q ≡ true in subst P (sym (eqb-true r k e)) is

pub none_within : (S : Residues) → Within none S
none_within S r lt e = absurd (cc)

pub agree_within : (S T : Residues) → Agree S T → Within S T
agree_within S T same r lt e = sym (same r lt) ∙ e

pub agree_sym : (S T : Residues) → Agree S T → Agree T S
agree_sym S T same r lt = sym (same r lt)

pub agree_then : (S T U : Residues) → Agree S T → Agree T U → Agree S U
agree_then S T U a b r lt = a r lt ∙ b r lt

-- such a function makes the same of the same residues
pub linear_agree : (f : Residues → Residues) → IsLinear f → (S T : Residues) → Agree S T → Agree (f S) (f T)
linear_agree f l S T same r lt = same_truth (f S r) (f T r) (l.up S T (agree_within S T same) r lt)
    (l.up T S (agree_within T S (agree_sym S T same)) r lt)

-- ---- functions

pub linear_same : IsLinear (λ S. S)
linear_same = record {
  up = λ S T h. h;
  from = λ S r lt e. inr (record { residue = r; small = lt; inside = e; leads = itself_in r });
}

pub linear_every : IsLinear (λ S. every)
linear_every = record { up = λ S T h r lt e. refl; from = λ S r lt e. inl refl }

pub linear_none : IsLinear (λ S. none)
linear_none = record { up = λ S T h r lt e. e; from = λ S r lt e. inl e }

after_from : (f g : Residues → Residues) → IsLinear f → IsLinear g → (S : Residues) (r : ℕ) → r < 8 → g (f S) r ≡ true
    → (g (f none) r ≡ true) ⊎ Origin (λ X. g (f X)) S r
after_from f g l m S r lt e = elim (m.from (f S) r lt e) [
  | inl n ↦ inl (m.up none (f none) (none_within (f none)) r lt n)
  | inr o ↦ elim (l.from S o.residue o.small o.inside) [
    | inl n ↦ inl (m.up (only o.residue) (f none) (only_within o.residue (f none) n) r lt o.leads)
    | inr p ↦ inr (record {
      residue = p.residue;
      small = p.small;
      inside = p.inside;
      leads = m.up (only o.residue) (f (only p.residue)) (only_within o.residue (f (only p.residue)) p.leads) r lt o.leads;
    })
  ]
]

pub linear_after : (f g : Residues → Residues) → IsLinear f → IsLinear g → IsLinear (λ S. g (f S))
linear_after f g l m = record {
  up = λ S T h. m.up (f S) (f T) (l.up S T h);
  from = after_from f g l m;
}

-- a residue to which a function leads, where it leads to no more than another does
led_also : (f g : Residues → Residues) → IsLinear f → (S : Residues) (r : ℕ) → ((X : Residues) → f X r ≡ true → g X r ≡ true) → r < 8
    → f S r ≡ true → (g none r ≡ true) ⊎ Origin g S r
led_also f g l S r also lt e = elim (l.from S r lt e) [
  | inl n ↦ inl (also none n)
  | inr o ↦ inr (record { residue = o.residue; small = o.small; inside = o.inside; leads = also (only o.residue) o.leads })
]

sum_from : (f g : Residues → Residues) → IsLinear f → IsLinear g → (S : Residues) (r : ℕ) → r < 8 → (f S r || g S r) ≡ true
    → ((f none r || g none r) ≡ true) ⊎ Origin (λ X. sum (f X) (g X)) S r
sum_from f g l m S r lt e =
    let all : Residues → Residues = λ X. sum (f X) (g X) in
    elim (or_cases (f S r) (g S r) e) [
      | inl x ↦ led_also f all l S r (λ X. or_left (f X r) (g X r)) lt x
      | inr y ↦ led_also g all m S r (λ X. or_right (f X r) (g X r)) lt y
    ]

sum_up : (f g : Residues → Residues) → IsLinear f → IsLinear g → (S T : Residues) → Within S T → (r : ℕ) → r < 8
    → (f S r || g S r) ≡ true → (f T r || g T r) ≡ true
sum_up f g l m S T h r lt e = elim (or_cases (f S r) (g S r) e) [
  | inl x ↦ or_left (f T r) (g T r) (l.up S T h r lt x)
  | inr y ↦ or_right (f T r) (g T r) (m.up S T h r lt y)
]

pub linear_sum : (f g : Residues → Residues) → IsLinear f → IsLinear g → IsLinear (λ S. sum (f S) (g S))
linear_sum f g l m = record { up = sum_up f g l m; from = sum_from f g l m }

pub linear_choice : (b : Bool) (f g : Residues → Residues) → IsLinear f → IsLinear g → IsLinear (λ S. if b then f S else g S)
linear_choice true f g l m = l
linear_choice false f g l m = m

pub linear_moved : (n : ℕ) → IsLinear (moved n)
linear_moved n = record {
  up = λ S T h r lt e. h ((r + 8 - n % 8) % 8) (omega arith) e;
  from = λ S r lt e. inr (record {
    residue = (r + 8 - n % 8) % 8;
    small = omega arith;
    inside = e;
    leads = itself_in ((r + 8 - n % 8) % 8);
  });
}

comes_up : (k a : ℕ) (S T : Residues) (r : ℕ) → k ≤ 8 → Within S T → comes k a S r ≡ true → comes k a T r ≡ true
comes_up zero a S T r le h e = e
comes_up (suc k) a S T r le h e = elim (or_cases (S k && nat_eq ((k + gap k a) % 8) r) (comes k a S r) e) [
  | inl x ↦ (let both = and_parts (S k) (nat_eq ((k + gap k a) % 8) r) x in
      or_left (T k && nat_eq ((k + gap k a) % 8) r) (comes k a T r)
      (and_from (T k) (nat_eq ((k + gap k a) % 8) r) (h k (omega arith) both.0) both.1))
  | inr y ↦ or_right (T k && nat_eq ((k + gap k a) % 8) r) (comes k a T r) (comes_up k a S T r (omega arith) h y)
]

-- a residue from which an align leads to another
pub record Led (k a : ℕ) (S : Residues) (r : ℕ) : Type 0 where
  pub residue : ℕ
  pub small : residue < k
  pub inside : S residue ≡ true
  pub leads : nat_eq ((residue + gap residue a) % 8) r ≡ true

led_more : (k a : ℕ) (S : Residues) (r : ℕ) → Led k a S r → Led (suc k) a S r
led_more k a S r l = record { residue = l.residue; small = omega (arith, l.small); inside = l.inside; leads = l.leads }

comes_led : (k a : ℕ) (S : Residues) (r : ℕ) → comes k a S r ≡ true → Led k a S r
comes_led zero a S r e = absurd (cc)
comes_led (suc k) a S r e = elim (or_cases (S k && nat_eq ((k + gap k a) % 8) r) (comes k a S r) e) [
  | inl x ↦ (let both = and_parts (S k) (nat_eq ((k + gap k a) % 8) r) x in
      record { residue = k; small = omega arith; inside = both.0; leads = both.1 })
  | inr y ↦ led_more k a S r (comes_led k a S r y)
]

led_comes : (k a : ℕ) (S : Residues) (r q : ℕ) → q < k → S q ≡ true → nat_eq ((q + gap q a) % 8) r ≡ true → comes k a S r ≡ true
led_comes zero a S r q lt inside leads = absurd (omega arith)
led_comes (suc k) a S r q lt inside leads = elim (at_or_below q k lt) [
  | inl same ↦ (let P : ℕ → Type 0 = λ z. (S z && nat_eq ((z + gap z a) % 8) r) ≡ true in
      or_left (S k && nat_eq ((k + gap k a) % 8) r) (comes k a S r)
      (subst P same (and_from (S q) (nat_eq ((q + gap q a) % 8) r) inside leads)))
  | inr below ↦ or_right (S k && nat_eq ((k + gap k a) % 8) r) (comes k a S r) (led_comes k a S r q below inside leads)
]

pub linear_aligned : (a : ℕ) → IsLinear (aligned a)
linear_aligned a = record {
  up = λ S T h r lt e. comes_up 8 a S T r (lit≤ tt) h e;
  from = λ S r lt e.
      let l = comes_led 8 a S r e in
      inr (record {
        residue = l.residue;
        small = l.small;
        inside = l.inside;
        leads = led_comes 8 a (only l.residue) r l.residue l.small (itself_in l.residue) l.leads;
      });
}

-- ---- closing

least : (f : Residues → Residues) (P : ℕ → Type 0)
    → ((X : Residues) → ((r : ℕ) → r < 8 → X r ≡ true → P r) → (r : ℕ) → r < 8 → f X r ≡ true → P r) → (n : ℕ) (S : Residues)
    → ((r : ℕ) → r < 8 → S r ≡ true → P r) → (r : ℕ) → r < 8 → closing n f S r ≡ true → P r
least f P step zero S base = base
least f P step (suc n) S base =
    let Q : Residues → Type 0 = λ Z. (r : ℕ) → r < 8 → Z r ≡ true → P r in
    chosen Q (is_within (f S) S) S (closing n f (sum S (f S))) (λ is. base)
    (λ is. least f P step n (sum S (f S))
    (λ r lt e. elim (or_cases (S r) (f S r) e) [ inl x ↦ base r lt x | inr y ↦ step S base r lt y ]))

closed_up : (f : Residues → Residues) → IsLinear f → (S T : Residues) → Within S T → Within (closed f S) (closed f T)
closed_up f l S T h =
    let P : ℕ → Type 0 = λ r. closed f T r ≡ true in
    least f P (λ X inside r lt e. closed_within f T r lt (l.up X (closed f T) inside r lt e)) (8 - size_first 8 S) S
    (λ r lt e. closed_has f T r lt (h r lt e))

closed_step : (f : Residues → Residues) → IsLinear f → (S X : Residues)
    → ((r : ℕ) → r < 8 → X r ≡ true → (closed f none r ≡ true) ⊎ Origin (closed f) S r) → (r : ℕ) → r < 8 → f X r ≡ true
    → (closed f none r ≡ true) ⊎ Origin (closed f) S r
closed_step f l S X inside r lt e = elim (l.from X r lt e) [
  | inl n ↦ inl (closed_within f none r lt (l.up none (closed f none) (none_within (closed f none)) r lt n))
  | inr o ↦ elim (inside o.residue o.small o.inside) [
    | inl n ↦ inl (closed_within f none r lt
        (l.up (only o.residue) (closed f none) (only_within o.residue (closed f none) n) r lt o.leads))
    | inr p ↦ inr (record {
      residue = p.residue;
      small = p.small;
      inside = p.inside;
      leads = closed_within f (only p.residue) r lt
          (l.up (only o.residue) (closed f (only p.residue)) (only_within o.residue (closed f (only p.residue)) p.leads) r lt o.leads);
    })
  ]
]

closed_from : (f : Residues → Residues) → IsLinear f → (S : Residues) (r : ℕ) → r < 8 → closed f S r ≡ true
    → (closed f none r ≡ true) ⊎ Origin (closed f) S r
closed_from f l S =
    let P : ℕ → Type 0 = λ r. (closed f none r ≡ true) ⊎ Origin (closed f) S r in
    least f P (closed_step f l S) (8 - size_first 8 S) S
    (λ r lt e. inr (record {
      residue = r;
      small = lt;
      inside = e;
      leads = closed_has f (only r) r lt (itself_in r);
    }))

pub linear_closed : (f : Residues → Residues) → IsLinear f → IsLinear (closed f)
linear_closed f l = record { up = closed_up f l; from = closed_from f l }

-- ---- code

mutual
  pub leaves_linear : (N : List Node) (s : Spot) (b : Block) → IsLinear (leaves N s b)
  leaves_linear N s stop = linear_same
  leaves_linear N s (ensure n r) = leaves_linear N s r
  leaves_linear N s (ensure_row p u e r) = leaves_linear N s r
  leaves_linear N s (align a r) = linear_after (λ S. if is_width a then aligned a S else S) (leaves N s r)
      (linear_choice (is_width a) (aligned a) (λ S. S) (linear_aligned a) linear_same) (leaves_linear N s r)
  leaves_linear N s (chunk n ps r) = linear_after (moved n) (leaves N s r) (linear_moved n) (leaves_linear N s r)
  leaves_linear N s (row_copy p r) =
      let w = width_of (row_kind (node_of N (spot_at N p s))) in
      linear_after (closed (moved w)) (leaves N s r) (linear_closed (moved w) (linear_moved w)) (leaves_linear N s r)
  leaves_linear N s (row_swap p r) =
      let w = width_of (row_kind (node_of N (spot_at N p s))) in
      linear_after (closed (moved w)) (leaves N s r) (linear_closed (moved w) (linear_moved w)) (leaves_linear N s r)
  leaves_linear N s (row_wide p o r) =
      linear_after (closed (moved 4)) (leaves N s r) (linear_closed (moved 4) (linear_moved 4)) (leaves_linear N s r)
  leaves_linear N s (each p b r) =
      let f = leaves N (element (node_of N (spot_at N p s))) b in
      linear_after (closed f) (leaves N s r) (linear_closed f (leaves_linear N (element (node_of N (spot_at N p s))) b))
      (leaves_linear N s r)
  leaves_linear N s (switch p cs r) =
      linear_after (ways_leave N (node_of N (spot_at N p s)) cs cs) (leaves N s r) (ways_linear N (node_of N (spot_at N p s)) cs cs)
      (leaves_linear N s r)
  leaves_linear N s (if_there p b r) =
      let f = leaves N (present (node_of N (spot_at N p s))) b in
      linear_after (λ S. sum S (f S)) (leaves N s r)
      (linear_sum (λ S. S) f linear_same (leaves_linear N (present (node_of N (spot_at N p s))) b)) (leaves_linear N s r)
  leaves_linear N s (call k p r) = linear_after (λ S. every) (leaves N s r) linear_every (leaves_linear N s r)
  leaves_linear N s (patch a z o r) = leaves_linear N s r

  pub ways_linear : (N : List Node) (n : Option Node) (all cs : Cases) → IsLinear (ways_leave N n all cs)
  ways_linear N n all no_default = linear_none
  ways_linear N n all (default b) = leaves_linear N (rest_spot n all) b
  ways_linear N n all (case m b cs) =
      linear_sum (leaves N (arm_spot n m) b) (ways_leave N n all cs) (leaves_linear N (arm_spot n m) b) (ways_linear N n all cs)
