-- Codes that receive, and go through the types of a table, have few levels, by induction on the type.
use Rattle.std.proofs.Common.{◌≡◌, inl, inr, ℕ, zero, suc, ◌+◌, ◌-◌, ◌*◌, ◌<◌, ◌≤◌, List, [], ◌∷◌, ◌++◌, length, get_or, Option, Some, option_map, sym, ap, subst, arith}
use Rattle.std.proofs.lemmas.Option.{slice_get-get_or}
use Rattle.mint.specs.declared.kind.Count.{Count}
use Rattle.mint.specs.declared.kind.Count.TheVariants.{Exactly, AtMost, Any}
use Rattle.mint.specs.Types.{Ty, void_type, scalar_type, array_type, group_type, items_type, choice_type, maybe_type, Tys, no_fields, field, Arms, no_other, others, arm_type, type_at}
use Rattle.mint.specs.Blank.{depth, fields_depth, arms_depth}
use Rattle.mint.proofs.Measuring.{sound_taken}
use Rattle.cast_stub.specs.declared.recv.RecvOp.{RecvOp}
use Rattle.cast_stub.specs.RecvBlock.{Recv, finish, need, need_row, skip_any, skip_zero, pass, desc, row_block, row_wide, each, switch, if_there, call, Cases, op_seen, code_seen}
use Rattle.cast_stub.specs.RecvAppend.{append}
use Rattle.cast_stub.specs.Got.{sub_at}
use Rattle.cast_stub.specs.Traces.{descs, IsLoop, IsCount, Child, Traces, FieldsTraceBy, ArmsTraceBy}
use Rattle.cast_stub.proofs.Followed.{mapped}
use Rattle.copy_inline.specs.RecvInlined.{GoThroughTypes}
use Rattle.cast_stub.proofs.Directions.{receives}
use Rattle.cast_stub.proofs.Trees.{OfEach, op_has}
use Rattle.copy_inline.specs.RecvNested.{OfCode, CasesAre, Within, IsShallow}

-- ---- the operations of a code

pub both_within : (subs : ℕ → Option Recv) (P : Recv → Type 0) (a b : Recv) → Within subs P (append a b) → Within subs P a × Within subs P b
both_within subs P finish b h = (tt, h)
both_within subs P (need n r) b h = both_within subs P r b h
both_within subs P (need_row p u e r) b h = both_within subs P r b h
both_within subs P (skip_any m r) b h = both_within subs P r b h
both_within subs P (skip_zero m r) b h = both_within subs P r b h
both_within subs P (pass n gs r) b h = both_within subs P r b h
both_within subs P (desc p name size mul r) b h = both_within subs P r b h
both_within subs P (row_block p o r) b h = both_within subs P r b h
both_within subs P (row_wide p o r) b h = both_within subs P r b h
both_within subs P (each p c r) b h = let k = both_within subs P r b h.1 in ((h.0, k.0), k.1)
both_within subs P (switch p cs r) b h = let k = both_within subs P r b h.1 in ((h.0, k.0), k.1)
both_within subs P (if_there p c r) b h = let k = both_within subs P r b h.1 in ((h.0, k.0), k.1)
both_within subs P (call j p r) b h = let k = both_within subs P r b h.1 in ((h.0, k.0), k.1)

-- a code of some level
pub has_level : (subs : ℕ → Option Recv) (n : ℕ) (b : Recv) → IsShallow subs n b → 1 ≤ n
has_level subs zero b h = absurd h
has_level subs (suc n) b h = omega arith

own_level : (subs : ℕ → Option Recv) (n : ℕ) (b : Recv) → IsShallow subs n b → Within subs (IsShallow subs (n - 1)) b
own_level subs zero b h = absurd h
own_level subs (suc n) b h = let e : n ≡ suc n - 1 = omega arith in subst (λ (k : ℕ). Within subs (IsShallow subs k) b) e h

pub one_op : (subs : ℕ → Option Recv) (n : ℕ) (ops : List RecvOp) (i : ℕ) (d o : RecvOp) → i < length ops → o ≡ get_or ops i d
    → IsShallow subs n (code_seen ops)
    → Within subs (IsShallow subs (n - 1)) (op_seen o finish)
one_op subs n ops i d o lt is h =
    subst (λ (x : RecvOp). Within subs (IsShallow subs (n - 1)) (op_seen x finish)) (sym is)
    (op_has receives (Within subs (IsShallow subs (n - 1))) (both_within subs (IsShallow subs (n - 1))) ops i d lt
    (own_level subs n (code_seen ops) h))

-- a fact of each body of a switch
pub of_each : (P : Recv → Type 0) → OfEach receives P (CasesAre P)
of_each P = record {
  none = tt;
  into = λ n b cs h k. (h, k);
  first = λ n b cs h. h.0;
  rest = λ n b cs h. h.1;
}

-- ---- codes that go through types

module _ (subs : ℕ → Option Recv) where
  level : (n : ℕ) (b : Recv) → 1 ≤ n → Within subs (IsShallow subs (n - 1)) b → IsShallow subs n b
  level zero b le h = absurd (omega (arith, le))
  level (suc n) b le h = let e : suc n - 1 ≡ n = omega arith in subst (λ (k : ℕ). Within subs (IsShallow subs k) b) e h

  append_within : (P : Recv → Type 0) (a b : Recv) → Within subs P a → Within subs P b → Within subs P (append a b)
  append_within P finish b h k = k
  append_within P (need n r) b h k = append_within P r b h k
  append_within P (need_row p u e r) b h k = append_within P r b h k
  append_within P (skip_any m r) b h k = append_within P r b h k
  append_within P (skip_zero m r) b h k = append_within P r b h k
  append_within P (pass n gs r) b h k = append_within P r b h k
  append_within P (desc p name size mul r) b h k = append_within P r b h k
  append_within P (row_block p o r) b h k = append_within P r b h k
  append_within P (row_wide p o r) b h k = append_within P r b h k
  append_within P (each p c r) b h k = (h.0, append_within P r b h.1 k)
  append_within P (switch p cs r) b h k = (h.0, append_within P r b h.1 k)
  append_within P (if_there p c r) b h k = (h.0, append_within P r b h.1 k)
  append_within P (call j p r) b h k = (h.0, append_within P r b h.1 k)

  flat_within : (P : Recv → Type 0) (b : Recv) (n : ℕ) → descs b ≡ Some n → Within subs P b
  flat_within P finish n e = tt
  flat_within P (need k r) n e = flat_within P r n e
  flat_within P (skip_any k r) n e = flat_within P r n e
  flat_within P (skip_zero k r) n e = flat_within P r n e
  flat_within P (pass k gs r) n e = flat_within P r n e
  flat_within P (desc p name size mul r) n e = let m = mapped suc (descs r) n e in flat_within P r m.0 m.1
  flat_within P _ n e = absurd cc

  count_within : (P : Recv → Type 0) (p : List ℕ) (c : Count) (b : Recv) → IsCount p c b → Within subs P b
  count_within P p (Exactly n) b h = subst (Within subs P) (sym h) tt
  count_within P p (AtMost n) b h = flat_within P b 0 h.0
  count_within P p Any b h = flat_within P b 0 h.0

  -- code that goes through a type, below whose own level so many are nested
  abbrev Goes : Ty → Type 0
  Goes t = (n below : ℕ) (p : List ℕ) (b : Recv) → 2 * depth t + 1 ≤ n → Traces subs t below p b → Within subs (IsShallow subs n) b

  -- the code of a child, which is called
  call_within : (t : Ty) (n k : ℕ) (p : List ℕ) (b code : Recv) → Goes t → 2 * depth t + 2 ≤ n → b ≡ call k p finish → subs k ≡ Some code
      → Traces subs t k [] code
      → Within subs (IsShallow subs n) b
  call_within t n k p b code go le is there f =
      let own = level n code (omega (arith, le)) (go (n - 1) k [] code (omega (arith, le)) f) in
      subst (Within subs (IsShallow subs n)) (sym is) (subst (λ (x : Option Recv). OfCode x (IsShallow subs n)) (sym there) own, tt)

  -- a child among others
  child_within : (t : Ty) (n below : ℕ) (p : List ℕ) (b : Recv) → Goes t → 2 * depth t + 2 ≤ n → Child subs (Traces subs t) below p b
      → Within subs (IsShallow subs n) b
  child_within t n below p b go le (inl f) = go n below p b (omega (arith, le)) f
  child_within t n below p b go le (inr c) = call_within t n c.0 p b c.1 go le c.2 c.4 c.5

  -- a child as a body
  child_shallow : (t : Ty) (n below : ℕ) (b : Recv) → Goes t → 2 * depth t + 3 ≤ n → Child subs (Traces subs t) below [] b
      → IsShallow subs n b
  child_shallow t n below b go le f = level n b (omega (arith, le)) (child_within t (n - 1) below [] b go (omega (arith, le)) f)

  mutual
    goes : (t : Ty) → Goes t
    goes void_type n below p b le f = subst (Within subs (IsShallow subs n)) (sym f) tt
    goes (scalar_type s) n below p b le f = flat_within (IsShallow subs n) b 0 f.0
    goes (array_type a) n below p b le f =
        let P = IsShallow subs n in
        let turn = level n f.turn (omega (arith, le)) (flat_within (IsShallow subs (n - 1)) f.turn 0 f.turns.0) in
        subst (Within subs P) (sym f.whole) (append_within P f.before (each p f.turn f.after) (flat_within P f.before f.first f.begins.0)
        (turn, flat_within P f.after f.last f.ends.0))
    goes (group_type ts) n below p b le f = fields_go ts 0 n below p b (omega (arith, le)) f
    goes (items_type c t) n below p b le f =
        let P = IsShallow subs n in
        let body = child_shallow t n below f.1 (goes t) (omega (arith, le)) f.4 in
        subst (Within subs P) (sym f.2) (append_within P f.0 (each p f.1 finish) (count_within P p c f.0 f.3) (body, tt))
    goes (choice_type s arms) n below p b le f =
        let P = IsShallow subs n in
        subst (Within subs P) (sym f.2)
        (append_within P f.0 (switch p f.1 finish) (flat_within P f.0 0 (f.3).0) (arms_go arms n below f.1 (omega (arith, le)) f.4, tt))
    goes (maybe_type t) n below p b le f =
        let P = IsShallow subs n in
        let body = child_shallow t n below f.1 (goes t) (omega (arith, le)) f.4 in
        subst (Within subs P) (sym f.2) (append_within P f.0 (if_there p f.1 finish) (flat_within P f.0 0 (f.3).0) (body, tt))

    fields_go : (ts : Tys) (i n below : ℕ) (p : List ℕ) (b : Recv) → 2 * fields_depth ts + 3 ≤ n
        → FieldsTraceBy (λ a. IsLoop) subs ts i below p b
        → Within subs (IsShallow subs n) b
    fields_go no_fields i n below p b le f = subst (Within subs (IsShallow subs n)) (sym f) tt
    fields_go (field t ts) i n below p b le f =
        let one = child_within t n below (p ++ i ∷ []) f.0 (goes t) (omega (arith, le)) f.3 in
        subst (Within subs (IsShallow subs n)) (sym f.2)
        (append_within (IsShallow subs n) f.0 f.1 one (fields_go ts (suc i) n below p f.1 (omega (arith, le)) f.4))

    arms_go : (arms : Arms) (n below : ℕ) (cs : Cases) → 2 * arms_depth arms + 3 ≤ n → ArmsTraceBy (λ a. IsLoop) subs arms below cs
        → CasesAre (IsShallow subs n) cs
    arms_go no_other n below cs le f = subst (CasesAre (IsShallow subs n)) (sym f) tt
    arms_go (others t) n below cs le f =
        subst (CasesAre (IsShallow subs n)) (sym f.1) (child_shallow t n below f.0 (goes t) (omega (arith, le)) f.2)
    arms_go (arm_type m t arms) n below cs le f =
        let body = child_shallow t n below f.0 (goes t) (omega (arith, le)) f.3 in
        subst (CasesAre (IsShallow subs n)) (sym f.2) (body, arms_go arms n below f.1 (omega (arith, le)) f.4)

-- the code of a node has at most 66 levels
pub given_shallow : (subs : List (List RecvOp)) (id : ℕ) → id < length subs → GoThroughTypes subs
    → OfCode (sub_at subs id) (IsShallow (sub_at subs) 66)
given_shallow subs id lt given =
    let ops = get_or subs id [] in
    let found : sub_at subs id ≡ Some (code_seen ops) = ap (option_map code_seen) (slice_get-get_or subs id [] lt) in
    let few : depth (type_at given.0 id) ≤ 32 = (sound_taken (type_at given.0 id) (given.1 id)).shallow in
    let own = goes (sub_at subs) (type_at given.0 id) 65 id [] (code_seen ops) (omega (arith, few)) (given.2 id (code_seen ops) found) in
    subst (λ (x : Option Recv). OfCode x (IsShallow (sub_at subs) 66)) (sym found) own
