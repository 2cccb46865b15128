-- What is read nests within the levels that it is read with, by induction on levels and on lists.
use Rattle.std.proofs.Common.{◌≡◌, ℕ, zero, suc, ◌-◌, ◌≤◌, Bool, true, false, cond, ℤ, List, [], ◌∷◌, length, drop, Option, Some, None, sym, subst, arith, codes}
use Rattle.cast_stub.specs.declared.send.SendOp.{SendOp}
use Rattle.cast_stub.specs.declared.send.SendOp.TheVariants as op
use Rattle.cast_stub.specs.Block.{Block, stop, Cases, op_seen, code_seen, cases_seen}
use Rattle.cast_stub.proofs.Pieces.{seen-Ensure, seen-EnsureRow, seen-Align, seen-Chunk, seen-RowCopy, seen-RowSwap, seen-RowWide, seen-Each, seen-Switch, seen-Some, seen-Call, seen-Patch}
use Rattle.cast_stub.specs.Block as block
use Rattle.stub_read.specs.declared.leads.Lead.{Lead}
use Rattle.stub_read.specs.declared.leads.Lead.TheVariants as leads
use Rattle.stub_read.specs.Reading.{Read, Reader, then_on, map_read, if_led, begins, word_at, both, mapped, before, repeat, many}
use Rattle.stub_read.specs.Words.{space, feed, number_at, integer_at, path_at, order_at}
use Rattle.stub_read.specs.Leads.{lead_at}
use Rattle.stub_read.specs.Operations.{layout_at, end_line, puts_at, ensure_row_of, chunk_of, row_wide_of, each_of, there_of, switch_of, call_of, patch_of, deeper, chunk_at, over_at, cases_at, default_line, last_at, switch_at, op_at, ops_at}
use Rattle.stub_read.specs.Stubs.{NestsWithin, CasesNestWithin}

-- ---- what is put together

-- a fact of what is read, if anything is
abbrev pub IfRead : {A : Type 0} → (A → Type 0) → Read A → Type 0
IfRead P None = Unit {0}
IfRead P (Some x) = P x.0

-- a fact of whatever a reader reads
abbrev pub Always : {A : Type 0} → (A → Type 0) → Reader A → Type 0
Always P r = (t : List ℕ) → IfRead P (r t)

-- nothing is claimed
abbrev pub Any : {A : Type 0} → A → Type 0
Any a = Unit {0}

pub read_then : {A B : Type 0} (P : A → Type 0) (Q : B → Type 0) (q : Read A) (f : A → Reader B) → IfRead P q
    → ((a : A) → P a → Always Q (f a)) → IfRead Q (then_on q f)
read_then P Q None f h k = tt
read_then P Q (Some x) f h k = k x.0 h x.1

pub mapped_has : {A B : Type 0} (P : A → Type 0) (Q : B → Type 0) (f : A → B) (r : Reader A) → Always P r → ((a : A) → P a → Q (f a))
    → Always Q (mapped f r)
mapped_has {A = A} {B = B} P Q f r h k t = go (r t) (h t) where
  go : (q : Read A) → IfRead P q → IfRead Q (map_read f q)
  go None g = tt
  go (Some x) g = k x.0 g

pub any_read : {A : Type 0} (r : Reader A) → Always Any r
any_read {A = A} r t = go (r t) where
  go : (q : Read A) → IfRead Any q
  go None = tt
  go (Some x) = tt

pub both_have : {A B : Type 0} (P : A → Type 0) (Q : B → Type 0) (r : Reader A) (s : Reader B) → Always P r → Always Q s
    → Always (λ x. P x.0 × Q x.1) (both r s)
both_have P Q r s h k t =
    read_then P (λ x. P x.0 × Q x.1) (r t) (λ a us. then_on (s us) (λ b vs. Some ((a, b), vs))) (h t)
    (λ a g us. read_then Q (λ x. P x.0 × Q x.1) (s us) (λ b vs. Some ((a, b), vs)) (k us) (λ b i vs. (g, i)))

pub before_has : {A : Type 0} (P : A → Type 0) (r : Reader A) (w : List ℕ) → Always P r → Always P (before r w)
before_has P r w h t =
    read_then P P (r t) (λ a us. then_on (word_at w us) (λ u vs. Some (a, vs))) (h t)
    (λ a g us. read_then Any P (word_at w us) (λ u vs. Some (a, vs)) (any_read (word_at w) us) (λ u i vs. g))

-- facts of a list from a fact of each item
module _ {A K : Type 0} (P : A → Type 0) (L : List A → Type 0) (none : L []) (more : (x : A) (xs : List A) → P x → L xs → L (x ∷ xs))
    (lead : Reader K) (r : K → Reader A) (h : (k : K) → Always P (r k)) where
  led_has : (n : ℕ) → Always L (repeat lead r n) → (t : List ℕ) (q : Read K)
      → IfRead L (if_led q t (λ k us. then_on (r k us) (λ x vs. then_on (repeat lead r n vs) (λ xs ws. Some (x ∷ xs, ws)))))
  led_has n g t None = none
  led_has n g t (Some x) =
      read_then P L (r x.0 x.1) (λ y vs. then_on (repeat lead r n vs) (λ xs ws. Some (y ∷ xs, ws))) (h x.0 x.1)
      (λ y i vs. read_then L L (repeat lead r n vs) (λ xs ws. Some (y ∷ xs, ws)) (g vs) (λ xs j ws. more y xs i j))

  repeat_has : (n : ℕ) → Always L (repeat lead r n)
  repeat_has zero t = none
  repeat_has (suc n) t = led_has n (repeat_has n) t (lead t)

  pub many_has : Always L (many lead r)
  many_has t = repeat_has (length t) t

-- ---- operations

-- an operation before a block that nests within so many levels
abbrev pub OpNests : ℕ → SendOp → Type 0
OpNests l o = (b : Block) → NestsWithin l b → NestsWithin l (op_seen o b)

-- operations that nest within so many levels
abbrev pub OpsNest : ℕ → List SendOp → Type 0
OpsNest l os = NestsWithin l (code_seen os)

-- the same of what is read within one level less, if any is there
abbrev pub BodyNests : ℕ → List SendOp → Type 0
BodyNests l os = (1 ≤ l) × OpsNest (l - 1) os

-- an operation that is seen as a piece which keeps the levels
keeps : (l : ℕ) (o : SendOp) (p : Block → Block) → op_seen o ≡ p → ((b : Block) → NestsWithin l b → NestsWithin l (p b)) → OpNests l o
keeps l o p e h b k = subst (λ (q : Block → Block). NestsWithin l (q b)) (sym e) (h b k)

-- bodies of numbers that nest within so many levels, if the last one does
abbrev CasesNest : ℕ → List (ℤ × List SendOp) → Type 0
CasesNest l cs = (last : Option (List SendOp)) → CasesNestWithin l (cases_seen [] last) → CasesNestWithin l (cases_seen cs last)

pub weaker : {A : Type 0} (P Q : A → Type 0) (r : Reader A) → ((a : A) → P a → Q a) → Always P r → Always Q r
weaker {A = A} P Q r k h t = go (r t) (h t) where
  go : (q : Read A) → IfRead P q → IfRead Q q
  go None g = tt
  go (Some x) g = k x.0 g

pub deeper_has : {A : Type 0} (P : A → Type 0) (l : ℕ) (r : Reader A) → ((1 ≤ l) → Always P r) → Always P (deeper l r)
deeper_has P zero r h t = tt
deeper_has P (suc l) r h t = h (omega arith) t

-- what holds of the body of every other number, and where there is none
pub last_has : (P : List SendOp → Type 0) (Q : Option (List SendOp) → Type 0) (body : Reader (List SendOp)) → Always P body
    → ((a : List SendOp) → P a → Q (Some a)) → Q None → Always Q (last_at body)
last_has P Q body h there none t = go (begins default_line t) where
  go : (b : Bool) → IfRead Q (cond b (before (mapped Some body) end_line (drop 8 t)) (mapped (λ u. None) (word_at end_line) t))
  go true = before_has Q (mapped Some body) end_line (mapped_has P Q Some body h there) (drop 8 t)
  go false = mapped_has Any Q (λ u. None) (word_at end_line) (any_read (word_at end_line)) (λ a g. none) t

module _ (l : ℕ) (h : Always (BodyNests l) (ops_at l)) where
  over_nests : Always (λ x. BodyNests l x.1) (over_at (ops_at l))
  over_nests =
      weaker (λ x. Any x.0 × BodyNests l x.1) (λ x. BodyNests l x.1) (over_at (ops_at l)) (λ x g. g.1)
      (both_have Any (BodyNests l) (path_at feed) (before (ops_at l) end_line) (any_read (path_at feed))
      (before_has (BodyNests l) (ops_at l) end_line h))

  chunk_nests : Always (OpNests l) (chunk_at l)
  chunk_nests =
      deeper_has (OpNests l) l (mapped chunk_of (both (number_at feed) puts_at))
      (λ one. mapped_has Any (OpNests l) chunk_of (both (number_at feed) puts_at) (any_read (both (number_at feed) puts_at))
      (λ a g. keeps l (chunk_of a) (block.chunk a.0 a.1) (seen-Chunk a.0 a.1) (λ b k. (one, k))))

  abbrev LastNests : Option (List SendOp) → Type 0
  LastNests last = CasesNestWithin (l - 1) (cases_seen [] last)

  last_nests : Always LastNests (last_at (ops_at l))
  last_nests = last_has (BodyNests l) LastNests (ops_at l) h (λ a g. g.1) tt

  cases_nest : Always (CasesNest (l - 1)) (cases_at (ops_at l))
  cases_nest =
      many_has (λ (x : ℤ × List SendOp). OpsNest (l - 1) x.1) (CasesNest (l - 1)) (λ last g. g) (λ x xs g i last j. (g, i last j))
      (word_at (codes "case ")) (λ u. both (integer_at feed) (ops_at l))
      (λ u. weaker (λ x. Any x.0 × BodyNests l x.1) (λ x. OpsNest (l - 1) x.1) (both (integer_at feed) (ops_at l)) (λ x g. g.1.1)
      (both_have Any (BodyNests l) (integer_at feed) (ops_at l) (any_read (integer_at feed)) h))

  switch_nests : Always (OpNests l) (switch_at l (ops_at l))
  switch_nests =
      deeper_has (OpNests l) l (mapped switch_of (both (path_at feed) (both (cases_at (ops_at l)) (last_at (ops_at l)))))
      (λ one. mapped_has (λ x. Any x.0 × (CasesNest (l - 1) x.1.0 × LastNests x.1.1)) (OpNests l) switch_of
      (both (path_at feed) (both (cases_at (ops_at l)) (last_at (ops_at l))))
      (both_have Any (λ y. CasesNest (l - 1) y.0 × LastNests y.1) (path_at feed) (both (cases_at (ops_at l)) (last_at (ops_at l)))
      (any_read (path_at feed))
      (both_have (CasesNest (l - 1)) LastNests (cases_at (ops_at l)) (last_at (ops_at l)) cases_nest last_nests))
      (λ x g. keeps l (switch_of x) (block.switch x.0 (cases_seen x.1.0 x.1.1)) (seen-Switch x.0 x.1.0 x.1.1)
      (λ b k. (one, g.1.0 x.1.1 g.1.1, k))))

  op_nests : (k : Lead) → Always (OpNests l) (op_at l (ops_at l) k)
  op_nests leads.Ensure =
      mapped_has Any (OpNests l) op.Ensure (number_at feed) (any_read (number_at feed))
      (λ n g. keeps l (op.Ensure n) (block.ensure n) (seen-Ensure n) (λ b k. k))
  op_nests leads.EnsureRow =
      mapped_has Any (OpNests l) ensure_row_of (both (path_at space) (both (number_at space) (number_at feed)))
      (any_read (both (path_at space) (both (number_at space) (number_at feed))))
      (λ x g. keeps l (ensure_row_of x) (block.ensure_row x.0 x.1.0 x.1.1) (seen-EnsureRow x.0 x.1.0 x.1.1) (λ b k. k))
  op_nests leads.Align =
      mapped_has Any (OpNests l) op.Align (number_at feed) (any_read (number_at feed))
      (λ n g. keeps l (op.Align n) (block.align n) (seen-Align n) (λ b k. k))
  op_nests leads.Chunk = chunk_nests
  op_nests leads.RowCopy =
      mapped_has Any (OpNests l) op.RowCopy (path_at feed) (any_read (path_at feed))
      (λ p g. keeps l (op.RowCopy p) (block.row_copy p) (seen-RowCopy p) (λ b k. k))
  op_nests leads.RowSwap =
      mapped_has Any (OpNests l) op.RowSwap (path_at feed) (any_read (path_at feed))
      (λ p g. keeps l (op.RowSwap p) (block.row_swap p) (seen-RowSwap p) (λ b k. k))
  op_nests leads.RowWide =
      mapped_has Any (OpNests l) row_wide_of (both (path_at space) order_at) (any_read (both (path_at space) order_at))
      (λ x g. keeps l (row_wide_of x) (block.row_wide x.0 x.1) (seen-RowWide x.0 x.1) (λ b k. k))
  op_nests leads.Each =
      mapped_has (λ x. BodyNests l x.1) (OpNests l) each_of (over_at (ops_at l)) over_nests
      (λ x g. keeps l (each_of x) (block.each x.0 (code_seen x.1)) (seen-Each x.0 x.1) (λ b k. (g.0, g.1, k)))
  op_nests leads.Switch = switch_nests
  op_nests leads.There =
      mapped_has (λ x. BodyNests l x.1) (OpNests l) there_of (over_at (ops_at l)) over_nests
      (λ x g. keeps l (there_of x) (block.if_there x.0 (code_seen x.1)) (seen-Some x.0 x.1) (λ b k. (g.0, g.1, k)))
  op_nests leads.Call =
      mapped_has Any (OpNests l) call_of (both (number_at space) (path_at feed)) (any_read (both (number_at space) (path_at feed)))
      (λ x g. keeps l (call_of x) (block.call x.0 x.1) (seen-Call x.0 x.1) (λ b k. k))
  op_nests leads.Patch =
      mapped_has Any (OpNests l) patch_of (both (number_at space) layout_at) (any_read (both (number_at space) layout_at))
      (λ x g. keeps l (patch_of x) (block.patch x.0 x.1.0 x.1.1) (seen-Patch x.0 x.1.0 x.1.1) (λ b k. k))

  pub ops_nest : Always (OpsNest l) (many lead_at (op_at l (ops_at l)))
  ops_nest = many_has (OpNests l) (OpsNest l) tt (λ o os g i. g (code_seen os) i) lead_at (op_at l (ops_at l)) op_nests

-- whatever is read nests within one level less
pub body_nests : (l : ℕ) → Always (BodyNests l) (ops_at l)
body_nests zero t = tt
body_nests (suc l) t =
    let e : suc l - 1 ≡ l = omega arith in
    weaker (OpsNest l) (BodyNests (suc l)) (many lead_at (op_at l (ops_at l)))
    (λ os g. (omega arith, subst (λ m. OpsNest m os) (sym e) g)) (ops_nest l (body_nests l)) t
