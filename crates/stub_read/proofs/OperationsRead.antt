-- The lines of operations are read as the operations that they are printed from, by mutual induction on code and cases.
use Rattle.std.proofs.Common.{◌≡◌, ℕ, zero, suc, ◌-◌, ◌<◌, ◌≤◌, ℤ, List, [], ◌∷◌, length, Option, Some, None, refl, ap, subst, ◌∙◌, arith, codes}
use Rattle.cast_stub.specs.declared.put.Put.{Put}
use Rattle.cast_stub.specs.declared.send.SendOp.{SendOp}
use Rattle.cast_stub.specs.declared.send.SendOp.TheVariants as op
use Rattle.cast_stub.specs.Block.{Block, stop, ensure, ensure_row, align, chunk, row_copy, row_swap, row_wide, each, switch, if_there, call, patch, Cases, no_default, default, case, op_seen, code_seen, cases_seen}
use Rattle.cast_stub.proofs.Pieces.{seen-Ensure, seen-EnsureRow, seen-Align, seen-Chunk, seen-RowCopy, seen-RowSwap, seen-RowWide, seen-Each, seen-Switch, seen-Some, seen-Call, seen-Patch}
use Rattle.stub_print.specs.Words.{numeral, integer, path_word, order_word, line, ended}
use Rattle.stub_print.specs.SendText.{puts_text, block_text, cases_text}
use Rattle.stub_read.specs.declared.leads.Lead.{Lead}
use Rattle.stub_read.specs.declared.leads.Lead.TheVariants as leads
use Rattle.stub_read.specs.Reading.{Reader, word_at, both, mapped, before, repeat}
use Rattle.stub_read.specs.Words.{space, feed, number_at, integer_at, path_at, order_at}
use Rattle.stub_read.specs.Leads.{rest_lead_at, lead_at}
use Rattle.stub_read.specs.Operations.{layout_at, end_line, puts_at, ensure_row_of, chunk_of, row_wide_of, each_of, there_of, switch_of, call_of, patch_of, ensure_row_at, chunk_at, over_at, cases_at, last_at, switch_at, op_at, ops_at}
use Rattle.stub_read.specs.Stubs.{IsWord, AreWords, IsSigned, PutsAreSmall, NestsWithin, CasesNestWithin, IsSmall, CasesAreSmall}
use Rattle.stub_read.proofs.Loops.{ends_none, one_more}
use Rattle.stub_read.proofs.Leaves.{number_spaced, number_ended, integer_ended, path_spaced, path_ended, order_ended}
use Rattle.stub_read.proofs.PutsRead.{both_reads, mapped_reads, before_reads, spaced_on, ended_on, layout_reads, puts_read, line_long}
use Rattle.stub_read.proofs.Lines.{around_text, puts_before, block_long, cases_long}

-- ---- the operations of a block

abbrev mutual
  -- the operations that are seen as a block
  pub ops_of : Block → List SendOp
  ops_of stop = []
  ops_of (ensure n b) = op.Ensure n ∷ ops_of b
  ops_of (ensure_row p u e b) = op.EnsureRow p u e ∷ ops_of b
  ops_of (align a b) = op.Align a ∷ ops_of b
  ops_of (chunk s ps b) = op.Chunk s ps ∷ ops_of b
  ops_of (row_copy p b) = op.RowCopy p ∷ ops_of b
  ops_of (row_swap p b) = op.RowSwap p ∷ ops_of b
  ops_of (row_wide p o b) = op.RowWide p o ∷ ops_of b
  ops_of (each p a b) = op.Each p (ops_of a) ∷ ops_of b
  ops_of (switch p cs b) = op.Switch p (cases_of cs) (last_of cs) ∷ ops_of b
  ops_of (if_there p a b) = op.Some p (ops_of a) ∷ ops_of b
  ops_of (call k p b) = op.Call k p ∷ ops_of b
  ops_of (patch a s o b) = op.Patch a s o ∷ ops_of b

  -- the bodies of numbers
  pub cases_of : Cases → List (ℤ × List SendOp)
  cases_of no_default = []
  cases_of (default b) = []
  cases_of (case n b cs) = (n, ops_of b) ∷ cases_of cs

  -- the body of every other number
  pub last_of : Cases → Option (List SendOp)
  last_of no_default = None
  last_of (default b) = Some (ops_of b)
  last_of (case n b cs) = last_of cs

-- a piece
abbrev piece : (Block → Block) → Block → Block
piece p = p

-- an operation that is seen as a piece, before a block
piece_before : (o : SendOp) (p : Block → Block) (a b : Block) → op_seen o ≡ p → a ≡ b → op_seen o a ≡ p b
piece_before o p a b e f = ap (λ (q : Block → Block). q a) e ∙ ap p f

mutual
  pub seen_ops : (b : Block) → code_seen (ops_of b) ≡ b
  seen_ops stop = refl
  seen_ops (ensure n b) = piece_before (op.Ensure n) (ensure n) (code_seen (ops_of b)) b (seen-Ensure n) (seen_ops b)
  seen_ops (ensure_row p u e b) = piece_before (op.EnsureRow p u e) (ensure_row p u e) (code_seen (ops_of b)) b (seen-EnsureRow p u e)
      (seen_ops b)
  seen_ops (align a b) = piece_before (op.Align a) (align a) (code_seen (ops_of b)) b (seen-Align a) (seen_ops b)
  seen_ops (chunk s ps b) = piece_before (op.Chunk s ps) (chunk s ps) (code_seen (ops_of b)) b (seen-Chunk s ps) (seen_ops b)
  seen_ops (row_copy p b) = piece_before (op.RowCopy p) (row_copy p) (code_seen (ops_of b)) b (seen-RowCopy p) (seen_ops b)
  seen_ops (row_swap p b) = piece_before (op.RowSwap p) (row_swap p) (code_seen (ops_of b)) b (seen-RowSwap p) (seen_ops b)
  seen_ops (row_wide p o b) = piece_before (op.RowWide p o) (row_wide p o) (code_seen (ops_of b)) b (seen-RowWide p o) (seen_ops b)
  seen_ops (each p a b) =
      piece_before (op.Each p (ops_of a)) (each p a) (code_seen (ops_of b)) b (seen-Each p (ops_of a) ∙ ap (λ (x : Block). piece
      (each p x)) (seen_ops a)) (seen_ops b)
  seen_ops (switch p cs b) =
      piece_before (op.Switch p (cases_of cs) (last_of cs)) (switch p cs) (code_seen (ops_of b)) b
      (seen-Switch p (cases_of cs) (last_of cs) ∙ ap (λ (x : Cases). piece (switch p x)) (seen_cases cs)) (seen_ops b)
  seen_ops (if_there p a b) =
      piece_before (op.Some p (ops_of a)) (if_there p a) (code_seen (ops_of b)) b (seen-Some p (ops_of a) ∙ ap (λ (x : Block). piece
      (if_there p x)) (seen_ops a)) (seen_ops b)
  seen_ops (call k p b) = piece_before (op.Call k p) (call k p) (code_seen (ops_of b)) b (seen-Call k p) (seen_ops b)
  seen_ops (patch a s o b) = piece_before (op.Patch a s o) (patch a s o) (code_seen (ops_of b)) b (seen-Patch a s o) (seen_ops b)

  seen_cases : (cs : Cases) → cases_seen (cases_of cs) (last_of cs) ≡ cs
  seen_cases no_default = refl
  seen_cases (default b) = ap default (seen_ops b)
  seen_cases (case n b cs) =
      ap (λ (a : Block). case n a (cases_seen (cases_of cs) (last_of cs))) (seen_ops b) ∙ ap (case n b) (seen_cases cs)

-- ---- one operation more

-- operations that are read within so many levels below, where so many octets may be looked at
abbrev pub ReadsAs : ℕ → List ℕ → List SendOp → List ℕ → Type 0
ReadsAs l text os after = (k : ℕ) → length text ≤ k → repeat lead_at (op_at l (ops_at l)) k text ≡ Some (os, after)

one_op : (l : ℕ) (text us vs after : List ℕ) (lead : Lead) (o : SendOp) (os : List SendOp) → lead_at text ≡ Some (lead, us)
    → op_at l (ops_at l) lead us ≡ Some (o, vs) → length vs < length text → ReadsAs l vs os after → ReadsAs l text (o ∷ os) after
one_op l text us vs after lead o os e f lt more zero fits = absurd (omega arith)
one_op l text us vs after lead o os e f lt more (suc k) fits =
    one_more lead_at (op_at l (ops_at l)) k text us vs after lead o os e f (more k (omega arith))

none_read : (l : ℕ) (after : List ℕ) → lead_at after ≡ None → ReadsAs l after [] after
none_read l after ends k fits = ends_none lead_at (op_at l (ops_at l)) k after ends

-- a whole body
body_reads : (l : ℕ) (text : List ℕ) (os : List SendOp) (after : List ℕ) → ReadsAs l text os after → ops_at (suc l) text ≡ Some
    (os, after)
body_reads l text os after h = h (length text) (omega arith)

-- a path and the body after it
over_reads : (l : ℕ) (p text : List ℕ) (os : List SendOp) (after : List ℕ) → AreWords p → ReadsAs l text os (ended after)
    → over_at (ops_at (suc l)) (ended_on (path_word p) text) ≡ Some ((p, os), after)
over_reads l p text os after h body =
    both_reads (path_at feed) (before (ops_at (suc l)) end_line) (ended_on (path_word p) text) text after p os (path_ended p text h)
    (before_reads (ops_at (suc l)) end_line text (ended after) after os (body_reads l text os (ended after) body) refl)

chunk_reads : (l : ℕ) (s : ℕ) (ps : List Put) (after : List ℕ) → IsWord s → PutsAreSmall ps
    → chunk_at (suc l) (ended_on (numeral s) (puts_text ps (ended after))) ≡ Some (op.Chunk s ps, after)
chunk_reads l s ps after h k =
    mapped_reads chunk_of (both (number_at feed) puts_at) (ended_on (numeral s) (puts_text ps (ended after))) after (s, ps)
    (both_reads (number_at feed) puts_at (ended_on (numeral s) (puts_text ps (ended after))) (puts_text ps (ended after)) after s ps
    (number_ended s (puts_text ps (ended after)) h)
    (puts_read ps after k))

ensure_row_reads : (p : List ℕ) (u e : ℕ) (t : List ℕ) → AreWords p → IsWord u → IsWord e
    → ensure_row_at (spaced_on (path_word p) (spaced_on (numeral u) (ended_on (numeral e) t))) ≡ Some (op.EnsureRow p u e, t)
ensure_row_reads p u e t h i j =
    let last = ended_on (numeral e) t in
    mapped_reads ensure_row_of (both (path_at space) (both (number_at space) (number_at feed)))
    (spaced_on (path_word p) (spaced_on (numeral u) last)) t (p, (u, e))
    (both_reads (path_at space) (both (number_at space) (number_at feed)) (spaced_on (path_word p) (spaced_on (numeral u) last))
    (spaced_on (numeral u) last) t p (u, e)
    (path_spaced p (spaced_on (numeral u) last) h)
    (both_reads (number_at space) (number_at feed) (spaced_on (numeral u) last) last t u e (number_spaced u last i) (number_ended e t j)))

-- ---- cases

-- what is left of the bodies of a switch behind those of numbers
abbrev last_text : Cases → List ℕ → List ℕ
last_text no_default t = ended t
last_text (default b) t = cases_text (default b) (ended t)
last_text (case n b cs) t = last_text cs t

cases_lead_none : (cs : Cases) (t : List ℕ) → lead_at (cases_text cs (ended t)) ≡ None
unfolding rest_lead_at
cases_lead_none no_default t = refl
cases_lead_none (default b) t = refl
cases_lead_none (case n b cs) t = refl

abbrev CasesReadAs : ℕ → List ℕ → List (ℤ × List SendOp) → List ℕ → Type 0
CasesReadAs l text cs after = (k : ℕ) → length text ≤ k
    → repeat (word_at (codes "case ")) (λ u. both (integer_at feed) (ops_at (suc l))) k text ≡ Some (cs, after)

abbrev numbered : ℤ → List SendOp → ℤ × List SendOp
numbered n os = (n, os)

one_case : (l : ℕ) (n : ℤ) (text behind after : List ℕ) (os : List SendOp) (cs : List (ℤ × List SendOp)) → IsSigned n
    → ReadsAs l text os behind → length behind ≤ length text → CasesReadAs l behind cs after
    → CasesReadAs l (line (codes "case") (integer n ∷ []) text) ((n, os) ∷ cs) after
one_case l n text behind after os cs h body shorter more zero fits =
    absurd (omega (arith, line_long (codes "case") (integer n ∷ []) text))
one_case l n text behind after os cs h body shorter more (suc k) fits =
    let one = both_reads (integer_at feed) (ops_at (suc l)) (ended_on (integer n) text) text behind n os (integer_ended n text h)
    (body_reads l text os behind body) in
    one_more (word_at (codes "case ")) (λ u. both (integer_at feed) (ops_at (suc l))) k (line (codes "case") (integer n ∷ []) text)
    (ended_on (integer n) text) behind after tt (numbered n os) cs refl one
    (more k (omega (arith, line_long (codes "case") (integer n ∷ []) text)))

no_case : (l : ℕ) (t : List ℕ) → word_at (codes "case ") t ≡ None → CasesReadAs l t [] t
no_case l t e k fits = ends_none (word_at (codes "case ")) (λ u. both (integer_at feed) (ops_at (suc l))) k t e

last_reads : (l : ℕ) (text : List ℕ) (os : List SendOp) (t : List ℕ) → ReadsAs l text os (ended t)
    → last_at (ops_at (suc l)) (line (codes "default") [] text) ≡ Some (Some os, t)
last_reads l text os t body =
    before_reads (mapped Some (ops_at (suc l))) end_line text (ended t) t (Some os)
    (mapped_reads Some (ops_at (suc l)) text (ended t) os (body_reads l text os (ended t) body)) refl

switch_reads : (l : ℕ) (p text behind : List ℕ) (cs : List (ℤ × List SendOp)) (last : Option (List SendOp)) (t : List ℕ) → AreWords p
    → CasesReadAs l text cs behind → last_at (ops_at (suc l)) behind ≡ Some (last, t)
    → switch_at (suc l) (ops_at (suc l)) (ended_on (path_word p) text) ≡ Some (op.Switch p cs last, t)
switch_reads l p text behind cs last t h some_read ends =
    mapped_reads switch_of (both (path_at feed) (both (cases_at (ops_at (suc l))) (last_at (ops_at (suc l)))))
    (ended_on (path_word p) text) t (p, (cs, last))
    (both_reads (path_at feed) (both (cases_at (ops_at (suc l))) (last_at (ops_at (suc l)))) (ended_on (path_word p) text) text t p
    (cs, last) (path_ended p text h)
    (both_reads (cases_at (ops_at (suc l))) (last_at (ops_at (suc l))) text behind t cs last (some_read (length text)
    (omega arith)) ends))

-- ---- code

less : (l : ℕ) (a : Block) → NestsWithin (suc l - 1) a → NestsWithin l a
less l a h = let e : suc l - 1 ≡ l = omega arith in subst (λ m. NestsWithin m a) e h

cases_less : (l : ℕ) (cs : Cases) → CasesNestWithin (suc l - 1) cs → CasesNestWithin l cs
cases_less l cs h = let e : suc l - 1 ≡ l = omega arith in subst (λ m. CasesNestWithin m cs) e h

-- what is read of a line, as an operation
read_op : {A : Type 0} (l : ℕ) (make : A → SendOp) (r : Reader A) (x : A) (text us vs after : List ℕ) (lead : Lead) (os : List SendOp)
    → lead_at text ≡ Some (lead, us) → op_at l (ops_at l) lead ≡ mapped make r → r us ≡ Some (x, vs) → length vs < length text
    → ReadsAs l vs os after → ReadsAs l text (make x ∷ os) after
read_op l make r x text us vs after lead os e is f =
    one_op l text us vs after lead (make x) os e (ap (λ (g : Reader SendOp). g us) is ∙ mapped_reads make r us vs x f)

-- an operation with a body over a path
body_op : (l : ℕ) (make : List ℕ × List SendOp → SendOp) (p w body rest after : List ℕ) (lead : Lead) (inner os : List SendOp)
    → lead_at (line w (path_word p ∷ []) body) ≡ Some (lead, ended_on (path_word p) body)
    → op_at (suc l) (ops_at (suc l)) lead ≡ mapped make (over_at (ops_at (suc l))) → AreWords p → ReadsAs l body inner (ended rest)
    → length (ended rest) ≤ length body → ReadsAs (suc l) rest os after
    → ReadsAs (suc l) (line w (path_word p ∷ []) body) (make (p, inner) ∷ os) after
body_op l make p w body rest after lead inner os e is h b long =
    read_op (suc l) make (over_at (ops_at (suc l))) (p, inner) (line w (path_word p ∷ []) body) (ended_on (path_word p) body) rest after
    lead os e is (over_reads l p body inner rest h b) (around_text w (path_word p ∷ []) body rest long)

-- an operation of a number
number_op : (l : ℕ) (make : ℕ → SendOp) (n : ℕ) (w t after : List ℕ) (lead : Lead) (os : List SendOp)
    → lead_at (line w (numeral n ∷ []) t) ≡ Some (lead, ended_on (numeral n) t) → op_at l (ops_at l) lead ≡ mapped make (number_at feed)
    → IsWord n → ReadsAs l t os after → ReadsAs l (line w (numeral n ∷ []) t) (make n ∷ os) after
number_op l make n w t after lead os e is h =
    read_op l make (number_at feed) n (line w (numeral n ∷ []) t) (ended_on (numeral n) t) t after lead os e is (number_ended n t h)
    (line_long w (numeral n ∷ []) t)

-- an operation of a path
path_op : (l : ℕ) (make : List ℕ → SendOp) (p w t after : List ℕ) (lead : Lead) (os : List SendOp)
    → lead_at (line w (path_word p ∷ []) t) ≡ Some (lead, ended_on (path_word p) t) → op_at l (ops_at l) lead ≡ mapped make (path_at feed)
    → AreWords p → ReadsAs l t os after → ReadsAs l (line w (path_word p ∷ []) t) (make p ∷ os) after
path_op l make p w t after lead os e is h =
    read_op l make (path_at feed) p (line w (path_word p ∷ []) t) (ended_on (path_word p) t) t after lead os e is (path_ended p t h)
    (line_long w (path_word p ∷ []) t)

mutual
  unfolding rest_lead_at

  pub ops_read : (b : Block) (l : ℕ) (t : List ℕ) → NestsWithin l b → IsSmall b → lead_at t ≡ None → ReadsAs l (block_text b t)
      (ops_of b) t
  ops_read stop l t h s ends = none_read l t ends
  ops_read (ensure n b) l t h s ends =
      number_op l op.Ensure n (codes "ensure") (block_text b t) t leads.Ensure (ops_of b) refl refl s.0 (ops_read b l t h s.1 ends)
  ops_read (ensure_row p u e b) l t h s ends =
      one_op l (block_text (ensure_row p u e b) t)
      (spaced_on (path_word p) (spaced_on (numeral u) (ended_on (numeral e) (block_text b t)))) (block_text b t) t leads.EnsureRow
      (op.EnsureRow p u e) (ops_of b) refl
      (ensure_row_reads p u e (block_text b t) s.0 s.1 s.2)
      (line_long (codes "ensure_row") (path_word p ∷ numeral u ∷ numeral e ∷ []) (block_text b t)) (ops_read b l t h s.3 ends)
  ops_read (align a b) l t h s ends =
      number_op l op.Align a (codes "align") (block_text b t) t leads.Align (ops_of b) refl refl s.0 (ops_read b l t h s.1 ends)
  ops_read (chunk z ps b) zero t h s ends = absurd (omega (arith, h.0))
  ops_read (chunk z ps b) (suc l) t h s ends =
      one_op (suc l) (block_text (chunk z ps b) t)
      (ended_on (numeral z) (puts_text ps (ended (block_text b t)))) (block_text b t) t leads.Chunk (op.Chunk z ps) (ops_of b) refl
      (chunk_reads l z ps (block_text b t) s.0 s.1)
      (around_text (codes "chunk") (numeral z ∷ []) (puts_text ps (ended (block_text b t))) (block_text b t)
      (puts_before ps (ended (block_text b t)))) (ops_read b (suc l) t h.1 s.2 ends)
  ops_read (row_copy p b) l t h s ends =
      path_op l op.RowCopy p (codes "row_copy") (block_text b t) t leads.RowCopy (ops_of b) refl refl s.0 (ops_read b l t h s.1 ends)
  ops_read (row_swap p b) l t h s ends =
      path_op l op.RowSwap p (codes "row_swap") (block_text b t) t leads.RowSwap (ops_of b) refl refl s.0 (ops_read b l t h s.1 ends)
  ops_read (row_wide p o b) l t h s ends =
      read_op l row_wide_of (both (path_at space) order_at) (p, o) (block_text (row_wide p o b) t)
      (spaced_on (path_word p) (ended_on (order_word o) (block_text b t))) (block_text b t) t leads.RowWide (ops_of b) refl refl
      (both_reads (path_at space) order_at (spaced_on (path_word p) (ended_on (order_word o) (block_text b t))) (ended_on
      (order_word o) (block_text b t)) (block_text b t) p o
      (path_spaced p (ended_on (order_word o) (block_text b t)) s.0) (order_ended o (block_text b t)))
      (line_long (codes "row_wide") (path_word p ∷ order_word o ∷ []) (block_text b t)) (ops_read b l t h s.1 ends)
  ops_read (each p a b) zero t h s ends = absurd (omega (arith, h.0))
  ops_read (each p a b) (suc l) t h s ends =
      body_op l each_of p (codes "each") (block_text a (ended (block_text b t))) (block_text b t) t leads.Each (ops_of a) (ops_of b)
      refl refl s.0 (ops_read a l (ended (block_text b t)) (less l a h.1) s.1 refl) (block_long a (ended (block_text b t)))
      (ops_read b (suc l) t h.2 s.2 ends)
  ops_read (switch p cs b) zero t h s ends = absurd (omega (arith, h.0))
  ops_read (switch p cs b) (suc l) t h s ends =
      one_op (suc l) (block_text (switch p cs b) t)
      (ended_on (path_word p) (cases_text cs (ended (block_text b t)))) (block_text b t) t leads.Switch (op.Switch p (cases_of cs)
      (last_of cs)) (ops_of b) refl
      (switch_reads l p (cases_text cs (ended (block_text b t))) (last_text cs (block_text b t)) (cases_of cs) (last_of cs)
      (block_text b t)
      s.0 (cases_read cs l (block_text b t) (cases_less l cs h.1) s.1) (last_read cs l (block_text b t) (cases_less l cs h.1) s.1))
      (around_text (codes "switch") (path_word p ∷ []) (cases_text cs (ended (block_text b t))) (block_text b t)
      (cases_long cs (ended (block_text b t)))) (ops_read b (suc l) t h.2 s.2 ends)
  ops_read (if_there p a b) zero t h s ends = absurd (omega (arith, h.0))
  ops_read (if_there p a b) (suc l) t h s ends =
      body_op l there_of p (codes "some") (block_text a (ended (block_text b t))) (block_text b t) t leads.There (ops_of a) (ops_of b)
      refl refl s.0 (ops_read a l (ended (block_text b t)) (less l a h.1) s.1 refl) (block_long a (ended (block_text b t)))
      (ops_read b (suc l) t h.2 s.2 ends)
  ops_read (call k p b) l t h s ends =
      read_op l call_of (both (number_at space) (path_at feed)) (k, p) (block_text (call k p b) t)
      (spaced_on (numeral k) (ended_on (path_word p) (block_text b t))) (block_text b t) t leads.Call (ops_of b) refl refl
      (both_reads (number_at space) (path_at feed) (spaced_on (numeral k) (ended_on (path_word p) (block_text b t))) (ended_on
      (path_word p) (block_text b t)) (block_text b t) k p
      (number_spaced k (ended_on (path_word p) (block_text b t)) s.0) (path_ended p (block_text b t) s.1))
      (line_long (codes "call") (numeral k ∷ path_word p ∷ []) (block_text b t)) (ops_read b l t h s.2 ends)
  ops_read (patch a z o b) l t h s ends =
      read_op l patch_of (both (number_at space) layout_at) (a, (z, o)) (block_text (patch a z o b) t)
      (spaced_on (numeral a) (spaced_on (numeral z) (ended_on (order_word o) (block_text b t)))) (block_text b t) t leads.Patch
      (ops_of b) refl refl
      (both_reads (number_at space) layout_at (spaced_on (numeral a) (spaced_on (numeral z) (ended_on (order_word o)
      (block_text b t)))) (spaced_on (numeral z) (ended_on (order_word o) (block_text b t))) (block_text b t) a (z, o)
      (number_spaced a (spaced_on (numeral z) (ended_on (order_word o) (block_text b t))) s.0) (layout_reads z o (block_text b t) s.1))
      (line_long (codes "patch") (numeral a ∷ numeral z ∷ order_word o ∷ []) (block_text b t)) (ops_read b l t h s.2 ends)

  cases_read : (cs : Cases) (l : ℕ) (t : List ℕ) → CasesNestWithin l cs → CasesAreSmall cs
      → CasesReadAs l (cases_text cs (ended t)) (cases_of cs) (last_text cs t)
  cases_read no_default l t h s = no_case l (ended t) refl
  cases_read (default b) l t h s = no_case l (cases_text (default b) (ended t)) refl
  cases_read (case n b cs) l t h s =
      one_case l n (block_text b (cases_text cs (ended t))) (cases_text cs (ended t)) (last_text cs t) (ops_of b) (cases_of cs) s.0
      (ops_read b l (cases_text cs (ended t)) h.0 s.1 (cases_lead_none cs t)) (block_long b (cases_text cs (ended t)))
      (cases_read cs l t h.1 s.2)

  last_read : (cs : Cases) (l : ℕ) (t : List ℕ) → CasesNestWithin l cs → CasesAreSmall cs
      → last_at (ops_at (suc l)) (last_text cs t) ≡ Some (last_of cs, t)
  last_read no_default l t h s = refl
  last_read (default b) l t h s = last_reads l (block_text b (ended t)) (ops_of b) t (ops_read b l (ended t) h s refl)
  last_read (case n b cs) l t h s = last_read cs l t h.1 s.2
