-- What is read has the numbers of code, by induction on levels and on lists.
use Rattle.std.proofs.Common.{◌≡◌, ℕ, zero, suc, ◌+◌, ◌-◌, ◌*◌, ◌^◌, ◌<◌, ◌≤◌, Bool, true, false, ◌&&◌, ◌||◌, cond, leb, ℤ, pos, negsuc, List, [], ◌∷◌, length, drop, Option, Some, None, refl, sym, ap, ◌∙◌, subst, arith, codes}
use Rattle.std.proofs.lemmas.Bool.Decides.{nat_tests}
use Rattle.wire_def.specs.declared.head.Order.{Order}
use Rattle.cast_stub.specs.declared.put.Put.{Put}
use Rattle.cast_stub.specs.declared.put.Put.TheVariants as put
use Rattle.cast_stub.specs.declared.send.SendOp.{SendOp}
use Rattle.cast_stub.specs.declared.send.SendOp.TheVariants as op
use Rattle.cast_stub.specs.Block.{Block, op_seen, code_seen, cases_seen}
use Rattle.cast_stub.specs.Block as block
use Rattle.cast_stub.proofs.Pieces.{seen-Ensure, seen-EnsureRow, seen-Align, seen-Chunk, seen-RowCopy, seen-RowSwap, seen-RowWide, seen-Each, seen-Switch, seen-Some, seen-Call, seen-Patch}
use Rattle.stub_read.specs.declared.leads.Lead.{Lead}
use Rattle.stub_read.specs.declared.leads.Lead.TheVariants as leads
use Rattle.stub_read.specs.declared.leads.PutLead.{PutLead}
use Rattle.stub_read.specs.declared.leads.PutLead.TheVariants as puts
use Rattle.stub_read.specs.Reading.{Read, Reader, then_on, if_led, begins, word_at, both, mapped, before, repeat, many}
use Rattle.stub_read.specs.Words.{space, feed, is_digit, digits_on, most_word, number_at, most_signed, minus, integer_at, begins_field, point_at, fields_at, bare_path_at, path_at, order_at, is_hex, hex_value, hex_digit_at, octets_at}
use Rattle.stub_read.specs.Leads.{lead_at, put_lead_at}
use Rattle.stub_read.specs.Operations.{layout_at, scalar_at, count_at, short_at, field_at, num_of, tag_of, flag_of, count_of, short_of, head_of, stored_at, put_at, end_line, bare_puts_at, puts_at, ensure_row_of, chunk_of, row_wide_of, each_of, there_of, switch_of, call_of, patch_of, chunk_at, over_at, cases_at, last_at, switch_at, op_at, ops_at}
use Rattle.stub_read.specs.Stubs.{IsWord, AreWords, IsSigned, AreOctets, PutIsSmall, PutsAreSmall, IsSmall, CasesAreSmall}
use Rattle.stub_read.proofs.Nesting.{IfRead, Always, Any, read_then, mapped_has, any_read, both_have, before_has, many_has, weaker, deeper_has, last_has}

-- ---- numbers

digits_below : (most n : ℕ) → n ≤ most → Always (λ m. m ≤ most) (digits_on most n)
digits_below most n h [] = h
digits_below most n h (c ∷ cs) =
    go (is_digit c) (leb (10 * n + (c - 48)) most) refl
    (λ e. digits_below most (10 * n + (c - 48)) (grind (arith, nat_tests, e)) cs) where
      go : (d b : Bool) → leb (10 * n + (c - 48)) most ≡ b
          → (leb (10 * n + (c - 48)) most ≡ true → IfRead (λ m. m ≤ most) (digits_on most (10 * n + (c - 48)) cs))
          → IfRead (λ m. m ≤ most) (cond d (cond b (digits_on most (10 * n + (c - 48)) cs) None) (Some (n, c ∷ cs)))
      go true true e again = again e
      go true false e again = tt
      go false b e again = h

words_read : Always IsWord (digits_on most_word 0)
unfolding most_word
words_read = weaker (λ m. m ≤ most_word) IsWord (digits_on most_word 0) (λ m g. omega (arith, g)) (digits_below most_word 0 (omega arith))

number_small : (stop : List ℕ) → Always IsWord (number_at stop)
number_small stop = before_has IsWord (digits_on most_word 0) stop words_read

positive_small : Always IsSigned (mapped pos (digits_on most_signed 0))
unfolding most_signed
positive_small = mapped_has (λ m. m ≤ most_signed) IsSigned pos (digits_on most_signed 0) (digits_below most_signed 0 (omega arith))
    (λ m g. omega (arith, g))

minus_small : (n : ℕ) → n ≤ 2 ^ 127 → IsSigned (minus n)
minus_small zero h = omega arith
minus_small (suc n) h = omega (arith, h)

negative_small : Always IsSigned (mapped minus (digits_on (most_signed + 1) 0))
unfolding most_signed
negative_small = mapped_has (λ m. m ≤ most_signed + 1) IsSigned minus (digits_on (most_signed + 1) 0)
    (digits_below (most_signed + 1) 0 (omega arith)) (λ m g. minus_small m (omega (arith, g)))

integer_small : (stop : List ℕ) → Always IsSigned (integer_at stop)
integer_small stop t = go (begins (codes "-") t) where
  go : (b : Bool) → IfRead IsSigned (cond b (before (mapped minus (digits_on (most_signed + 1) 0)) stop (drop 1 t))
      (before (mapped pos (digits_on most_signed 0)) stop t))
  go true = before_has IsSigned (mapped minus (digits_on (most_signed + 1) 0)) stop negative_small (drop 1 t)
  go false = before_has IsSigned (mapped pos (digits_on most_signed 0)) stop positive_small t

-- ---- paths

fields_small : Always AreWords fields_at
fields_small = many_has IsWord AreWords tt (λ x xs g i. (g, i)) point_at (λ u. digits_on most_word 0) (λ u. words_read)

bare_path_small : Always AreWords bare_path_at
bare_path_small t = go (begins_field t) where
  go : (b : Bool) → IfRead AreWords (cond b (fields_at t) (mapped (λ u. []) (word_at (codes ".")) t))
  go true = fields_small t
  go false = mapped_has Any AreWords (λ u. []) (word_at (codes ".")) (any_read (word_at (codes "."))) (λ u g. tt) t

path_small : (stop : List ℕ) → Always AreWords (path_at stop)
path_small stop = before_has AreWords bare_path_at stop bare_path_small

-- ---- octets

-- half of an octet
abbrev IsHalf : ℕ → Type 0
IsHalf d = d < 16

half_by : (c : ℕ) (low : Bool) → leb c 57 ≡ low → is_hex c ≡ true → IsHalf (cond low (c - 48) (c - 87))
half_by c true e h = grind (arith, nat_tests, e)
half_by c false e h = go (leb 97 c) (leb c 102) refl refl where
  digit_not : (x : Bool) → (x && leb c 57) ≡ false
  digit_not true = e
  digit_not false = refl

  go : (x y : Bool) → leb 97 c ≡ x → leb c 102 ≡ y → IsHalf (c - 87)
  go x true p q = grind (arith, nat_tests, q)
  go x false p q =
      let none : is_hex c ≡ (x && false) = ap (λ b. b || (leb 97 c && leb c 102)) (digit_not (leb 48 c)) ∙ ap (λ b. b && leb c 102) p
      ∙ ap (λ b. x && b) q in
      absurd (never x (sym none ∙ h)) where
        never : (x : Bool) → (x && false) ≡ true → ⊥
        never true e = absurd cc
        never false e = absurd cc

half_small : Always IsHalf hex_digit_at
half_small [] = tt
half_small (c ∷ cs) = go (is_hex c) refl where
  go : (b : Bool) → is_hex c ≡ b → IfRead IsHalf (cond b (Some (hex_value c, cs)) None)
  go true e = half_by c (leb c 57) refl e
  go false e = tt

-- the second half of an octet, after the first
abbrev second : ℕ → Reader ℕ
second a = mapped (λ b. 16 * a + b) hex_digit_at

second_small : (a : ℕ) → IsHalf a → Always (λ o. o < 256) (second a)
second_small a h = mapped_has IsHalf (λ o. o < 256) (λ b. 16 * a + b) hex_digit_at half_small (λ b g. omega (arith, h, g))

octet_led : (n : ℕ) → Always AreOctets (repeat hex_digit_at second n) → (t : List ℕ) (q : Read ℕ) → IfRead IsHalf q
    → IfRead AreOctets (if_led q t
    (λ k us. then_on (second k us) (λ x vs. then_on (repeat hex_digit_at second n vs) (λ xs ws. Some (x ∷ xs, ws)))))
octet_led n g t None h = tt
octet_led n g t (Some x) h =
    read_then (λ o. o < 256) AreOctets (second x.0 x.1)
    (λ y vs. then_on (repeat hex_digit_at second n vs) (λ xs ws. Some (y ∷ xs, ws))) (second_small x.0 h x.1)
    (λ y i vs. read_then AreOctets AreOctets (repeat hex_digit_at second n vs) (λ xs ws. Some (y ∷ xs, ws)) (g vs) (λ xs j ws. (i, j)))

octets_repeated : (n : ℕ) → Always AreOctets (repeat hex_digit_at second n)
octets_repeated zero t = tt
octets_repeated (suc n) t = octet_led n (octets_repeated n) t (hex_digit_at t) (half_small t)

octets_small : Always AreOctets octets_at
octets_small t = octets_repeated (length t) t

-- ---- puts

abbrev LayoutIsSmall : ℕ × Order → Type 0
LayoutIsSmall x = IsWord x.0 × Any x.1

layout_small : Always LayoutIsSmall layout_at
layout_small = both_have IsWord Any (number_at space) order_at (number_small space) (any_read order_at)

abbrev ScalarIsSmall : List ℕ × (ℕ × Order) → Type 0
ScalarIsSmall x = AreWords x.0 × LayoutIsSmall x.1

scalar_small : Always ScalarIsSmall scalar_at
scalar_small = both_have AreWords LayoutIsSmall (path_at space) layout_at (path_small space) layout_small

count_small : Always (λ x. AreWords x.0 × (IsWord x.1.0 × (IsWord x.1.1.0 × LayoutIsSmall x.1.1.1))) count_at
count_small =
    both_have AreWords (λ x. IsWord x.0 × (IsWord x.1.0 × LayoutIsSmall x.1.1)) (path_at space)
    (both (number_at space) (both (number_at space) layout_at)) (path_small space)
    (both_have IsWord (λ x. IsWord x.0 × LayoutIsSmall x.1) (number_at space) (both (number_at space) layout_at) (number_small space)
    (both_have IsWord LayoutIsSmall (number_at space) layout_at (number_small space) layout_small))

short_small : Always (λ x. AreWords x.0 × (IsWord x.1.0 × (IsWord x.1.1.0 × IsWord x.1.1.1))) short_at
short_small =
    both_have AreWords (λ x. IsWord x.0 × (IsWord x.1.0 × IsWord x.1.1)) (path_at space)
    (both (number_at space) (both (number_at space) (number_at feed))) (path_small space)
    (both_have IsWord (λ x. IsWord x.0 × IsWord x.1) (number_at space) (both (number_at space) (number_at feed)) (number_small space)
    (both_have IsWord IsWord (number_at space) (number_at feed) (number_small space) (number_small feed)))

module _ (off : ℕ) (h : IsWord off) where
  stored_small : (k : PutLead) → Always PutIsSmall (stored_at off k)
  stored_small puts.Num = mapped_has ScalarIsSmall PutIsSmall (num_of off) scalar_at scalar_small (λ x g. (h, g.0, g.1.0))
  stored_small puts.Tag = mapped_has ScalarIsSmall PutIsSmall (tag_of off) scalar_at scalar_small (λ x g. (h, g.0, g.1.0))
  stored_small puts.Flag = mapped_has ScalarIsSmall PutIsSmall (flag_of off) scalar_at scalar_small (λ x g. (h, g.0, g.1.0))
  stored_small puts.Count =
      mapped_has (λ x. AreWords x.0 × (IsWord x.1.0 × (IsWord x.1.1.0 × LayoutIsSmall x.1.1.1))) PutIsSmall (count_of off) count_at
      count_small (λ x g. (h, g.0, g.1.0, g.1.1.0, g.1.1.1.0))
  stored_small puts.Short =
      mapped_has (λ x. AreWords x.0 × (IsWord x.1.0 × (IsWord x.1.1.0 × IsWord x.1.1.1))) PutIsSmall (short_of off) short_at
      short_small (λ x g. (h, g.0, g.1.0, g.1.1.0, g.1.1.1))
  stored_small puts.Const =
      mapped_has AreOctets PutIsSmall (put.Const off) (before octets_at feed) (before_has AreOctets octets_at feed octets_small)
      (λ x g. (h, g))
  stored_small puts.Head =
      mapped_has (λ x. Any x.0 × LayoutIsSmall x.1) PutIsSmall (head_of off) (both field_at layout_at)
      (both_have Any LayoutIsSmall field_at layout_at (any_read field_at) layout_small) (λ x g. (h, g.1.0))

put_small : Always PutIsSmall put_at
put_small t =
    read_then IsWord PutIsSmall (number_at space t) (λ off us. then_on (put_lead_at us) (λ k vs. stored_at off k vs))
    (number_small space t)
    (λ off h us. read_then Any PutIsSmall (put_lead_at us) (λ k vs. stored_at off k vs) (any_read put_lead_at us)
    (λ k g vs. stored_small off h k vs))

puts_small : Always PutsAreSmall puts_at
puts_small =
    before_has PutsAreSmall bare_puts_at end_line
    (many_has PutIsSmall PutsAreSmall tt (λ x xs g i. (g, i)) (word_at (codes "at ")) (λ u. put_at) (λ u. put_small))

-- ---- operations

-- an operation before a block whose numbers are those of code
abbrev OpIsSmall : SendOp → Type 0
OpIsSmall o = (b : Block) → IsSmall b → IsSmall (op_seen o b)

-- operations whose numbers are
abbrev pub OpsAreSmall : List SendOp → Type 0
OpsAreSmall os = IsSmall (code_seen os)

-- an operation that is seen as a piece which keeps that
keeps_small : (o : SendOp) (p : Block → Block) → op_seen o ≡ p → ((b : Block) → IsSmall b → IsSmall (p b)) → OpIsSmall o
keeps_small o p e h b k = subst (λ (q : Block → Block). IsSmall (q b)) (sym e) (h b k)

-- bodies of numbers, if the last one's numbers are
abbrev CasesAreAllSmall : List (ℤ × List SendOp) → Type 0
CasesAreAllSmall cs = (last : Option (List SendOp)) → CasesAreSmall (cases_seen [] last) → CasesAreSmall (cases_seen cs last)

abbrev LastIsSmall : Option (List SendOp) → Type 0
LastIsSmall last = CasesAreSmall (cases_seen [] last)

module _ (l : ℕ) (h : Always OpsAreSmall (ops_at l)) where
  over_small : Always (λ x. AreWords x.0 × OpsAreSmall x.1) (over_at (ops_at l))
  over_small =
      both_have AreWords OpsAreSmall (path_at feed) (before (ops_at l) end_line) (path_small feed)
      (before_has OpsAreSmall (ops_at l) end_line h)

  chunk_small : Always OpIsSmall (chunk_at l)
  chunk_small =
      deeper_has OpIsSmall l (mapped chunk_of (both (number_at feed) puts_at))
      (λ one. mapped_has (λ x. IsWord x.0 × PutsAreSmall x.1) OpIsSmall chunk_of (both (number_at feed) puts_at)
      (both_have IsWord PutsAreSmall (number_at feed) puts_at (number_small feed) puts_small)
      (λ a g. keeps_small (chunk_of a) (block.chunk a.0 a.1) (seen-Chunk a.0 a.1) (λ b k. (g.0, g.1, k))))

  last_small : Always LastIsSmall (last_at (ops_at l))
  last_small = last_has OpsAreSmall LastIsSmall (ops_at l) h (λ a g. g) tt

  cases_small : Always CasesAreAllSmall (cases_at (ops_at l))
  cases_small =
      many_has (λ (x : ℤ × List SendOp). IsSigned x.0 × OpsAreSmall x.1) CasesAreAllSmall (λ last g. g)
      (λ x xs g i last j. (g.0, g.1, i last j)) (word_at (codes "case ")) (λ u. both (integer_at feed) (ops_at l))
      (λ u. both_have IsSigned OpsAreSmall (integer_at feed) (ops_at l) (integer_small feed) h)

  switch_small : Always OpIsSmall (switch_at l (ops_at l))
  switch_small =
      deeper_has OpIsSmall l (mapped switch_of (both (path_at feed) (both (cases_at (ops_at l)) (last_at (ops_at l)))))
      (λ one. mapped_has (λ x. AreWords x.0 × (CasesAreAllSmall x.1.0 × LastIsSmall x.1.1)) OpIsSmall switch_of
      (both (path_at feed) (both (cases_at (ops_at l)) (last_at (ops_at l))))
      (both_have AreWords (λ y. CasesAreAllSmall y.0 × LastIsSmall y.1) (path_at feed) (both (cases_at (ops_at l)) (last_at (ops_at l)))
      (path_small feed)
      (both_have CasesAreAllSmall LastIsSmall (cases_at (ops_at l)) (last_at (ops_at l)) cases_small last_small))
      (λ x g. keeps_small (switch_of x) (block.switch x.0 (cases_seen x.1.0 x.1.1)) (seen-Switch x.0 x.1.0 x.1.1)
      (λ b k. (g.0, g.1.0 x.1.1 g.1.1, k))))

  op_small : (k : Lead) → Always OpIsSmall (op_at l (ops_at l) k)
  op_small leads.Ensure =
      mapped_has IsWord OpIsSmall op.Ensure (number_at feed) (number_small feed)
      (λ n g. keeps_small (op.Ensure n) (block.ensure n) (seen-Ensure n) (λ b k. (g, k)))
  op_small leads.EnsureRow =
      mapped_has (λ x. AreWords x.0 × (IsWord x.1.0 × IsWord x.1.1)) OpIsSmall ensure_row_of
      (both (path_at space) (both (number_at space) (number_at feed)))
      (both_have AreWords (λ x. IsWord x.0 × IsWord x.1) (path_at space) (both (number_at space) (number_at feed)) (path_small space)
      (both_have IsWord IsWord (number_at space) (number_at feed) (number_small space) (number_small feed)))
      (λ x g. keeps_small (ensure_row_of x) (block.ensure_row x.0 x.1.0 x.1.1) (seen-EnsureRow x.0 x.1.0 x.1.1)
      (λ b k. (g.0, g.1.0, g.1.1, k)))
  op_small leads.Align =
      mapped_has IsWord OpIsSmall op.Align (number_at feed) (number_small feed)
      (λ n g. keeps_small (op.Align n) (block.align n) (seen-Align n) (λ b k. (g, k)))
  op_small leads.Chunk = chunk_small
  op_small leads.RowCopy =
      mapped_has AreWords OpIsSmall op.RowCopy (path_at feed) (path_small feed)
      (λ p g. keeps_small (op.RowCopy p) (block.row_copy p) (seen-RowCopy p) (λ b k. (g, k)))
  op_small leads.RowSwap =
      mapped_has AreWords OpIsSmall op.RowSwap (path_at feed) (path_small feed)
      (λ p g. keeps_small (op.RowSwap p) (block.row_swap p) (seen-RowSwap p) (λ b k. (g, k)))
  op_small leads.RowWide =
      mapped_has (λ x. AreWords x.0 × Any x.1) OpIsSmall row_wide_of (both (path_at space) order_at)
      (both_have AreWords Any (path_at space) order_at (path_small space) (any_read order_at))
      (λ x g. keeps_small (row_wide_of x) (block.row_wide x.0 x.1) (seen-RowWide x.0 x.1) (λ b k. (g.0, k)))
  op_small leads.Each =
      mapped_has (λ x. AreWords x.0 × OpsAreSmall x.1) OpIsSmall each_of (over_at (ops_at l)) over_small
      (λ x g. keeps_small (each_of x) (block.each x.0 (code_seen x.1)) (seen-Each x.0 x.1) (λ b k. (g.0, g.1, k)))
  op_small leads.Switch = switch_small
  op_small leads.There =
      mapped_has (λ x. AreWords x.0 × OpsAreSmall x.1) OpIsSmall there_of (over_at (ops_at l)) over_small
      (λ x g. keeps_small (there_of x) (block.if_there x.0 (code_seen x.1)) (seen-Some x.0 x.1) (λ b k. (g.0, g.1, k)))
  op_small leads.Call =
      mapped_has (λ x. IsWord x.0 × AreWords x.1) OpIsSmall call_of (both (number_at space) (path_at feed))
      (both_have IsWord AreWords (number_at space) (path_at feed) (number_small space) (path_small feed))
      (λ x g. keeps_small (call_of x) (block.call x.0 x.1) (seen-Call x.0 x.1) (λ b k. (g.0, g.1, k)))
  op_small leads.Patch =
      mapped_has (λ x. IsWord x.0 × LayoutIsSmall x.1) OpIsSmall patch_of (both (number_at space) layout_at)
      (both_have IsWord LayoutIsSmall (number_at space) layout_at (number_small space) layout_small)
      (λ x g. keeps_small (patch_of x) (block.patch x.0 x.1.0 x.1.1) (seen-Patch x.0 x.1.0 x.1.1) (λ b k. (g.0, g.1.0, k)))

  level_small : Always OpsAreSmall (many lead_at (op_at l (ops_at l)))
  level_small = many_has OpIsSmall OpsAreSmall tt (λ o os g i. g (code_seen os) i) lead_at (op_at l (ops_at l)) op_small

-- whatever is read
pub ops_small : (l : ℕ) → Always OpsAreSmall (ops_at l)
ops_small zero t = tt
ops_small (suc l) t = level_small l (ops_small l) t
