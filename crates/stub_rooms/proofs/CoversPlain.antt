-- Code that ensures nothing, one operation and one body after the other.
use Rattle.std.proofs.Common.{◌≡◌, ℕ, ◌+◌, ◌<◌, ◌≤◌, ℤ, Bool, true, false, ◌&&◌, List, [], get_or, length, drop, Option, Some, None, Result, Ok, Err, IfOk, refl, sym, ap, ◌∙◌}
use Rattle.std.proofs.Math.ListN.{drop_of_length-le}
use Rattle.cast_stub.specs.declared.send.SendOp.{SendOp}
use Rattle.cast_stub.specs.Block.{Block, Piece, op_seen, code_seen, cases_seen}
use Rattle.stub_cover.specs.Covers.{is_plain, are_plain}
use Rattle.stub_rooms.proofs.CoversLeading.{first_op, first_case}

and_true : (b c : Bool) → b ≡ true → (b && c) ≡ c
and_true true c h = refl
and_true false c h = absurd cc

and_false : (b c : Bool) → b ≡ false → (b && c) ≡ false
and_false true c h = absurd cc
and_false false c h = refl

pub plain_by : (o : SendOp) (piece : Piece) (p b : Bool) → op_seen o ≡ piece → ((r : Block) → is_plain (piece r) ≡ (p && is_plain r))
    → b ≡ p → (r : Block) → is_plain (op_seen o r) ≡ (b && is_plain r)
plain_by o piece p b is same e r =
    ap (λ (z : Piece). is_plain (z r)) is ∙ same r ∙ ap (λ (t : Bool). t && is_plain r) (sym e)

pub plain_if : {E : Type 0} (o : SendOp) (piece : Piece) (p : Bool) (x : Result Bool E) → op_seen o ≡ piece
    → ((r : Block) → is_plain (piece r) ≡ (p && is_plain r)) → IfOk x (λ b. b ≡ p)
    → IfOk x (λ b. (r : Block) → is_plain (op_seen o r) ≡ (b && is_plain r))
plain_if o piece p (Ok b) is same e = plain_by o piece p b is same e
plain_if o piece p (Err f) is same e = tt

-- ---- operations

module _ (items : List SendOp) (i : ℕ) (left : is_plain (code_seen items) ≡ is_plain (code_seen (drop i items))) where
  here : (o : SendOp) (b : Bool) → i < length items → o ≡ get_or items i o
      → ((r : Block) → is_plain (op_seen o r) ≡ (b && is_plain r))
      → is_plain (code_seen items) ≡ (b && is_plain (code_seen (drop (i + 1) items)))
  here o b less is plain = left ∙ ap (λ (l : List SendOp). is_plain (code_seen l)) (first_op items i o less is)
      ∙ plain (code_seen (drop (i + 1) items))

  pub plain_one : (o : SendOp) (b : Bool) → i < length items → o ≡ get_or items i o
      → ((r : Block) → is_plain (op_seen o r) ≡ (b && is_plain r)) → b ≡ true
      → is_plain (code_seen items) ≡ is_plain (code_seen (drop (i + 1) items))
  plain_one o b less is plain e = here o b less is plain ∙ and_true b _ e

  pub plain_not : (ops : List SendOp) (o : SendOp) (b : Bool) → i < length items → o ≡ get_or items i o
      → ((r : Block) → is_plain (op_seen o r) ≡ (b && is_plain r)) → b ≡ false → items ≡ ops → false ≡ is_plain (code_seen ops)
  plain_not ops o b less is plain e same =
      sym (sym (ap (λ (l : List SendOp). is_plain (code_seen l)) same) ∙ here o b less is plain ∙ and_false b _ e)

  pub plain_all : (ops : List SendOp) → length items ≤ i → items ≡ ops → true ≡ is_plain (code_seen ops)
  plain_all ops le same =
      sym (sym (ap (λ (l : List SendOp). is_plain (code_seen l)) same) ∙ left
      ∙ ap (λ (l : List SendOp). is_plain (code_seen l)) (drop_of_length-le items le))

-- ---- bodies of a switch

module _ (items : List (ℤ × List SendOp)) (last : Option (List SendOp)) (i : ℕ)
    (left : are_plain (cases_seen items last) ≡ are_plain (cases_seen (drop i items) last)) where
  at_case : (z : ℤ × List SendOp) (b : Bool) → i < length items → z ≡ get_or items i z → b ≡ is_plain (code_seen z.1)
      → are_plain (cases_seen items last) ≡ (b && are_plain (cases_seen (drop (i + 1) items) last))
  at_case z b less is plain = left ∙ ap (λ (l : List (ℤ × List SendOp)). are_plain (cases_seen l last)) (first_case items i z less is)
      ∙ ap (λ (t : Bool). t && are_plain (cases_seen (drop (i + 1) items) last)) (sym plain)

  pub case_one : (z : ℤ × List SendOp) (b : Bool) → i < length items → z ≡ get_or items i z → b ≡ is_plain (code_seen z.1) → b ≡ true
      → are_plain (cases_seen items last) ≡ are_plain (cases_seen (drop (i + 1) items) last)
  case_one z b less is plain e = at_case z b less is plain ∙ and_true b _ e

  pub case_not : (cases : List (ℤ × List SendOp)) (z : ℤ × List SendOp) (b : Bool) → i < length items → z ≡ get_or items i z
      → b ≡ is_plain (code_seen z.1) → b ≡ false → items ≡ cases → false ≡ are_plain (cases_seen cases last)
  case_not cases z b less is plain e same =
      sym (sym (ap (λ (l : List (ℤ × List SendOp)). are_plain (cases_seen l last)) same) ∙ at_case z b less is plain ∙ and_false b _ e)

  over : (cases : List (ℤ × List SendOp)) → length items ≤ i → items ≡ cases
      → are_plain (cases_seen cases last) ≡ are_plain (cases_seen [] last)
  over cases le same = sym (ap (λ (l : List (ℤ × List SendOp)). are_plain (cases_seen l last)) same) ∙ left
      ∙ ap (λ (l : List (ℤ × List SendOp)). are_plain (cases_seen l last)) (drop_of_length-le items le)

  cases_last : (cases : List (ℤ × List SendOp)) (body : List SendOp) (b : Bool) → length items ≤ i → items ≡ cases → last ≡ Some body
      → b ≡ is_plain (code_seen body) → b ≡ are_plain (cases_seen cases last)
  cases_last cases body b le same is plain =
      plain ∙ sym (over cases le same ∙ ap (λ (l : Option (List SendOp)). are_plain (cases_seen [] l)) is)

  pub cases_if : {E : Type 0} (cases : List (ℤ × List SendOp)) (body : List SendOp) (x : Result Bool E) → length items ≤ i → items ≡ cases
      → last ≡ Some body → IfOk x (λ b. b ≡ is_plain (code_seen body)) → IfOk x (λ b. b ≡ are_plain (cases_seen cases last))
  cases_if cases body (Ok b) le same is plain = cases_last cases body b le same is plain
  cases_if cases body (Err e) le same is plain = tt

  pub cases_all : (cases : List (ℤ × List SendOp)) → length items ≤ i → items ≡ cases → last ≡ None
      → true ≡ are_plain (cases_seen cases last)
  cases_all cases le same is =
      sym (over cases le same ∙ ap (λ (l : Option (List SendOp)). are_plain (cases_seen [] l)) is)
