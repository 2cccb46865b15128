-- Operations and bodies taken from the first on, whose rows are made blocks.
use Rattle.std.proofs.Common.{◌≡◌, ℕ, ◌<◌, ◌+◌, List, [], ◌∷◌, ◌++◌, length, get_or, sym, ap, ◌∙◌, subst, arith}
use Rattle.std.proofs.Math.ListN.{take, drop}
use Rattle.std.proofs.lemmas.List.{length-drop, drop_more, length_push}
use Rattle.mint.specs.Types.{Ty}
use Rattle.wire_def.specs.declared.encoding.Encoding.{Encoding}
use Rattle.cast_stub.specs.declared.send.SendOp.{SendOp}
use Rattle.cast_stub.specs.Append.{append}
use Rattle.cast_stub.specs.Block.{Block, stop, op_seen, code_seen}
use Rattle.cast_stub.specs.InStep.{InStep, AllInStep}
use Rattle.cast_stub.proofs.Appending.{append-assoc, append-stop, op-append}
use Rattle.cast_stub.proofs.InStep.{as-many, this-has, more-have, all-have}
use Rattle.copy_inline.specs.Ready.{IsReady}
use Rattle.copy_inline.specs.Rowed.{rowed}
use Rattle.copy_inline.proofs.RowCounts.{rowed-append}
use Rattle.copy_inline.proofs.RowsInStep.{both-ready}

-- the first operation before the others
first_is : (o : SendOp) (ops left : List SendOp) → left ≡ o ∷ ops → code_seen left ≡ append (op_seen o stop) (code_seen ops)
first_is o ops left is = ap code_seen is ∙ sym (op-append o stop (code_seen ops))

module _ (enc : Encoding) (t : Ty) where
  pub both-left : (o : SendOp) (ops left : List SendOp) → left ≡ o ∷ ops → IsReady enc t (code_seen left)
      → IsReady enc t (op_seen o stop) × IsReady enc t (code_seen ops)
  both-left o ops left is ready =
      both-ready enc t (op_seen o stop) (code_seen ops) (subst (IsReady enc t) (first_is o ops left is) ready)

  -- one more is made
  pub one-made : (o : SendOp) (ops left : List SendOp) (old new whole : Block) → left ≡ o ∷ ops
      → append old (rowed enc t (code_seen left)) ≡ whole → new ≡ append old (rowed enc t (op_seen o stop))
      → append new (rowed enc t (code_seen ops)) ≡ whole
  one-made o ops left old new whole is so_far made =
      ap (λ (b : Block). append b (rowed enc t (code_seen ops))) made
      ∙ append-assoc old (rowed enc t (op_seen o stop)) (rowed enc t (code_seen ops))
      ∙ ap (append old) (sym (ap (rowed enc t) (first_is o ops left is) ∙ rowed-append enc t (op_seen o stop) (code_seen ops)))
      ∙ so_far

  pub all-made : (left : List SendOp) (new whole : Block) → left ≡ [] → append new (rowed enc t (code_seen left)) ≡ whole → new ≡ whole
  all-made left new whole none made =
      sym (append-stop new) ∙ ap (λ (l : List SendOp). append new (rowed enc t (code_seen l))) (sym none) ∙ made

-- what is left from a place on is a member and others
first-left : {A : Type 0} (xs left rest : List A) (i : ℕ) (x : A) → left ≡ drop i xs → left ≡ x ∷ rest
    → (i < length xs) × (x ≡ get_or xs i x) × (rest ≡ drop (i + 1) xs)
first-left xs left rest i x from is =
    let lt : i < length xs = omega (arith, length-drop i xs, ap length from, ap length is) in
    let same : x ∷ rest ≡ get_or xs i x ∷ drop (i + 1) xs = sym is ∙ from ∙ drop_more xs i x lt in
    (lt, cc, cc)

-- the first that is left is in step with the member at its place
pub first-has : {A B : Type 0} (R : A → B → Type 0) (xs : List A) (ys left rest : List B) (n i : ℕ) (d : A) (y : B) → i ≡ n
    → left ≡ drop n ys → left ≡ y ∷ rest → InStep R xs ys
    → (i < length xs) × R (get_or xs i d) y
first-has R xs ys left rest n i d y same from is steps =
    let first = first-left ys left rest n y from is in (
      omega (arith, first.0, same, as-many R xs ys steps),
      subst (λ (j : ℕ). R (get_or xs j d) y) (sym same) (this-has R xs ys n d y first.0 first.1 steps),
    )

module _ {A B C : Type 0} (R : A → B → C → Type 0) where
  -- one member more in step, where the third list tells the place
  pub one-more : (xs : List A) (ys left rest : List B) (old new : List C) (i : ℕ) (d : A) (y : B) (z : C) → length xs ≡ length ys
      → i ≡ length old → left ≡ drop (length old) ys → left ≡ y ∷ rest
      → AllInStep R (take (length old) xs) (take (length old) ys) old → R (get_or xs i d) y z → new ≡ old ++ z ∷ []
      → (rest ≡ drop (length new) ys) × AllInStep R (take (length new) xs) (take (length new) ys) new
  one-more xs ys left rest old new i d y z many same from is so_far has made =
      let first = first-left ys left rest (length old) y from is in
      let more : length old + 1 ≡ length new = sym (ap length made ∙ length_push old z) in (
        first.2 ∙ ap (λ (n : ℕ). drop n ys) more,
        subst (λ (n : ℕ). AllInStep R (take n xs) (take n ys) new) more
            (more-have R xs ys old new (length old) d y z many first.0 first.1 so_far
            (subst (λ (n : ℕ). R (get_or xs n d) y z) same has) made),
      )

  pub no-more : (xs : List A) (ys left : List B) (zs : List C) → length xs ≡ length ys → left ≡ drop (length zs) ys → length left ≡ 0
      → AllInStep R (take (length zs) xs) (take (length zs) ys) zs → AllInStep R xs ys zs
  no-more xs ys left zs many from none so_far =
      all-have R xs ys zs (length zs) many (omega (arith, length-drop (length zs) ys, ap length from, none)) so_far
