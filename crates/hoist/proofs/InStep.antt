-- Bodies in step with arms, as a switch; blocks that are taken, by induction on the arms and the block.
use Rattle.wire_def.specs.declared.encoding.Encoding.{Encoding}
use Rattle.std.proofs.Common.{rules, ◌≡◌, ℕ, zero, suc, ◌+◌, ◌<◌, ◌≤◌, ℤ, List, [], ◌∷◌, ◌++◌, length, get_or, Option, Some, None, sym, ap, ◌∙◌, subst, arith}
use Rattle.std.proofs.Math.ListN.{take, drop}
use Rattle.std.proofs.lemmas.List.{length-append, length-drop, drop_more}
use Rattle.mint.specs.Types.{Ty, at, arms_at, others_at, ArmsBelow}
use Rattle.cast_stub.specs.declared.send.SendOp.{SendOp}
use Rattle.cast_stub.specs.Block.{Block, stop, align, chunk, each, switch, if_there, patch, case, code_seen, cases_seen}
use Rattle.cast_stub.specs.Append.{append}
use Rattle.cast_stub.specs.InStep.{AllInStep}
use Rattle.cast_stub.proofs.InStep.{more-have}
use Rattle.hoist.specs.Hoisted.{closed, hoisted, cases_hoisted, IsTaken, CasesTaken}
use Rattle.hoist.specs.Seen.{span_roles, AreHoisted, ArmsTaken}

-- each arm's node is below
pub arm-below : (k : ℕ) (arms : List (ℤ × ℕ)) (i : ℕ) (d : ℤ × ℕ) → i < length arms → ArmsBelow k arms → (get_or arms i d).1 < k
arm-below k [] i d lt h = absurd (omega (arith, lt))
arm-below k (a ∷ arms) zero d lt h = h.0
arm-below k (a ∷ arms) (suc i) d lt h = arm-below k arms i d (omega (arith, lt)) h.1

-- what is left of a list begins with the member at its place
pub next-left : {A : Type 0} (xs left : List A) (i n : ℕ) (x : A) → i ≡ n → drop n xs ≡ x ∷ left
    → (i < length xs) × (x ≡ get_or xs i x) × (drop (i + 1) xs ≡ left)
next-left xs left i n x here e =
    let lt : i < length xs = omega (arith, ap length e, length-drop n xs, here) in
    let is : get_or xs i x ∷ drop (i + 1) xs ≡ x ∷ left =
    sym (drop_more xs i x lt) ∙ ap (λ (k : ℕ). drop k xs) here ∙ e in
    (lt, search (rules, is), search (rules, is))

-- where nothing is left, all were taken
pub none-left : {A : Type 0} (xs : List A) (n : ℕ) → drop n xs ≡ [] → length xs ≤ n
none-left xs n e = omega (arith, ap length e, length-drop n xs)

-- one more in step, where the lists are taken to the length of the third
pub longer-have : {A B C : Type 0} (R : A → B → C → Type 0) (xs : List A) (ys left : List B) (zs new : List C)
    (i : ℕ) (d : A) (y : B) (z : C) → length xs ≡ length ys → i ≡ length zs → drop (length zs) ys ≡ y ∷ left
    → AllInStep R (take (length zs) xs) (take (length zs) ys) zs → R (get_or xs i d) y z → new ≡ zs ++ z ∷ []
    → (drop (length new) ys ≡ left) × AllInStep R (take (length new) xs) (take (length new) ys) new
longer-have {A} {B} {C} R xs ys left zs new i d y z many here e h k made =
    let next = next-left ys left i (length zs) y here e in
    let grown : i + 1 ≡ length new = omega (arith, here, ap length made, length-append zs (z ∷ [])) in (
      ap (λ (n : ℕ). drop n ys) (sym grown) ∙ next.2,
      subst (λ (n : ℕ). AllInStep R (take n xs) (take n ys) new) grown
          (more-have R xs ys zs new i d y z many next.0 next.1
          (subst (λ (n : ℕ). AllInStep R (take n xs) (take n ys) zs) (sym here) h) k made),
    )

module _ (enc : Encoding) (us : List Ty) where
  -- bodies that are taken as a switch are taken in step, and so is the last
  pub arms-taken : (arms : List (ℤ × ℕ)) (other : Option ℕ) (cases : List (ℤ × List SendOp)) (last : Option (List SendOp))
      → CasesTaken (span_roles enc) (arms_at us arms other) (cases_seen cases last)
      → ArmsTaken enc us arms cases × CasesTaken (span_roles enc) (others_at us other) (cases_seen [] last)
  arms-taken [] other [] last h = (tt, h)
  arms-taken [] None (c ∷ cases) last h = absurd h
  arms-taken [] (Some i) (c ∷ cases) last h = absurd h
  arms-taken (a ∷ arms) other [] None h = absurd h
  arms-taken (a ∷ arms) other [] (Some b) h = absurd h
  arms-taken (a ∷ arms) other (c ∷ cases) last h =
      let k = arms-taken arms other cases last h.2 in
      ((h.1, k.0), k.1)

  -- so they are hoisted as a switch
  pub cases-hoisted : (arms : List (ℤ × ℕ)) (other : Option ℕ) (cases bodies : List (ℤ × List SendOp)) (last rest : Option (List SendOp))
      → AreHoisted enc us arms cases bodies → cases_seen [] rest ≡ cases_hoisted (span_roles enc) (others_at us other) (cases_seen [] last)
      → cases_seen bodies rest ≡ cases_hoisted (span_roles enc) (arms_at us arms other) (cases_seen cases last)
  cases-hoisted [] other [] [] last rest h e = e
  cases-hoisted [] other [] (b ∷ bodies) last rest h e = absurd h
  cases-hoisted [] other (c ∷ cases) bodies last rest h e = absurd h
  cases-hoisted (a ∷ arms) other [] bodies last rest h e = absurd h
  cases-hoisted (a ∷ arms) other (c ∷ cases) [] last rest h e = absurd h
  cases-hoisted (a ∷ arms) other (c ∷ cases) (b ∷ bodies) last rest h e =
      let n : b.0 ≡ c.0 = (h.0).0 in
      let body : code_seen b.1 ≡ closed (hoisted (span_roles enc) (at us a.1) (code_seen c.1)) = (h.0).1 in
      ap (λ (n : ℤ). case n (code_seen b.1) (cases_seen bodies rest)) n
      ∙ ap (λ (x : Block). case c.0 x (cases_seen bodies rest)) body
      ∙ ap (case c.0 (closed (hoisted (span_roles enc) (at us a.1) (code_seen c.1))))
      (cases-hoisted arms other cases bodies last rest h.1 e)

-- a block that is taken with what follows it is taken, and so is what follows
pub both-taken : (enc : Encoding) (t : Ty) (a b : Block) → IsTaken (span_roles enc) t (append a b)
    → IsTaken (span_roles enc) t a × IsTaken (span_roles enc) t b
both-taken enc t stop b h = (tt, h)
both-taken enc t (align a r) b h = both-taken enc t r b h
both-taken enc t (chunk s ps r) b h = both-taken enc t r b h
both-taken enc t (patch a s o r) b h = both-taken enc t r b h
both-taken enc t (each p c r) b h = let k = both-taken enc t r b h.2 in ((h.0, h.1, k.0), k.1)
both-taken enc t (if_there p c r) b h = let k = both-taken enc t r b h.1 in ((h.0, k.0), k.1)
both-taken enc t (switch p cs r) b h = let k = both-taken enc t r b h.1 in ((h.0, k.0), k.1)
both-taken enc t _ b h = absurd h
