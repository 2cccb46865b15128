-- Code without row operations gives no row as a block, by induction on the code and the depth of calls.
use Rattle.std.proofs.Common.{◌≡◌, ℕ, zero, suc, ℤ, List, [], ◌∷◌, ◌++◌, length, ◌+◌, ◌*◌, Option, Some, None, refl, Bool, true, false, if◌then◌else◌}
use Rattle.std.specs.Ordering.{int_eq}
use Rattle.mint.specs.Values.{Val, row, present, Vals, no_more, val, arm_in}
use Rattle.wire_def.specs.declared.head.Head.{Head}
use Rattle.cast_stub.specs.declared.send.SendCode.{SendCode}
use Rattle.cast_stub.specs.Parts.{on_some, at, elements_in, length_in}
use Rattle.cast_stub.specs.Puts.{filled}
use Rattle.cast_stub.specs.Block.{Block, stop, ensure, ensure_row, align, chunk, row_copy, row_swap, row_wide, each, switch, if_there, call, patch, Cases, no_default, default, case, code_seen}
use Rattle.cast_stub.specs.Steps.{Step, Room, Pad, Stored, Widened, Copied, Patched, Steps, both, is_width, Calls, over, if_present, steps, case_steps}
use Rattle.cast_stub.specs.Subs.{called, sub_at, sent_steps, deepest}
use Rattle.cast_stub.specs.Rowless.{IsRowless, AreRowless, HasNoRow, GiveNoRow}

-- steps that are there give no row
abbrev pub NoRow : Steps → Type 0
NoRow None = Unit {0}
NoRow (Some ss) = GiveNoRow ss

after : (a b : List Step) → GiveNoRow a → GiveNoRow b → GiveNoRow (a ++ b)
after [] b h k = k
after (Room n ∷ a) b h k = after a b h k
after (Pad x ∷ a) b h k = after a b h k
after (Stored os n ∷ a) b h k = after a b h k
after (Widened os n ∷ a) b h k = absurd h
after (Copied os ∷ a) b h k = absurd h
after (Patched x y z ∷ a) b h k = after a b h k

both_of : (x y : Steps) → NoRow x → NoRow y → NoRow (both x y)
both_of None y h k = tt
both_of (Some a) None h k = tt
both_of (Some a) (Some b) h k = after a b h k

of_some : {A : Type 0} (o : Option A) (f : A → Steps) → ((a : A) → NoRow (f a)) → NoRow (on_some o f)
of_some None f h = tt
of_some (Some a) f h = h a

of_over : (f : Val → Steps) → ((v : Val) → NoRow (f v)) → (vs : Vals) → NoRow (over f vs)
of_over f h no_more = tt
of_over f h (val v vs) = both_of (f v) (over f vs) (h v) (of_over f h vs)

of_present : (f : Val → Steps) → ((v : Val) → NoRow (f v)) → (v : Val) → NoRow (if_present f v)
of_present f h (present v) = h v
of_present f h _ = tt

of_if : (b : Bool) (x y : Steps) → NoRow x → NoRow y → NoRow (if b then x else y)
of_if true x y h k = h
of_if false x y h k = k

mutual
  rowless-steps : (c : Calls) (h : Head) → ((k : ℕ) (v : Val) → NoRow (c k v)) → (b : Block) → IsRowless b → (v : Val)
      → NoRow (steps c h b v)
  rowless-steps c h g stop r v = tt
  rowless-steps c h g (ensure n b) r v = both_of (Some (Room n ∷ [])) (steps c h b v) tt (rowless-steps c h g b r v)
  rowless-steps c h g (ensure_row p u e b) r v =
      both_of
      (on_some (on_some (at p v) length_in)
      (λ n. Some (Room (n * u + e) ∷ []))) (steps c h b v) (of_some (on_some (at p v) length_in) (λ n. Some (Room (n * u + e) ∷ [])) (λ n.
      tt)) (rowless-steps c h g b r v)
  rowless-steps c h g (align a b) r v = both_of (if is_width a then Some (Pad a ∷ []) else None) (steps c h b v)
      (of_if (is_width a) (Some (Pad a ∷ [])) None tt tt) (rowless-steps c h g b r v)
  rowless-steps c h g (chunk s ps b) r v =
      both_of
      (on_some (filled s ps h v) (λ o. Some (Stored o (length ps) ∷ []))) (steps c h b v) (of_some (filled s ps h v) (λ o.
      Some (Stored o (length ps) ∷ [])) (λ o. tt)) (rowless-steps c h g b r v)
  rowless-steps c h g (row_copy p b) r v = absurd r
  rowless-steps c h g (row_swap p b) r v = absurd r
  rowless-steps c h g (row_wide p o b) r v = absurd r
  rowless-steps c h g (each p a b) r v = both_of (on_some (on_some (at p v) elements_in) (over (steps c h a))) (steps c h b v)
      (of_some (on_some (at p v) elements_in) (over (steps c h a)) (of_over (steps c h a) (rowless-steps c h g a r.0)))
      (rowless-steps c h g b r.1 v)
  rowless-steps c h g (switch p cs b) r v =
      both_of
      (on_some (on_some (at p v) arm_in)
      (λ a. case_steps c h cs a.0 a.1)) (steps c h b v) (of_some (on_some (at p v) arm_in) (λ a. case_steps c h cs a.0 a.1) (λ a.
      rowless-cases c h g cs r.0 a.0 a.1)) (rowless-steps c h g b r.1 v)
  rowless-steps c h g (if_there p a b) r v = both_of (on_some (at p v) (if_present (steps c h a))) (steps c h b v)
      (of_some (at p v) (if_present (steps c h a)) (of_present (steps c h a) (rowless-steps c h g a r.0))) (rowless-steps c h g b r.1 v)
  rowless-steps c h g (call k p b) r v = both_of (on_some (at p v) (c k)) (steps c h b v) (of_some (at p v) (c k) (g k))
      (rowless-steps c h g b r v)
  rowless-steps c h g (patch a s o b) r v = both_of (Some (Patched a s o ∷ [])) (steps c h b v) tt (rowless-steps c h g b r v)

  rowless-cases : (c : Calls) (h : Head) → ((k : ℕ) (v : Val) → NoRow (c k v)) → (cs : Cases) → AreRowless cs → (n : ℤ) (v : Val)
      → NoRow (case_steps c h cs n v)
  rowless-cases c h g no_default r n v = tt
  rowless-cases c h g (default b) r n v = rowless-steps c h g b r v
  rowless-cases c h g (case m b cs) r n v = of_if (int_eq n m) (steps c h b v) (case_steps c h cs n v) (rowless-steps c h g b r.0 v)
      (rowless-cases c h g cs r.1 n v)

of_sub : (o : Option Block) (f : Block → Steps) → ((b : Block) → o ≡ Some b → NoRow (f b)) → NoRow (on_some o f)
of_sub None f h = tt
of_sub (Some b) f h = h b refl

rowless-called : (subs : ℕ → Option Block) (h : Head) → ((k : ℕ) (b : Block) → subs k ≡ Some b → IsRowless b) → (n k : ℕ) (v : Val)
    → NoRow (called subs h n k v)
rowless-called subs h r zero k v = tt
rowless-called subs h r (suc n) k v =
    of_sub (subs k)
    (λ b. steps (called subs h n) h b v) (λ b e. rowless-steps (called subs h n) h (rowless-called subs h r n) b (r k b e) v)

pub rowless-sent : (code : SendCode) (h : Head) (v : Val) → HasNoRow code → NoRow (sent_steps code h v)
rowless-sent code h v r = rowless-steps (called (sub_at code.subs) h deepest) h (rowless-called (sub_at code.subs) h r.subs deepest)
    (code_seen code.ops) r.ops v
