-- Bodies in step with arms, as a switch; blocks that receive and are ready, by induction on the arms and the block.
use Rattle.wire_def.specs.declared.encoding.Encoding.{Encoding}
use Rattle.std.proofs.Common.{◌≡◌, ℕ, ℤ, List, [], ◌∷◌, Option, Some, None, ap, ◌∙◌}
use Rattle.mint.specs.Types.{Ty, at, arms_at, others_at}
use Rattle.cast_stub.specs.declared.recv.RecvOp.{RecvOp}
use Rattle.cast_stub.specs.RecvBlock.{Recv, finish, need, skip_any, skip_zero, pass, desc, each, switch, if_there, case, code_seen, cases_seen}
use Rattle.cast_stub.specs.RecvAppend.{append}
use Rattle.copy_inline.specs.RecvReady.{IsReady, CasesReady}
use Rattle.copy_inline.specs.RecvRowBodies.{AreRowed, ArmsReady}
use Rattle.copy_inline.specs.RecvRowed.{rowed, cases_rowed}

module _ (enc : Encoding) (us : List Ty) where
  -- bodies that are ready as a switch are ready in step, and so is the last
  pub arms-ready : (arms : List (ℤ × ℕ)) (other : Option ℕ) (cases : List (ℤ × List RecvOp)) (last : Option (List RecvOp))
      → CasesReady enc (arms_at us arms other) (cases_seen cases last)
      → ArmsReady enc us arms cases × CasesReady enc (others_at us other) (cases_seen [] last)
  arms-ready [] other [] last h = (tt, h)
  arms-ready [] None (c ∷ cases) last h = absurd h
  arms-ready [] (Some i) (c ∷ cases) last h = absurd h
  arms-ready (a ∷ arms) other [] None h = absurd h
  arms-ready (a ∷ arms) other [] (Some b) h = absurd h
  arms-ready (a ∷ arms) other (c ∷ cases) last h =
      let k = arms-ready arms other cases last h.2 in
      ((h.1, k.0), k.1)

  -- so they are as a switch
  pub cases-rowed : (arms : List (ℤ × ℕ)) (other : Option ℕ) (cases bodies : List (ℤ × List RecvOp)) (last rest : Option (List RecvOp))
      → AreRowed enc us arms cases bodies → cases_seen [] rest ≡ cases_rowed enc (others_at us other) (cases_seen [] last)
      → cases_seen bodies rest ≡ cases_rowed enc (arms_at us arms other) (cases_seen cases last)
  cases-rowed [] other [] [] last rest h e = e
  cases-rowed [] other [] (b ∷ bodies) last rest h e = absurd h
  cases-rowed [] other (c ∷ cases) bodies last rest h e = absurd h
  cases-rowed (a ∷ arms) other [] bodies last rest h e = absurd h
  cases-rowed (a ∷ arms) other (c ∷ cases) [] last rest h e = absurd h
  cases-rowed (a ∷ arms) other (c ∷ cases) (b ∷ bodies) last rest h e =
      let n : b.0 ≡ c.0 = (h.0).0 in
      let body : code_seen b.1 ≡ rowed enc (at us a.1) (code_seen c.1) = (h.0).1 in
      ap (λ (n : ℤ). case n (code_seen b.1) (cases_seen bodies rest)) n
      ∙ ap (λ (x : Recv). case c.0 x (cases_seen bodies rest)) body
      ∙ ap (case c.0 (rowed enc (at us a.1) (code_seen c.1))) (cases-rowed arms other cases bodies last rest h.1 e)

-- a block that is ready with what follows it is ready, and so is what follows
pub both-ready : (enc : Encoding) (t : Ty) (a b : Recv) → IsReady enc t (append a b) → IsReady enc t a × IsReady enc t b
both-ready enc t finish b h = (tt, h)
both-ready enc t (need n r) b h = both-ready enc t r b h
both-ready enc t (skip_any a r) b h = both-ready enc t r b h
both-ready enc t (skip_zero a r) b h = both-ready enc t r b h
both-ready enc t (pass n gs r) b h = both-ready enc t r b h
both-ready enc t (desc p name size mul r) b h = both-ready enc t r b h
both-ready enc t (each p c r) b h = let k = both-ready enc t r b h.1 in ((h.0, k.0), k.1)
both-ready enc t (if_there p c r) b h = let k = both-ready enc t r b h.1 in ((h.0, k.0), k.1)
both-ready enc t (switch p cs r) b h = let k = both-ready enc t r b h.1 in ((h.0, k.0), k.1)
both-ready enc t _ b h = absurd h
