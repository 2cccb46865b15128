-- Code without row operations stays without them, by induction on the code.
use Rattle.std.proofs.Common.{◌≡◌, ℕ, ◌+◌, List, [], Some, sym, subst}
use Rattle.mint.specs.Types.{Ty}
use Rattle.cast_stub.specs.declared.send.SendOp.{SendOp}
use Rattle.cast_stub.specs.declared.send.SendCode.{SendCode}
use Rattle.cast_stub.specs.Block.{Block, stop, ensure, ensure_row, align, chunk, each, switch, if_there, call, patch, Cases, no_default, default, case, code_seen}
use Rattle.cast_stub.specs.Append.{append}
use Rattle.cast_stub.specs.Subs.{sub_at}
use Rattle.cast_stub.specs.Framed.{IsFramed, lead_length, IsTail}
use Rattle.cast_stub.specs.Kept.{unensured, cases_unensured, ChangesOnlyEnsures}
use Rattle.cast_stub.specs.Rowless.{IsRowless, AreRowless, HasNoRow}
use Rattle.cast_stub.proofs.Followed.{mapped, append_rowless, through_rowless}
use Rattle.hoist.specs.Pass.{IsGiven}
use Rattle.cast_stub.proofs.Trees.{beside}

-- ensures are no row operations
mutual
  rowless : (b : Block) → (IsRowless b → IsRowless (unensured b)) × (IsRowless (unensured b) → IsRowless b)
  rowless (ensure n r) = rowless r
  rowless (ensure_row p u e r) = rowless r
  rowless (align a r) = rowless r
  rowless (chunk s ps r) = rowless r
  rowless (each p b r) = beside (rowless b) (rowless r)
  rowless (switch p cs r) = beside (cases_rowless cs) (rowless r)
  rowless (if_there p b r) = beside (rowless b) (rowless r)
  rowless (call k p r) = rowless r
  rowless (patch a s o r) = rowless r
  rowless _ = (λ h. h, λ h. h)

  cases_rowless : (cs : Cases) → (AreRowless cs → AreRowless (cases_unensured cs)) × (AreRowless (cases_unensured cs) → AreRowless cs)
  cases_rowless no_default = (λ h. h, λ h. h)
  cases_rowless (default b) = rowless b
  cases_rowless (case m b cs) = beside (rowless b) (cases_rowless cs)

-- ---- code between a lead and a patch

lead_rowless : (b : Block) (n : ℕ) → lead_length b ≡ Some n → IsRowless b
lead_rowless stop n e = tt
lead_rowless (chunk s ps b) n e = let m = mapped (λ k. s + k) (lead_length b) n e in lead_rowless b m.0 m.1
lead_rowless _ n e = absurd cc

tail_rowless : (b : Block) → IsTail b → IsRowless b
tail_rowless stop h = tt
tail_rowless (patch a s o stop) h = tt
tail_rowless _ h = absurd h

framed_rowless : (n : ℕ) (t : Ty) (b : Block) → IsFramed n t b → IsRowless b
framed_rowless n t b f =
    let body = through_rowless t f.3 [] f.1 f.6 in
    subst IsRowless (sym f.4)
    (append_rowless f.0 (append f.1 f.2) (lead_rowless f.0 n f.5) (append_rowless f.1 f.2 body (tail_rowless f.2 f.7)))

-- no codes
nothing_there : (k : ℕ) (b : Block) → sub_at [] k ≡ Some b → IsRowless b
nothing_there k b e = absurd cc

-- with ensures added to a given code
pub no_row : (t : Ty) (given code : SendCode) → IsGiven t given → ChangesOnlyEnsures given code → code.subs ≡ [] → HasNoRow code
no_row t given code is adds none =
    let own = framed_rowless is.1 t (code_seen given.ops) is.2 in
    record {
      ops = (rowless (code_seen code.ops)).1 (subst IsRowless (sym adds) ((rowless (code_seen given.ops)).0 own));
      subs = λ k b e. nothing_there k b (subst (λ (l : List (List SendOp)). sub_at l k ≡ Some b) none e);
    }
