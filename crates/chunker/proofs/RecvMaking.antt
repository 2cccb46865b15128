-- What one more operation makes of the receive code that is made so far.
use Rattle.std.proofs.Common.{◌≡◌, ℕ, zero, suc, ◌≢◌, List, [], ◌∷◌, length, refl, sym, ap, ◌∙◌, subst}
use Rattle.cast_stub.specs.declared.recv.Get.{Get}
use Rattle.cast_stub.specs.declared.recv.RecvOp.{RecvOp}
use Rattle.cast_stub.specs.declared.recv.RecvOp.TheVariants as op
use Rattle.cast_stub.specs.RecvAppend.{append}
use Rattle.cast_stub.specs.RecvBlock.{Recv, Piece, op_seen, code_seen}
use Rattle.cast_stub.proofs.Directions.{receives}
use Rattle.cast_stub.proofs.RecvPieces.{seen-Need, seen-Take}
use Rattle.cast_stub.proofs.Trees.{GoesInto}
use Rattle.chunker.specs.declared.phase.Phase.{Phase}
use Rattle.chunker.specs.declared.recv_run.RecvRun.{RecvRun}
use Rattle.chunker.specs.Phases.{IsPhase}
use Rattle.chunker.specs.RecvChunked.{tested, taken, closed, chunked, cases_chunked}
use Rattle.chunker.specs.RecvMakes.{Places, Takes}

pub tested_some : (m : ℕ) (r : Recv) → m ≢ 0 → tested m r ≡ op_seen (op.Need m) r
tested_some zero r e = absurd (e refl)
tested_some (suc m) r e = sym (ap (λ (x : Piece). x r) (seen-Need (suc m)))

pub taken_some : (n : ℕ) (gs : List Get) (r : Recv) → (n ≡ 0 → length gs ≡ 0 → ⊥) → taken n gs r ≡ op_seen (op.Take n gs) r
taken_some n (g ∷ gs) r e = sym (ap (λ (x : Piece). x r) (seen-Take n (g ∷ gs)))
taken_some zero [] r e = absurd (e refl refl)
taken_some (suc n) [] r e = sym (ap (λ (x : Piece). x r) (seen-Take (suc n) []))

pub goes : (ph : Phase) → GoesInto receives (chunked ph 0 [] 0) (cases_chunked ph)
goes ph = record { none = refl; last = λ b. refl; more = λ n b cs. refl }

-- an operation that is placed, if that is what the piece becomes
pub other_takes : (o : RecvOp) (end : Phase) (piece : Piece) (old new : RecvRun) → Places o end old new → IsPhase end
    → ((r : Recv) → closed old.size old.gets old.seen (op_seen o (chunked end 0 [] 0 r))
    ≡ chunked old.phase old.size old.gets old.seen (piece r))
    → Takes piece old new
other_takes o end piece old new places is f = record {
  rest = λ r.
      ap (λ (x : Phase). append (code_seen new.out) (chunked x new.size new.gets new.seen r)) places.phase
      ∙ ap (λ (x : ℕ). append (code_seen new.out) (chunked end x new.gets new.seen r)) places.shut.size
      ∙ ap (λ (x : List Get). append (code_seen new.out) (chunked end 0 x new.seen r)) places.shut.gets
      ∙ ap (λ (x : ℕ). append (code_seen new.out) (chunked end 0 [] x r)) places.shut.seen
      ∙ places.made (chunked end 0 [] 0 r)
      ∙ ap (append (code_seen old.out)) (f r);
  phase = subst IsPhase (sym places.phase) is;
}
