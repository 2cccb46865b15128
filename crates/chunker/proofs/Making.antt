-- What one more operation makes of the code that is made so far.
use Rattle.std.proofs.Common.{◌≡◌, ℕ, ℤ, ◌≢◌, List, Option, [], ◌∷◌, length, OnOk, Ok, Err, Result, refl, sym, ap, ◌∙◌, subst}
use Rattle.cast_stub.specs.declared.put.Put.{Put}
use Rattle.cast_stub.specs.declared.send.SendOp.{SendOp}
use Rattle.cast_stub.specs.declared.send.SendOp.TheVariants as op
use Rattle.cast_stub.specs.Append.{append}
use Rattle.cast_stub.specs.Block.{Block, Cases, Piece, switch, op_seen, code_seen, cases_seen}
use Rattle.cast_stub.proofs.Directions.{sends}
use Rattle.cast_stub.proofs.Pieces.{seen-Chunk, seen-Switch}
use Rattle.cast_stub.proofs.Trees.{GoesInto}
use Rattle.chunker.specs.declared.phase.Phase.{Phase}
use Rattle.chunker.specs.declared.run.Run.{Run}
use Rattle.chunker.specs.Chunked.{chunk_of, closed, chunked, cases_chunked}
use Rattle.chunker.specs.Left.{switched}
use Rattle.chunker.specs.Makes.{under, Places, Takes}
use Rattle.chunker.specs.Phases.{IsPhase}

pub chunk_some : (n : ℕ) (ps : List Put) (r : Block) → length ps ≢ 0 → chunk_of n ps r ≡ op_seen (op.Chunk n ps) r
chunk_some n [] r e = absurd (e refl)
chunk_some n (p ∷ ps) r e = sym (ap (λ (x : Piece). x r) (seen-Chunk n (p ∷ ps)))

pub goes : (ph : Phase) → GoesInto sends (chunked ph 0 []) (cases_chunked ph)
goes ph = record { none = refl; last = λ b. refl; more = λ n b cs. refl }

-- an operation that is placed, if that is what the piece becomes
pub other_takes : (o : SendOp) (end : Phase) (piece : Piece) (old new : Run) → Places o end old new → IsPhase end
    → ((r : Block) → closed old.size old.puts (op_seen o (chunked end 0 [] r)) ≡ chunked old.phase old.size old.puts (piece r))
    → Takes piece old new
other_takes o end piece old new places is f = record {
  rest = λ r.
      ap (λ (x : Phase). append (code_seen new.out) (chunked x new.size new.puts r)) places.phase
      ∙ ap (λ (x : ℕ). append (code_seen new.out) (chunked end x new.puts r)) places.shut.size
      ∙ ap (λ (x : List Put). append (code_seen new.out) (chunked end 0 x r)) places.shut.puts
      ∙ places.made (chunked end 0 [] r)
      ∙ ap (append (code_seen old.out)) (f r);
  phase = subst IsPhase (sym places.phase) is;
}

abbrev piece : Piece → Piece
piece p = p

-- a switch, by what its bodies are
pub switch_seen : (s : SendOp) (p : List ℕ) (cases : List (ℤ × List SendOp)) (last : Option (List SendOp)) (x : Cases)
    → s ≡ op.Switch p cases last → cases_seen cases last ≡ x
    → op_seen s ≡ switch p x
switch_seen s p cases last x is bodies =
    ap op_seen is ∙ seen-Switch p cases last ∙ ap (λ (y : Cases). piece (switch p y)) bodies

-- a switch whose bodies are made, where the operations before it are put
pub switch_put : (ph : Phase) (n : ℕ) (ps : List Put) (o s : SendOp) (p : List ℕ) (cases : List (ℤ × List SendOp))
    (last : Option (List SendOp)) (end : Phase) → o ≡ op.Switch p cases last
    → op_seen s ≡ switch p (cases_chunked ph (cases_seen cases last)) → end ≡ switched ph (cases_seen cases last) → (r : Block)
    → closed n ps (op_seen s (chunked end 0 [] r)) ≡ chunked ph n ps (op_seen o r)
switch_put ph n ps o s p cases last end is made far r =
    ap (λ (x : Piece). closed n ps (x (chunked end 0 [] r))) made
    ∙ ap (λ (x : Phase). closed n ps (switch p (cases_chunked ph (cases_seen cases last)) (chunked x 0 [] r))) far
    ∙ sym (ap (λ (x : Piece). chunked ph n ps (x r)) (ap op_seen is ∙ seen-Switch p cases last))

-- an operation that is taken from what is left
pub op_taken : (old new : Run) (ops rest : List SendOp) (o : SendOp) (all : Block) → ops ≡ o ∷ rest → Takes (op_seen o) old new
    → under old (code_seen ops) ≡ all
    → under new (code_seen rest) ≡ all
op_taken old new ops rest o all is takes so_far =
    takes.rest (code_seen rest) ∙ ap (λ (l : List SendOp). under old (code_seen l)) (sym is) ∙ so_far

pub if_ok : {A E P Q : Type 0} (x : Result A E) → OnOk x P → (P → Q) → OnOk x Q
if_ok (Ok a) h f = f h
if_ok (Err e) h f = tt
