-- A head as one chunk appends its octets.
use Rattle.std.proofs.Common.{◌≡◌, ℕ, zero, suc, ◌+◌, ◌*◌, ◌<◌, List, [], ◌∷◌, ◌++◌, length, Some, refl, sym, subst, arith, length-append}
use Rattle.std.specs.Prelude.{Result, Ok, Err, IfOk}
use Rattle.kit_base.specs.declared.errors.NoMemory.{NoMemory}
use Rattle.kit_base.specs.Bytes.{be}
use Rattle.mint.specs.Values.{Val}
use Rattle.wire_def.specs.declared.head.Head.{Head}
use Rattle.wire_def.specs.declared.head.Order.TheVariants.{Big}
use Rattle.cast_stub.specs.declared.put.HeadField.TheVariants.{Id}
use Rattle.cast_stub.specs.declared.put.Put.TheVariants as put
use Rattle.cast_stub.specs.declared.send.SendCode.{SendCode}
use Rattle.cast_stub.specs.Parts.{on_some}
use Rattle.cast_stub.specs.Puts.{filled}
use Rattle.cast_stub.specs.Block.{Block, stop, chunk}
use Rattle.cast_stub.specs.Steps.{Calls, steps}
use Rattle.cast_stub.specs.Subs.{calls_of, deepest}
use Rattle.cast_stub.specs.Meaning.{wrote}
use Rattle.cast_stub.proofs.Pieces.{seen-Chunk}
use Rattle.cast_stub.proofs.Putting.{word_of, placed_whole, full_whole}
use Rattle.stub_lower.specs.Leads.{Leads, AreChunks}
use Rattle.raw_buf.specs.Words.{words}
use Rattle.back_xdr.specs.Coded.{IsCoded}
use Rattle.back_xdr.specs.Leads.{reply_lead}

length-words : (ns : List ℕ) → length (words ns) ≡ 4 * length ns
length-words [] = refl
length-words (n ∷ ns) = let l = length-words ns in omega (arith, l, length-append (be 4 n) (words ns))

-- four octets and others after them
filled_by : (h : Head) (v : Val) (os : List ℕ) → h.id < 4294967296
    → filled (suc (suc (suc (suc (length os))))) (put.Head 0 Id 4 Big ∷ put.Const 4 os ∷ []) h v ≡ Some (be 4 h.id ++ os)
filled_by h v os fits = rw (word_of h.id fits, placed_whole os, full_whole os) refl

chunk_leads : (c : Calls) (h : Head) (v : Val) (p s : ℕ) (os : List ℕ) → h.id < 4294967296 → s ≡ suc (suc (suc (suc (length os))))
    → on_some (steps c h (chunk s (put.Head 0 Id 4 Big ∷ put.Const 4 os ∷ []) stop) v) (wrote p []) ≡ Some (be 4 h.id ++ os)
chunk_leads c h v p s os fits long = rw (long, filled_by h v os fits) refl

-- such a chunk is the head
pub coded_leads : (ns : List ℕ) (code : SendCode) → IsCoded ns code → Leads (λ h. words (h.id ∷ ns)) code
coded_leads ns code is h v p fits =
    let long : 4 + 4 * length ns ≡ suc (suc (suc (suc (length (words ns))))) = omega (arith, length-words ns) in
    subst (λ (b : Block). on_some (steps (calls_of code.subs h deepest) h b v) (wrote p []) ≡ Some (words (h.id ∷ ns))) (sym is)
    (chunk_leads (calls_of code.subs h deepest) h v p (4 + 4 * length ns) (words ns) fits.id long)

pub coded_chunks : (ns : List ℕ) (code : SendCode) → IsCoded ns code → AreChunks code
coded_chunks ns code is = (2, rw is refl, omega arith)

pub ruleset coding = (seen-Chunk)

pub leads_made : (r : Result SendCode NoMemory) (ns : List ℕ) → IfOk r (λ code. IsCoded ns code)
    → IfOk r (λ code. Leads (λ h. words (h.id ∷ ns)) code)
leads_made (Ok code) ns is = coded_leads ns code is
leads_made (Err e) ns is = tt

pub chunks_made : (r : Result SendCode NoMemory) (ns : List ℕ) → IfOk r (λ code. IsCoded ns code) → IfOk r AreChunks
chunks_made (Ok code) ns is = coded_chunks ns code is
chunks_made (Err e) ns is = tt

-- ---- replies

-- where nothing is raised, the head has no arm
pub bare_leads : (arms arm : ℕ) (r : Result SendCode NoMemory) → arms ≡ 0
    → IfOk r (λ code. Leads (λ h. words (h.id ∷ 1 ∷ 0 ∷ 0 ∷ 0 ∷ 0 ∷ [])) code) → IfOk r (λ code. Leads (λ h. reply_lead arms arm h.id) code)
bare_leads zero arm r none leads = leads
bare_leads (suc n) arm r none leads = absurd cc

-- and where exceptions are raised, it has one
pub arm_leads : (arms arm : ℕ) (r : Result SendCode NoMemory) → (arms ≡ 0 → ⊥)
    → IfOk r (λ code. Leads (λ h. words (h.id ∷ 1 ∷ 0 ∷ 0 ∷ 0 ∷ 0 ∷ arm ∷ [])) code)
    → IfOk r (λ code. Leads (λ h. reply_lead arms arm h.id) code)
arm_leads zero arm r some leads = absurd (some refl)
arm_leads (suc n) arm r some leads = leads
