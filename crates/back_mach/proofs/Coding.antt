-- A head as one chunk appends its octets.
use Rattle.std.proofs.Common.{◌≡◌, ℕ, zero, suc, ◌<◌, pos, Bool, true, false, List, [], ◌∷◌, Option, Some, refl, sym, ap, subst, arith}
use Rattle.std.specs.Prelude.{Result, Ok, Err, IfOk, nat_lt}
use Rattle.std.proofs.lemmas.Bool.{lt-ltb}
use Rattle.kit_base.specs.declared.errors.NoMemory.{NoMemory}
use Rattle.mint.specs.Values.{Val}
use Rattle.wire_def.specs.declared.head.Head.{Head}
use Rattle.wire_def.specs.declared.head.Order.TheVariants.{Little}
use Rattle.cast_stub.specs.declared.put.Put.{Put}
use Rattle.cast_stub.specs.declared.put.Put.TheVariants as put
use Rattle.cast_stub.specs.declared.send.SendCode.{SendCode}
use Rattle.cast_stub.specs.Parts.{on_some}
use Rattle.cast_stub.specs.Puts.{IsHead, filled}
use Rattle.cast_stub.specs.Puts as puts
use Rattle.cast_stub.specs.Block.{Block, stop, chunk}
use Rattle.cast_stub.specs.Steps.{Calls, steps}
use Rattle.cast_stub.specs.Subs.{calls_of, deepest}
use Rattle.cast_stub.specs.Meaning.{wrote}
use Rattle.cast_stub.proofs.Pieces.{seen-Chunk, seen-Patch}
use Rattle.cast_stub.proofs.Putting.{if_so}
use Rattle.stub_lower.specs.Leads.{Leads, AreChunks}
use Rattle.back_mach.specs.declared.routines.Routine.{Routine}
use Rattle.back_mach.specs.Reply.{return_word}
use Rattle.back_mach.specs.Words.{word, words}
use Rattle.back_mach.specs.Leads.{lead, reply_form, reply_lead_length}
use Rattle.back_mach.specs.Coded.{IsChunk, request_puts, last_words, reply_puts}

pub ruleset coding = (seen-Chunk)

pub ruleset patching = (seen-Patch)

-- the word of a number that it can hold
word_of : (n : ℕ) → n < 4294967296 → puts.word 4 Little (pos n) ≡ Some (word n)
word_of n h = ap (λ (o : Option ℕ). on_some o (λ (m : ℕ). Some (word m))) (if_so (nat_lt n 4294967296) n (lt-ltb n 4294967296 h))

asking : (id : ℕ) (wants : Bool) (h : Head) (v : Val) → IsHead h
    → filled 24 (request_puts (record { id = id; wants = wants })) h v ≡ Some (lead (record { id = id; wants = wants }) h)
asking id true h v fits = rw (word_of h.remote fits.remote, word_of h.local fits.local) refl
asking id false h v fits = rw (word_of h.remote fits.remote) refl

answering : (arms arm : ℕ) (h : Head) (v : Val) → IsHead h
    → filled (reply_lead_length arms) (reply_puts arms arm) h v ≡ Some (reply_form arms arm h)
answering zero arm h v fits = rw (word_of h.remote fits.remote, word_of h.id fits.id) refl
answering (suc n) arm h v fits = rw (word_of h.remote fits.remote, word_of h.id fits.id) refl

chunk_leads : (c : Calls) (h : Head) (v : Val) (p s : ℕ) (ps : List Put) (os : List ℕ) → filled s ps h v ≡ Some os
    → on_some (steps c h (chunk s ps stop) v) (wrote p []) ≡ Some os
chunk_leads c h v p s ps os is = rw is refl

-- such a chunk is the head
coded_leads : (s : ℕ) (ps : List Put) (octets : Head → List ℕ) (code : SendCode)
    → ((h : Head) (v : Val) → IsHead h → filled s ps h v ≡ Some (octets h)) → IsChunk s ps code → Leads octets code
coded_leads s ps octets code fills is h v p fits =
    subst (λ (b : Block). on_some (steps (calls_of code.subs h deepest) h b v) (wrote p []) ≡ Some (octets h)) (sym is)
    (chunk_leads (calls_of code.subs h deepest) h v p s ps (octets h) (fills h v fits))

request_chunks : (id : ℕ) (wants : Bool) (code : SendCode) → IsChunk 24 (request_puts (record { id = id; wants = wants })) code
    → AreChunks code
request_chunks id true code is = (4, rw is refl, omega arith)
request_chunks id false code is = (3, rw is refl, omega arith)

reply_chunks : (arms arm : ℕ) (code : SendCode) → IsChunk (reply_lead_length arms) (reply_puts arms arm) code → AreChunks code
reply_chunks arms arm code is = (5, rw is refl, omega arith)

-- ---- of what was made

pub requests_lead : (d : Result SendCode NoMemory) (r : Routine) → IfOk d (λ code. IsChunk 24 (request_puts r) code)
    → IfOk d (λ code. Leads (λ h. lead r h) code)
requests_lead (Ok code) r is = coded_leads 24 (request_puts r) (lead r) code (λ h v fits. asking r.id r.wants h v fits) is
requests_lead (Err e) r is = tt

pub requests_chunk : (d : Result SendCode NoMemory) (r : Routine) → IfOk d (λ code. IsChunk 24 (request_puts r) code) → IfOk d AreChunks
requests_chunk (Ok code) r is = request_chunks r.id r.wants code is
requests_chunk (Err e) r is = tt

pub replies_lead : (d : Result SendCode NoMemory) (arms arm : ℕ)
    → IfOk d (λ code. IsChunk (reply_lead_length arms) (reply_puts arms arm) code)
    → IfOk d (λ code. Leads (λ h. reply_form arms arm h) code)
replies_lead (Ok code) arms arm is =
    coded_leads (reply_lead_length arms) (reply_puts arms arm) (reply_form arms arm) code (answering arms arm) is
replies_lead (Err e) arms arm is = tt

pub replies_chunk : (d : Result SendCode NoMemory) (arms arm : ℕ)
    → IfOk d (λ code. IsChunk (reply_lead_length arms) (reply_puts arms arm) code) → IfOk d AreChunks
replies_chunk (Ok code) arms arm is = reply_chunks arms arm code is
replies_chunk (Err e) arms arm is = tt

-- the words with an arm, where exceptions are raised
pub last_made : (d : Result Put NoMemory) (arms arm : ℕ) → (arms ≡ 0 → ⊥)
    → IfOk d (λ p. p ≡ put.Const 24 (words (return_word ∷ 0 ∷ return_word ∷ arm ∷ [])))
    → IfOk d (λ p. p ≡ put.Const 24 (words (last_words arms arm)))
last_made d zero arm some h = absurd (some refl)
last_made d (suc n) arm some h = h
