-- A head as chunks appends its octets.
use Rattle.std.proofs.Common.{◌≡◌, ℕ, ◌+◌, ◌-◌, ◌≤◌, ◌<◌, pos, List, [], ◌∷◌, ◌++◌, length, take, drop, Some, refl, sym, ap, subst, ◌∙◌, arith}
use Rattle.std.specs.Prelude.{Option, Result, Ok, Err, IfOk, nat_lt}
use Rattle.std.proofs.lemmas.Bool.{lt-ltb}
use Rattle.std.proofs.lemmas.List.{length-take, length-drop}
use Rattle.kit_base.specs.declared.errors.NoMemory.{NoMemory}
use Rattle.mint.specs.Values.{Val}
use Rattle.wire_def.specs.declared.head.Head.{Head}
use Rattle.wire_def.specs.declared.head.Order.{Order}
use Rattle.wire_def.specs.declared.head.Order.TheVariants.{Big, Little}
use Rattle.wire_def.specs.Orders.{in_order}
use Rattle.cast_stub.specs.declared.put.HeadField.TheVariants.{Id}
use Rattle.cast_stub.specs.declared.put.Put.TheVariants as put
use Rattle.cast_stub.specs.declared.send.SendCode.{SendCode}
use Rattle.cast_stub.specs.declared.send.SendOp.{SendOp}
use Rattle.cast_stub.specs.Parts.{on_some}
use Rattle.cast_stub.specs.Puts.{word, filled}
use Rattle.cast_stub.specs.Block.{Block, stop, chunk, op_seen, code_seen}
use Rattle.cast_stub.specs.Steps.{Calls, steps}
use Rattle.cast_stub.specs.Subs.{calls_of, deepest}
use Rattle.cast_stub.specs.Meaning.{wrote}
use Rattle.cast_stub.proofs.Pieces.{seen-Chunk, seen-Patch}
use Rattle.cast_stub.proofs.Putting.{if_so, placed_whole, full_whole}
use Rattle.stub_lower.specs.Leads.{Leads, AreChunks}
use Rattle.giop_head.specs.Printed.{long_octets}
use Rattle.back_cdr.specs.Coded.{IsCoded, with_id}

-- three operations as chunks
pub three_seen : (a b c : SendOp) (r : Order) (place : ℕ) (octets x y : List ℕ) → place + 4 ≤ length octets → x ≡ take place octets
    → y ≡ drop (place + 4) octets → op_seen a ≡ chunk (length x) (put.Const 0 x ∷ [])
    → op_seen b ≡ chunk 4 (put.Head 0 Id 4 r ∷ []) → op_seen c ≡ chunk (length y) (put.Const 0 y ∷ [])
    → code_seen (a ∷ b ∷ c ∷ []) ≡ chunk place (put.Const 0 (take place octets) ∷ [])
    (chunk 4 (put.Head 0 Id 4 r ∷ []) (chunk (length octets - (place + 4)) (put.Const 0 (drop (place + 4) octets) ∷ []) stop))
three_seen a b c r place octets x y long front rest sa sb sc =
    let first : length (take place octets) ≡ place = omega (arith, length-take place octets, long) in
    let last : length (drop (place + 4) octets) ≡ length octets - (place + 4) = length-drop (place + 4) octets in
    rw (sa, sb, sc, front, rest, first, last) refl

pub ruleset coding = (seen-Chunk)

pub ruleset patching = (seen-Patch)

-- octets alone
filled_const : (h : Head) (v : Val) (n : ℕ) (os : List ℕ) → n ≡ length os → filled n (put.Const 0 os ∷ []) h v ≡ Some os
filled_const h v n os long = rw (long, placed_whole os, full_whole os) refl

word_long : (r : Order) (n : ℕ) → n < 4294967296 → word 4 r (pos n) ≡ Some (long_octets r n)
word_long Big n h =
    ap (λ (o : Option ℕ). on_some o (λ (m : ℕ). Some (in_order Big 4 m))) (if_so (nat_lt n 4294967296) n (lt-ltb n 4294967296 h))
word_long Little n h =
    ap (λ (o : Option ℕ). on_some o (λ (m : ℕ). Some (in_order Little 4 m))) (if_so (nat_lt n 4294967296) n (lt-ltb n 4294967296 h))

long_four : (r : Order) (n : ℕ) → 4 ≡ length (long_octets r n)
long_four Big n = refl
long_four Little n = refl

-- the id alone
filled_id : (r : Order) (h : Head) (v : Val) → h.id < 4294967296 → filled 4 (put.Head 0 Id 4 r ∷ []) h v ≡ Some (long_octets r h.id)
filled_id r h v fits = rw (word_long r h.id fits) (filled_const h v 4 (long_octets r h.id) (long_four r h.id))

three_lead : (c : Calls) (h : Head) (v : Val) (p : ℕ) (r : Order) (a b : List ℕ) (m n : ℕ) → h.id < 4294967296 → m ≡ length a → n ≡ length b
    → on_some (steps c h (chunk m (put.Const 0 a ∷ []) (chunk 4 (put.Head 0 Id 4 r ∷ []) (chunk n (put.Const 0 b ∷ []) stop))) v)
    (wrote p [])
    ≡ Some (a ++ long_octets r h.id ++ b)
three_lead c h v p r a b m n fits first last = rw (filled_const h v m a first, filled_id r h v fits, filled_const h v n b last) refl

coded_leads : (r : Order) (place : ℕ) (octets : List ℕ) (code : SendCode) → place + 4 ≤ length octets → IsCoded r place octets code
    → Leads (λ h. with_id r place octets h.id) code
coded_leads r place octets code long is h v p fits =
    subst (λ (b : Block). on_some (steps (calls_of code.subs h deepest) h b v) (wrote p []) ≡ Some (with_id r place octets h.id)) (sym is)
    (three_lead (calls_of code.subs h deepest) h v p r (take place octets) (drop (place + 4) octets) place (length octets - (place + 4))
    fits.id (omega (arith, length-take place octets, long)) (omega (arith, length-drop (place + 4) octets)))

coded_chunks : (r : Order) (place : ℕ) (octets : List ℕ) (code : SendCode) → IsCoded r place octets code → AreChunks code
coded_chunks r place octets code is = (3, rw is refl, omega arith)

pub leads_made : (d : Result SendCode NoMemory) (r : Order) (place : ℕ) (octets : List ℕ) → place + 4 ≤ length octets
    → IfOk d (λ code. IsCoded r place octets code)
    → IfOk d (λ code. Leads (λ h. with_id r place octets h.id) code)
leads_made (Ok code) r place octets long is = coded_leads r place octets code long is
leads_made (Err e) r place octets long is = tt

pub chunks_made : (d : Result SendCode NoMemory) (r : Order) (place : ℕ) (octets : List ℕ)
    → IfOk d (λ code. IsCoded r place octets code) → IfOk d AreChunks
chunks_made (Ok code) r place octets is = coded_chunks r place octets code is
chunks_made (Err e) r place octets is = tt

code_along : (code : SendCode) (f g : ℕ → List ℕ) → ((id : ℕ) → f id ≡ g id) → Leads (λ h. f h.id) code → Leads (λ h. g h.id) code
code_along code f g same leads h v p fits = leads h v p fits ∙ ap (λ (o : List ℕ). Some o) (same h.id)

-- code that is known by another name of its octets
pub leads_along : (d : Result SendCode NoMemory) (f g : ℕ → List ℕ) → ((id : ℕ) → f id ≡ g id) → IfOk d (λ code. Leads (λ h. f h.id) code)
    → IfOk d (λ code. Leads (λ h. g h.id) code)
leads_along (Ok code) f g same leads = code_along code f g same leads
leads_along (Err e) f g same leads = tt
