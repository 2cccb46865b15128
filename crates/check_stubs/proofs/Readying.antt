-- That hoisted code after a lead may be run, by induction on the lead's code and on the body's steps.
use Rattle.std.proofs.Common.{◌≡◌, ℕ, zero, suc, ◌+◌, ◌-◌, ◌^◌, ◌%◌, ◌<◌, ◌≤◌, List, [], ◌∷◌, ◌++◌, length, replicate, get_or, Option, None, Some, Result, Ok, Err, IfOk, refl, sym, ap, subst, ◌∙◌, arith, length-append, Bool, true, false, ◌&&◌, nat_le, if◌then◌else◌}
use Rattle.std.specs.Prelude.{slice_get}
use Rattle.std.proofs.lemmas.List.{length-replicate}
use Rattle.std.proofs.lemmas.Option.{slice_get-get_or}
use Rattle.kit_base.specs.Bytes.{written}
use Rattle.mint.specs.declared.node.Node.{Node}
use Rattle.mint.specs.Types.{Ty, type_at}
use Rattle.mint.specs.Typed.{IsWellTyped}
use Rattle.mint.specs.Sound.{IsSound}
use Rattle.mint.specs.Values.{Val}
use Rattle.wire_def.specs.declared.encoding.Encoding.{Encoding}
use Rattle.wire_def.specs.declared.encoding.Encoding.TheVariants.{Xdr, CdrBig, CdrLittle, Mach}
use Rattle.wire_def.specs.Places.{IsPlace}
use Rattle.wire_def.specs.declared.head.Head.{Head}
use Rattle.wire_def.specs.Scalars.{gap}
use Rattle.wire_def.specs.Send.{send}
use Rattle.wire_def.specs.Orders.{in_order}
use Rattle.cast_stub.specs.declared.send.SendCode.{SendCode}
use Rattle.cast_stub.specs.declared.send.SendOp.{SendOp}
use Rattle.cast_stub.specs.Append.{append}
use Rattle.cast_stub.specs.Block.{Block, stop, code_seen}
use Rattle.cast_stub.specs.Follows.{Follows, AllFollow}
use Rattle.cast_stub.specs.Puts.{IsHead}
use Rattle.cast_stub.specs.Meaning.{wrote, meaning, IsCovered}
use Rattle.cast_stub.specs.Parts.{on_some, IsThere}
use Rattle.cast_stub.specs.Steps.{Step, Room, Pad, Stored, Widened, Copied, Patched, Steps, both, steps}
use Rattle.cast_stub.specs.Subs.{calls_of, sent_steps, deepest, no_subs}
use Rattle.cast_stub.proofs.Appending.{append-stop, steps-append}
use Rattle.cast_stub.proofs.Folding.{wrote-append}
use Rattle.stub_lower.specs.Leads.{AreChunks, Leads}
use Rattle.stub_lower.specs.Lowered.{CodesSend}
use Rattle.stub_machine.proofs.Rooms.{within}
use Rattle.copy_inline.specs.Inlined.{Does, Goes, Turns}
use Rattle.copy_inline.specs.Rows as rows
use Rattle.copy_inline.proofs.RowGiven.{hoisted_given}
use Rattle.std.proofs.lemmas.Bool.{le-leb, leb-true}
use Rattle.hoist.specs.Pass.{IsGiven}
use Rattle.cast_stub.specs.Kept.{ChangesOnlyEnsures, IsCoveredFor, Anywhere, StaysCoveredAt}
use Rattle.cast_stub.specs.Bare.{RowsAreBare}
use Rattle.cast_stub.specs.Layouts.{layout_of}
use Rattle.cast_stub.specs.Turned.{AllTurned}
use Rattle.back_xdr.specs.declared.procedures.Procedure.{Procedure}
use Rattle.back_xdr.specs.Leads.{lead, reply_lead}
use Rattle.check_stubs.specs.Ready.{IsLead, IsBoth}
use Rattle.cast_stub.proofs.Patched.{length-written, four}
use Rattle.cast_stub.proofs.Filled.{opened}
use Rattle.stub_lower.proofs.Chunks.{chunks-length, chunks-steps}

-- ---- steps after others

there : {A : Type 0} (x : Option A) (a : A) → x ≡ Some a → IsThere x
there x a e = subst IsThere (sym e) tt

patch_there : (x y : Bool) (z : List ℕ) (f : List ℕ → Option (List ℕ)) → x ≡ true → y ≡ true → IsThere (f z)
    → IsThere (on_some (if x && y then Some z else None) f)
patch_there true true z f d e h = h
patch_there true false z f d e h = absurd cc
patch_there false y z f d e h = absurd cc

joined : (x y : Steps) (a b : List Step) → x ≡ Some a → y ≡ Some b → both x y ≡ Some (a ++ b)
joined x y a b d e = rw (d, e) refl

-- whether steps write depends on lengths alone
shifted : (ss : List Step) (p base : ℕ) (o o' : List ℕ) → base ≤ p → base + length o' ≡ p + length o → IsThere (wrote p o ss)
    → IsThere (wrote base o' ss)
shifted [] p base o o' le e h = tt
shifted (Room n ∷ ss) p base o o' le e h = shifted ss p base o o' le e h
shifted (Pad a ∷ ss) p base o o' le e h =
    let far = replicate (gap (p + length o) a) 0 in
    let near = replicate (gap (base + length o') a) 0 in
    let gaps : gap (base + length o') a ≡ gap (p + length o) a = ap (λ n. gap n a) e in
    shifted ss p base (o ++ far) (o' ++ near) le (omega (
      arith,
      e,
      gaps,
      length-append o far,
      length-append o' near,
      length-replicate {A = ℕ} (gap (p + length o) a) 0,
      length-replicate {A = ℕ} (gap (base + length o') a) 0,
    )) h
shifted (Stored os k ∷ ss) p base o o' le e h =
    shifted ss p base (o ++ os) (o' ++ os) le (omega (arith, e, length-append o os, length-append o' os)) h
shifted (Widened os k ∷ ss) p base o o' le e h =
    shifted ss p base (o ++ os) (o' ++ os) le (omega (arith, e, length-append o os, length-append o' os)) h
shifted (Copied os ∷ ss) p base o o' le e h =
    shifted ss p base (o ++ os) (o' ++ os) le (omega (arith, e, length-append o os, length-append o' os)) h
shifted (Patched at sub order ∷ ss) p base o o' le e h =
    let far = in_order order 4 ((p + length o + 2 ^ 32 - sub) % 2 ^ 32) in
    let near = in_order order 4 ((base + length o' + 2 ^ 32 - sub) % 2 ^ 32) in
    let w = within (nat_le p at) (nat_le (at + 4) (p + length o)) (written o (at - p) far) (λ z. wrote p z ss) h in
    let low : p ≤ at = leb-true p at w.first in
    let high : at + 4 ≤ p + length o = leb-true (at + 4) (p + length o) w.second in
    let long : length (written o (at - p) far) ≡ length o =
    length-written (at - p) far o (omega (arith, four order ((p + length o + 2 ^ 32 - sub) % 2 ^ 32))) in
    let long' : length (written o' (at - base) near) ≡ length o' =
    length-written (at - base) near o' (omega (arith, e, four order ((base + length o' + 2 ^ 32 - sub) % 2 ^ 32))) in
    patch_there (nat_le base at) (nat_le (at + 4) (base + length o')) (written o' (at - base) near) (λ z. wrote base z ss)
    (le-leb base at (omega arith)) (le-leb (at + 4) (base + length o') (omega (arith, e)))
    (shifted ss p base (written o (at - p) far) (written o' (at - base) near) le (omega (arith, e, long, long')) w.rest)

-- ---- a lead and a body

-- a multiple of 4 is a position over each encoding
place_of : (e : Encoding) (p : ℕ) → p % 4 ≡ 0 → IsPlace e p
place_of Xdr p h = h
place_of CdrBig p h = tt
place_of CdrLittle p h = tt
place_of Mach p h = h

module _ (enc : Encoding) (nodes : List Node) (id : ℕ) (subs : List (List SendOp)) (lead body given : SendCode)
    (sound : IsSound (type_at nodes id)) (known : id < length subs) (sends : CodesSend enc nodes subs) (follows : AllFollow nodes subs)
    (is_lead : IsLead lead) (does : Does subs id body) (goes : Goes subs id body) (no_subs' : body.subs ≡ [])
    (both' : IsBoth lead body given) where
  through : Follows no_subs (type_at nodes id) id [] (code_seen body.ops)
  through = goes nodes sound follows

  pub is_given : IsGiven (type_at nodes id) given
  is_given =
      let first = chunks-length (code_seen lead.ops) (is_lead.chunks).0 ((is_lead.chunks).1) in (
        both'.subs,
        first.0,
        (
          code_seen lead.ops,
          code_seen body.ops,
          stop,
          id,
          both'.ops ∙ ap (append (code_seen lead.ops)) (sym (append-stop (code_seen body.ops))),
          first.1,
          through,
          tt,
        ),
      )

  -- what the lead and the body do
  lead_steps : (h : Head) (v : Val) (o : List ℕ) → meaning lead h v 0 ≡ Some o
      → (ls : List Step) × (steps (calls_of given.subs h deepest) h (code_seen lead.ops) v ≡ Some ls) × (wrote 0 [] ls ≡ Some o)
  lead_steps h v o e =
      let m = opened (sent_steps lead h v) (wrote 0 []) o e in (
        m.0,
        chunks-steps (calls_of given.subs h deepest) (calls_of lead.subs h deepest) h v (code_seen lead.ops) (is_lead.chunks).0
            ((is_lead.chunks).1) ∙ m.1,
        m.2,
      )

  body_steps : (h : Head) (v : Val) (p : ℕ) → p % 4 ≡ 0 → IsWellTyped (type_at nodes id) v
      → (ss : List Step) × (steps (calls_of given.subs h deepest) h (code_seen body.ops) v ≡ Some ss) × IsThere (wrote p [] ss)
  body_steps h v p place typed =
      let ops = get_or subs id [] in
      let found : slice_get subs id ≡ Some ops = slice_get-get_or subs id [] known in
      let sent = sends id ops found h v p (place_of enc p place) typed in
      let m = opened (sent_steps (record { ops = ops; subs = subs }) h v) (wrote p []) (send enc (type_at nodes id) p v) sent in
      let same : sent_steps body h v ≡ Some m.0 = does ops h v m.0 found m.1 in (
        m.0,
        ap (λ (l : List (List SendOp)). steps (calls_of l h deepest) h (code_seen body.ops) v) (both'.subs ∙ sym no_subs') ∙ same,
        there (wrote p [] m.0) (send enc (type_at nodes id) p v) m.2,
      )

  is_there : (h : Head) (v : Val) → IsHead h → IsWellTyped (type_at nodes id) v → IsThere (meaning given h v 0)
  is_there h v head typed =
      let w = is_lead.words h v head in
      let l = lead_steps h v w.0 w.1 in
      let b = body_steps h v (length w.0) w.2 typed in
      subst (λ (x : Steps). IsThere (on_some x (wrote 0 [])))
      (sym (ap (λ (x : Block). steps (calls_of given.subs h deepest) h x v) both'.ops
      ∙ steps-append (calls_of given.subs h deepest) h (code_seen lead.ops) (code_seen body.ops) v ∙ joined _ _ l.0 b.0 l.1 b.1))
      (subst IsThere (sym (wrote-append 0 [] l.0 b.0 ∙ ap (λ (x : Option (List ℕ)). on_some x (λ q. wrote 0 q b.0)) l.2))
      (shifted b.0 (length w.0) 0 [] w.0 (omega arith) (omega arith) b.2))

  -- hoisted code has room at the beginning of a message
  pub hoisted_covered : (code : SendCode) → IsCoveredFor (type_at nodes id) given code → IsCovered (type_at nodes id) 0 code
  hoisted_covered code covered h v head typed = covered h v 0 typed.is_of (is_there h v head typed)

  -- its rows may be made blocks
  pub rows_given : Turns subs id body → AllTurned (layout_of enc) nodes subs → (code : SendCode) → ChangesOnlyEnsures given code
      → RowsAreBare (type_at nodes id) (code_seen code.ops) → code.subs ≡ []
      → rows.IsGiven enc (type_at nodes id) code
  rows_given turns turned code adds bare none =
      let first = chunks-length (code_seen lead.ops) (is_lead.chunks).0 ((is_lead.chunks).1) in
      hoisted_given enc (type_at nodes id) given code
      (record {
        lead = code_seen lead.ops;
        body = code_seen body.ops;
        tail = stop;
        size = first.0;
        below = id;
        whole = both'.ops ∙ ap (append (code_seen lead.ops)) (sym (append-stop (code_seen body.ops)));
        leads = first.1;
        goes = turns (layout_of enc) nodes sound turned;
        ends = tt;
      })
      adds bare none

-- and then it has room too
pub rows_covered : (t : Ty) (code in_rows : SendCode) → IsCovered t 0 code → StaysCoveredAt Anywhere t code in_rows → IsCovered t 0 in_rows
rows_covered t code in_rows covered stays h v head typed = stays h v 0 tt typed.is_of (covered h v head typed)

-- ---- leads

-- the octets of a head are whole words
whole_words : (p : Procedure) (id : ℕ) → length (lead p id) % 4 ≡ 0
whole_words p id = refl

pub lead_ready : {E : Type 0} (r : Result SendCode E) (p : Procedure) → IfOk r (Leads (λ h. lead p h.id)) → IfOk r AreChunks → IfOk r IsLead
lead_ready (Ok code) p means chunks = record { chunks = chunks; words = λ h v head. (lead p h.id, means h v 0 head, whole_words p h.id) }
lead_ready (Err e) p means chunks = tt

answer_words : (arms id : ℕ) → length (reply_lead arms 0 id) % 4 ≡ 0
answer_words zero id = refl
answer_words (suc n) id = refl

pub answer_ready : {E : Type 0} (arms : ℕ) (r : Result SendCode E) → IfOk r (Leads (λ h. reply_lead arms 0 h.id)) → IfOk r AreChunks
    → IfOk r IsLead
answer_ready arms (Ok code) means chunks =
    record { chunks = chunks; words = λ h v head. (reply_lead arms 0 h.id, means h v 0 head, answer_words arms h.id) }
answer_ready arms (Err e) means chunks = tt
