-- The code of a head, inlined code and a patch append the message.
use Rattle.std.proofs.Common.{◌≡◌, ℕ, ◌+◌, ◌*◌, ◌≤◌, ◌<◌, List, [], ◌++◌, length, get_or, Option, Some, refl, sym, ap, subst, ◌∙◌, append-nil, arith, length-append}
use Rattle.std.specs.Prelude.{slice_get}
use Rattle.std.proofs.lemmas.Option.{slice_get-get_or}
use Rattle.mint.specs.declared.node.Node.{Node}
use Rattle.mint.specs.Types.{type_at}
use Rattle.mint.specs.Typed.{IsWellTyped}
use Rattle.mint.specs.Sound.{IsSound}
use Rattle.mint.specs.Values.{Val}
use Rattle.wire_def.specs.declared.encoding.Back.{Back}
use Rattle.wire_def.specs.declared.encoding.Back.TheVariants as back
use Rattle.wire_def.specs.declared.head.Head.{Head}
use Rattle.wire_def.specs.Send.{send}
use Rattle.cast_stub.specs.declared.send.SendCode.{SendCode}
use Rattle.cast_stub.specs.declared.send.SendOp.{SendOp}
use Rattle.cast_stub.specs.Append.{append}
use Rattle.cast_stub.specs.Block.{Block, code_seen}
use Rattle.cast_stub.specs.Entries.{entries}
use Rattle.cast_stub.specs.Follows.{Follows, AllFollow}
use Rattle.cast_stub.specs.Framed as framed_code
use Rattle.cast_stub.specs.Framed.{lead_length, IsTail}
use Rattle.cast_stub.specs.Kept.{unensured, ChangesOnlyEnsures}
use Rattle.cast_stub.specs.Bare.{RowsAreBare}
use Rattle.cast_stub.specs.Layouts.{layout_of}
use Rattle.cast_stub.specs.Meaning.{wrote, meaning, costs}
use Rattle.cast_stub.specs.Met.{moves_by, moves_in}
use Rattle.cast_stub.specs.Parts.{on_some}
use Rattle.cast_stub.specs.Puts.{IsHead}
use Rattle.cast_stub.specs.Steps.{Step, Steps, Calls, both, steps}
use Rattle.cast_stub.specs.Subs.{calls_of, sent_steps, deepest, no_subs, sub_at}
use Rattle.cast_stub.specs.Turned.{AllTurned}
use Rattle.cast_stub.proofs.Appending.{steps-append}
use Rattle.cast_stub.proofs.Folding.{wrote-append}
use Rattle.stub_lower.specs.Leads.{AreChunks, Leads}
use Rattle.stub_lower.specs.Lowered.{CodesSend}
use Rattle.copy_inline.specs.Inlined.{Does, Goes, Turns}
use Rattle.copy_inline.specs.Rows as rows
use Rattle.copy_inline.proofs.RowGiven.{framed_bare, hoisted_given}
use Rattle.copy_inline.proofs.RowReady.{bare_same}
use Rattle.hoist.specs.Pass.{IsGiven}
use Rattle.stub_codes.specs.Backs.{encoding, tail}
use Rattle.stub_codes.specs.Messages.{framed}
use Rattle.stub_codes.specs.Sending.{AreHeads, IsWhole}
use Rattle.stub_codes.proofs.Bounded.{bounded}
use Rattle.stub_codes.proofs.Following.{after, chunks-flat, chunks-append}
use Rattle.stub_codes.proofs.Kept.{HasFew}
use Rattle.stub_codes.proofs.Stated.{tail_steps, tail_runs, states}
use Rattle.cast_stub.proofs.Filled.{opened}
use Rattle.stub_lower.proofs.Chunks.{chunks-length, chunks-steps}

-- ---- steps after others

three : (x y z : Steps) (a b d : List Step) → x ≡ Some a → y ≡ Some b → z ≡ Some d → both x (both y z) ≡ Some (a ++ (b ++ d))
three x y z a b d p q r = rw (p, q, r) refl

-- the code that states a length is at most one patch
tail_ends : (k : Back) → IsTail (tail k)
tail_ends back.Xdr = tt
tail_ends back.CdrBig = tt
tail_ends back.CdrLittle = tt
tail_ends back.Mach = tt

-- ---- a head, a body and a patch

-- the code of a head, that of a node among the codes of a table, and both and what states the length
pub record IsReady (k : Back) (nodes : List Node) (id : ℕ) (subs : List (List SendOp)) (lead body given : SendCode) : Type 0 where
  pub sound : IsSound (type_at nodes id)
  pub known : id < length subs
  pub sends : CodesSend (encoding k) nodes subs
  pub follows : AllFollow nodes subs
  pub chunks : AreChunks lead
  pub does : Does subs id body
  pub goes : Goes subs id body
  pub none : body.subs ≡ []
  pub whole : IsWhole k lead body given

module _ (k : Back) (nodes : List Node) (id : ℕ) (subs : List (List SendOp)) (lead body given : SendCode)
    (r : IsReady k nodes id subs lead body given) where
  through : Follows no_subs (type_at nodes id) id [] (code_seen body.ops)
  through = r.goes nodes r.sound r.follows

  -- such code may be hoisted
  pub is_given : IsGiven (type_at nodes id) given
  is_given =
      let first = chunks-length (code_seen lead.ops) r.chunks.0 r.chunks.1 in
      (r.whole.subs, first.0, (code_seen lead.ops, code_seen body.ops, tail k, id, r.whole.ops, first.1, through, tail_ends k))

  module _ (turns : Turns subs id body) (turned : AllTurned (layout_of (encoding k)) nodes subs) where
    framed_rows : rows.IsFramed (encoding k) (type_at nodes id) (code_seen given.ops)
    framed_rows =
        let first = chunks-length (code_seen lead.ops) r.chunks.0 r.chunks.1 in
        record {
          lead = code_seen lead.ops;
          body = code_seen body.ops;
          tail = tail k;
          size = first.0;
          below = id;
          whole = r.whole.ops;
          leads = first.1;
          goes = turns (layout_of (encoding k)) nodes r.sound turned;
          ends = tail_ends k;
        }

    -- and then its rows may be made blocks
    pub rows_given : (code : SendCode) → ChangesOnlyEnsures given code → RowsAreBare (type_at nodes id) (code_seen code.ops)
        → code.subs ≡ [] → rows.IsGiven (encoding k) (type_at nodes id) code
    rows_given code adds bare no_codes = hoisted_given (encoding k) (type_at nodes id) given code framed_rows adds bare no_codes

    -- which is allowed few moves, and meets few stores
    pub few : (code rowed : SendCode) → ChangesOnlyEnsures given code → rows.IsRowed (encoding k) (type_at nodes id) code rowed
        → HasFew (encoding k) (type_at nodes id) rowed
    few code rowed adds made_rows h v of ss runs =
        let e = encoding k in
        let t = type_at nodes id in
        let bare : unensured (code_seen code.ops) ≡ append (code_seen lead.ops) (append (code_seen body.ops) (tail k)) =
        adds ∙ bare_same (code_seen given.ops) (framed_bare e t (code_seen given.ops) framed_rows) ∙ r.whole.ops in
        let c = calls_of rowed.subs h deepest in
        let g = moves_by 7 (sub_at rowed.subs) deepest in
        let held = bounded c h g e t (code_seen code.ops) (code_seen lead.ops) (code_seen body.ops) (tail k) r.chunks.0 id v bare
        (chunks-flat (code_seen lead.ops) r.chunks.0 r.chunks.1) r.chunks.2 (turns (layout_of e) nodes r.sound turned) (tail_ends k) of ss
        (ap (λ (b : Block). steps c h b v) (sym made_rows) ∙ runs) in
        (subst (λ (b : Block). moves_in 7 g b v ≤ 8 * (entries e t v + (costs ss).checks)) (sym made_rows) held.0, held.1)

  module _ (o : Head → List ℕ) (leads : Leads o lead) (heads : AreHeads k o) where
    -- what the head does
    lead_steps : (h : Head) (v : Val) → IsHead h
        → (ls : List Step) × (steps (calls_of given.subs h deepest) h (code_seen lead.ops) v ≡ Some ls) × (wrote 0 [] ls ≡ Some (o h))
    lead_steps h v head =
        let m = opened (sent_steps lead h v) (wrote 0 []) (o h) (leads h v 0 head) in (
          m.0,
          chunks-steps (calls_of given.subs h deepest) (calls_of lead.subs h deepest) h v (code_seen lead.ops) r.chunks.0 r.chunks.1
              ∙ m.1,
          m.2,
        )

    -- what the body does
    body_steps : (h : Head) (v : Val) → IsWellTyped (type_at nodes id) v
        → (ss : List Step) × (steps (calls_of given.subs h deepest) h (code_seen body.ops) v ≡ Some ss)
        × (wrote (length (o h)) [] ss ≡ Some (send (encoding k) (type_at nodes id) (length (o h)) v))
    body_steps h v typed =
        let ops = get_or subs id [] in
        let found : slice_get subs id ≡ Some ops = slice_get-get_or subs id [] r.known in
        let sent = r.sends id ops found h v (length (o h)) (heads.place h) typed in
        let m = opened (sent_steps (record { ops = ops; subs = subs }) h v) (wrote (length (o h)) [])
        (send (encoding k) (type_at nodes id) (length (o h)) v) sent in
        let same : sent_steps body h v ≡ Some m.0 = r.does ops h v m.0 found m.1 in (
          m.0,
          ap (λ (l : List (List SendOp)). steps (calls_of l h deepest) h (code_seen body.ops) v) (r.whole.subs ∙ sym r.none) ∙ same,
          m.2,
        )

    -- together they append the message
    pub made : (h : Head) (v : Val) → IsHead h → IsWellTyped (type_at nodes id) v
        → meaning given h v 0 ≡ Some (framed k (o h) (type_at nodes id) v)
    made h v head typed =
        let c : Calls = calls_of given.subs h deepest in
        let l = lead_steps h v head in
        let b = body_steps h v typed in
        let s = send (encoding k) (type_at nodes id) (length (o h)) v in
        let long : 12 ≤ length (o h ++ s) = omega (arith, heads.long h, length-append (o h) s) in
        let body_written : wrote 0 (o h) b.0 ≡ Some (o h ++ s) = ap (λ (q : List ℕ). wrote 0 q b.0) (sym (append-nil (o h))) ∙ after
        (o h) b.0 [] s b.2 in
        let all : steps c h (code_seen given.ops) v ≡ Some (l.0 ++ (b.0 ++ tail_steps k)) =
        ap (λ (x : Block). steps c h x v) r.whole.ops
        ∙ steps-append c h (code_seen lead.ops) (append (code_seen body.ops) (tail k)) v
        ∙ ap (both (steps c h (code_seen lead.ops) v)) (steps-append c h (code_seen body.ops) (tail k) v)
        ∙ three (steps c h (code_seen lead.ops) v) (steps c h (code_seen body.ops) v) (steps c h (tail k) v) l.0 b.0 (tail_steps k) l.1
        b.1 (tail_runs k c h v) in
        ap (λ (x : Steps). on_some x (wrote 0 [])) all
        ∙ wrote-append 0 [] l.0 (b.0 ++ tail_steps k)
        ∙ ap (λ (x : Option (List ℕ)). on_some x (λ (q : List ℕ). wrote 0 q (b.0 ++ tail_steps k))) l.2
        ∙ wrote-append 0 (o h) b.0 (tail_steps k)
        ∙ ap (λ (x : Option (List ℕ)). on_some x (λ (q : List ℕ). wrote 0 q (tail_steps k))) body_written
        ∙ states k (o h ++ s) long

    -- the lead is as long as the head
    pub is_framed : (h : Head) (v : Val) → IsHead h → framed_code.IsFramed (length (o h)) (type_at nodes id) (code_seen given.ops)
    is_framed h v head =
        let first = chunks-length (code_seen lead.ops) r.chunks.0 r.chunks.1 in
        let same : length (o h) ≡ first.0 = chunks-append (calls_of lead.subs h deepest) h v (code_seen lead.ops) first.0 0 [] (o h)
        first.1 (leads h v 0 head) ∙ (let z : 0 + first.0 ≡ first.0 = omega arith in z) in
        let long : lead_length (code_seen lead.ops) ≡ Some (length (o h)) = first.1 ∙ ap (λ (n : ℕ). Some n) (sym same) in
        (code_seen lead.ops, code_seen body.ops, tail k, id, r.whole.ops, long, through, tail_ends k)
