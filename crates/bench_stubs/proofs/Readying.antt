-- That inlined code by itself may be hoisted, and its rows made blocks, and that it is then covered.
use Rattle.std.proofs.Common.{◌≡◌, ℕ, ◌<◌, List, [], length, get_or, Some, refl, sym, subst}
use Rattle.std.specs.Prelude.{slice_get}
use Rattle.std.proofs.lemmas.Option.{slice_get-get_or}
use Rattle.mint.specs.declared.node.Node.{Node}
use Rattle.mint.specs.Types.{type_at}
use Rattle.mint.specs.Sound.{IsSound}
use Rattle.cast_stub.specs.declared.send.SendCode.{SendCode}
use Rattle.cast_stub.specs.declared.send.SendOp.{SendOp}
use Rattle.cast_stub.specs.Block.{stop, code_seen}
use Rattle.cast_stub.specs.Follows.{AllFollow}
use Rattle.cast_stub.proofs.Appending.{append-stop}
use Rattle.copy_inline.specs.Inlined.{Goes}
use Rattle.hoist.specs.Pass.{IsGiven}
use Rattle.mint.specs.Typed.{IsWellTyped}
use Rattle.mint.specs.Values.{Val}
use Rattle.wire_def.specs.declared.encoding.Encoding.{Encoding}
use Rattle.wire_def.specs.declared.encoding.Encoding.TheVariants.{Xdr}
use Rattle.wire_def.specs.declared.head.Head.{Head}
use Rattle.wire_def.specs.Send.{send}
use Rattle.cast_stub.specs.Bare.{RowsAreBare}
use Rattle.cast_stub.specs.Kept.{ChangesOnlyEnsures, IsCoveredFor, Anywhere, StaysCoveredAt}
use Rattle.cast_stub.specs.Layouts.{layout_of}
use Rattle.cast_stub.specs.Meaning.{wrote, meaning, IsCovered}
use Rattle.cast_stub.specs.Parts.{on_some, IsThere}
use Rattle.cast_stub.specs.Steps.{Steps}
use Rattle.cast_stub.specs.Subs.{sent_steps}
use Rattle.cast_stub.specs.Turned.{AllTurned}
use Rattle.stub_lower.specs.Lowered.{CodesSend}
use Rattle.copy_inline.specs.Inlined.{Does, Turns}
use Rattle.copy_inline.specs.Rows as rows
use Rattle.copy_inline.proofs.RowGiven.{hoisted_given}
use Rattle.cast_stub.proofs.Filled.{opened}

pub alone_given : (nodes : List Node) (id : ℕ) (subs : List (List SendOp)) (code : SendCode) → IsSound (type_at nodes id)
    → AllFollow nodes subs → Goes subs id code → code.subs ≡ []
    → IsGiven (type_at nodes id) code
alone_given nodes id subs code sound follows goes none =
    (none, 0, (stop, code_seen code.ops, stop, id, sym (append-stop (code_seen code.ops)), refl, goes nodes sound follows, tt))

pub alone_rows : (e : Encoding) (nodes : List Node) (id : ℕ) (subs : List (List SendOp)) (flat code : SendCode) → IsSound (type_at nodes id)
    → AllTurned (layout_of e) nodes subs → Turns subs id flat → ChangesOnlyEnsures flat code
    → RowsAreBare (type_at nodes id) (code_seen code.ops)
    → code.subs ≡ []
    → rows.IsGiven e (type_at nodes id) code
alone_rows e nodes id subs flat code sound turned turns adds bare none =
    hoisted_given e (type_at nodes id) flat code
    (record {
      lead = stop;
      body = code_seen flat.ops;
      tail = stop;
      size = 0;
      below = id;
      whole = sym (append-stop (code_seen flat.ops));
      leads = refl;
      goes = turns (layout_of e) nodes sound turned;
      ends = tt;
    })
    adds bare none

-- inlined code sends what the lowered code sends
alone_there : (nodes : List Node) (id : ℕ) (subs : List (List SendOp)) (flat : SendCode) → id < length subs → CodesSend Xdr nodes subs
    → Does subs id flat → (h : Head) (v : Val) → IsWellTyped (type_at nodes id) v
    → IsThere (meaning flat h v 0)
alone_there nodes id subs flat lt sends does h v typed =
    let ops = get_or subs id [] in
    let found : slice_get subs id ≡ Some ops = slice_get-get_or subs id [] lt in
    let m = opened (sent_steps (record { ops = ops; subs = subs }) h v) (wrote 0 []) (send Xdr (type_at nodes id) 0 v)
    (sends id ops found h v 0 refl typed) in
    subst (λ (x : Steps). IsThere (on_some x (wrote 0 []))) (sym (does ops h v m.0 found m.1)) (subst IsThere (sym m.2) tt)

pub alone_covered : (nodes : List Node) (id : ℕ) (subs : List (List SendOp)) (flat code in_rows : SendCode) → id < length subs
    → CodesSend Xdr nodes subs → Does subs id flat → IsCoveredFor (type_at nodes id) flat code
    → StaysCoveredAt Anywhere (type_at nodes id) code in_rows
    → IsCovered (type_at nodes id) 0 in_rows
alone_covered nodes id subs flat code in_rows lt sends does covered stays h v head typed =
    stays h v 0 tt typed.is_of (covered h v 0 typed.is_of (alone_there nodes id subs flat lt sends does h v typed))
