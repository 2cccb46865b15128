-- Code that goes through a type has no own ensures, so what `hoist` makes of it is taken, by induction on the type.
use Rattle.std.proofs.Common.{◌≡◌, ℕ, suc, ◌+◌, List, [], ◌∷◌, ◌++◌, length, Some, sym, subst, ◌∙◌}
use Rattle.mint.specs.declared.kind.Count.{Count}
use Rattle.mint.specs.declared.kind.Count.TheVariants.{Exactly, AtMost, Any}
use Rattle.mint.specs.Types.{Ty, void_type, scalar_type, array_type, group_type, items_type, choice_type, maybe_type, Tys, no_fields, field, Arms, no_other, others, arm_type}
use Rattle.wire_def.specs.declared.encoding.Encoding.{Encoding}
use Rattle.cast_stub.specs.declared.send.SendCode.{SendCode}
use Rattle.cast_stub.specs.Append.{append}
use Rattle.cast_stub.specs.Bare.{IsBare, CasesBare, RowsAreBare}
use Rattle.cast_stub.specs.Block.{Block, stop, align, chunk, each, switch, if_there, patch, Cases, code_seen}
use Rattle.cast_stub.specs.Follows.{flat, IsCount, FollowsBy, FieldsFollowBy, ArmsFollowBy}
use Rattle.cast_stub.specs.Framed.{lead_length, IsTail}
use Rattle.cast_stub.specs.Kept.{ChangesOnlyEnsures}
use Rattle.cast_stub.specs.Layouts.{layout_of}
use Rattle.cast_stub.specs.Subs.{no_subs}
use Rattle.cast_stub.specs.Turned.{IsTurned}
use Rattle.cast_stub.proofs.Followed.{own, mapped}
use Rattle.copy_inline.specs.Rows.{IsFramed, IsGiven}
use Rattle.copy_inline.proofs.RowReady.{bare_same}

append_bare : (a b : Block) → IsBare a → IsBare b → IsBare (append a b)
append_bare stop b h k = k
append_bare (align a r) b h k = append_bare r b h k
append_bare (chunk s ps r) b h k = append_bare r b h k
append_bare (each p w r) b h k = (h.0, append_bare r b h.1 k)
append_bare (switch p cs r) b h k = (h.0, append_bare r b h.1 k)
append_bare (if_there p w r) b h k = (h.0, append_bare r b h.1 k)
append_bare (patch a s o r) b h k = append_bare r b h k
append_bare _ b h k = absurd h

flat_bare : (b : Block) (n : ℕ) → flat b ≡ Some n → IsBare b
flat_bare stop n e = tt
flat_bare (chunk s ps r) n e = let m = mapped (λ k. length ps + k) (flat r) n e in flat_bare r m.0 m.1
flat_bare (align a r) n e = let m = mapped suc (flat r) n e in flat_bare r m.0 m.1
flat_bare _ n e = absurd cc

count_bare : (c : Count) (b : Block) → IsCount c b → IsBare b
count_bare (Exactly n) b h = subst IsBare (sym h) tt
count_bare (AtMost n) b h = flat_bare b h.0 h.1
count_bare Any b h = flat_bare b h.0 h.1

module _ (e : Encoding) where
  mutual
    go_bare : (t : Ty) (below : ℕ) (p : List ℕ) (b : Block) → FollowsBy (IsTurned (layout_of e)) no_subs t below p b → IsBare b
    go_bare void_type below p b f = flat_bare b f.0 f.1
    go_bare (scalar_type s) below p b f = flat_bare b f.0 f.1
    go_bare (array_type a) below p b f =
        subst IsBare (sym f.6) (append_bare f.0 (each p f.1 f.2) (flat_bare f.0 f.3 f.7) (flat_bare f.1 f.4 f.8, flat_bare f.2 f.5 f.9))
    go_bare (group_type ts) below p b f = fields_bare ts 0 below p b f
    go_bare (items_type c t) below p b f =
        let body = go_bare t below [] f.1 (own (FollowsBy (IsTurned (layout_of e)) no_subs t) below [] f.1 f.4) in
        subst IsBare (sym f.2) (append_bare f.0 (each p f.1 stop) (count_bare c f.0 f.3) (body, tt))
    go_bare (choice_type s arms) below p b f =
        subst IsBare (sym f.2) (append_bare f.0 (switch p f.1 stop) (flat_bare f.0 (f.3).0 (f.3).1) (arms_bare arms below f.1 f.4, tt))
    go_bare (maybe_type t) below p b f =
        let body = go_bare t below [] f.1 (own (FollowsBy (IsTurned (layout_of e)) no_subs t) below [] f.1 f.4) in
        subst IsBare (sym f.2) (append_bare f.0 (if_there p f.1 stop) (flat_bare f.0 (f.3).0 (f.3).1) (body, tt))

    fields_bare : (ts : Tys) (i below : ℕ) (p : List ℕ) (b : Block) → FieldsFollowBy (IsTurned (layout_of e)) no_subs ts i below p b
        → IsBare b
    fields_bare no_fields i below p b f = subst IsBare (sym f) tt
    fields_bare (field t ts) i below p b f =
        let one = go_bare t below (p ++ i ∷ []) f.0 (own (FollowsBy (IsTurned (layout_of e)) no_subs t) below (p ++ i ∷ []) f.0 f.3) in
        subst IsBare (sym f.2) (append_bare f.0 f.1 one (fields_bare ts (suc i) below p f.1 f.4))

    arms_bare : (arms : Arms) (below : ℕ) (cs : Cases) → ArmsFollowBy (IsTurned (layout_of e)) no_subs arms below cs → CasesBare cs
    arms_bare no_other below cs f = subst CasesBare (sym f) tt
    arms_bare (others t) below cs f =
        subst CasesBare (sym f.1) (go_bare t below [] f.0 (own (FollowsBy (IsTurned (layout_of e)) no_subs t) below [] f.0 f.2))
    arms_bare (arm_type n t arms) below cs f =
        subst CasesBare (sym f.2)
        (go_bare t below [] f.0 (own (FollowsBy (IsTurned (layout_of e)) no_subs t) below [] f.0 f.3), arms_bare arms below f.1 f.4)

lead_bare : (b : Block) (n : ℕ) → lead_length b ≡ Some n → IsBare b
lead_bare stop n e = tt
lead_bare (chunk s ps r) n e = let m = mapped (λ k. s + k) (lead_length r) n e in lead_bare r m.0 m.1
lead_bare _ n e = absurd cc

tail_bare : (b : Block) → IsTail b → IsBare b
tail_bare stop h = tt
tail_bare (patch a s o stop) h = tt
tail_bare _ h = absurd h

pub framed_bare : (e : Encoding) (t : Ty) (b : Block) → IsFramed e t b → IsBare b
framed_bare e t b f =
    subst IsBare (sym f.whole) (append_bare f.lead (append f.body f.tail) (lead_bare f.lead f.size f.leads)
    (append_bare f.body f.tail (go_bare e t f.below [] f.body f.goes) (tail_bare f.tail f.ends)))

-- code that goes through a type, with ensures added outside its loops over rows
pub hoisted_given : (e : Encoding) (t : Ty) (given code : SendCode) → IsFramed e t (code_seen given.ops) → ChangesOnlyEnsures given code
    → RowsAreBare t (code_seen code.ops) → code.subs ≡ []
    → IsGiven e t code
hoisted_given e t given code framed adds bare none =
    record {
      framed = subst (IsFramed e t) (sym (adds ∙ bare_same (code_seen given.ops) (framed_bare e t (code_seen given.ops) framed)))
          framed;
      bare = bare;
      subs = none;
    }
