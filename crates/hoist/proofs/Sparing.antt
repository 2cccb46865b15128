-- Code between a lead and a patch, by induction on the lead.
use Rattle.std.proofs.Common.{◌≡◌, ℕ, zero, suc, ◌+◌, ◌≤◌, List, [], ◌++◌, length, Some, option_map, refl, sym, ap, subst, arith}
use Rattle.std.proofs.lemmas.List.{append-nil}
use Rattle.mint.specs.Types.{Ty}
use Rattle.mint.specs.Values.{Val}
use Rattle.wire_def.specs.declared.head.Head.{Head}
use Rattle.cast_stub.specs.declared.put.Put.{Put}
use Rattle.cast_stub.specs.Block.{Block, stop, chunk, patch}
use Rattle.cast_stub.specs.Append.{append}
use Rattle.cast_stub.specs.Steps.{Steps, both, Calls, steps, chunk_steps}
use Rattle.cast_stub.specs.Follows as follows
use Rattle.cast_stub.specs.Framed.{lead_length, IsTail}
use Rattle.hoist.specs.Hoisted.{Hoisted, flat, raised, settled, hoisted}
use Rattle.hoist.specs.Laws.{HoistingIsSparing}
use Rattle.hoist.specs.Regions.{Sizes, AreSizes, Part, lone, parts, regions, roles}
use Rattle.hoist.proofs.Grouping.{load, loaded}
use Rattle.hoist.proofs.Heavy.{heavy, flat_fits}
use Rattle.hoist.proofs.Light.{greatest_of, high_same}
use Rattle.hoist.proofs.Quiet.{mapped, quiet_chunk}
use Rattle.hoist.proofs.Weighing.{spent, weigh, weigh_quiet, weigh_less, high, greatest, closed_fits}

lead_flat : (b : Block) (n : ℕ) → lead_length b ≡ Some n → (k : ℕ) × (follows.flat b ≡ Some k)
lead_flat stop n e = (0, refl)
lead_flat (chunk s ps r) n e =
    let m = mapped (λ k. s + k) (lead_length r) n e in
    let k = lead_flat r m.0 m.1 in
    (length ps + k.0, ap (option_map (λ j. length ps + j)) k.1)
lead_flat _ n e = absurd cc

module _ (z : Sizes) (sizes : AreSizes z) (c : Calls) (h : Head) (v : Val) (t : Ty) where
  abbrev G : Block → ℕ
  G = greatest_of z sizes c h v t

  -- chunks without octets
  none : (s : ℕ) (ps : List Put) (x : Hoisted) → s ≡ 0
      → weigh (both (chunk_steps s ps h v) (steps c h (settled (flat s) x).0 v)) (high (settled (flat s) x).1) ≤ greatest c h v x
  none zero ps (b, p) e =
      let q = weigh_quiet (chunk_steps 0 ps h v) (steps c h b v) (high (raised 0 p)) (quiet_chunk h v ps 0) in
      let l = weigh_less (steps c h b v) (high (raised 0 p)) (high p) (high_same p) in
      omega (arith, q, l)
  none (suc s) ps x e = absurd (omega (arith, e))

  empty_lead : (b r : Block) (n : ℕ) → lead_length b ≡ Some n → n ≡ 0 → G (append b r) ≤ G r
  empty_lead stop r n e f = omega arith
  empty_lead (chunk s ps b) r n e f =
      let m = mapped (λ k. s + k) (lead_length b) n e in
      let one = none s ps (hoisted (roles z) t (append b r)) (omega (arith, m.2, f)) in
      let others = empty_lead b r m.0 m.1 (omega (arith, m.2, f)) in
      omega (arith, one, others)
  empty_lead _ r n e f = absurd cc

  lead_fits : (b r : Block) (n : ℕ) (ps : List Part) → lead_length b ≡ Some n → G r ≤ load ps → G (append b r) ≤ load (lone n ++ ps)
  lead_fits b r zero ps e le = let a = empty_lead b r 0 e refl in omega (arith, a, le)
  lead_fits b r (suc n) ps e le = let k = lead_flat b (suc n) e in flat_fits z sizes c h v t b r (suc n) k.0 ps k.1 (omega arith) le

  tail_fits : (b : Block) → IsTail b → G b ≤ 0
  tail_fits stop e = omega arith
  tail_fits (patch a s o stop) e = omega arith
  tail_fits _ e = absurd e

pub sparing : HoistingIsSparing
sparing z c h t n b v ss sizes sound framed typed met =
    let tail = tail_fits z sizes c h v t framed.2 framed.7 in
    let body = heavy z sizes c h t v sound typed framed.3 [] framed.1 framed.2 t v [] refl refl refl framed.6 tail in
    let all = lead_fits z sizes c h v t framed.0 (append framed.1 framed.2) n (parts z t v ++ []) framed.5 body in
    let whole : greatest c h v (hoisted (roles z) t b) ≤ load (lone n ++ parts z t v) =
    subst (λ (x : Block). greatest c h v (hoisted (roles z) t x) ≤ load (lone n ++ parts z t v)) (sym framed.4)
    (subst (λ (x : List Part). greatest c h v (hoisted (roles z) t (append framed.0 (append framed.1 framed.2))) ≤ load (lone n ++ x))
    (append-nil (parts z t v)) all) in
    let l = loaded (lone n ++ parts z t v) in
    let fits = closed_fits c h v (hoisted (roles z) t b) (regions z n t v) (omega (arith, whole, l)) in
    subst (λ (x : Steps). spent x ≤ regions z n t v) met fits
