-- Code of chunks alone is a lead, and takes no step of a call, by induction on the code.
use Rattle.std.proofs.Common.{◌≡◌, ℕ, ◌+◌, length, Option, None, Some, option_map, refl, ap}
use Rattle.mint.specs.Values.{Val}
use Rattle.wire_def.specs.declared.head.Head.{Head}
use Rattle.cast_stub.specs.Block.{Block, stop, chunk}
use Rattle.cast_stub.specs.Framed.{lead_length}
use Rattle.cast_stub.specs.Steps.{Calls, both, chunk_steps, steps}
use Rattle.cast_stub.proofs.Followed.{mapped}
use Rattle.stub_lower.specs.Leads.{chunk_puts}

pub chunks-length : (b : Block) (n : ℕ) → chunk_puts b ≡ Some n → (m : ℕ) × (lead_length b ≡ Some m)
chunks-length stop n e = (0, refl)
chunks-length (chunk s ps b) n e =
    let m = mapped (λ k. length ps + k) (chunk_puts b) n e in
    let rest = chunks-length b m.0 m.1 in
    (s + rest.0, ap (option_map (λ k. s + k)) rest.1)
chunks-length _ n e = absurd cc

pub chunks-steps : (c d : Calls) (h : Head) (v : Val) (b : Block) (n : ℕ) → chunk_puts b ≡ Some n → steps c h b v ≡ steps d h b v
chunks-steps c d h v stop n e = refl
chunks-steps c d h v (chunk s ps b) n e =
    let m = mapped (λ k. length ps + k) (chunk_puts b) n e in
    ap (both (chunk_steps s ps h v)) (chunks-steps c d h v b m.0 m.1)
chunks-steps c d h v _ n e = absurd cc
