use Rattle.std.proofs.Common.{◌≡◌, ◌<◌, ℕ, zero, suc, [], ◌∷◌, take, replicate, refl, arith}
use Rattle.plain_wire.proofs.send_scalar.put_zeros.Goals as goal

some_zeros : (n : ℕ) → n < 8 → take {A = ℕ} n (0 ∷ 0 ∷ 0 ∷ 0 ∷ 0 ∷ 0 ∷ 0 ∷ []) ≡ replicate n 0
some_zeros zero h = refl
some_zeros (suc zero) h = refl
some_zeros (suc (suc zero)) h = refl
some_zeros (suc (suc (suc zero))) h = refl
some_zeros (suc (suc (suc (suc zero)))) h = refl
some_zeros (suc (suc (suc (suc (suc zero))))) h = refl
some_zeros (suc (suc (suc (suc (suc (suc zero)))))) h = refl
some_zeros (suc (suc (suc (suc (suc (suc (suc zero))))))) h = refl
some_zeros (suc (suc (suc (suc (suc (suc (suc (suc n)))))))) h = absurd (omega arith)

pub returns : goal.returns
returns c = rw (some_zeros c.args.count c.requires.few) at c.put.ensures
