-- Lists of eight: what is at the residues 0 to 7.
use Rattle.std.proofs.Common.{◌≡◌, ℕ, zero, suc, ◌<◌, get_or, refl, arith}
use Rattle.stub_places.specs.Sets.{each_of}

-- the value at a residue
pub eighth : {A : Type 0} (f : ℕ → A) (d : A) (r : ℕ) → r < 8 → get_or (each_of f) r d ≡ f r
eighth f d zero h = refl
eighth f d (suc zero) h = refl
eighth f d (suc (suc zero)) h = refl
eighth f d (suc (suc (suc zero))) h = refl
eighth f d (suc (suc (suc (suc zero)))) h = refl
eighth f d (suc (suc (suc (suc (suc zero))))) h = refl
eighth f d (suc (suc (suc (suc (suc (suc zero)))))) h = refl
eighth f d (suc (suc (suc (suc (suc (suc (suc zero))))))) h = refl
eighth f d (suc (suc (suc (suc (suc (suc (suc (suc r)))))))) h = absurd (omega arith)

-- lists of eight are the same where each value is
pub eight_same : {A : Type 0} (f g : ℕ → A) → f 0 ≡ g 0 → f 1 ≡ g 1 → f 2 ≡ g 2 → f 3 ≡ g 3 → f 4 ≡ g 4 → f 5 ≡ g 5 → f 6 ≡ g 6
    → f 7 ≡ g 7 → each_of f ≡ each_of g
eight_same f g h0 h1 h2 h3 h4 h5 h6 h7 = cc
