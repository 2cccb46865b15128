-- Entries one after the other.
use Rattle.std.proofs.Common.{◌≡◌, ℕ, ◌≤◌, List, [], ◌∷◌, ◌++◌, Option, Some, None, Bool, true, false, refl, arith}
use Rattle.std.specs.Prelude.{◌==◌, ◌&&◌, nat_le, if◌then◌else◌}
use Rattle.std.proofs.lemmas.Bool.Decides.{nat_tests}
use Rattle.flick_octets.specs.declared.entry.Entry.{Entry}
use Rattle.flick_octets.specs.Laid.{laid}

-- an entry that begins at a place is laid from there
begun : (at m : ℕ) (e : Entry) → at ≡ m → e.first ≡ m → m ≤ e.end → laid at (e ∷ []) ≡ Some e.end
begun at m e same first le =
    let here : (e.first == at) ≡ true = grind (arith, nat_tests, same, first) in
    let within : nat_le at e.end ≡ true = grind (arith, nat_tests, same, le) in
    rw (here, within) refl

-- what follows a test that holds
after_test : (b : Bool) (one more : Option ℕ) (m last : ℕ) → (one ≡ Some m → more ≡ Some last)
    → (if b then one else None) ≡ Some m → (if b then more else None) ≡ Some last
after_test true one more m last step is = step is
after_test false one more m last step is = absurd cc

-- entries and one more, which begins where they end, end with it
pub laid_more : (at : ℕ) (es : List Entry) (m : ℕ) (e : Entry)
    → laid at es ≡ Some m → e.first ≡ m → m ≤ e.end → laid at (es ++ e ∷ []) ≡ Some e.end
laid_more at [] m e is first le = let same : at ≡ m = cc in begun at m e same first le
laid_more at (x ∷ es) m e is first le = after_test ((x.first == at) && nat_le at x.end) (laid x.end es) (laid x.end (es ++ e ∷ [])) m e.end
    (λ h. laid_more x.end es m e h first le) is
