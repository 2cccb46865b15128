-- The octets of a record, fragment by fragment.
use Rattle.std.proofs.Common.{◌≡◌, ℕ, suc, ◌+◌, ◌<◌, ◌≤◌, List, [], ◌∷◌, ◌++◌, length, true, false, refl, sym, ap, ◌∙◌, append_assoc, length-drop, arith}
use Rattle.wire_frames.specs.First.{First, whole, more, record_from, record_within, size_in, is_last, octets_in, behind}
use Rattle.wire_frames.proofs.Choosing.{short, long, cut_off, ended, going}
use Rattle.wire_frames.proofs.Fragments.{step, enough, from_short}
use Rattle.wire_frames.proofs.Found.{found_after, same_message}

-- what is joined so far makes the message of a record together with what is found in the rest
pub record Joins (message : List ℕ) (rest joined : List ℕ) : Type 0 where
  pub sum : ℕ
  pub others : List ℕ
  pub used : ℕ
  pub found : record_from sum rest ≡ whole others used
  pub makes : message ≡ joined ++ others

pub joins_nothing : (kept message : List ℕ) (used : ℕ) → record_from 0 kept ≡ whole message used → Joins message kept []
joins_nothing kept message used e = record { sum = 0; others = message; used = used; found = e; makes = refl }

module _ (message rest joined : List ℕ) (j : Joins message rest joined) where
  -- the first fragment of the rest is there
  stepped : (k : ℕ) → length rest ≡ suc k → record_within (suc k) j.sum rest ≡ whole j.others j.used
  stepped k e = sym (ap (λ (n : ℕ). record_within n j.sum rest) e) ∙ j.found

  pub never_short : length rest < 4 → ⊥
  never_short h = let none : record_from j.sum rest ≡ more = from_short j.sum rest h in let e = j.found in absurd cc

  fuel : (s : List ℕ) → (length s < 4 → ⊥) → (k : ℕ) × (length s ≡ suc k)
  fuel [] h = absurd (h (omega arith))
  fuel (x ∷ s) h = (length s, refl)

  -- its octets are there; where it is the last, they end the message, and else they are joined too
  pub joins : (4 + size_in rest ≤ length rest) × (is_last rest ≡ true → message ≡ joined ++ octets_in rest)
      × (is_last rest ≡ false → Joins message (behind rest) (joined ++ octets_in rest))
  joins =
      let k = fuel rest never_short in
      elim (step k.0 j.sum rest _ (stepped k.0 k.1)) [
        | short less is ↦ absurd (never_short less)
        | long header over is ↦ absurd cc
        | cut_off header few less is ↦ absurd cc
        | ended all few last is ↦
            (all, (λ e. j.makes ∙ ap (λ (x : List ℕ). joined ++ x) (same_message _ _ _ _ (sym is)).0), (λ e. absurd cc))
        | going all few last is ↦
            let behind_it : First = record_within k.0 (j.sum + size_in rest) (behind rest) in
            let f = found_after (octets_in rest) (4 + size_in rest) behind_it j.others j.used (sym is) in
            let less : length (behind rest) ≤ k.0 = omega (arith, k.1, length-drop (4 + size_in rest) rest) in (
              all,
              (λ e. absurd cc),
              λ e. record {
                sum = j.sum + size_in rest;
                others = f.0;
                used = f.1;
                found = enough (length (behind rest)) k.0 (j.sum + size_in rest) (behind rest) (omega arith) less ∙ f.2;
                makes = j.makes ∙ ap (λ (x : List ℕ). joined ++ x) f.3 ∙ sym (append_assoc joined (octets_in rest) f.0);
              },
            )
      ]

  pub joins_there : 4 + size_in rest ≤ length rest
  joins_there = joins.0

  pub joins_last : is_last rest ≡ true → message ≡ joined ++ octets_in rest
  joins_last = joins.1

  pub joins_next : is_last rest ≡ false → Joins message (behind rest) (joined ++ octets_in rest)
  joins_next = joins.2
