-- Fragments that were passed, and what stands first by the one behind them.
use Rattle.std.proofs.Common.{◌≡◌, ℕ, ◌+◌, ◌<◌, ◌≤◌, List, [], ◌++◌, length, drop, true, false, refl, sym, ap, ◌∙◌, append_assoc, append-nil, length-append, arith}
use Rattle.std.proofs.lemmas.List.{drop-append-le, drop-drop, length-drop, length-take}
use Rattle.std.specs.Prelude.{Some, None, Ok, Err}
use Rattle.kit_base.specs.Limits.{longest_message}
use Rattle.wire_frames.specs.declared.frames.FrameErr.TheVariants.{TooLong}
use Rattle.wire_frames.specs.First.{after, record_from, size_in, is_last, octets_in, behind, end_of}
use Rattle.wire_frames.specs.Passed.{Passed}
use Rattle.wire_frames.proofs.Fragments.{same_size, same_last, same_octets, same_behind, after_nothing, after_both, from_short, from_long, from_cut, from_last, from_next}

-- nothing is passed yet
pub passed_nothing : (kept : List ℕ) → Passed kept 0 0
passed_nothing kept = record {
  within = omega arith;
  few = omega arith;
  reads = ([], refl, λ t. sym (after_nothing (record_from 0 (kept ++ t))));
}

-- what is passed stays so when more follows
pub passed_more : (kept piece : List ℕ) (at sum : ℕ) → Passed kept at sum → Passed (kept ++ piece) at sum
passed_more kept piece at sum p = record {
  within = omega (arith, p.within, length-append kept piece);
  few = p.few;
  reads = (p.reads.0, p.reads.1, λ t. same t);
} where
  same : (t : List ℕ) → record_from 0 ((kept ++ piece) ++ t) ≡ after p.reads.0 at (record_from sum (drop at (kept ++ piece) ++ t))
  same t =
      let apart : drop at (kept ++ piece) ++ t ≡ drop at kept ++ (piece ++ t) =
      ap (λ (x : List ℕ). x ++ t) (drop-append-le at kept piece p.within) ∙ append_assoc (drop at kept) piece t in
      ap (record_from 0) (append_assoc kept piece t) ∙ p.reads.2 (piece ++ t)
      ∙ ap (λ (x : List ℕ). after p.reads.0 at (record_from sum x)) (sym apart)

module _ (kept : List ℕ) (at sum : ℕ) (p : Passed kept at sum) where
  -- what stands first, by what stands behind the fragments that were passed
  pub seen_behind : record_from 0 kept ≡ after p.reads.0 at (record_from sum (drop at kept))
  seen_behind =
      ap (record_from 0) (sym (append-nil kept)) ∙ p.reads.2 []
      ∙ ap (λ (x : List ℕ). after p.reads.0 at (record_from sum x)) (append-nil (drop at kept))

  pub end_short : length (drop at kept) < 4 → end_of (record_from 0 kept) ≡ Ok None
  end_short h = ap end_of (seen_behind ∙ ap (after p.reads.0 at) (from_short sum (drop at kept) h))

  pub end_long : 4 ≤ length (drop at kept) → longest_message < sum + size_in (drop at kept)
      → end_of (record_from 0 kept) ≡ Err TooLong
  end_long h far = ap end_of (seen_behind ∙ ap (after p.reads.0 at) (from_long sum (drop at kept) h far))

  pub end_cut : 4 ≤ length (drop at kept) → sum + size_in (drop at kept) ≤ longest_message
      → length (drop at kept) < 4 + size_in (drop at kept) → end_of (record_from 0 kept) ≡ Ok None
  end_cut h few less = ap end_of (seen_behind ∙ ap (after p.reads.0 at) (from_cut sum (drop at kept) h few less))

  pub end_last : 4 + size_in (drop at kept) ≤ length (drop at kept) → sum + size_in (drop at kept) ≤ longest_message
      → is_last (drop at kept) ≡ true → end_of (record_from 0 kept) ≡ Ok (Some (at + (4 + size_in (drop at kept))))
  end_last there few last = ap end_of (seen_behind ∙ ap (after p.reads.0 at) (from_last sum (drop at kept) there few last))

  -- one more fragment is passed
  pub passed_on : 4 + size_in (drop at kept) ≤ length (drop at kept) → sum + size_in (drop at kept) ≤ longest_message
      → is_last (drop at kept) ≡ false → Passed kept (at + (4 + size_in (drop at kept))) (sum + size_in (drop at kept))
  passed_on there few last = record {
    within = omega (arith, p.within, there, length-drop at kept);
    few = few;
    reads = (p.reads.0 ++ octets_in rest, long, λ t. same t);
  } where
    rest : List ℕ
    rest = drop at kept

    long : length (p.reads.0 ++ octets_in (drop at kept)) ≡ sum + size_in (drop at kept)
    long =
        let taken = length-take (size_in (drop at kept)) (drop 4 (drop at kept)) in
        let left = length-drop 4 (drop at kept) in
        omega (arith, p.reads.1, length-append p.reads.0 (octets_in (drop at kept)), taken, left, there)

    same : (t : List ℕ) → record_from 0 (kept ++ t)
        ≡ after (p.reads.0 ++ octets_in (drop at kept)) (at + (4 + size_in (drop at kept)))
        (record_from (sum + size_in (drop at kept)) (drop (at + (4 + size_in (drop at kept))) kept ++ t))
    same t =
        let s = drop at kept in
        let header : 4 ≤ length s = omega (arith, there) in
        let size : size_in (s ++ t) ≡ size_in s = same_size s t header in
        let long_enough : 4 + size_in (s ++ t) ≤ length (s ++ t) = omega (arith, size, there, length-append s t) in
        let little : sum + size_in (s ++ t) ≤ longest_message = omega (arith, size, few) in
        let not_last : is_last (s ++ t) ≡ false = same_last s t header ∙ last in
        let next = from_next sum (s ++ t) long_enough little not_last in
        let octets : octets_in (s ++ t) ≡ octets_in s = same_octets s t there in
        let rests : behind (s ++ t) ≡ drop (at + (4 + size_in s)) kept ++ t =
        same_behind s t there ∙ ap (λ (x : List ℕ). x ++ t) (drop-drop (4 + size_in s) at kept) in
        p.reads.2 t ∙ ap (after p.reads.0 at) next
        ∙ after_both p.reads.0 (octets_in (s ++ t)) at (4 + size_in (s ++ t)) (record_from (sum + size_in (s ++ t)) (behind (s ++ t)))
        ∙ (λ i. after (p.reads.0 ++ octets i) (at + (4 + size i)) (record_from (sum + size i) (rests i)))
