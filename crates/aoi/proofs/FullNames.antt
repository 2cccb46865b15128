-- A list is a full name where it begins with the prefix, and goes on as the own part.
use Rattle.std.proofs.Common.{◌≡◌, ℕ, List, ◌++◌, length, take, drop, take-append-drop, true, false, sym, ap, ◌∙◌}
use Rattle.std.specs.Bool.{one_answer}
use Rattle.std.specs.Str.{bytes_eq}
use Rattle.std.proofs.lemmas.Bool.{true≢false, false_from_ne_true}
use Rattle.std.proofs.lemmas.List.{append_cancel_left}
use Rattle.std.proofs.lemmas.Slice.Eq.{bytes_eq-Decides}
use lib.Seq.{take-append_seam}

-- where it begins with the prefix, what is left is the own part or not
pub same_after : (text prefix own : List ℕ) → bytes_eq (take (length prefix) text) prefix ≡ true
    → bytes_eq (drop (length prefix) text) own ≡ bytes_eq text (prefix ++ own)
same_after text prefix own begins =
    let rest = drop (length prefix) text in
    let parts : text ≡ prefix ++ rest = sym (take-append-drop (length prefix) text)
    ∙ ap (λ z. z ++ rest) ((bytes_eq-Decides (take (length prefix) text) prefix).0 begins) in
    one_answer (bytes_eq rest own) (bytes_eq text (prefix ++ own)) (bytes_eq-Decides rest own) (
      λ t. append_cancel_left prefix rest own (sym parts ∙ (bytes_eq-Decides text (prefix ++ own)).0 t),
      λ e. (bytes_eq-Decides text (prefix ++ own)).1 (parts ∙ ap (λ z. prefix ++ z) e),
    )

-- where it does not begin with the prefix, it is another
pub differs_before : (text prefix own : List ℕ) → bytes_eq (take (length prefix) text) prefix ≡ false
    → false ≡ bytes_eq text (prefix ++ own)
differs_before text prefix own differs =
    let decided = bytes_eq-Decides text (prefix ++ own) in
    sym (false_from_ne_true (bytes_eq text (prefix ++ own)) (λ t. true≢false (
    sym ((bytes_eq-Decides (take (length prefix) text) prefix).1
    (ap (take (length prefix)) (decided.0 t) ∙ take-append_seam prefix own))
    ∙ differs)))
