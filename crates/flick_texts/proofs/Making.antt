-- The line of the messages that a number makes.
use Rattle.std.proofs.Common.{◌≡◌, ℕ, cond, List, [], length, Result, IfOk, sym, ap, ◌∙◌, subst, arith}
use Rattle.std.specs.Prelude.{◌==◌, ◌+◌, false, if◌then◌else◌}
use Rattle.std.proofs.lemmas.Bool.{ne_eqb}
use Rattle.std.proofs.lemmas.Result.{IfOk-weaker}
use Rattle.pres.specs.Bindings.{Binding}
use Rattle.flick_texts.specs.declared.sums.Sums.{Sums}
use Rattle.flick_texts.specs.Counted.{messages_from, count_long, octets_of, counts_line, made_line, Counts}
use Rattle.flick_texts.specs.MadeText.{made_message, make_text}
use Rattle.flick_texts.proofs.Counting.{so_many}

-- without operations all numbers are 0
pub no_messages : (b : Binding) (m number many : ℕ) (s : Sums) → length b.ops ≡ 0 → s.long ≡ 0 → s.octets ≡ 0 → s.fold ≡ 0
    → counts_line 0 s.long s.octets s.fold ≡ make_text b m number many
no_messages b m number many s none long octets fold =
    ap (λ n. counts_line 0 n s.octets s.fold) long ∙ ap (λ n. counts_line 0 0 n s.fold) octets ∙ ap (counts_line 0 0 0) fold
    ∙ ap (λ k. made_line (messages_from (made_message b m number) 0 (if k == 0 then 0 else many))) (sym none)

alone : (n m : ℕ) → n + 0 ≡ m → n ≡ m
alone n m h = omega arith

-- with operations they are those of as many messages
pub some_messages : (b : Binding) (m number many : ℕ) (s : Sums) → (length b.ops ≡ 0 → ⊥)
    → Counts s [] (messages_from (made_message b m number) 0 many)
    → counts_line many s.long s.octets s.fold ≡ make_text b m number many
some_messages b m number many s some counts =
    let all = messages_from (made_message b m number) 0 many in
    let there : (length b.ops == 0) ≡ false = ne_eqb (length b.ops) 0 some in
    ap (λ n. counts_line n s.long s.octets s.fold) (sym (so_many (made_message b m number) 0 many))
    ∙ ap (λ n. counts_line (length all) n s.octets s.fold) (alone s.long (count_long all) counts.long)
    ∙ ap (λ n. counts_line (length all) (count_long all) n s.fold) (alone s.octets (length (octets_of all)) counts.octets)
    ∙ ap (counts_line (length all) (count_long all) (length (octets_of all))) counts.fold
    ∙ ap (λ t. made_line (messages_from (made_message b m number) 0 (cond t 0 many))) (sym there)

pub line_same : {E : Type 0} (r : Result (List ℕ) E) (line text : List ℕ) → line ≡ text → IfOk r (λ t. t ≡ line) → IfOk r (λ t. t ≡ text)
line_same r line text same h = IfOk-weaker r _ _ (λ t e. e ∙ same) h
