-- What is sent of requests, one after the other, is what becomes of the buffer.
use Rattle.std.proofs.Common.{◌≡◌, ◌≤◌, ◌<◌, ◌-◌, ◌+◌, ℕ, zero, suc, Bool, true, false, List, [], ◌∷◌, length, refl, sym, subst, arith}
use Rattle.std.specs.Prelude.{◌==◌, if◌then◌else◌}
use Rattle.std.proofs.lemmas.Bool.{ne_eqb}
use Rattle.raw_buf.specs.Buf.{Buf, NoneFell}
use Rattle.stub_codes.specs.Stubs.{Coded}
use Rattle.flick_lines.specs.Paid.{call_by_code}
use Rattle.flick_lines.specs.Sent.{IsSpentBy}
use Rattle.flick_lines.proofs.Sending.{spent-none, spent-more, call_runs}
use Rattle.flick_texts.specs.MadeText.{turn, made_head, made_value}
use Rattle.flick_texts.specs.Spent.{made_sent, sent_from, all_sent}

-- whatever becomes of the buffer by the requests from i on, all requests are what it is spent by
abbrev pub Leads : Coded → ℕ → ℕ → ℕ → Buf → Buf → Type 0
Leads c number many i first now =
    (new : Buf) → IsSpentBy true (sent_from c number i (many - i)) now new → IsSpentBy true (sent_from c number 0 many) first new

pub none_led : (c : Coded) (number many : ℕ) (buf : Buf) → Leads c number many 0 buf buf
none_led c number many buf new spent =
    let same : many - 0 ≡ many = omega arith in
    subst (λ (n : ℕ). IsSpentBy true (sent_from c number 0 n) buf new) same spent

led_next : (c : Coded) (number many i : ℕ) (first old now : Buf) → i < many
    → call_by_code c (turn c.binding i) (made_head i) (made_value c.binding number i) old now → NoneFell old.spent now.spent
    → Leads c number many i first old → Leads c number many (suc i) first now
led_next c number many i first old now within ran stands leads new spent =
    let left : many - i ≡ suc (many - suc i) = omega arith in
    let sent = call_runs c (turn c.binding i) (made_head i) (made_value c.binding number i) old now ran stands in
    leads new (subst (λ (n : ℕ). IsSpentBy true (sent_from c number i n) old new) (sym left)
    (spent-more true (made_sent c number i) (sent_from c number (suc i) (many - suc i)) old now new sent spent))

next : (n : ℕ) → n + 1 ≡ suc n
next n = omega arith

-- one request more
pub one_led : (c : Coded) (number many i : ℕ) (first old now : Buf) → i < many
    → call_by_code c (turn c.binding i) (made_head i) (made_value c.binding number i) old now → NoneFell old.spent now.spent
    → Leads c number many i first old → Leads c number many (i + 1) first now
one_led c number many i first old now within ran stands leads =
    subst (λ (n : ℕ). Leads c number many n first now) (sym (next i)) (led_next c number many i first old now within ran stands leads)

-- no request is left
pub all_led : (c : Coded) (number many i : ℕ) (first now : Buf) → many ≤ i → Leads c number many i first now
    → IsSpentBy true (sent_from c number 0 many) first now
all_led c number many i first now over leads =
    let none : many - i ≡ 0 = omega arith in
    leads now (subst (λ (n : ℕ). IsSpentBy true (sent_from c number i n) now now) (sym none) (spent-none true now))

-- without operations none is made
pub none_sent : (c : Coded) (number many : ℕ) (buf : Buf) → length c.binding.ops ≡ 0 → IsSpentBy true (all_sent c number many) buf buf
none_sent c number many buf none =
    subst (λ (n : ℕ). IsSpentBy true (sent_from c number 0 (if n == 0 then 0 else many)) buf buf) (sym none) (spent-none true buf)

-- with operations as many as are asked for
pub so_many_sent : (c : Coded) (number many : ℕ) (old new : Buf) → (length c.binding.ops ≡ 0 → ⊥)
    → IsSpentBy true (sent_from c number 0 many) old new → IsSpentBy true (all_sent c number many) old new
so_many_sent c number many old new some spent =
    let there : (length c.binding.ops == 0) ≡ false = ne_eqb (length c.binding.ops) 0 some in
    subst (λ (b : Bool). IsSpentBy true (sent_from c number 0 (if b then 0 else many)) old new) (sym there) spent
