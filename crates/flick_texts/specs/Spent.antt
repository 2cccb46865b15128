-- What is sent of the requests that a number makes.
use Rattle.std.specs.Prelude.{ℕ, zero, suc, List, [], ◌∷◌}
use Rattle.stub_codes.specs.Stubs.{Coded}
use Rattle.flick_lines.specs.Sent.{Sending, call_sent}
use Rattle.flick_texts.specs.MadeText.{turn, made_head, made_value, so_many_of}

-- what is sent of request i: its message, at what the code costs that is kept for the operation whose turn it is
abbrev pub made_sent : Coded → ℕ → ℕ → Sending
made_sent c number i = call_sent c (turn c.binding i) (made_head i) (made_value c.binding number i)

-- what is sent of so many requests, from request i on
abbrev pub sent_from : Coded → ℕ → ℕ → ℕ → List Sending
sent_from c number i zero = []
sent_from c number i (suc n) = made_sent c number i ∷ sent_from c number (suc i) n

-- what is sent of so many requests from 0 on; there are none where there is no operation
abbrev pub all_sent : Coded → ℕ → ℕ → List Sending
all_sent c number many = sent_from c number 0 (so_many_of c.binding many)
