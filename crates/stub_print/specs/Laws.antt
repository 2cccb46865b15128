-- The laws of texts.
use Rattle.std.specs.Prelude.{◌≡◌, ℕ, List}
use Rattle.kit_base.specs.Lines.{HasNoEnd}
use Rattle.cast_stub.specs.Block.{Block}
use Rattle.cast_stub.specs.RecvBlock.{Recv}
use Rattle.stub_print.specs.RecvText.{recv_text}
use Rattle.stub_print.specs.SendText.{send_text}

-- codes that send have one text only where the names are the same and the codes are
abbrev pub SendTextsTell : Type 0
SendTextsTell = (n m : List ℕ) (a b : Block) (subs others : List Block) → HasNoEnd n → HasNoEnd m
    → send_text n a subs ≡ send_text m b others → (n ≡ m) × (a ≡ b) × (subs ≡ others)

-- the same of codes that receive
abbrev pub RecvTextsTell : Type 0
RecvTextsTell = (n m : List ℕ) (a b : Recv) (subs others : List Recv) → HasNoEnd n → HasNoEnd m
    → recv_text n a subs ≡ recv_text m b others → (n ≡ m) × (a ≡ b) × (subs ≡ others)

-- no text is both of a code that sends and of one that receives
abbrev pub TextsAreApart : Type 0
TextsAreApart = (n m : List ℕ) (a : Block) (b : Recv) (subs : List Block) (others : List Recv)
    → send_text n a subs ≡ recv_text m b others → ⊥
