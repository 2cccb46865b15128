use Rattle.std.proofs.Common.{rules, ℕ, List, Result, sym, subst}
use Rattle.hex.specs.declared.error.FromHexError.{FromHexError}
use Rattle.hex.proofs.HexLemmas.{decode_of-encode_lower}
use Rattle.flick_engine.specs.Received.{ReadCall}
use Rattle.flick_lines.specs.Unmarshalled.{request_text, IsOfOctets}
use Rattle.flick_lines.proofs.Options.{if-ok}
use Rattle.flick_lines.proofs.unmarshalled.record_of.Goals as goal

pub returns : goal.returns
returns c =
    let b = c.args.engine.now.binding in
    let spelled = decode_of-encode_lower c.args.message.now (λ i. search (rules, c.type_inv.message)) in
    if-ok _ _ _ (λ o. subst (λ (x : Result (List ℕ) FromHexError). IsOfOctets (ReadCall b) (request_text b) x o) (sym spelled))
    c.of_octets.ensures
