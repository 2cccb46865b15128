-- The head of a call (RFC 5531, section 9).
use Rattle.std.specs.Prelude.{◌≡◌, ℕ, List, ◌++◌}
use Rattle.wire_def.specs.declared.fault.HeadErr.{HeadErr}
use Rattle.wire_def.specs.declared.fault.HeadErr.TheVariants.{Version, Type_}
use Rattle.wire_def.specs.Grammar.{Reader, Spelling, Stopping, map_got, both, StopsInOrder}
use Rattle.head_kit.specs.Words.{IsWord, WordStops, only}
use Rattle.back_xdr.specs.Words.{word, WordSpells, read_word, PassSpells, PassStops, read_pass}
use Rattle.back_xdr.specs.Auth.{Auth, auth_octets, IsAuth, AuthSpells, AuthStops, read_auth}

-- a transaction, the procedure that it calls, credentials and a verifier
pub record Call : Type 0 where
  pub xid : ℕ
  pub program : ℕ
  pub version : ℕ
  pub procedure : ℕ
  pub cred : Auth
  pub verf : Auth

-- the transaction, 0 for a call, 2 for the protocol's version, the procedure, credentials and verifier
abbrev pub call_octets : Call → List ℕ
call_octets c = word c.xid ++ (word 0 ++ (word 2
    ++ (word c.program ++ (word c.version ++ (word c.procedure ++ (auth_octets c.cred ++ auth_octets c.verf))))))

-- each number fits its word, each body its bound
pub record IsCall (c : Call) : Type 0 where
  pub xid : IsWord c.xid
  pub program : IsWord c.program
  pub version : IsWord c.version
  pub procedure : IsWord c.procedure
  pub cred : IsAuth c.cred
  pub verf : IsAuth c.verf

-- a call's head as octets
abbrev pub CallSpells : Spelling Call
CallSpells p o c = (o ≡ call_octets c) × IsCall c

-- the first item of a call's head that is cut off or wrong
abbrev pub CallStops : Stopping HeadErr
CallStops =
    StopsInOrder WordSpells WordStops (λ xid.
    StopsInOrder (PassSpells (only 0)) (PassStops (only 0) Type_) (λ type.
    StopsInOrder (PassSpells (only 2)) (PassStops (only 2) Version) (λ protocol.
    StopsInOrder WordSpells WordStops (λ program.
    StopsInOrder WordSpells WordStops (λ version.
    StopsInOrder WordSpells WordStops (λ procedure.
    StopsInOrder AuthSpells AuthStops (λ cred.
    AuthStops)))))))

-- the items of a call's head, in their order
abbrev pub Values : Type 0
Values = ℕ × (ℕ × (ℕ × (ℕ × (ℕ × (ℕ × (Auth × Auth))))))

-- the call that has these items
abbrev pub call_in : Values → Call
call_in x = record {
  xid = x.0;
  program = x.1.1.1.0;
  version = x.1.1.1.1.0;
  procedure = x.1.1.1.1.1.0;
  cred = x.1.1.1.1.1.1.0;
  verf = x.1.1.1.1.1.1.1;
}

-- a call's head, item by item
abbrev pub read_head_of_call : Reader HeadErr Call
read_head_of_call p o = map_got call_in
    (both read_word (λ xid. both (read_pass (only 0) Type_) (λ type. both (read_pass (only 2) Version) (λ protocol.
    both read_word (λ program. both read_word (λ version. both read_word (λ procedure.
    both read_auth (λ cred. read_auth))))))) p o)
