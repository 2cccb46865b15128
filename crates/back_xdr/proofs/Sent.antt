-- Heads that are sent are read as what they are sent for, and have one length.
use Rattle.std.proofs.Common.{◌≡◌, ◌≤◌, ℕ, zero, suc, List, [], ◌++◌, length, take, refl, sym, ◌∙◌, subst, arith, length-append}
use Rattle.std.proofs.lemmas.List.{take_at}
use Rattle.head_arms.specs.Arms.{arm_status, where_raised}
use Rattle.head_kit.specs.Words as kit
use Rattle.head_kit.specs.Words.{IsWord}
use Rattle.back_xdr.specs.Auth.{AuthSpells}
use Rattle.back_xdr.specs.Call.{Call}
use Rattle.back_xdr.specs.Reply.{accepted, Reply, AcceptedSpells, ReplySpells}
use Rattle.back_xdr.specs.Words.{word}
use Rattle.back_xdr.specs.declared.procedures.Procedure.{Procedure}
use Rattle.back_xdr.specs.Leads.{lead, reply_lead, reply_lead_length}
use Rattle.back_xdr.specs.Laws.{LeadsAreRead, RepliesAreRead, LeadsHaveOneLength}

-- a call without credentials and verifier
abbrev bare_call : Procedure → ℕ → Call
bare_call p id = record {
  xid = id;
  program = p.program;
  version = p.version;
  procedure = p.number;
  cred = record { flavour = 0; body = [] };
  verf = record { flavour = 0; body = [] };
}

pub leads_read : LeadsAreRead
leads_read p id o fits (program, version, number) =
    let first : take 40 (lead p id ++ o) ≡ lead p id = take_at (lead p id) o 40 refl in (
      bare_call p id,
      40,
      (
        omega (arith, length-append (lead p id) o),
        (
          first,
          record {
            xid = fits;
            program = program;
            version = version;
            procedure = number;
            cred = (omega arith, omega arith);
            verf = (omega arith, omega arith);
          },
        ),
      ),
      refl,
    )

-- the head of an accepted call with an empty verifier
abbrev accepted_reply : ℕ → ℕ → Reply
accepted_reply arm id = record { xid = id; fate = accepted (record { flavour = 0; body = [] }) (arm_status arm) }

state_read : (arms arm p : ℕ) → IsWord arm → arm ≤ arms
    → AcceptedSpells arms p (word 0 ++ where_raised arms (word arm)) (arm_status arm)
state_read zero zero p fits few = refl
state_read zero (suc k) p fits few = absurd (omega (arith, few))
state_read (suc n) zero p fits few = refl
state_read (suc n) (suc k) p fits few = (refl, (omega arith, few, fits))

reply_spelled : (arms arm id : ℕ) → IsWord id → IsWord arm → arm ≤ arms
    → ReplySpells arms 0 (word id ++ (word 1 ++ (word 0 ++ ((word 0 ++ word 0) ++ (word 0 ++ where_raised arms (word arm))))))
    (accepted_reply arm id)
unfolding kit.WordSpells AuthSpells
reply_spelled arms arm id fits most few = (
  word id,
  word 1 ++ (word 0 ++ ((word 0 ++ word 0) ++ (word 0 ++ where_raised arms (word arm)))),
  refl,
  (refl, fits),
  (
    word 1,
    word 0 ++ ((word 0 ++ word 0) ++ (word 0 ++ where_raised arms (word arm))),
    refl,
    refl,
    (
      word 0,
      (word 0 ++ word 0) ++ (word 0 ++ where_raised arms (word arm)),
      refl,
      refl,
      (word 0 ++ word 0, word 0 ++ where_raised arms (word arm), refl, (refl, (omega arith, omega arith)), state_read arms arm 20 most few),
    ),
  ),
)

lead_is : (arms arm id : ℕ) → reply_lead arms arm id
    ≡ word id ++ (word 1 ++ (word 0 ++ ((word 0 ++ word 0) ++ (word 0 ++ where_raised arms (word arm)))))
lead_is zero arm id = refl
lead_is (suc n) arm id = refl

lead_long : (arms arm id : ℕ) → length (reply_lead arms arm id) ≡ reply_lead_length arms
lead_long zero arm id = refl
lead_long (suc n) arm id = refl

pub replies_read : RepliesAreRead
replies_read arms arm id o fits most few =
    let lead : List ℕ = reply_lead arms arm id in
    let first : take (reply_lead_length arms) (lead ++ o) ≡ lead = take_at lead o (reply_lead_length arms) (lead_long arms arm id) in (
      accepted_reply arm id,
      reply_lead_length arms,
      (
        omega (arith, length-append lead o, lead_long arms arm id),
        subst (λ (l : List ℕ). ReplySpells arms 0 l (accepted_reply arm id)) (sym (lead_is arms arm id) ∙ sym first)
            (reply_spelled arms arm id fits most few),
      ),
      refl,
    )

pub one_length : LeadsHaveOneLength
one_length p arms = record { calls = λ id. refl; replies = lead_long arms }
