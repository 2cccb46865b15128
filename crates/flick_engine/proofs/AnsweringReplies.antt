-- What a message is as a reply, by what its body was read as.
use Rattle.std.proofs.Common.{◌≡◌, ◌∙◌, ap, sym, ◌+◌, ◌<◌, ◌≤◌, ℕ, pos, List, Err, Ok, true, false, length, take, drop, refl, arith, inl, inr}
use Rattle.std.proofs.lemmas.List.{length-drop, length-take, take_all}
use Rattle.mint.specs.Sound.{IsSound}
use Rattle.mint.specs.Typed.{IsWellTyped}
use Rattle.mint.specs.Values.{Val, arm}
use Rattle.std.specs.Prelude.{Option, None, Some}
use Rattle.wire_def.specs.declared.outcome.Refusal.{Refusal}
use Rattle.wire_def.specs.declared.reply.Status.{Status}
use Rattle.wire_def.specs.declared.reply.Status.TheVariants as status
use Rattle.wire_def.proofs.Encodings.{are_light}
use Rattle.plain_wire.specs.Answered.{FirstSpell}
use Rattle.pres.specs.Bindings.{Binding}
use Rattle.flick_engine.specs.declared.errors.MessageErr.TheVariants as err
use Rattle.flick_engine.specs.declared.replies.Fate.{Fate}
use Rattle.flick_engine.specs.declared.replies.Fate.TheVariants.{Arm, Refused}
use Rattle.flick_engine.specs.Fates.{Heard, copies_id, fate_of, is_followed, raised_at, takes_memory}
use Rattle.flick_engine.specs.Replies.{IsChoice, HasArm, reply_type, arm_type, arm_type_in}
use Rattle.flick_engine.specs.RepliesReceived.{answered, refused, Says, IsExactlyReply}
use Rattle.flick_engine.proofs.Arming.{arm_reply, some_type}
use Rattle.flick_engine.proofs.DecidingReplies.{exactly_reply}
use Rattle.flick_engine.proofs.RepliesOfBacks.{one_reply}

-- a user exception takes memory, whether it is one of the operation's or not
raised_takes : (id : List ℕ) (n : Option ℕ) → takes_memory (raised_at id n) ≡ true
raised_takes id None = refl
raised_takes id (Some k) = refl

-- so does the value of an arm
pub arm_takes : (f g : Fate) (k : ℕ) → f ≡ g → f ≡ Arm k → takes_memory g ≡ true
arm_takes f g k is told = ap takes_memory (sym is ∙ told)

-- where an id is kept, memory is taken
pub kept_id : (ids : List (List ℕ)) (s : Status) → copies_id ids s ≡ true → takes_memory (fate_of ids s) ≡ true
kept_id ids status.Answer e = refl
kept_id ids (status.User id) e = raised_takes id.now _
kept_id ids (status.Raised k) e = refl
kept_id ids status.ProgUnavail e = absurd (cc e)
kept_id ids (status.ProgMismatch low high) e = absurd (cc e)
kept_id ids status.ProcUnavail e = absurd (cc e)
kept_id ids status.GarbageArgs e = absurd (cc e)
kept_id ids status.SystemErr e = absurd (cc e)
kept_id ids (status.RpcMismatch low high) e = absurd (cc e)
kept_id ids (status.AuthError why) e = absurd (cc e)
kept_id ids (status.System id minor completion) e = refl
kept_id ids (status.RetCode code) e = absurd (cc e)

module _ (b : Binding) (op : ℕ) (o : List ℕ) (t : Heard) where
  -- octets follow a refusal that nothing may follow
  pub is_followed_refusal : (why : Refusal) → Says b op o t (Refused why) → is_followed why t.used o ≡ true
      → IsExactlyReply b op o (Err (err.Trailing t.used))
  is_followed_refusal why says more = exactly_reply b op o _ (inr (t, why, says, (refl, more)))

  -- none do
  pub is_refusal : (why : Refusal) → Says b op o t (Refused why) → is_followed why t.used o ≡ false
      → IsExactlyReply b op o (Ok (record { head = t.head; came = refused why }))
  is_refusal why says none = exactly_reply b op o _ (t, why, says, (refl, refl, none))

  module _ (k : ℕ) (says : Says b op o t (Arm k)) (w : Val) (used : ℕ)
      (spells : FirstSpell t.encoding (arm_type b op k) t.used (drop t.used o) w used) where
    -- a body lies within the message
    pub answer_within : t.used + used ≤ length o
    answer_within =
        let within = (one_reply b op o).within t says.1 in
        omega (arith, within, spells.there, length-drop t.used o)

    -- octets follow
    pub is_trailing_reply : t.used + used < length o → IsExactlyReply b op o (Err (err.Trailing (t.used + used)))
    is_trailing_reply more = exactly_reply b op o _ (inl (t, k, says, (w, used, spells, refl, more)))

    -- none follow
    pub is_answer : length o ≤ t.used + used → IsExactlyReply b op o (Ok (record { head = t.head; came = answered (arm (pos k) w) }))
    is_answer none =
        let all : take used (drop t.used o) ≡ drop t.used o = take_all used (drop t.used o) (omega (arith, length-drop t.used o)) in
        exactly_reply b op o _ (t, k, says, (refl, (w, refl, rw all at spells.spelled)))

    -- the value is one of the reply
    pub is_reply_value : IsChoice (reply_type b op) → HasArm b op k → IsSound (arm_type b op k) → k < 4294967296
        → IsWellTyped (reply_type b op) (arm (pos k) w)
    is_reply_value choice there sound fits =
        let short : length (take used (drop t.used o)) ≤ 4194304 =
        omega (arith, length-take used (drop t.used o), length-drop t.used o, says.0) in
        let light = are_light t.encoding (arm_type b op k) sound t.used (take used (drop t.used o)) w short spells.spelled.octets in
        arm_reply (reply_type b op) k (arm_type b op k) w choice fits (some_type (arm_type_in (reply_type b op) k) there)
        spells.spelled.typed.is_of light
