-- How a message is answered is determined, and each is answered in some way.
use Rattle.std.proofs.Common.{◌≡◌, ◌⊎◌, inl, inr, ℕ, ◌<◌, List, Bool, true, false, length, refl, sym, ap, ◌∙◌, subst, arith}
use Rattle.std.specs.Prelude.{MatchBool, nat_lt, Option, None, Some, Result, Ok, Err}
use Rattle.kit_base.specs.Limits.{longest_message}
use Rattle.mint.specs.Sound.{IsSound}
use Rattle.mint.specs.Values.{Val}
use Rattle.wire_def.specs.declared.encoding.Back.{Back}
use Rattle.wire_def.specs.declared.encoding.Back.TheVariants as back
use Rattle.wire_def.specs.declared.fault.HeadErr.{HeadErr}
use Rattle.wire_def.specs.declared.head.Head.{Head}
use Rattle.wire_def.specs.declared.head.Order.{Order}
use Rattle.wire_def.specs.declared.head.Order.TheVariants.{Big, Little}
use Rattle.wire_def.specs.declared.outcome.Refusal.{Refusal}
use Rattle.wire_def.specs.Grammar.{AreOctets}
use Rattle.head_kit.specs.declared.call_head.CallHead.{CallHead}
use Rattle.head_kit.specs.Calls.{HasHead}
use Rattle.pres.specs.Bindings.{Binding}
use Rattle.back_xdr.specs.declared.call.OncCall.{OncCall}
use Rattle.back_xdr.specs.Call.{Call as OncHead}
use Rattle.back_xdr.specs.Heads as onc_heads
use Rattle.back_xdr.specs.Reported as onc
use Rattle.back_xdr.proofs.Lawful as onc_lawful
use Rattle.giop_head.specs.declared.header.HeadKind.TheVariants.{Asks, Requests}
use Rattle.giop_head.specs.Call.{Call, addressing, request, search_for}
use Rattle.giop_head.specs.Heads.{BeginsWith, StopsWith}
use Rattle.giop_head.specs.Reported.{ReportedCall, addressed, shared_head, sought, call_reported, BeginsCall}
use Rattle.giop_head.proofs.Lawful as giop_lawful
use Rattle.back_mach.specs.declared.call.MachCall.{MachCall}
use Rattle.back_mach.specs.declared.header.MachHeader.{MachHeader}
use Rattle.back_mach.specs.Heads as mach_heads
use Rattle.back_mach.specs.Reported as mach
use Rattle.back_mach.proofs.Lawful as mach_lawful
use Rattle.flick_engine.specs.declared.errors.MessageErr.{MessageErr}
use Rattle.flick_engine.specs.declared.errors.MessageErr.TheVariants as err
use Rattle.flick_engine.specs.Backs.{Begins, BeginsOver, Stops}
use Rattle.flick_engine.specs.Laws.{IsServingDetermined, IsServingSomething}
use Rattle.flick_engine.specs.Messages.{request_type}
use Rattle.flick_engine.specs.Received.{Asked, IsShort, ReadCall}
use Rattle.flick_engine.specs.Refusals.{reply_head, NoInterfaceOver, no_version, range, versions, RefusesOver, addressing_answer, giop_answer, has_object, locate_octets, AnswersOther, AnswersFault}
use Rattle.flick_engine.specs.Replies.{reply_message}
use Rattle.flick_engine.specs.Serving.{gives, is_answered, IsRefused, Replies, RefusesCall, AnswersAs, AnswersCall, ServesCall, Serves}
use Rattle.flick_engine.proofs.Deciding.{determined}
use Rattle.flick_engine.proofs.Existing.{above_or_not, something}
use Rattle.flick_engine.proofs.HeadsOfBacks.{one_head, has_head}
use Rattle.flick_engine.proofs.Searching.{not_a_request}

-- ---- one head

one_onc : (o : List ℕ) (c d : OncCall) → onc.BeginsCall o c → onc.BeginsCall o d → c ≡ d
one_onc o c d (h, used, begins, reported) (j, m, begins', reported') =
    let same = (onc_lawful.heads_are_single onc_heads.call o).one_head h j used m begins begins' in
    sym reported ∙ ap (λ (x : OncHead). onc.call_reported x used) same.0 ∙ ap (onc.call_reported j) same.1 ∙ reported'

one_mach : (o : List ℕ) (c d : MachCall) → mach.BeginsCall o c → mach.BeginsCall o d → c ≡ d
one_mach o c d (h, used, begins, reported) (j, m, begins', reported') =
    let same = (mach_lawful.heads_are_single mach_heads.call o).one_head h j used m begins begins' in
    sym reported ∙ ap (λ (x : MachHeader). mach.call_reported x used) same.0 ∙ ap (mach.call_reported j) same.1 ∙ reported'

one_giop : (o : List ℕ) (c d : ReportedCall) → BeginsCall o c → BeginsCall o d → c ≡ d
one_giop o c d (h, used, begins, reported) (j, m, begins', reported') =
    let same = (giop_lawful.heads_are_single Asks o).one_head h j used m begins begins' in
    sym reported ∙ ap (λ (x : Call). call_reported x used) same.0 ∙ ap (call_reported j) same.1 ∙ reported'

same_search : (id i m n : ℕ) (key s : List ℕ) → sought id key m ≡ sought i s n → (id ≡ i) × ((key ≡ s) × (m ≡ n))
same_search id i m n key s e = (cc e, (cc e, cc e))

same_addressed : (h g : Head) → addressed h ≡ addressed g → h ≡ g
same_addressed h g e = cc e

two_kinds : (id m : ℕ) (key : List ℕ) (h : Head) → sought id key m ≡ addressed h → ⊥
two_kinds id m key h e = absurd cc

-- ---- a fault of a head is answered in one way

module _ (m : ℕ) (r : Order) (b : Binding) (o : List ℕ) where
  abbrev located : ℕ → ℕ → List ℕ → Option (List ℕ)
  located n id key = Some (locate_octets n r id (has_object b key))

  never : (c : ReportedCall) (e : HeadErr) → BeginsCall o c → StopsWith Asks o e → ⊥
  never c e (h, used, begins, reported) stops = (giop_lawful.heads_are_single Asks o).not_both h used e begins stops

  one_other : (x y : Option (List ℕ)) → AnswersOther m r b o x → AnswersOther m r b o y → x ≡ y
  one_other x y (inl (id, key, n, begins, is)) (inl (i, s, k, begins', is')) =
      let same = same_search id i n k key s (one_giop o (sought id key n) (sought i s k) begins begins') in
      is ∙ ap (λ (j : ℕ). located n j key) same.0 ∙ ap (located n i) same.1.0 ∙ ap (λ (j : ℕ). located j i s) same.1.1 ∙ sym is'
  one_other x y (inl (id, key, n, begins, is)) (inr (inl (h, begins', is'))) =
      absurd (two_kinds id n key h (one_giop o (sought id key n) (addressed h) begins begins'))
  one_other x y (inl (id, key, n, begins, is)) (inr (inr (e, stops, is'))) = absurd (never (sought id key n) e begins stops)
  one_other x y (inr (inl (h, begins, is))) (inl (id, key, n, begins', is')) =
      absurd (two_kinds id n key h (one_giop o (sought id key n) (addressed h) begins' begins))
  one_other x y (inr (inl (h, begins, is))) (inr (inl (g, begins', is'))) =
      is ∙ ap (addressing_answer r) (same_addressed h g (one_giop o (addressed h) (addressed g) begins begins')) ∙ sym is'
  one_other x y (inr (inl (h, begins, is))) (inr (inr (e, stops, is'))) = absurd (never (addressed h) e begins stops)
  one_other x y (inr (inr (e, stops, is))) (inl (id, key, n, begins, is')) = absurd (never (sought id key n) e begins stops)
  one_other x y (inr (inr (e, stops, is))) (inr (inl (h, begins, is'))) = absurd (never (addressed h) e begins stops)
  one_other x y (inr (inr (e, stops, is))) (inr (inr (d, stops', is'))) =
      is ∙ ap (giop_answer m r o) ((giop_lawful.heads_are_single Asks o).one_fault e d stops stops') ∙ sym is'

one_answer_over : (k : Back) (m : ℕ) (b : Binding) (o : List ℕ) (e : HeadErr) (x y : Option (List ℕ)) → AnswersFault k m b o e x
    → AnswersFault k m b o e y → x ≡ y
one_answer_over back.Xdr m b o e x y h g = h ∙ sym g
one_answer_over back.CdrBig m b o e x y h g = one_other m Big b o x y h g
one_answer_over back.CdrLittle m b o e x y h g = one_other m Little b o x y h g
one_answer_over back.Mach m b o e x y h g = h ∙ sym g

-- ---- a call is answered in one way

one_reason_over : (k : Back) (b : Binding) (o : List ℕ) (w u : Refusal) → NoInterfaceOver k b o w → NoInterfaceOver k b o u → w ≡ u
one_reason_over back.Xdr b o w u (c, begins, is) (d, begins', is') =
    is ∙ ap (λ (x : OncCall). no_version (range (versions x.program b.unit.interfaces))) (one_onc o c d begins begins') ∙ sym is'
one_reason_over back.CdrBig b o w u h g = h ∙ sym g
one_reason_over back.CdrLittle b o w u h g = h ∙ sym g
one_reason_over back.Mach b o w u h g = h ∙ sym g

one_reason : (b : Binding) (o : List ℕ) (e : MessageErr) (w u : Refusal) → IsRefused b o e w → IsRefused b o e u → w ≡ u
one_reason b o err.NoInterface w u h g = one_reason_over b.back b o w u h g
one_reason b o err.NoOperation w u h g = h ∙ sym g
one_reason b o err.Long w u h g = h ∙ sym g
one_reason b o (err.Head e) w u h g = h ∙ sym g
one_reason b o (err.Body f) w u h g = h ∙ sym g
one_reason b o (err.Trailing at) w u h g = h ∙ sym g
one_reason b o err.NoMemory w u h g = h ∙ sym g

one_refusal : (k : Back) (m : ℕ) (o : List ℕ) (head : Head) (w : Refusal) (x y : Option (List ℕ)) → RefusesOver k m o head w x
    → RefusesOver k m o head w y → x ≡ y
one_refusal back.Xdr m o head w x y h g = sym h ∙ g
one_refusal back.CdrBig m o head w x y h g = sym h ∙ g
one_refusal back.CdrLittle m o head w x y h g = sym h ∙ g
one_refusal back.Mach m o head w x y (c, begins, is) (d, begins', is') =
    let same : c.id ≡ d.id = ap (λ (z : MachCall). z.id) (one_mach o c d begins begins') in
    sym is ∙ rw same is'

module _ (b : Binding) (work : ℕ → Val → Val) (o : List ℕ) where
  refused_once : (m : ℕ) (head : Head) (e : MessageErr) (x y : Option (List ℕ)) → RefusesCall b m o head e x
      → RefusesCall b m o head e y → x ≡ y
  refused_once m head e x y (w, is, refuses) (u, is', refuses') =
      let same : u ≡ w = one_reason b o e u w is' is in
      one_refusal b.back m o head w x y refuses (subst (λ (z : Refusal). RefusesOver b.back m o head z y) same refuses')

  replied_once : (m : ℕ) (head : Head) (op : ℕ) (w : Val) (x y : Option (List ℕ)) → Replies b m o head op w x
      → Replies b m o head op w y → x ≡ y
  replied_once m head op w x y (inl (short, is)) (inl (short', is')) = is ∙ sym is'
  replied_once m head op w x y (inl (short, is)) (inr (long, refuses)) = absurd (omega (arith, short, long))
  replied_once m head op w x y (inr (long, refuses)) (inl (short, is)) = absurd (omega (arith, short, long))
  replied_once m head op w x y (inr (long, refuses)) (inr (long', refuses')) = one_refusal b.back m o head _ x y refuses refuses'

  answered_as : (m : ℕ) (head : Head) (r : Result Asked MessageErr) (x y : Option (List ℕ)) → AnswersAs b m (gives work) o head r x
      → AnswersAs b m (gives work) o head r y → x ≡ y
  answered_as m head (Err e) x y h g = refused_once m head e x y h g
  answered_as m head (Ok r) x y (w, is, replies) (u, is', replies') =
      let same : u ≡ w = is' ∙ sym is in
      replied_once m head r.op w x y replies (subst (λ (z : Val). Replies b m o head r.op z y) same replies')

  answered_once : (c : CallHead) (x y : Option (List ℕ)) → AnswersCall b (gives work) o c x → AnswersCall b (gives work) o c y → x ≡ y
  answered_once c x y (r, reads, answers) (s, reads', answers') =
      let same : s ≡ r = determined b o s r reads' reads in
      answered_as c.minor (reply_head b.back c.head) r x y answers
      (subst (λ (z : Result Asked MessageErr). AnswersAs b c.minor (gives work) o (reply_head b.back c.head) z y) same answers')

  called_once : (t : Bool) (c : CallHead) (x y : Option (List ℕ)) → MatchBool t (AnswersCall b (gives work) o c x) (x ≡ None)
      → MatchBool t (AnswersCall b (gives work) o c y) (y ≡ None) → x ≡ y
  called_once true c x y h g = answered_once c x y h g
  called_once false c x y h g = h ∙ sym g

  once : (m : ℕ) (x y : Option (List ℕ)) → Serves b m (gives work) o x → Serves b m (gives work) o y → x ≡ y
  once m x y (inl (long, is)) (inl (long', is')) = is ∙ sym is'
  once m x y (inl (long, is)) (inr (inl (short, e, stops, answers))) = absurd (omega (arith, long, short))
  once m x y (inl (long, is)) (inr (inr (short, c, begins, serves))) = absurd (omega (arith, long, short))
  once m x y (inr (inl (short, e, stops, answers))) (inl (long, is)) = absurd (omega (arith, long, short))
  once m x y (inr (inr (short, c, begins, serves))) (inl (long, is)) = absurd (omega (arith, long, short))
  once m x y (inr (inl (short, e, stops, answers))) (inr (inl (short', d, stops', answers'))) =
      let same : d ≡ e = (one_head b o).one_fault d e stops' stops in
      one_answer_over b.back m b o e x y answers (subst (λ (z : HeadErr). AnswersFault b.back m b o z y) same answers')
  once m x y (inr (inl (short, e, stops, answers))) (inr (inr (short', c, begins, serves))) =
      absurd ((one_head b o).not_both c e begins stops)
  once m x y (inr (inr (short, c, begins, serves))) (inr (inl (short', e, stops, answers))) =
      absurd ((one_head b o).not_both c e begins stops)
  once m x y (inr (inr (short, c, begins, serves))) (inr (inr (short', d, begins', serves'))) =
      let same : d ≡ c = (one_head b o).one_head d c begins' begins in
      called_once (is_answered b c) c x y serves (subst (λ (z : CallHead). ServesCall b (gives work) o z y) same serves')

pub served_once : IsServingDetermined
served_once b m work o x y h g = once b work o m x y h g

-- ---- each message is answered

module _ (m : ℕ) (r : Order) (b : Binding) (o : List ℕ) where
  asked_somehow : ((h : Call) × (used : ℕ) × BeginsWith Asks o h used) ⊎ ((e : HeadErr) × StopsWith Asks o e)
      → (d : HeadErr) → StopsWith Requests o d → (x : Option (List ℕ)) × AnswersOther m r b o x
  asked_somehow (inl (request s n q, used, begins)) d stops =
      absurd (not_a_request o d _ _ _ _ _ stops (request s n q, used, begins, refl))
  asked_somehow (inl (search_for s n q, used, begins)) d stops = (_, inl (q.id, q.key, n, (search_for s n q, used, begins, refl), refl))
  asked_somehow (inl (addressing s n z, used, begins)) d stops =
      (_, inr (inl (shared_head z.0 z.1 s, (addressing s n z, used, begins, refl), refl)))
  asked_somehow (inr (e, stops)) d stops' = (_, inr (inr (e, stops, refl)))

fault_somehow : (k : Back) (m : ℕ) (b : Binding) (o : List ℕ) → AreOctets o → (e : HeadErr) → Stops k o e
    → (x : Option (List ℕ)) × AnswersFault k m b o e x
fault_somehow back.Xdr m b o oct e stops = (_, refl)
fault_somehow back.CdrBig m b o oct e stops = asked_somehow m Big b o (giop_lawful.heads_are_decided Asks o oct).either e stops
fault_somehow back.CdrLittle m b o oct e stops = asked_somehow m Little b o (giop_lawful.heads_are_decided Asks o oct).either e stops
fault_somehow back.Mach m b o oct e stops = (_, refl)

reason_over : (k : Back) (b : Binding) (o : List ℕ) (c : CallHead) → BeginsOver k b o c → (w : Refusal) × NoInterfaceOver k b o w
reason_over back.Xdr b o c (call, begins, reported) = (_, (call, begins, refl))
reason_over back.CdrBig b o c begins = (_, refl)
reason_over back.CdrLittle b o c begins = (_, refl)
reason_over back.Mach b o c begins = (_, refl)

refusal_over : (k : Back) (m : ℕ) (b : Binding) (o : List ℕ) (c : CallHead) → BeginsOver k b o c → (head : Head) (w : Refusal)
    → (x : Option (List ℕ)) × RefusesOver k m o head w x
refusal_over back.Xdr m b o c begins head w = (_, refl)
refusal_over back.CdrBig m b o c begins head w = (_, refl)
refusal_over back.CdrLittle m b o c begins head w = (_, refl)
refusal_over back.Mach m b o c (call, begins, reported) head w = (_, (call, begins, refl))

module _ (b : Binding) (work : ℕ → Val → Val) (o : List ℕ) (c : CallHead) (begins : Begins b o c) where
  reason : (e : MessageErr) → (w : Refusal) × IsRefused b o e w
  reason err.NoInterface = reason_over b.back b o c begins
  reason err.NoOperation = (_, refl)
  reason err.Long = (_, refl)
  reason (err.Head e) = (_, refl)
  reason (err.Body f) = (_, refl)
  reason (err.Trailing at) = (_, refl)
  reason err.NoMemory = (_, refl)

  refusal : (m : ℕ) (head : Head) (w : Refusal) → (x : Option (List ℕ)) × RefusesOver b.back m o head w x
  refusal m head w = refusal_over b.back m b o c begins head w

  reply : (m : ℕ) (head : Head) (op : ℕ) (w : Val)
      → (longest_message < length (reply_message b m op head w)) ⊎ IsShort (reply_message b m op head w)
      → (x : Option (List ℕ)) × Replies b m o head op w x
  reply m head op w (inl long) = let (x, refuses) = refusal m head _ in (x, inr (long, refuses))
  reply m head op w (inr short) = (_, inl (short, refl))

  answer_as : (m : ℕ) (head : Head) (r : Result Asked MessageErr) → (x : Option (List ℕ)) × AnswersAs b m (gives work) o head r x
  answer_as m head (Err e) =
      let (w, is) = reason e in
      let (x, refuses) = refusal m head w in
      (x, (w, is, refuses))
  answer_as m head (Ok r) =
      let w : Val = work r.op r.value in
      let (x, replies) =
      reply m head r.op w (above_or_not longest_message (length (reply_message b m r.op head w))
      (nat_lt longest_message (length (reply_message b m r.op head w))) refl) in
      (x, (w, refl, replies))

  call_somehow : (t : Bool) (r : Result Asked MessageErr) → ReadCall b o r
      → (x : Option (List ℕ)) × MatchBool t (AnswersCall b (gives work) o c x) (x ≡ None)
  call_somehow true r reads = let (x, answers) = answer_as c.minor (reply_head b.back c.head) r in (x, (r, reads, answers))
  call_somehow false r reads = (None, refl)

module _ (b : Binding) (m : ℕ) (work : ℕ → Val → Val) (sound : (op : ℕ) → IsSound (request_type b op))
    (o : List ℕ) (oct : AreOctets o) where
  headed : IsShort o → HasHead (Begins b o) (Stops b.back o) → (x : Option (List ℕ)) × Serves b m (gives work) o x
  headed short (inl (c, begins)) =
      let (r, reads) = something b sound o oct in
      let (x, serves) = call_somehow b work o c begins (is_answered b c) r reads in
      (x, inr (inr (short, c, begins, serves)))
  headed short (inr (e, stops)) =
      let (x, answers) = fault_somehow b.back m b o oct e stops in
      (x, inr (inl (short, e, stops, answers)))

  sized_so : (longest_message < length o) ⊎ IsShort o → (x : Option (List ℕ)) × Serves b m (gives work) o x
  sized_so (inl long) = (None, inl (long, refl))
  sized_so (inr short) = headed short (has_head b o oct)

pub served_somehow : IsServingSomething
served_somehow b m work sound o oct =
    sized_so b m work sound o oct (above_or_not longest_message (length o) (nat_lt longest_message (length o)) refl)
