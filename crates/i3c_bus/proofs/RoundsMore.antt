-- Rounds of an assignment, one after another.
use Rattle.std.proofs.Common.{◌≡◌, ◌≢◌, ◌⊎◌, ◌∙◌, ℕ, ◌+◌, ◌<◌, ◌≤◌, Bool, true, false, not, List, [], ◌∷◌, ◌++◌, length, map, Option, Result, Ok, MatchOption, ap, append_assoc, arith, inl, inr, refl, subst, sym}
use Rattle.std.specs.Option.{is_some}
use Rattle.std.proofs.lemmas.List.{append-nil, map_push}
use Rattle.i3c_base.specs.declared.answers.RoundReply.{RoundReply}
use Rattle.i3c_base.specs.declared.identity.Identity.{Identity}
use Rattle.i3c_base.specs.declared.range.TheConstants.{SLOTS}
use Rattle.i3c_base.specs.declared.requests.Served.{Served}
use Rattle.i3c_base.specs.Cutting.{CutList, no_cuts}
use Rattle.i3c_base.specs.Round.{Rounds}
use Rattle.i3c_base.specs.State.{Device, State}
use Rattle.i3c_base.proofs.CutLaws.{none_uncut}
use Rattle.i3c_frame.specs.declared.symbols.Symbol.{Symbol}
use Rattle.i3c_frame.specs.Taps.{Tells}
use Rattle.i3c_frame.proofs.TapLaws.{NotesAll-append, NotesAll-nil}
use Rattle.i3c_step.specs.declared.events.Event.{Event}
use Rattle.i3c_step.specs.declared.replies.ActiveStays.{ActiveStays}
use Rattle.i3c_step.specs.declared.replies.Refusal.{Refusal}
use Rattle.i3c_step.specs.declared.replies.Reply.{Reply}
use Rattle.i3c_step.specs.Replies.{opened_reply, rounded_reply}
use Rattle.i3c_step.specs.Sessions.{hearers}
use Rattle.i3c_step.specs.Step.{Acts, IsShort, Step, cuts_active, first_refusal}
use Rattle.i3c_step.proofs.Ending.{at_most, one_fewer, uncut_is_acknowledged}
use Rattle.i3c_bus.specs.Wire.{IsWire}
use Rattle.i3c_bus.specs.Assigning.{AreRounds, IsAssignment, Sends, given_reply, last_reply}

-- a round of an open session in which nobody is cut is carried out
acts : (st new : State) (reply : Reply) (opened cut : Bool) → opened ≡ true → cut ≡ false
    → MatchOption (first_refusal ((not opened, Refusal.NoSession) ∷ (cut, Refusal.ActiveStays) ∷ []))
    (IsShort st (Event.Round no_cuts) reply new ⊎ Acts st (Event.Round no_cuts) reply new)
    (λ why. (reply ≡ Reply.Refused why) × (new ≡ st))
    → Acts st (Event.Round no_cuts) reply new
acts st new reply true false e f (inl (short, is, same)) = absurd cc
acts st new reply true false e f (inr done) = done
acts st new reply true true e f h = absurd cc
acts st new reply false cut e f h = absurd cc

carried_out : (st new : State) (reply : Reply) → st.in_session ≡ true → Step st (Event.Round no_cuts) reply new → Acts st (Event.Round no_cuts) reply new
carried_out st new reply opened step = acts st new reply st.in_session (cuts_active st no_cuts) opened (ap (λ one. is_some one) (none_uncut st.active)) step

pub not_refused : (st new : State) (cuts : CutList) (why : Refusal) → st.in_session ≡ true → cuts ≡ no_cuts → Step st (Event.Round cuts) (Reply.Refused why) new → ⊥
not_refused st new cuts why opened none step =
    let done = carried_out st new (Reply.Refused why) opened (subst (λ cs. Step st (Event.Round cs) (Reply.Refused why) new) none step) in
    let not_both : Reply.Refused why ≡ Reply.Round done.0 = done.1 in absurd cc

answered : (st new : State) (answer : RoundReply) → st.in_session ≡ true → Step st (Event.Round no_cuts) (Reply.Round answer) new → Rounds st no_cuts answer new
answered st new answer opened step =
    let done = carried_out st new (Reply.Round answer) opened step in
    let other : Reply.Round answer ≡ Reply.Round done.0 = done.1 in
    let same : answer ≡ done.0 = cc in
    subst (λ a. Rounds st no_cuts a new) (sym same) done.2

-- somebody acknowledges its address byte
pub acknowledged : (st new : State) (answer : RoundReply) → st.in_session ≡ true → Step st (Event.Round no_cuts) (Reply.Round answer) new → answer ≢ RoundReply.Nobody
acknowledged st new answer opened step e =
    uncut_is_acknowledged st no_cuts new none_uncut (subst (λ a. Rounds st no_cuts a new) e (answered st new answer opened step))

-- and a device that gets an address hears no more
pub fewer_hear : (st new : State) (answer : RoundReply) → st.in_session ≡ true → Step st (Event.Round no_cuts) (Reply.Round answer) new → (a : ℕ) (i : Identity) → answer ≡ RoundReply.Assigned a i
    → hearers new.devices < hearers st.devices
fewer_hear st new answer opened step a i e = one_fewer st no_cuts a i new (subst (λ r. Rounds st no_cuts r new) e (answered st new answer opened step))

-- the round that a call made
pub step_of : (st new : State) (cuts : CutList) (result : Result RoundReply ActiveStays) (answer : RoundReply) → result ≡ Ok answer → cuts ≡ no_cuts → Step st (Event.Round cuts) (rounded_reply result) new
    → Step st (Event.Round no_cuts) (Reply.Round answer) new
step_of st new cuts result answer is none step =
    subst (λ cs. Step st (Event.Round cs) (Reply.Round answer) new) none (subst (λ r. Step st (Event.Round cuts) (rounded_reply r) new) is step)

pub sends_of : {T : Type 0} (gives : T → Symbol → T → Type 0) (first second : T) (st new : State) (cuts : CutList) (result : Result RoundReply ActiveStays) (answer : RoundReply) → result ≡ Ok answer → cuts ≡ no_cuts
    → Step st (Event.Round cuts) (rounded_reply result) new → Tells gives first second (IsWire st (Event.Round cuts) (rounded_reply result) new)
    → Tells gives first second (λ wire. Sends st (Event.Round no_cuts) (Reply.Round answer) wire new)
sends_of gives first second st new cuts result answer is none step told =
    let sent = subst (λ cs. Tells gives first second (IsWire st (Event.Round cs) (Reply.Round answer) new)) none
    (subst (λ r. Tells gives first second (IsWire st (Event.Round cuts) (rounded_reply r) new)) is told) in
    (sent.0, sent.1, (step_of st new cuts result answer is none step, sent.2))

rounds_more : (old : State) (answers : List RoundReply) (wire : List Symbol) (mid : State) (answer : RoundReply) (more : List Symbol) (new : State) → AreRounds old answers wire mid
    → Sends mid (Event.Round no_cuts) (Reply.Round answer) more new → AreRounds old (answers ++ answer ∷ []) (wire ++ more) new
rounds_more old [] wire mid answer more new none sends =
    (new, more, [], subst (λ st. Sends st (Event.Round no_cuts) (Reply.Round answer) more new) none.1 sends, (refl, refl), ap (λ w. w ++ more) none.0 ∙ sym (append-nil more))
rounds_more old (first ∷ later) wire mid answer more new are sends =
    (are.0, are.1, are.2 ++ more, are.3, rounds_more are.0 later are.2 mid answer more new are.4 sends, ap (λ w. w ++ more) are.5 ∙ append_assoc are.1 are.2 more)

pub told_more : {T : Type 0} (gives : T → Symbol → T → Type 0) (first second third : T) (old mid new : State) (answers : List RoundReply) (answer : RoundReply)
    → Tells gives first second (λ wire. AreRounds old answers wire mid) → Tells gives second third (λ wire. Sends mid (Event.Round no_cuts) (Reply.Round answer) wire new)
    → Tells gives first third (λ wire. AreRounds old (answers ++ answer ∷ []) wire new)
told_more gives first second third old mid new answers answer rounds round =
    (rounds.0 ++ round.0, NotesAll-append gives first rounds.0 second round.0 third rounds.1 round.1, rounds_more old answers rounds.0 mid answer round.0 new rounds.2 round.2)

-- a round that gave an address, after others
pub given_more : {T : Type 0} (gives : T → Symbol → T → Type 0) (first second third : T) (old mid new : State) (had now : List (ℕ × Identity)) (pair : ℕ × Identity) (answer : RoundReply) → now ≡ had ++ pair ∷ []
    → answer ≡ given_reply pair → Tells gives first second (λ wire. AreRounds old (map given_reply had) wire mid) → Tells gives second third (λ wire. Sends mid (Event.Round no_cuts) (Reply.Round answer) wire new)
    → Tells gives first third (λ wire. AreRounds old (map given_reply now) wire new)
given_more gives first second third old mid new had now pair answer grown is rounds round =
    subst (λ answers. Tells gives first third (λ wire. AreRounds old answers wire new))
    (ap (λ a. map given_reply had ++ a ∷ []) is ∙ (sym (map_push given_reply had pair) ∙ ap (map given_reply) (sym grown)))
    (told_more gives first second third old mid new (map given_reply had) answer rounds round)

-- the last round, after others
pub last_more : {T : Type 0} (gives : T → Symbol → T → Type 0) (first second third : T) (old mid new : State) (given : List (ℕ × Identity)) (answer last : RoundReply) → answer ≡ last
    → Tells gives first second (λ wire. AreRounds old (map given_reply given) wire mid) → Tells gives second third (λ wire. Sends mid (Event.Round no_cuts) (Reply.Round answer) wire new)
    → Tells gives first third (λ wire. AreRounds old (map given_reply given ++ last ∷ []) wire new)
last_more gives first second third old mid new given answer last is rounds round =
    subst (λ a. Tells gives first third (λ wire. AreRounds old (map given_reply given ++ a ∷ []) wire new)) is
    (told_more gives first second third old mid new (map given_reply given) answer rounds round)

-- before the first round
pub none_given : {T : Type 0} (gives : T → Symbol → T → Type 0) (tap : T) (st : State) (given : List (ℕ × Identity)) → given ≡ [] → Tells gives tap tap (λ wire. AreRounds st (map given_reply given) wire st)
none_given gives tap st given none = ([], NotesAll-nil gives tap, subst (λ pairs. AreRounds st (map given_reply pairs) [] st) (sym none) (refl, refl))

pub few_hear : (places devices : List (Option Device)) → places ≡ devices → length places ≡ SLOTS → hearers devices + 0 ≤ SLOTS
few_hear places devices is long = let most = at_most devices in let same : length places ≡ length devices = ap length is in omega (arith, most, same, long)

-- an opening, its rounds and its end
pub whole : {T : Type 0} (gives : T → Symbol → T → Type 0) (first second third fourth : T) (old opened last new : State) (cuts : CutList) (result : Result (ℕ × Served) (ℕ × ActiveStays)) (session : ℕ) (served : Served) (given : List (ℕ × Identity)) (complete : Bool)
    → result ≡ Ok (session, served) → Step old (Event.OpenDaa cuts) (opened_reply result) opened → Tells gives first second (IsWire old (Event.OpenDaa cuts) (opened_reply result) opened)
    → Tells gives second third (λ wire. AreRounds opened (map given_reply given ++ last_reply complete ∷ []) wire last)
    → Step last Event.EndDaa Reply.Ended new → Tells gives third fourth (IsWire last Event.EndDaa Reply.Ended new)
    → Tells gives first fourth (IsAssignment old cuts served given complete new)
whole gives first second third fourth old opened last new cuts result session served given complete is step opening rounds ended ending =
    let sent = subst (λ r. Tells gives first second (IsWire old (Event.OpenDaa cuts) (opened_reply r) opened)) is opening in (
      sent.0 ++ (rounds.0 ++ ending.0),
      NotesAll-append gives first sent.0 second (rounds.0 ++ ending.0) fourth sent.1 (NotesAll-append gives second rounds.0 third ending.0 fourth rounds.1 ending.1),
      record {
        opened = opened;
        last = last;
        opening = sent.0;
        rounds = rounds.0;
        ending = ending.0;
        opens = (subst (λ r. Step old (Event.OpenDaa cuts) (opened_reply r) opened) is step, sent.2);
        gives = rounds.2;
        ends = (ended, ending.2);
        sent = refl;
      },
    )
