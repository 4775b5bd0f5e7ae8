-- The books after a call: they are the active slot, whether a session is open, and the number of frames.
use Rattle.std.proofs.Common.{◌≡◌, ◌≢◌, Result, Ok, Err, MatchResult, Option, Some, None, MatchOption, ℕ, ◌+◌, Bool, true, false, cond, List, [], ◌∷◌, ◌++◌, length, refl, sym, ap, ◌∙◌, subst, arith}
use Rattle.std.specs.Prelude.{⊤}
use Rattle.std.proofs.lemmas.List.Sums.{sum_by-append, sum_by_push}
use Rattle.i3c_base.specs.declared.device.Setup.{Setup}
use Rattle.i3c_base.specs.declared.requests.Fixed.{Fixed}
use Rattle.i3c_base.specs.declared.requests.Served.{Served}
use Rattle.i3c_base.specs.Cutting.{CutList}
use Rattle.i3c_base.specs.State.{State}
use Rattle.i3c_step.specs.declared.events.Command.{Command}
use Rattle.i3c_step.specs.declared.events.Event.{Event}
use Rattle.i3c_step.specs.declared.replies.OutOfMemory.{OutOfMemory}
use Rattle.i3c_step.specs.declared.replies.Refusal.{Refusal}
use Rattle.i3c_step.specs.declared.replies.Reply.{Reply}
use Rattle.i3c_step.specs.Commands.{event_of}
use Rattle.i3c_step.specs.Slots.{is_handed, session_after}
use Rattle.i3c_step.proofs.SlotLaws.{slots_kept}
use Rattle.i3c_step.proofs.Slots.{Stands, Stands-same, Stands-then}
use Rattle.i3c_recorder.specs.declared.entry.Entry.{Entry}
use Rattle.i3c_recorder.specs.KeptRuns.{Leads, events_of}
use Rattle.i3c_shared.specs.Books.{book_frame, books_of, frames_in, is_frame, sessions_in, shares_of}
use Rattle.i3c_shared.specs.declared.faults.HandOverFault.{HandOverFault}
use Rattle.i3c_shared.specs.Closing.{IsCounted}
use Rattle.i3c_shared.specs.Replying.{IsUnhanded}
use Rattle.i3c_shared.specs.Taking.{Grows, PutsOut, Stays, TakesUp}
use Rattle.i3c_shared.specs.Values.{BooksValue, HeldValue, Log, Reading, Rings}
use Rattle.i3c_shared.proofs.Fitting.{AllRaises, all_raises_below}
use Rattle.i3c_shared.proofs.Steady.{IsSteady, command_steady, commands_are_frames, local_stands, round_steady, same_reply}

frames_push : (run : List Entry) (e : Entry) → frames_in (run ++ e ∷ []) ≡ frames_in run + cond (is_frame e.event) 1 0
frames_push run e = sum_by_push (λ (x : Entry). cond (is_frame x.event) 1 0) run e

frames_append : (run more : List Entry) → frames_in (run ++ more) ≡ frames_in run + frames_in more
frames_append run more = sum_by-append (λ (x : Entry). cond (is_frame x.event) 1 0) run more

-- a frame is one more, and what a device does by itself is none
pub frames_more : (run new : List Entry) (event : Event) (reply : Reply) → new ≡ run ++ record { event = event; reply = reply } ∷ [] → is_frame event ≡ true → frames_in new ≡ frames_in run + 1
frames_more run new event reply is frame = ap frames_in is ∙ frames_push run (record { event = event; reply = reply }) ∙ ap (λ b. frames_in run + cond b 1 0) frame

frames_same : (run new : List Entry) (event : Event) (reply : Reply) → new ≡ run ++ record { event = event; reply = reply } ∷ [] → is_frame event ≡ false → frames_in new ≡ frames_in run
frames_same run new event reply is alone =
    let next : frames_in new ≡ frames_in run + 0 = ap frames_in is ∙ frames_push run (record { event = event; reply = reply }) ∙ ap (λ b. frames_in run + cond b 1 0) alone in
    omega (arith, next)

-- how much an entry adds to the frames of a run
abbrev weight : Entry → ℕ
weight e = cond (is_frame e.event) 1 0

no_frame_first : (e : Entry) (rest : List Entry) → is_frame e.event ≡ false → frames_in rest ≡ 0 → frames_in (e ∷ rest) ≡ 0
no_frame_first e rest alone none =
    let parts : frames_in (e ∷ rest) ≡ frames_in (e ∷ []) + frames_in rest = frames_append (e ∷ []) rest in
    let one : frames_in (e ∷ []) ≡ weight e = omega arith in
    let zero_here : weight e ≡ 0 = ap (λ b. cond b 1 0) alone in
    omega (arith, parts, one, zero_here, none)

-- raises are no frames, and leave the active controller and the session
raises_stand : (old : State) (added : List Entry) (es : List Event) (new : State) → events_of added ≡ es → AllRaises es → Leads old added new → Stands old new × (frames_in added ≡ 0)
raises_stand old [] es new same all h = (Stands-same old new old h (refl, refl), refl)
raises_stand old (a ∷ added) [] new same all h = cc
raises_stand old (a ∷ added) (e ∷ es) new same all h =
    let is : a.event ≡ Event.Raise all.0.0 all.0.1 = cc (all.0.2) in
    let rest : events_of added ≡ es = cc in
    let alone : is_frame a.event ≡ false = ap is_frame is in
    let first = local_stands old a.event a.reply h.0 alone h.1 in
    let more = raises_stand h.0 added es new rest all.1 h.2 in
    (Stands-then old h.0 new first more.0, no_frame_first a added alone more.1)

-- what is taken up are raises
taken_stand : (old : Log) (seen : Rings) (new : Log) → TakesUp old seen new → Stands old.state new.state
taken_stand old seen new t = (raises_stand old.state t.raises _ new.state t.taken (all_raises_below (length seen) seen) t.leads).0

pub taken_frames : (old : Log) (seen : Rings) (new : Log) → TakesUp old seen new → frames_in new.run ≡ frames_in old.run
taken_frames old seen new t =
    let none = (raises_stand old.state t.raises _ new.state t.taken (all_raises_below (length seen) seen) t.leads).1 in
    let parts : frames_in new.run ≡ frames_in old.run + frames_in t.raises = ap frames_in t.run ∙ frames_append old.run t.raises in
    omega (arith, parts, none)

pub taken_active : (old : Log) (seen : Rings) (new : Log) → TakesUp old seen new → new.state.active ≡ old.state.active
taken_active old seen new t = (taken_stand old seen new t).0

pub taken_session : (old : Log) (seen : Rings) (new : Log) → TakesUp old seen new → new.state.in_session ≡ old.state.in_session
taken_session old seen new t = (taken_stand old seen new t).1

-- a frame event adds one to those of the run
pub grown_frames : (old new : Log) (event : Event) (reply : Reply) → Grows old event reply new → is_frame event ≡ true → frames_in new.run ≡ frames_in old.run + 1
grown_frames old new event reply g frame =
    frames_more g.mid.run new.run event reply g.makes.run frame ∙ ap (λ n. n + 1) (taken_frames old g.seen g.mid g.takes)

grown_session : (old new : Log) (event : Event) (reply : Reply) → Grows old event reply new → new.state.in_session ≡ session_after reply old.state.in_session
grown_session old new event reply g =
    (slots_kept g.mid.state event reply new.state g.makes.step).session ∙ ap (λ b. session_after reply b) (taken_session old g.seen g.mid g.takes)

grown_active : (old new : Log) (event : Event) (reply : Reply) → Grows old event reply new → is_handed reply ≡ false → new.state.active ≡ old.state.active
grown_active old new event reply g stays =
    (slots_kept g.mid.state event reply new.state g.makes.step).active stays ∙ taken_active old g.seen g.mid g.takes

abbrev booked : ℕ → ℕ → ℕ → BooksValue
booked active session frames = record { active = active; session = session; frames = frames }

books_are : (a s f b t g : ℕ) → a ≡ b → s ≡ t → f ≡ g → booked a s f ≡ booked b t g
books_are a s f b t g p q r = rw (p, q, r) refl

-- nothing was taken
pub stays_booked : (books : BooksValue) (old new : Log) → books ≡ books_of old → Stays old new → books ≡ books_of new
stays_booked books old new was s =
    was ∙ books_are _ _ _ _ _ _ (sym (ap (λ (st : State). st.active) s.state)) (sym (ap (λ (st : State). sessions_in st.in_session) s.state)) (sym (ap frames_in s.run))

-- an event of a device by itself
pub local_booked : (books : BooksValue) (old new : Log) (event : Event) (reply : Reply) → books ≡ books_of old → Grows old event reply new → is_frame event ≡ false → books ≡ books_of new
local_booked books old new event reply was g alone =
    let own = local_stands g.mid.state event reply new.state alone g.makes.step in
    let all = Stands-then old.state g.mid.state new.state (taken_stand old g.seen g.mid g.takes) own in
    let frames : frames_in new.run ≡ frames_in old.run = frames_same g.mid.run new.run event reply g.makes.run alone ∙ taken_frames old g.seen g.mid g.takes in
    was ∙ books_are _ _ _ _ _ _ (sym all.0) (sym (ap sessions_in all.1)) (sym frames)

pub carried_booked : (books : BooksValue) (old new : Log) (event : Event) (result : Result Reply OutOfMemory) → books ≡ books_of old → is_frame event ≡ false
    → MatchResult result (λ reply. (reply ≢ Reply.OutOfMemory) × Grows old event reply new) (λ _. Stays old new) → books ≡ books_of new
carried_booked books old new event (Ok reply) was alone h = local_booked books old new event reply was h.1 alone
carried_booked books old new event (Err e) was alone h = stays_booked books old new was h

-- an attachment, after which its port may be out
pub put_booked : (books : BooksValue) (old taken new : Log) (s : ℕ) (setup : Setup) (ring : Reading) (reply : Reply) → books ≡ books_of old → Grows old (Event.Attach s setup) reply taken → PutsOut s ring reply taken new → books ≡ books_of new
put_booked books old taken new s setup ring reply was g put = local_booked books old taken (Event.Attach s setup) reply was g refl ∙ sym (ap books_of put)

-- a frame event whose reply says that the session is this
framed : (books : BooksValue) (old new : Log) (event : Event) (reply : Reply) (slot session : ℕ) → books ≡ books_of old → Grows old event reply new → is_frame event ≡ true
    → slot ≡ new.state.active → session ≡ sessions_in (session_after reply old.state.in_session)
    → booked slot session (books.frames + 1) ≡ books_of new
framed books old new event reply slot session was g frame at is =
    books_are _ _ _ _ _ _ at (is ∙ sym (ap sessions_in (grown_session old new event reply g)))
    (ap (λ (b : BooksValue). b.frames + 1) was ∙ sym (grown_frames old new event reply g frame))

-- a frame event that neither moves the role nor opens or ends a session
pub frame_booked : (books : BooksValue) (old new : Log) (event : Event) (reply : Reply) → books ≡ books_of old → Grows old event reply new → is_frame event ≡ true → IsSteady reply old.state.in_session
    → book_frame books ≡ books_of new
frame_booked books old new event reply was g frame steady =
    framed books old new event reply books.active books.session was g frame
    (ap (λ (b : BooksValue). b.active) was ∙ sym (grown_active old new event reply g steady.0))
    (ap (λ (b : BooksValue). b.session) was ∙ sym (ap sessions_in steady.1))

-- a refused event
pub refused_booked : (books : BooksValue) (old new : Log) (event : Event) (reply : Reply) (why : Refusal) → books ≡ books_of old → Grows old event reply new → is_frame event ≡ true → reply ≡ Reply.Refused why → book_frame books ≡ books_of new
refused_booked books old new event reply why was g frame is = frame_booked books old new event reply was g frame (same_reply reply (Reply.Refused why) old.state.in_session is (refl, refl))

-- a frame under the role
pub command_booked : (books : BooksValue) (old new : Log) (m : Command) (policy : Fixed) (cuts : CutList) (reply : Reply) → books ≡ books_of old → Grows old (event_of m policy cuts) reply new → book_frame books ≡ books_of new
command_booked books old new m policy cuts reply was g =
    frame_booked books old new (event_of m policy cuts) reply was g (commands_are_frames m policy cuts)
    (subst (λ (b : Bool). IsSteady reply b) (taken_session old g.seen g.mid g.takes) (command_steady g.mid.state m policy cuts reply new.state g.makes.step))

-- a round
pub round_booked : (books : BooksValue) (old new : Log) (cuts : CutList) (reply : Reply) → books ≡ books_of old → Grows old (Event.Round cuts) reply new → book_frame books ≡ books_of new
round_booked books old new cuts reply was g =
    frame_booked books old new (Event.Round cuts) reply was g refl
    (subst (λ (b : Bool). IsSteady reply b) (taken_session old g.seen g.mid g.takes) (round_steady g.mid.state cuts reply new.state g.makes.step))

-- a handover that the role comes back from
pub unhanded_booked : (books : BooksValue) (old new : Log) (to : ℕ) (cuts : CutList) (reply : Reply) (why : HandOverFault) → books ≡ books_of old → Grows old (Event.HandOver to cuts) reply new → IsUnhanded why reply → book_frame books ≡ books_of new
unhanded_booked books old new to cuts reply (HandOverFault.Refused why) was g is = refused_booked books old new (Event.HandOver to cuts) reply why was g refl is
unhanded_booked books old new to cuts reply (HandOverFault.NoAnswer served a) was g is =
    frame_booked books old new (Event.HandOver to cuts) reply was g refl (same_reply reply _ old.state.in_session is (refl, refl))
unhanded_booked books old new to cuts reply HandOverFault.OutOfMemory was g is = absurd is

-- an opened session
pub opened_booked : (books : BooksValue) (old new : Log) (cuts : CutList) (reply : Reply) (served : Served) → books ≡ books_of old → Grows old (Event.OpenDaa cuts) reply new → reply ≡ Reply.Opened served → record (book_frame books) { session = 1 } ≡ books_of new
opened_booked books old new cuts reply served was g is =
    framed books old new (Event.OpenDaa cuts) reply books.active 1 was g refl
    (ap (λ (b : BooksValue). b.active) was ∙ sym (grown_active old new (Event.OpenDaa cuts) reply g (ap is_handed is)))
    (ap (λ r. sessions_in (session_after r old.state.in_session)) (sym is))

-- an ended session
pub ended_booked : (books : BooksValue) (old new : Log) (reply : Reply) → books ≡ books_of old → Grows old Event.EndDaa reply new → reply ≡ Reply.Ended → record (book_frame books) { session = 0 } ≡ books_of new
ended_booked books old new reply was g is =
    framed books old new Event.EndDaa reply books.active 0 was g refl
    (ap (λ (b : BooksValue). b.active) was ∙ sym (grown_active old new Event.EndDaa reply g (ap is_handed is)))
    (ap (λ r. sessions_in (session_after r old.state.in_session)) (sym is))

-- a granted handover
pub handed_booked : (books : BooksValue) (old new : Log) (to : ℕ) (cuts : CutList) (reply : Reply) (served : Served) (slot : ℕ) → books ≡ books_of old → Grows old (Event.HandOver to cuts) reply new → reply ≡ Reply.Handed served → slot ≡ new.state.active
    → record (book_frame books) { active = slot } ≡ books_of new
handed_booked books old new to cuts reply served slot was g is at =
    framed books old new (Event.HandOver to cuts) reply slot books.session was g refl at
    (ap (λ (b : BooksValue). b.session) was ∙ ap (λ r. sessions_in (session_after r old.state.in_session)) (sym is))

none_open : (b : Bool) → sessions_in b ≡ 0 → b ≡ false
none_open false h = refl
none_open true h = absurd (omega (arith, h))

one_open : (b : Bool) → sessions_in b ≡ 1 → b ≡ true
one_open true h = refl
one_open false h = absurd (omega (arith, h))

-- a close: a role that was handed in is the active controller's, and counts the frames of the run
pub closed_counted : (books : BooksValue) (old : Log) (seen : Rings) (last : Log) (role : Option HeldValue) (run : List Entry) → books ≡ books_of old → TakesUp old seen last → run ≡ last.run
    → MatchOption role ⊤ (λ held. shares_of 0 held ≡ books) → IsCounted role run last.state
closed_counted books old seen last None run was takes ran h = tt
closed_counted books old seen last (Some held) run was takes ran h = (
  ap (λ (b : BooksValue). b.active) (h ∙ was) ∙ sym (taken_active old seen last takes),
  ap (λ (b : BooksValue). b.frames) (h ∙ was) ∙ sym (taken_frames old seen last takes) ∙ sym (ap frames_in ran),
)

-- a holder whose shares are all that is booked has a role while no session is open, and a session while one is
pub is_closed : (log : Log) (books shares : BooksValue) → shares ≡ books → books ≡ books_of log → shares.session ≡ 0 → log.state.in_session ≡ false
is_closed log books shares whole was role = none_open log.state.in_session (sym (ap (λ (b : BooksValue). b.session) (whole ∙ was)) ∙ role)

pub is_opened : (log : Log) (books shares : BooksValue) → shares ≡ books → books ≡ books_of log → shares.session ≡ 1 → log.state.in_session ≡ true
is_opened log books shares whole was session = one_open log.state.in_session (sym (ap (λ (b : BooksValue). b.session) (whole ∙ was)) ∙ session)

-- the run has one frame event more than these shares count
pub one_more : (books shares : BooksValue) (old new : Log) (event : Event) (reply : Reply) → shares ≡ books → books ≡ books_of old → Grows old event reply new → is_frame event ≡ true → frames_in new.run ≡ shares.frames + 1
one_more books shares old new event reply whole was g frame =
    grown_frames old new event reply g frame ∙ ap (λ (b : BooksValue). b.frames + 1) (sym (whole ∙ was))
