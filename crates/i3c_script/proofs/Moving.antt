-- Steps of a bus on which lines are obeyed.
use Rattle.std.proofs.Common.{◌≡◌, ◌∙◌, ℕ, ◌+◌, Bool, true, false, cond, List, [], ◌∷◌, length, Result, Ok, Err, ap, refl, sym, subst}
use Rattle.std.proofs.lemmas.Bool.{false≢true}
use Rattle.std.specs.Option.{is_some}
use Rattle.std.specs.Prelude.{MatchResult}
use Rattle.i3c_base.specs.declared.requests.Fixed.{Fixed}
use Rattle.i3c_base.specs.Cutting.{CutList, no_cuts}
use Rattle.i3c_base.specs.State.{State}
use Rattle.i3c_frame.specs.declared.symbols.Symbol.{Symbol}
use Rattle.i3c_frame.specs.Taps.{NotesAll, Tells}
use Rattle.i3c_frame.proofs.TapLaws.{NotesAll-nil}
use Rattle.i3c_step.specs.declared.events.Command.{Command as Frame}
use Rattle.i3c_step.specs.declared.events.Event.{Event}
use Rattle.i3c_step.specs.declared.replies.Reply.{Reply}
use Rattle.i3c_base.specs.declared.refusals.JoinRefusal.{JoinRefusal}
use Rattle.i3c_base.specs.declared.refusals.RaiseRefusal.{RaiseRefusal}
use Rattle.i3c_base.specs.declared.refusals.RoleRefusal.{RoleRefusal}
use Rattle.i3c_step.specs.declared.replies.DropRefusal.{DropRefusal}
use Rattle.i3c_step.specs.declared.replies.SlotTaken.{SlotTaken}
use Rattle.i3c_step.specs.Commands.{event_of}
use Rattle.i3c_log_laws.specs.Behind.{reply_from}
use Rattle.i3c_step.specs.Replies.{attached_reply, dropped_reply, joins_reply, raised_reply, role_reply}
use Rattle.i3c_step.specs.Slots.{is_handed}
use Rattle.i3c_step.specs.Step.{Step, cuts_in}
use Rattle.i3c_step.proofs.SlotLaws.{slots_kept}
use Rattle.i3c_bus.specs.Wire.{IsWire}
use Rattle.i3c_lines.specs.declared.names.Name.{Name}
use Rattle.i3c_lines.specs.declared.refusals.Refusal.{Refusal}
use Rattle.i3c_lines.specs.Keeping.{NamesKept, slot_meant}
use Rattle.i3c_text.specs.declared.line_error.LineError.{LineError}
use Rattle.i3c_script.specs.declared.piece.Piece.{Piece}
use Rattle.i3c_script.specs.declared.replies.Subject.{Subject}
use Rattle.i3c_script.specs.declared.settings.Settings.{Settings}
use Rattle.i3c_script.specs.Hearing.{Hears}
use Rattle.i3c_script.specs.Pieces.{frame_subject, subject_of}
use Rattle.i3c_script.specs.Assigning.{Moves, cuts_left, ended_by}
use Rattle.i3c_script.specs.Accepting.{Accepts}
use Rattle.i3c_script.specs.Obeying.{Answers, AnswersIn, AnswersOf, IsRefused, Sends}
use Rattle.i3c_script.specs.Situations.{PastKept, Sends as IsSent, Situation, situation}
use Rattle.i3c_script.specs.Telling.{IsTold}
use Rattle.i3c_script.proofs.Hearing.{hears_by}

-- a frame takes all cuts that wait
pub all_taken : (event : Event) (cuts : CutList) → is_some (cuts_in event) ≡ true → cuts_left event cuts ≡ no_cuts
all_taken event cuts frame = ap (λ b. cond b no_cuts cuts) frame

-- symbols that were noted are sent
pub sent_by : {P : Type 0} (past : PastKept P) (note : P → Symbol → P → Type 0) → ((old : P) (symbol : Symbol) (new : P) → note old symbol new → past.notes old symbol new) → (old new : P) (Is : List Symbol → Type 0) → Tells note old new Is → IsSent past old Is new
sent_by past note noted old new Is (wire, notes, is) = λ kept. (wire, all wire old notes, is)
  where
    all : (symbols : List Symbol) (from : _) → NotesAll note from symbols new → NotesAll past.notes from symbols new
    all [] from same = same
    all (symbol ∷ rest) from (mid, one, more) = (mid, noted from symbol mid one, all rest mid more)

module _ {P : Type 0} (past : PastKept P) where
  -- a step of the bus, whose wire is kept
  pub moved : (old new : State) (settings : Settings) (cuts : CutList) (before sent : P) (event : Event) (reply : Reply) → Step old event reply new → IsSent past before (IsWire old event reply new) sent
      → Moves past (situation old settings cuts before) event reply (situation new settings (cuts_left event cuts) (ended_by past reply old.active (settings.forgotten + length new.records) sent))
  moved old new settings cuts before sent event reply step is = record { sent = sent; step = step; sends = is; settings = refl; cuts = refl; past = refl }

  -- where the role isn't handed over, nobody's tenure ends
  pub ended_still : (reply : Reply) (slot records : ℕ) (now : P) → is_handed reply ≡ false → ended_by past reply slot records now ≡ now
  ended_still reply slot records now same = ap (λ b. cond b (past.ends now slot records) now) same

  -- the cuts of a frame may be taken before
  pub framed : (old new : Situation P) (event : Event) (reply : Reply) → is_some (cuts_in event) ≡ true → Moves past (record old { cuts = no_cuts }) event reply new → Moves past old event reply new
  framed old new event reply frame m = record { sent = m.sent; step = m.step; sends = m.sends; settings = m.settings; cuts = m.cuts ∙ all_taken event no_cuts frame ∙ sym (all_taken event old.cuts frame); past = m.past }

  module _ {L : Type 0} (heard : L → Piece → L) where
    -- a frame whose cuts are taken before
    pub answers_framed : (old mid new : Situation P) (event : Event) (before after : L) (result : Result (Unit {0}) (LineError Refusal)) → is_some (cuts_in event) ≡ true → mid ≡ record old { cuts = no_cuts }
        → Hears heard (λ pieces refused. Answers past mid event pieces refused new) before after result → Hears heard (λ pieces refused. Answers past old event pieces refused new) before after result
    answers_framed old mid new event before after result frame same h =
        hears_by heard (λ pieces refused. Answers past mid event pieces refused new) (λ pieces refused. Answers past old event pieces refused new)
        (λ pieces refused a.
        (a.0, framed old new event a.0 frame (subst (λ r. Moves past r event a.0 new) same a.1), subst (λ (r : Situation P). IsTold (subject_of event) (reply_from r.settings.forgotten a.0) pieces refused) same a.2)) before after result h

    -- a step whose reply is heard
    pub answered : (subject : Subject) (old new : Situation P) (event : Event) (reply : Reply) (before after : L) (result : Result (Unit {0}) (LineError Refusal)) → Moves past old event reply new
        → Hears heard (IsTold subject (reply_from old.settings.forgotten reply)) before after result → Hears heard (λ pieces refused. AnswersOf past subject old event pieces refused new) before after result
    answered subject old new event reply before after result move told =
        hears_by heard (IsTold subject (reply_from old.settings.forgotten reply)) (λ pieces refused. AnswersOf past subject old event pieces refused new) (λ pieces refused one. (reply, move, one)) before after result told

    -- a line whose name means this slot
    pub in_slot : {N : Type 0} (kept : NamesKept N) (old new : Situation P) (names : N) (name : Name) (event : ℕ → Event) (slot : ℕ) (before after : L) (result : Result (Unit {0}) (LineError Refusal)) → Ok slot ≡ slot_meant kept names name
        → Hears heard (λ pieces refused. Answers past old (event slot) pieces refused new) before after result → Hears heard (λ pieces refused. AnswersIn past kept old names name event pieces refused new) before after result
    in_slot kept old new names name event slot before after result is told =
        subst (λ r. Hears heard (λ pieces refused. MatchResult r (λ s. Answers past old (event s) pieces refused new) (λ why. (new ≡ old) × IsRefused why pieces refused)) before after result) is told

-- each frame under the role carries cuts, and its text has of the event what it has of the frame
pub carries_cuts : (frame : Frame) (policy : Fixed) (cuts : CutList) → is_some (cuts_in (event_of frame policy cuts)) ≡ true
carries_cuts Frame.Serve policy cuts = refl
carries_cuts Frame.Reset policy cuts = refl
carries_cuts Frame.SendList policy cuts = refl
carries_cuts (Frame.Enec to kinds) policy cuts = refl
carries_cuts (Frame.Disec to kinds) policy cuts = refl
carries_cuts (Frame.ReadFrom a) policy cuts = refl
carries_cuts (Frame.WriteTo a bytes) policy cuts = refl
carries_cuts (Frame.SetStatic f new) policy cuts = refl
carries_cuts (Frame.SetNew a new) policy cuts = refl
carries_cuts (Frame.Get what a) policy cuts = refl
carries_cuts (Frame.SetLength way most to) policy cuts = refl

pub one_subject : (frame : Frame) (policy : Fixed) (cuts : CutList) → frame_subject frame ≡ subject_of (event_of frame policy cuts)
one_subject Frame.Serve policy cuts = refl
one_subject Frame.Reset policy cuts = refl
one_subject Frame.SendList policy cuts = refl
one_subject (Frame.Enec to kinds) policy cuts = refl
one_subject (Frame.Disec to kinds) policy cuts = refl
one_subject (Frame.ReadFrom a) policy cuts = refl
one_subject (Frame.WriteTo a bytes) policy cuts = refl
one_subject (Frame.SetStatic f new) policy cuts = refl
one_subject (Frame.SetNew a new) policy cuts = refl
one_subject (Frame.Get what a) policy cuts = refl
one_subject (Frame.SetLength way most to) policy cuts = refl

-- and hands no role over
abbrev is_handover : Event → Bool
is_handover (Event.HandOver to cuts) = true
is_handover _ = false

no_handover : (frame : Frame) (policy : Fixed) (cuts : CutList) → is_handover (event_of frame policy cuts) ≡ false
no_handover Frame.Serve policy cuts = refl
no_handover Frame.Reset policy cuts = refl
no_handover Frame.SendList policy cuts = refl
no_handover (Frame.Enec to kinds) policy cuts = refl
no_handover (Frame.Disec to kinds) policy cuts = refl
no_handover (Frame.ReadFrom a) policy cuts = refl
no_handover (Frame.WriteTo a bytes) policy cuts = refl
no_handover (Frame.SetStatic f new) policy cuts = refl
no_handover (Frame.SetNew a new) policy cuts = refl
no_handover (Frame.Get what a) policy cuts = refl
no_handover (Frame.SetLength way most to) policy cuts = refl

unhanded : (old new : State) (frame : Frame) (policy : Fixed) (cuts : CutList) (reply : Reply) → Step old (event_of frame policy cuts) reply new → is_handed reply ≡ false
unhanded old new frame policy cuts reply step = go (is_handed reply) refl
  where
    go : (b : Bool) → is_handed reply ≡ b → is_handed reply ≡ false
    go false e = e
    go true e =
        let (to, others, is, there) = (slots_kept old (event_of frame policy cuts) reply new step).moved e in
        absurd (false≢true (sym (no_handover frame policy cuts) ∙ ap is_handover is))

module _ {P L : Type 0} (past : PastKept P) (heard : L → Piece → L) where
  -- a frame under the role
  pub sent : (old new : State) (settings : Settings) (fixed : Fixed) (cuts left : CutList) (was now : P) (frame : Frame) (reply : Reply) (before after : L) (result : Result (Unit {0}) (LineError Refusal))
      → Accepts settings old fixed → left ≡ no_cuts → Step old (event_of frame fixed cuts) reply new → IsSent past was (IsWire old (event_of frame fixed cuts) reply new) now
      → Hears heard (IsTold (frame_subject frame) (reply_from settings.forgotten reply)) before after result
      → Hears heard (λ pieces refused. Sends past (situation old settings cuts was) frame pieces refused (situation new settings left now)) before after result
  sent old new settings fixed cuts left was now frame reply before after result accepts none step wire told =
      let event = event_of frame fixed cuts in
      let from = situation old settings cuts was in
      let to = situation new settings left now in
      hears_by heard (λ pieces refused. Answers past from event pieces refused to) (λ pieces refused. Sends past from frame pieces refused to) (λ pieces refused answers. (fixed, accepts, answers)) before after result
      (answered past heard (subject_of event) from to event reply before after result
      (subst (λ kept. Moves past from event reply (situation new settings left kept)) (ended_still past reply old.active (settings.forgotten + length new.records) now (unhanded old new frame fixed cuts reply step))
      (subst (λ rest. Moves past from event reply (situation new settings rest (ended_by past reply old.active (settings.forgotten + length new.records) now)))
      (all_taken event cuts (carries_cuts frame fixed cuts) ∙ sym none)
      (moved past old new settings cuts was now event reply step wire)))
      (subst (λ subject. Hears heard (IsTold subject (reply_from settings.forgotten reply)) before after result) (one_subject frame fixed cuts) told))

module _ {P : Type 0} (past : PastKept P) where
  -- a step that sends nothing
  pub unsent : (old new : State) (settings : Settings) (cuts : CutList) (was : P) (event : Event) (reply : Reply) → is_handed reply ≡ false → Step old event reply new → IsWire old event reply new []
      → Moves past (situation old settings cuts was) event reply (situation new settings (cuts_left event cuts) was)
  unsent old new settings cuts was event reply still step is = record {
    sent = was;
    step = step;
    sends = λ kept. ([], NotesAll-nil past.notes was, is);
    settings = refl;
    cuts = refl;
    past = sym (ended_still past reply old.active (settings.forgotten + length new.records) was still);
  }

  module _ {L : Type 0} (heard : L → Piece → L) where
    -- a line that sends nothing and takes no cuts, whose reply is heard
    pub quietly : (old new : State) (settings : Settings) (cuts : CutList) (was : P) (event : Event) (reply : Reply) (before after : L) (result : Result (Unit {0}) (LineError Refusal))
        → is_some (cuts_in event) ≡ false → is_handed reply ≡ false → reply_from settings.forgotten reply ≡ reply → Step old event reply new → IsWire old event reply new []
        → Hears heard (IsTold (subject_of event) reply) before after result
        → Hears heard (λ pieces refused. Answers past (situation old settings cuts was) event pieces refused (situation new settings cuts was)) before after result
    quietly old new settings cuts was event reply before after result uncut still same step wire told =
        answered past heard (subject_of event) (situation old settings cuts was) (situation new settings cuts was) event reply before after result
        (subst (λ left. Moves past (situation old settings cuts was) event reply (situation new settings left was)) (ap (λ b. cond b no_cuts cuts) uncut)
        (unsent old new settings cuts was event reply still step wire))
        (subst (λ r. Hears heard (IsTold (subject_of event) r) before after result) (sym same) told)

-- what a device does by itself sends nothing
pub attached_still : (old new : State) (event : Event) (attached : Result (Unit {0}) SlotTaken) → IsWire old event (attached_reply attached) new []
attached_still old new event (Ok done) = refl
attached_still old new event (Err why) = refl

pub dropped_still : (old new : State) (event : Event) (dropped : Result (Unit {0}) DropRefusal) → IsWire old event (dropped_reply dropped) new []
dropped_still old new event (Ok done) = refl
dropped_still old new event (Err why) = refl

pub raised_still : (old new : State) (event : Event) (raised : Result ℕ RaiseRefusal) → IsWire old event (raised_reply raised) new []
raised_still old new event (Ok number) = refl
raised_still old new event (Err why) = refl

pub join_still : (old new : State) (event : Event) (asked : Result (Unit {0}) JoinRefusal) → IsWire old event (joins_reply asked) new []
join_still old new event (Ok done) = refl
join_still old new event (Err why) = refl

pub role_still : (old new : State) (event : Event) (asked : Result (Unit {0}) RoleRefusal) → IsWire old event (role_reply asked) new []
role_still old new event (Ok done) = refl
role_still old new event (Err why) = refl

-- and hands no role over
pub attached_unhanded : (attached : Result (Unit {0}) SlotTaken) → is_handed (attached_reply attached) ≡ false
attached_unhanded (Ok done) = refl
attached_unhanded (Err why) = refl

pub dropped_unhanded : (dropped : Result (Unit {0}) DropRefusal) → is_handed (dropped_reply dropped) ≡ false
dropped_unhanded (Ok done) = refl
dropped_unhanded (Err why) = refl

pub raised_unhanded : (raised : Result ℕ RaiseRefusal) → is_handed (raised_reply raised) ≡ false
raised_unhanded (Ok number) = refl
raised_unhanded (Err why) = refl

pub join_unhanded : (asked : Result (Unit {0}) JoinRefusal) → is_handed (joins_reply asked) ≡ false
join_unhanded (Ok done) = refl
join_unhanded (Err why) = refl

pub role_unhanded : (asked : Result (Unit {0}) RoleRefusal) → is_handed (role_reply asked) ≡ false
role_unhanded (Ok done) = refl
role_unhanded (Err why) = refl

-- and counts no record
pub attached_counted : (forgotten : ℕ) (attached : Result (Unit {0}) SlotTaken) → reply_from forgotten (attached_reply attached) ≡ attached_reply attached
attached_counted forgotten (Ok done) = refl
attached_counted forgotten (Err why) = refl

pub dropped_counted : (forgotten : ℕ) (dropped : Result (Unit {0}) DropRefusal) → reply_from forgotten (dropped_reply dropped) ≡ dropped_reply dropped
dropped_counted forgotten (Ok done) = refl
dropped_counted forgotten (Err why) = refl

pub raised_counted : (forgotten : ℕ) (raised : Result ℕ RaiseRefusal) → reply_from forgotten (raised_reply raised) ≡ raised_reply raised
raised_counted forgotten (Ok number) = refl
raised_counted forgotten (Err why) = refl

pub join_counted : (forgotten : ℕ) (asked : Result (Unit {0}) JoinRefusal) → reply_from forgotten (joins_reply asked) ≡ joins_reply asked
join_counted forgotten (Ok done) = refl
join_counted forgotten (Err why) = refl

pub role_counted : (forgotten : ℕ) (asked : Result (Unit {0}) RoleRefusal) → reply_from forgotten (role_reply asked) ≡ role_reply asked
role_counted forgotten (Ok done) = refl
role_counted forgotten (Err why) = refl
