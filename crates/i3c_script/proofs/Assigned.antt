-- A whole session as a line.
use Rattle.std.proofs.Common.{◌≡◌, ◌⊎◌, ◌∙◌, ℕ, Bool, true, List, [], ◌∷◌, ◌++◌, map, MatchOption, Result, Ok, Err, ap, inl, inr, refl, subst, sym}
use Rattle.std.specs.Prelude.{IfErr, OnOk}
use Rattle.i3c_base.specs.declared.answers.RoundReply.{RoundReply}
use Rattle.i3c_base.specs.declared.identity.Identity.{Identity}
use Rattle.i3c_base.specs.declared.requests.Served.{Served}
use Rattle.i3c_base.specs.Cutting.{CutList, no_cuts}
use Rattle.i3c_base.specs.State.{State}
use Rattle.i3c_frame.specs.declared.symbols.Symbol.{Symbol}
use Rattle.i3c_frame.specs.Taps.{Tells}
use Rattle.i3c_step.specs.declared.events.Event.{Event}
use Rattle.i3c_step.specs.declared.replies.ActiveStays.{ActiveStays}
use Rattle.i3c_step.specs.declared.replies.Refusal.{Refusal as BusRefusal}
use Rattle.i3c_step.specs.declared.replies.Reply.{Reply}
use Rattle.i3c_step.specs.Step.{Acts, IsShort, Step, cuts_active, first_refusal}
use Rattle.i3c_bus.specs.declared.hand.Hand.{Hand}
use Rattle.i3c_bus.specs.Assigning.{AreRounds, IsAssignment, given_reply, last_reply}
use Rattle.i3c_bus.specs.Hands.{HandFits, is_session}
use Rattle.i3c_bus.specs.Wire.{IsWire}
use Rattle.i3c_lines.specs.declared.refusals.Refusal.{Refusal}
use Rattle.i3c_text.specs.declared.line_error.LineError.{LineError}
use Rattle.i3c_script.specs.declared.piece.Piece.{Piece}
use Rattle.i3c_script.specs.declared.settings.Settings.{Settings}
use Rattle.i3c_script.specs.Assigning.{Assigns, IsSession, IsSessionTold, Rounds}
use Rattle.i3c_script.specs.Hearing.{Hears}
use Rattle.i3c_script.specs.Situations.{PastKept, Situation, situation}
use Rattle.i3c_script.proofs.Hearing.{hears_by}
use Rattle.i3c_script.proofs.Moving.{moved, sent_by, unsent}

-- the rounds of an assignment are steps
pub rounds : (old : State) (answers : List RoundReply) (wire : List Symbol) (new : State) → AreRounds old answers wire new → Rounds old answers new
rounds old [] wire new h = h.1
rounds old (answer ∷ later) wire new (mid, first, rest, sent, more, is) = (mid, sent.0, rounds mid later rest new more)

module _ {P : Type 0} (past : PastKept P) (note : P → Symbol → P → Type 0) (noted : (old : P) (symbol : Symbol) (new : P) → note old symbol new → past.notes old symbol new) where
  -- an assignment is a session of the bus, and its wire is kept
  as_session : (st new : State) (settings : Settings) (cuts : CutList) (was now : P) (served : Served) (given : List (ℕ × Identity)) (complete : Bool) → Tells note was now (IsAssignment st cuts served given complete new)
      → IsSession past (situation st settings cuts was) served given complete (situation new settings no_cuts now)
  as_session st new settings cuts was now served given complete (wire, notes, a) = record {
    opened = a.opened;
    last = a.last;
    opens = a.opens.0;
    gives = rounds a.opened (map given_reply given ++ last_reply complete ∷ []) a.rounds a.last a.gives;
    ends = a.ends.0;
    sends = sent_by past note noted was now (IsAssignment st cuts served given complete new) (wire, notes, a);
    settings = refl;
    cuts = refl;
  }

  module _ {L : Type 0} (heard : L → Piece → L) where
    -- a session that was played, or whose opening was refused, is heard
    pub assigned : {C : Type 0} (st new : State) (settings : Settings) (cuts : CutList) (was now : P) (served : Served) (given : List (ℕ × Identity)) (complete : Bool) (played : Result (Unit {0}) ActiveStays) (before after : L) (result : Result (Unit {0}) (LineError Refusal))
        → OnOk played (Tells note was now (IsAssignment st cuts served given complete new))
        → (C → Step st (Event.OpenDaa cuts) (Reply.Refused BusRefusal.ActiveStays) new) → (C → Tells note was now (IsWire st (Event.OpenDaa cuts) (Reply.Refused BusRefusal.ActiveStays) new)) → IfErr played (λ why. C)
        → Hears heard (IsSessionTold played served given complete) before after result
        → Hears heard (λ pieces refused. Assigns past (situation st settings cuts was) pieces refused (situation new settings no_cuts now)) before after result
    assigned st new settings cuts was now served given complete (Ok done) before after result plays step tells refuses told =
        hears_by heard (IsSessionTold (Ok done) served given complete) (λ pieces refused. Assigns past (situation st settings cuts was) pieces refused (situation new settings no_cuts now))
        (λ pieces refused is. inl (served, given, complete, as_session st new settings cuts was now served given complete plays, is.0, is.1)) before after result told
    assigned st new settings cuts was now served given complete (Err why) before after result plays step tells refuses told =
        hears_by heard (IsSessionTold (Err why) served given complete) (λ pieces refused. Assigns past (situation st settings cuts was) pieces refused (situation new settings no_cuts now))
        (λ pieces refused is.
        inr (BusRefusal.ActiveStays, moved past st new settings cuts was now (Event.OpenDaa cuts) (Reply.Refused BusRefusal.ActiveStays) (step refuses) (sent_by past note noted was now _ (tells refuses)), is.0, is.1)) before after result told

module _ {P L : Type 0} (past : PastKept P) (heard : L → Piece → L) where
  -- while a session is open none is opened
  pub stays_open : (hand : Hand) (session : ℕ) (st : State) (settings : Settings) (cuts : CutList) (was : P) (listener : L) → hand ≡ Hand.Session session → HandFits hand st
      → Hears heard (λ pieces refused. Assigns past (situation st settings cuts was) pieces refused (situation st settings no_cuts was)) listener listener (Err (LineError.Refused (Refusal.Bus BusRefusal.SessionOpen)))
  stays_open hand session st settings cuts was listener is fits =
      let opened : st.in_session ≡ true = fits.1 ∙ ap is_session is in
      let refused : Step st (Event.OpenDaa cuts) (Reply.Refused BusRefusal.SessionOpen) st =
      subst (λ b. MatchOption (first_refusal ((b, BusRefusal.SessionOpen) ∷ (cuts_active st cuts, BusRefusal.ActiveStays) ∷ []))
      (IsShort st (Event.OpenDaa cuts) (Reply.Refused BusRefusal.SessionOpen) st ⊎ Acts st (Event.OpenDaa cuts) (Reply.Refused BusRefusal.SessionOpen) st)
      (λ why. (Reply.Refused BusRefusal.SessionOpen ≡ Reply.Refused why) × (st ≡ st))) (sym opened) (refl, refl) in
      ([], refl, inr (BusRefusal.SessionOpen, unsent past st st settings cuts was (Event.OpenDaa cuts) (Reply.Refused BusRefusal.SessionOpen) refl refused refl, refl, refl))

-- a session uses up the cuts that waited
pub used_up : {P L : Type 0} (past : PastKept P) (heard : L → Piece → L) (old : Situation P) (st new : State) (settings : Settings) (cuts left : CutList) (was now : P) (before after : L) (result : Result (Unit {0}) (LineError Refusal)) → situation st settings cuts was ≡ old
    → left ≡ no_cuts → Hears heard (λ pieces refused. Assigns past (situation st settings cuts was) pieces refused (situation new settings no_cuts now)) before after result
    → Hears heard (λ pieces refused. Assigns past old pieces refused (situation new settings left now)) before after result
used_up past heard old st new settings cuts left was now before after result is none assigns =
    subst (λ one. Hears heard (λ pieces refused. Assigns past one pieces refused (situation new settings left now)) before after result) is
    (subst (λ waiting. Hears heard (λ pieces refused. Assigns past (situation st settings cuts was) pieces refused (situation new settings waiting now)) before after result) (sym none) assigns)
