-- A session is opened.
use Rattle.std.proofs.Common.{◌≡◌, ℕ, ◌+◌, false, List, ◌++◌, None, refl, sym, ap, ◌∙◌, arith}
use Rattle.i3c_base.specs.declared.requests.Served.{Served}
use Rattle.i3c_base.specs.declared.requests.Served.TheVariants.{Quiet, Recorded, Refused, Torn, Joining, WantsRole}
use Rattle.i3c_base.specs.Cutting.{CutList, Lost, lost_by}
use Rattle.i3c_base.specs.Round.{opened}
use Rattle.i3c_base.specs.Serve.{IsWordBits, Serves, emptied, header_bits, refuse_all}
use Rattle.i3c_base.specs.State.{Held, State}
use Rattle.i3c_frame.specs.declared.symbols.Symbol.{Symbol}
use Rattle.i3c_frame.proofs.TapLaws.{NotesAll-append}
use Rattle.i3c_step.specs.declared.events.Event.{Event}
use Rattle.i3c_step.specs.declared.replies.Reply.{Reply}
use Rattle.i3c_bus.specs.declared.hand.Hand.{Hand}
use Rattle.i3c_bus.specs.Calls.{Carries}
use Rattle.i3c_bus.specs.Hands.{HandFits}
use Rattle.i3c_step.specs.Serving.{place_of}
use Rattle.i3c_step.specs.Step.{cuts_active}
use Rattle.i3c_frame.specs.Taps.{Tells}
use Rattle.i3c_bus.specs.Wire.{IsBegun, IsFrameWire, IsOn, IsOpenWire}
use Rattle.i3c_step.proofs.Acting.{acting}
use Rattle.i3c_bus.proofs.Framing.{frame_free}

-- what told the beginning of a frame that recorded nothing doesn't depend on the state after it
pub begun_anyway : (served : Served) (old : State) (cuts : CutList) (mid new : State) (wire : List Symbol) → place_of served ≡ None → IsBegun old cuts served mid wire → IsBegun old cuts served new wire
begun_anyway Quiet old cuts mid new wire none h = h
begun_anyway Refused old cuts mid new wire none h = h
begun_anyway Joining old cuts mid new wire none h = h
begun_anyway (WantsRole a) old cuts mid new wire none h = h
begun_anyway (Recorded place) old cuts mid new wire none h = cc
begun_anyway Torn old cuts mid new wire none h = h

-- a frame told part by part
pub tells_parts : {T : Type 0} (gives : T → Symbol → T → Type 0) (tap first second new : T) (old : State) (cuts : CutList) (served : Served) (word : ℕ) (after : State) (IsOwn : ℕ → List Symbol → Type 0)
    → IsWordBits old served word → Tells gives tap first (IsBegun old cuts served after) → Tells gives first second (IsOn old cuts served word) → Tells gives second new (IsOwn (word + header_bits served))
    → Tells gives tap new (IsFrameWire old cuts served after IsOwn)
tells_parts gives tap first second new old cuts served word after IsOwn sent begun on own = (
  begun.0 ++ on.0 ++ own.0,
  NotesAll-append gives tap (begun.0 ++ on.0) second own.0 new (NotesAll-append gives tap begun.0 first on.0 second begun.1 on.1) own.1,
  (begun.0, word, on.0, own.0, begun.2, sent, on.2, own.2, refl),
)

-- the requests are turned down, the devices without an address hear the session, and cut devices are gone
pub opening_carried : {T : Type 0} (gives : T → Symbol → T → Type 0) (tap first second last : T) (old mid new : Held) (cuts : CutList) (served : Served) (word bits holder : ℕ)
    → HandFits (Hand.Role holder) old.state → cuts_active old.state cuts ≡ false → ((lost : Lost) → Serves old.state refuse_all lost served old.state) → IsWordBits old.state served word
    → place_of served ≡ None → bits ≡ word + header_bits served
    → Tells gives tap first (IsBegun old.state cuts served old.state) → Tells gives first second (IsOn old.state cuts served word) → Tells gives second last IsOpenWire
    → mid.state ≡ opened old.state → mid.room ≡ old.room → new.state ≡ emptied (lost_by cuts (bits + 9)) mid.state → new.room ≡ mid.room
    → Carries old new (Event.OpenDaa cuts) (Reply.Opened served) (Hand.Session holder) (Tells gives tap last)
opening_carried gives tap first second last old mid new cuts served word bits holder fits left serves sent unrecorded count begun on own hear kept gone same =
    let all : bits + 9 ≡ word + (header_bits served + 9) = omega arith in
    let is : new.state ≡ emptied (lost_by cuts (word + (header_bits served + 9))) (opened old.state) =
    gone ∙ (λ k. emptied (lost_by cuts (all k)) (hear k)) in
    record {
      step = acting old.state (Event.OpenDaa cuts) (Reply.Opened served) new.state (frame_free old.state cuts fits.1 left) (
        served,
        refl,
        record {
          word = word;
          mid = old.state;
          done = opened old.state;
          sent = sent;
          serves = serves (lost_by cuts (word + (header_bits served + 9)));
          own = refl;
          left = is;
        },
      );
      told = tells_parts gives tap first second last old.state cuts served word new.state (λ b. IsOpenWire) sent
          (begun.0, begun.1, begun_anyway served old.state cuts old.state new.state begun.0 unrecorded begun.2) on own;
      fits = (fits.0 ∙ sym (ap (λ (st : State). st.active) is), ap (λ (st : State). st.in_session) is);
      room = record { enough = λ full e. cc; lasts = λ full none. same ∙ (kept ∙ full) };
    }
