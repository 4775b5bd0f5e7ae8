-- A frame to all that was carried out.
use Rattle.std.proofs.Common.{◌≡◌, ℕ, ◌+◌, true, false, None, is_some, List, arith, ap, ◌∙◌, refl}
use Rattle.i3c_base.specs.declared.answers.Answer.{Answer}
use Rattle.i3c_base.specs.declared.requests.Served.{Served}
use Rattle.i3c_base.specs.Cutting.{CutList, cut_of, lost_by}
use Rattle.i3c_base.specs.Serve.{emptied, given_for, header_bits}
use Rattle.i3c_base.specs.State.{Held, State}
use Rattle.i3c_frame.specs.declared.symbols.Symbol.{Symbol}
use Rattle.i3c_frame.specs.Taps.{Tells}
use Rattle.i3c_step.specs.declared.events.Event.{Event}
use Rattle.i3c_step.specs.declared.replies.Reply.{Reply}
use Rattle.i3c_step.specs.Serving.{place_of}
use Rattle.i3c_step.specs.Step.{Acts, Announces, Becomes, checks, cuts_active, first_refusal, frame_checks}
use Rattle.i3c_step.proofs.Acting.{acting}
use Rattle.i3c_step.proofs.Slots.{Stands, Stands-same, Stands-serves}
use Rattle.i3c_bus.specs.declared.hand.Hand.{Hand}
use Rattle.i3c_bus.specs.Beginning.{Begins, IsWay, LeavesBy}
use Rattle.i3c_bus.specs.Calls.{Carries}
use Rattle.i3c_bus.specs.Hands.{HandFits}
use Rattle.i3c_bus.specs.Wire.{IsFrameWire, IsWire}
use Rattle.i3c_bus.proofs.Framing.{fits_left, frame_by, frame_free, tells_frame}

-- after a frame has begun its cuts still leave the active controller
pub begun_uncut : (old mid : State) (cuts : CutList) (served : Served) (word : ℕ) → Begins old cuts served word mid → cuts_active old cuts ≡ false → cuts_active mid cuts ≡ false
begun_uncut old mid cuts served word begins left =
    ap (λ s. is_some (cut_of cuts s)) (Stands-serves old (given_for served) _ served mid (begins.serves 0)).0 ∙ left

-- an announced event: its tests are a frame's, and it does what the frame announces, which leaves records, active controller
-- and session
pub record IsAnnounced (event : Event) (cuts : CutList) (old : State) (bits : ℕ) (f : State → State) (served : Served) (new : State) (IsOwn : List Symbol → Type 0) : Type 0 where
  pub tests : checks old event ≡ frame_checks old cuts
  pub acts : Announces old bits f (given_for served) cuts (Reply.Framed (record { served = served; answer = Answer.Done })) new → Acts old event (Reply.Framed (record { served = served; answer = Answer.Done })) new
  pub wire : (symbols : List Symbol) → IsFrameWire old cuts served new (λ begun. IsOwn) symbols → IsWire old event (Reply.Framed (record { served = served; answer = Answer.Done })) new symbols
  pub records : (st : State) → (f st).records ≡ st.records
  pub stands : (st : State) → Stands st (f st)

pub announced : {T : Type 0} (gives : T → Symbol → T → Type 0) (tap first last : T) (old mid done new : Held) (event : Event) (cuts : CutList) (served : Served) (word begun bits holder : ℕ) (f : State → State) (IsOwn : List Symbol → Type 0)
    → IsAnnounced event cuts old.state bits f served new.state IsOwn → HandFits (Hand.Role holder) old.state → cuts_active old.state cuts ≡ false → Begins old.state cuts served word mid.state → begun ≡ word + header_bits served
    → Tells gives tap first (IsWay old.state cuts served word mid.state) → Tells gives first last IsOwn → done.state ≡ f mid.state → new.state ≡ emptied (lost_by cuts (begun + bits)) done.state
    → (place_of served ≡ None → mid.room ≡ true) → done.room ≡ mid.room → new.room ≡ done.room
    → Carries old new event (Reply.Framed (record { served = served; answer = Answer.Done })) (Hand.Role holder) (Tells gives tap last)
announced gives tap first last old mid done new event cuts served word begun bits holder f IsOwn is fits left begins count way own becomes gone room kept same =
    let leaves : LeavesBy cuts (begun + bits) (Becomes f) mid.state new.state = (f mid.state, refl, gone ∙ ap (emptied (lost_by cuts (begun + bits))) becomes) in
    let records : new.state.records ≡ mid.state.records = ap (λ (st : State). st.records) leaves.2 ∙ is.records mid.state in
    let told = tells_frame gives tap first last old.state mid.state new.state cuts served word (λ b. IsOwn) records begins way own in
    record {
      step = acting old.state event (Reply.Framed (record { served = served; answer = Answer.Done })) new.state (ap first_refusal is.tests ∙ frame_free old.state cuts fits.1 left)
          (is.acts (served, refl, frame_by old.state cuts served word (header_bits served + bits) (begun + bits) (Becomes f) mid.state new.state begins (omega (arith, count)) leaves));
      told = (told.0, told.1, is.wire told.0 told.2);
      fits = fits_left (Hand.Role holder) old.state cuts served word (begun + bits) (Becomes f) mid.state new.state begins (λ lost after e. Stands-same mid.state after (f mid.state) e (is.stands mid.state)) leaves fits;
      room = record { enough = λ full short. cc; lasts = λ full none. same ∙ (kept ∙ room none) };
    }
