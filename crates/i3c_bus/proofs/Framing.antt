-- A frame that was carried out, as a step and as what was told.
use Rattle.std.proofs.Common.{◌≡◌, ℕ, ◌+◌, false, List, [], ◌∷◌, ◌++◌, Option, Some, None, sym, refl, ap, subst, ◌∙◌}
use Rattle.i3c_base.specs.declared.answers.Answer.{Answer}
use Rattle.i3c_base.specs.declared.kinds.Change.{Change}
use Rattle.i3c_base.specs.declared.kinds.Change.TheVariants.{Enable, Disable}
use Rattle.i3c_base.specs.declared.kinds.Kinds.{Kinds}
use Rattle.i3c_base.specs.declared.requests.Fixed.{Fixed}
use Rattle.i3c_base.specs.declared.requests.Served.{Served}
use Rattle.i3c_base.specs.declared.requests.Served.TheVariants.{Quiet, Recorded, Refused, Torn, Joining, WantsRole}
use Rattle.i3c_base.specs.Cutting.{CutList, Lost, lost_by}
use Rattle.i3c_base.specs.Frames.{Rekinds, changed_kinds, kinds_bits}
use Rattle.i3c_base.specs.Serve.{Frame, emptied, given_for, header_bits}
use Rattle.i3c_base.specs.State.{State}
use Rattle.i3c_frame.specs.declared.symbols.Symbol.{Symbol}
use Rattle.i3c_frame.specs.declared.symbols.Symbol.TheVariants.{Stop}
use Rattle.i3c_frame.specs.Taps.{Tells}
use Rattle.i3c_frame.proofs.TapLaws.{NotesAll-append, NotesAll-push}
use Rattle.i3c_step.specs.declared.events.Event.{Event}
use Rattle.i3c_step.specs.declared.replies.Refusal.{Refusal}
use Rattle.i3c_step.specs.declared.replies.Reply.{Reply}
use Rattle.i3c_bus.specs.declared.hand.Hand.{Hand}
use Rattle.i3c_bus.specs.Beginning.{Begins, IsWay, LeavesBy}
use Rattle.i3c_step.specs.Commands.{kinds_event}
use Rattle.i3c_bus.specs.Hands.{HandFits}
use Rattle.i3c_step.specs.Step.{Nothing, Step, cuts_active, first_refusal, frame_checks, is_no_target, target_checks}
use Rattle.i3c_bus.specs.Wire.{IsBegun, IsFrameWire, IsKindsPart, IsServeWire, IsWire}
use Rattle.i3c_step.proofs.Acting.{acting}
use Rattle.i3c_step.proofs.Slots.{Stands, Stands-same, Stands-serves, Stands-then}

-- a frame that is neither in a session nor cuts the active controller
pub frame_free : (st : State) (cuts : CutList) → st.in_session ≡ false → cuts_active st cuts ≡ false → first_refusal (frame_checks st cuts) ≡ None
frame_free st cuts closed left =
    ap (λ b. first_refusal ((b, Refusal.SessionOpen) ∷ (cuts_active st cuts, Refusal.ActiveStays) ∷ [])) closed
    ∙ ap (λ b. first_refusal ((b, Refusal.ActiveStays) ∷ [])) left

-- and one whose address has a target
pub target_free : (st : State) (cuts : CutList) (to : Option ℕ) → st.in_session ≡ false → cuts_active st cuts ≡ false → ((a : ℕ) → to ≡ Some a → is_no_target st a ≡ false)
    → first_refusal (frame_checks st cuts ++ target_checks st to) ≡ None
target_free st cuts None closed left there = frame_free st cuts closed left
target_free st cuts (Some a) closed left there =
    ap (λ b. first_refusal ((b, Refusal.SessionOpen) ∷ (cuts_active st cuts, Refusal.ActiveStays) ∷ (is_no_target st a, Refusal.NoAnswer a) ∷ [])) closed
    ∙ (ap (λ b. first_refusal ((b, Refusal.ActiveStays) ∷ (is_no_target st a, Refusal.NoAnswer a) ∷ [])) left
    ∙ ap (λ b. first_refusal ((b, Refusal.NoAnswer a) ∷ [])) (there a refl))

-- a beginning and an own part are a frame
pub frame_by : (old : State) (cuts : CutList) (served : Served) (word more last : ℕ) (Own : Lost → State → State → Type 0) (mid new : State) → Begins old cuts served word mid
    → last ≡ word + more → LeavesBy cuts last Own mid new → Frame old (given_for served) cuts served more Own new
frame_by old cuts served word more last Own mid new begins e leaves =
    let own : LeavesBy cuts (word + more) Own mid new = subst (λ n. LeavesBy cuts n Own mid new) e leaves in
    record { word = word; mid = mid; done = own.0; sent = begins.sent; serves = begins.serves more; own = own.1; left = own.2 }

-- what leaves the active controller and the session leaves the hand fitting
fits_on : (hand : Hand) (old new : State) → Stands old new → HandFits hand old → HandFits hand new
fits_on hand old new stands fits = (fits.0 ∙ sym stands.0, stands.1 ∙ fits.1)

pub fits_left : (hand : Hand) (old : State) (cuts : CutList) (served : Served) (word last : ℕ) (Own : Lost → State → State → Type 0) (mid new : State) → Begins old cuts served word mid
    → ((lost : Lost) (done : State) → Own lost mid done → Stands mid done) → LeavesBy cuts last Own mid new → HandFits hand old → HandFits hand new
fits_left hand old cuts served word last Own mid new begins stands leaves =
    fits_on hand old new
    (Stands-same old new (emptied (lost_by cuts last) leaves.0) leaves.2
    (Stands-then old mid leaves.0 (Stands-serves old (given_for served) _ served mid (begins.serves 0)) (stands _ leaves.0 leaves.1)))

-- nothing more changes nothing
pub stands_still : (mid : State) (lost : Lost) (done : State) → Nothing lost mid done → Stands mid done
stands_still mid lost done e = Stands-same mid done mid e (refl, refl)

-- what serving told is the same of a later state with the same records
begun_later : (old : State) (cuts : CutList) (served : Served) (mid new : State) (wire : List Symbol) → new.records ≡ mid.records → IsBegun old cuts served mid wire → IsBegun old cuts served new wire
begun_later old cuts Quiet mid new wire e h = h
begun_later old cuts Refused mid new wire e h = h
begun_later old cuts Joining mid new wire e h = h
begun_later old cuts (WantsRole a) mid new wire e h = h
begun_later old cuts (Recorded place) mid new wire e h = (h.0, e ∙ h.1, h.2, h.3, h.4, h.5)
begun_later old cuts Torn mid new wire e h = h

-- a frame that ends where it has begun
pub tells_serve : {T : Type 0} (gives : T → Symbol → T → Type 0) (tap first new : T) (old mid after : State) (cuts : CutList) (served : Served) → after.records ≡ mid.records
    → Tells gives tap first (IsBegun old cuts served mid) → gives first Stop new → Tells gives tap new (IsServeWire old cuts served after)
tells_serve gives tap first new old mid after cuts served same told stop =
    (told.0 ++ Stop ∷ [], NotesAll-push gives tap told.0 first Stop new told.1 stop, (told.0, begun_later old cuts served mid after told.0 same told.2, refl))

-- a frame that goes on
pub tells_frame : {T : Type 0} (gives : T → Symbol → T → Type 0) (tap first new : T) (old mid after : State) (cuts : CutList) (served : Served) (word : ℕ) (IsOwn : ℕ → List Symbol → Type 0)
    → after.records ≡ mid.records → Begins old cuts served word mid → Tells gives tap first (IsWay old cuts served word mid) → Tells gives first new (IsOwn (word + header_bits served)) → Tells gives tap new (IsFrameWire old cuts served after IsOwn)
tells_frame gives tap first new old mid after cuts served word IsOwn same begins way own = (
  way.0 ++ own.0,
  NotesAll-append gives tap way.0 first own.0 new way.1 own.1,
  (way.2.0, word, way.2.1, own.0, begun_later old cuts served mid after way.2.0 same way.2.2, begins.sent, way.2.3, own.2, ap (λ wire. wire ++ own.0) way.2.4),
)

-- ENEC and DISEC, as steps
pub kinds_step : (change : Change) (old : State) (to : Option ℕ) (kinds : Kinds) (policy : Fixed) (cuts : CutList) (served : Served) (answer : Answer) (new : State)
    → first_refusal (frame_checks old cuts ++ target_checks old to) ≡ None → Frame old policy cuts served (header_bits served + kinds_bits to answer) (Rekinds to (changed_kinds change kinds) answer) new
    → Step old (kinds_event change to kinds policy cuts) (Reply.Framed (record { served = served; answer = answer })) new
kinds_step Enable old to kinds policy cuts served answer new free frame =
    acting old (Event.Enec to kinds policy cuts) _ new free (record { served = served; answer = answer }, refl, frame)
kinds_step Disable old to kinds policy cuts served answer new free frame =
    acting old (Event.Disec to kinds policy cuts) _ new free (record { served = served; answer = answer }, refl, frame)

-- the symbols of ENEC and DISEC
pub kinds_told : {T : Type 0} (gives : T → Symbol → T → Type 0) (tap last : T) (change : Change) (old : State) (to : Option ℕ) (kinds : Kinds) (policy : Fixed) (cuts : CutList) (served : Served) (answer : Answer) (new : State)
    → Tells gives tap last (IsFrameWire old cuts served new (IsKindsPart old cuts change to kinds answer))
    → Tells gives tap last (IsWire old (kinds_event change to kinds policy cuts) (Reply.Framed (record { served = served; answer = answer })) new)
kinds_told gives tap last Enable old to kinds policy cuts served answer new told = told
kinds_told gives tap last Disable old to kinds policy cuts served answer new told = told
