-- SETDASA and SETNEWDA: what may be answered, what each answer leaves, and that it follows the choice.
use Rattle.std.proofs.Common.{◌≡◌, ℕ, ◌+◌, ◌≤◌, Some, false, ◌⊎◌, inl, inr, sym, refl, ap, ◌∙◌, subst, arith}
use Rattle.i3c_base.specs.declared.answers.Answer.{Answer}
use Rattle.std.specs.BTreeMap.{BTreeMap}
use Rattle.i3c_base.specs.declared.identity.Identity.{Identity}
use Rattle.i3c_base.specs.declared.range.TheConstants.{ADDRESSES}
use Rattle.i3c_base.specs.declared.requests.Fixed.{Fixed}
use Rattle.i3c_base.specs.declared.requests.Served.{Served}
use Rattle.i3c_base.specs.Cutting.{CutList, Lost, lost_by}
use Rattle.i3c_base.specs.Frames.{AllLostAt, AllUnaddressedLostAt, AnyAt, AnyUnaddressedAt, kinds_bits, moved, settled, with_new, with_static}
use Rattle.i3c_base.specs.Serve.{Frame, IsWordBits, Serves, header_bits}
use Rattle.i3c_base.specs.State.{Entry, State, declared_at, declared_in, each}
use Rattle.i3c_step.specs.declared.replies.Reply.{Reply}
use Rattle.i3c_step.specs.Step.{Transfers}
use Rattle.i3c_step.proofs.Addresses.{IsSettled}
use Rattle.i3c_model.specs.declared.plain.Choice.{Choice}
use Rattle.i3c_model.specs.declared.plain.Choice.TheVariants.{Heard, Silent}
use Rattle.i3c_model.specs.Choosing.{AnswersAsChosen, Follows, MayStandFor, ServesAsChosen, TakesAsChosen, of_answer, of_own_part}
use Rattle.i3c_model.specs.Meaning.{moving, settling}
use Rattle.i3c_model.specs.Views.{IsTableOf, places_of}
use Rattle.i3c_model.proofs.Taking.{lost≢silent, taken_heard, taken_silent}
use Rattle.i3c_model.proofs.Transfers.{Stay, Stay-back, all_bare_in, all_in, any_bare_in, any_in, bytes≢done, bytes≢no_answer, done≢no_answer, itself, no_end≢done, no_end≢no_answer, transfer_follows}

-- the answers of a frame to the address a that is done where somebody is there, and what each leaves
abbrev pub Sets : ℕ → (State → Type 0) → (State → Lost → Type 0) → (State → State → Type 0) → Answer → Lost → State → State → Type 0
Sets a Any AllLost Did answer lost mid done = ((answer ≡ Answer.Done) × Any mid × Did mid done) ⊎ ((answer ≡ Answer.NoAnswer a) × AllLost mid lost × (done ≡ mid))

-- the bits of a frame that ends with its header to an address where nobody acknowledges that
abbrev pub EndsWithHeader : (Answer → ℕ) → Type 0
EndsWithHeader bits = ((b : ℕ) → bits (Answer.NoAnswer b) ≡ 18) × ((answer : Answer) → bits answer ≤ bits Answer.Done)

kinds_most : (a : ℕ) (answer : Answer) → kinds_bits (Some a) answer ≤ 27
kinds_most a Answer.Done = omega arith
kinds_most a (Answer.NoAnswer b) = omega arith
kinds_most a (Answer.Bytes bytes) = omega arith
kinds_most a Answer.NoEnd = omega arith

pub kinds_header : (a : ℕ) → EndsWithHeader (kinds_bits (Some a))
kinds_header a = (λ b. refl, kinds_most a)

module _ (a : ℕ) (bits : Answer → ℕ) (ends : EndsWithHeader bits) (Any : State → Type 0) (AllLost : State → Lost → Type 0) (Did : State → State → Type 0)
    (any_stays : (st new : State) → Stay st new → Any st → Any new) (all_stays : (st new : State) (lost : Lost) → Stay st new → AllLost st lost → AllLost new lost) where
  -- a possible answer is an effect of the frame's own part, after serving
  pub sets_of : (old mid done : State) (cuts : CutList) (begin : ℕ) (answer : Answer) → Stay old mid → ((answer ≡ Answer.Done) × Any old) ⊎ ((answer ≡ Answer.NoAnswer a) × AllLost old (lost_by cuts (begin + 18)))
      → (answer ≡ Answer.Done → Did mid done) → (¬ (answer ≡ Answer.Done) → done ≡ mid) → Sets a Any AllLost Did answer (lost_by cuts (begin + bits answer)) mid done
  sets_of old mid done cuts begin answer stay may did did_not = elim may [
    | inl h ↦ inl (h.0, any_stays old mid stay h.1, did h.0)
    | inr h ↦ inr (
      h.0,
      subst (λ x. AllLost mid (lost_by cuts (begin + bits x))) (sym h.0) (subst (λ n. AllLost mid (lost_by cuts (begin + n))) (sym (ends.0 a)) (all_stays old mid (lost_by cuts (begin + 18)) stay h.1)),
      did_not (λ e. done≢no_answer a (sym e ∙ h.0)),
    )
  ]

  module _ (old : State) where
    silent_set : (mid done : State) (answer : Answer) (cuts : CutList) (begin : ℕ) → of_answer answer ≡ Some Silent → Stay old mid
        → Sets a Any AllLost Did answer (lost_by cuts (begin + bits answer)) mid done → AllLost old (lost_by cuts (begin + 18))
    silent_set mid done (Answer.NoAnswer b) cuts begin e h own = elim own [ inl x ↦ absurd (done≢no_answer b (sym x.0)) | inr x ↦ all_stays mid old (lost_by cuts (begin + 18)) (Stay-back old mid h) (subst (λ n. AllLost mid (lost_by cuts (begin + n))) (ends.0 b) x.1) ]
    silent_set mid done Answer.Done cuts begin e h own = cc
    silent_set mid done (Answer.Bytes bytes) cuts begin e h own = cc
    silent_set mid done Answer.NoEnd cuts begin e h own = cc

    never_lost_set : (mid done : State) (answer : Answer) (lost : Lost) → of_answer answer ≡ Some Choice.Lost → Sets a Any AllLost Did answer lost mid done → ⊥
    never_lost_set mid done Answer.NoEnd lost e own = elim own [ inl x ↦ no_end≢done x.0 | inr x ↦ no_end≢no_answer a x.0 ]
    never_lost_set mid done Answer.Done lost e own = cc
    never_lost_set mid done (Answer.Bytes bytes) lost e own = cc
    never_lost_set mid done (Answer.NoAnswer b) lost e own = cc

    heard_set : (mid done : State) (answer : Answer) (lost : Lost) → of_answer answer ≡ Some Heard → Stay old mid → Sets a Any AllLost Did answer lost mid done → Any old
    heard_set mid done Answer.Done lost e h own = elim own [ inl x ↦ any_stays mid old (Stay-back old mid h) x.1 | inr x ↦ absurd (done≢no_answer a x.0) ]
    heard_set mid done (Answer.Bytes bytes) lost e h own = absurd (elim own [ inl x ↦ bytes≢done bytes x.0 | inr x ↦ bytes≢no_answer bytes a x.0 ])
    heard_set mid done (Answer.NoAnswer b) lost e h own = cc
    heard_set mid done Answer.NoEnd lost e h own = cc

    set_absent : (mid done : State) (other : Answer) (lost : Lost) → Stay old mid → ¬ Any old → Sets a Any AllLost Did other lost mid done → bits other ≤ 18
    set_absent mid done (Answer.NoAnswer b) lost h none own = (let few = ends.0 b in omega (arith, few))
    set_absent mid done Answer.Done lost h none own = absurd (none (heard_set mid done Answer.Done lost refl h own))
    set_absent mid done (Answer.Bytes bytes) lost h none own = absurd (elim own [ inl x ↦ bytes≢done bytes x.0 | inr x ↦ bytes≢no_answer bytes a x.0 ])
    set_absent mid done Answer.NoEnd lost h none own = absurd (never_lost_set mid done Answer.NoEnd lost refl own)

    module _ (policy : Fixed) (cuts : CutList) (choice : Choice) (served : Served) (word header : ℕ) (new : State)
        (word_sent : (lost : Lost) (other : Served) (mid : State) → Serves old policy lost other mid → IsWordBits old other word)
        (header_sent : (lost : Lost) (other : Served) (mid : State) → Serves old policy lost other mid → header ≡ header_bits other) where
      abbrev Own : Answer → Lost → State → State → Type 0
      Own = Sets a Any AllLost Did

      abbrev SetComes : Reply → State → Type 0
      SetComes = Transfers old bits Own policy cuts

      pub sets_follow : (answer : Answer) → ServesAsChosen old policy (lost_by cuts (word + header + bits answer)) choice served
          → Frame old policy cuts served (header_bits served + bits answer) (Sets a Any AllLost Did answer) new
          → (answer ≡ Answer.Done → choice ≡ Silent → ¬ AllLost old (lost_by cuts (word + header + 18))) → (¬ (answer ≡ Answer.Done) → ¬ (choice ≡ Silent) → ¬ Any old)
          → Follows (Transfers old bits (Sets a Any AllLost Did) policy cuts) choice (Reply.Framed (record { served = served; answer = answer }))
      sets_follow Answer.Done served_as frame left none = transfer_follows old bits Own policy cuts choice served Answer.Done word header new served_as word_sent header_sent frame
          (λ e other lost mid done stay own. ends.1 other)
          (λ other_of. taken_heard (MayStandFor SetComes of_own_part) choice
          (λ c l. let o = other_of Choice.Lost l in never_lost_set o.mid o.done o.answer (lost_by cuts (word + header + bits o.answer)) o.stands o.own)
          (λ c l. let o = other_of Silent l in left refl c (silent_set o.mid o.done o.answer cuts (word + header) o.stands o.stay o.own)))
      sets_follow (Answer.NoAnswer b) served_as frame left none = transfer_follows old bits Own policy cuts choice served (Answer.NoAnswer b) word header new served_as word_sent header_sent frame
          (λ e other lost mid done stay own. let few = set_absent mid done other lost stay (nobody (λ s. lost≢silent (sym e ∙ s))) own in let header = ends.0 b in omega (arith, few, header))
          (λ other_of. taken_silent (MayStandFor SetComes of_own_part) choice
          (itself old bits Own policy cuts choice served (Answer.NoAnswer b) word header new served_as word_sent header_sent frame Silent refl)
          (λ ne. (
            (λ l. let o = other_of Heard l in nobody ne (heard_set o.mid o.done o.answer (lost_by cuts (word + header + bits o.answer)) o.stands o.stay o.own)),
            (λ l. let o = other_of Choice.Lost l in never_lost_set o.mid o.done o.answer (lost_by cuts (word + header + bits o.answer)) o.stands o.own),
          )))
        where
          nobody : ¬ (choice ≡ Silent) → ¬ Any old
          nobody = none (λ e. done≢no_answer b (sym e))
      sets_follow (Answer.Bytes bytes) served_as frame left none = absurd (elim frame.own [ inl x ↦ bytes≢done bytes x.0 | inr x ↦ bytes≢no_answer bytes a x.0 ])
      sets_follow Answer.NoEnd served_as frame left none = absurd (elim frame.own [ inl x ↦ no_end≢done x.0 | inr x ↦ no_end≢no_answer a x.0 ])

-- what the choice says of an answer
pub takes_left : (st : State) (f : ℕ) (lost : Lost) (choice : Choice) (answer : Answer) → TakesAsChosen st f lost choice answer → answer ≡ Answer.Done → choice ≡ Silent → ¬ AllUnaddressedLostAt st f lost
takes_left st f lost choice Answer.Done h e = h
takes_left st f lost choice (Answer.NoAnswer b) h e = cc
takes_left st f lost choice (Answer.Bytes bytes) h e = cc
takes_left st f lost choice Answer.NoEnd h e = cc

pub takes_none : (st : State) (f : ℕ) (lost : Lost) (choice : Choice) (answer : Answer) → TakesAsChosen st f lost choice answer → ¬ (answer ≡ Answer.Done) → ¬ (choice ≡ Silent) → ¬ AnyUnaddressedAt st f
takes_none st f lost choice Answer.Done h ne = absurd (ne refl)
takes_none st f lost choice (Answer.NoAnswer b) h ne = h
takes_none st f lost choice (Answer.Bytes bytes) h ne = h
takes_none st f lost choice Answer.NoEnd h ne = h

pub answers_left : (st : State) (a : ℕ) (lost : Lost) (choice : Choice) (answer : Answer) → AnswersAsChosen st (Some a) lost choice answer → answer ≡ Answer.Done → choice ≡ Silent → ¬ AllLostAt st a lost
answers_left st a lost choice Answer.Done h e = h
answers_left st a lost choice (Answer.NoAnswer b) h e = cc
answers_left st a lost choice (Answer.Bytes bytes) h e = cc
answers_left st a lost choice Answer.NoEnd h e = cc

pub answers_none : (st : State) (a : ℕ) (lost : Lost) (choice : Choice) (answer : Answer) → AnswersAsChosen st (Some a) lost choice answer → ¬ (answer ≡ Answer.Done) → ¬ (choice ≡ Silent) → ¬ AnyAt st a
answers_none st a lost choice Answer.Done h ne = absurd (ne refl)
answers_none st a lost choice (Answer.NoAnswer b) h ne = h
answers_none st a lost choice (Answer.Bytes bytes) h ne = h
answers_none st a lost choice Answer.NoEnd h ne = h

-- the devices that SETDASA reaches at a static address, and its effect
abbrev pub AnyBare : ℕ → State → Type 0
AnyBare f st = AnyUnaddressedAt st f

abbrev pub AllBareLost : ℕ → State → Lost → Type 0
AllBareLost f st lost = AllUnaddressedLostAt st f lost

abbrev pub DidStatic : ℕ → ℕ → State → State → Type 0
DidStatic f new mid done = (i : Identity) × (declared_at mid f ≡ Some i) × (done ≡ with_static f i new mid)

pub bare_stays : (f : ℕ) (st new : State) → Stay st new → AnyBare f st → AnyBare f new
bare_stays f st new = any_bare_in st new f

pub bare_lost_stays : (f : ℕ) (st new : State) (lost : Lost) → Stay st new → AllBareLost f st lost → AllBareLost f new lost
bare_lost_stays f st new lost = all_bare_in st new f lost

-- and for SETNEWDA at a dynamic address
abbrev pub AnyThere : ℕ → State → Type 0
AnyThere a st = AnyAt st a

abbrev pub AllThereLost : ℕ → State → Lost → Type 0
AllThereLost a st lost = AllLostAt st a lost

abbrev pub DidNew : ℕ → ℕ → State → State → Type 0
DidNew old new mid done = done ≡ with_new old new mid

pub there_stays : (a : ℕ) (st new : State) → Stay st new → AnyThere a st → AnyThere a new
there_stays a st new = any_in st new a

pub there_lost_stays : (a : ℕ) (st new : State) (lost : Lost) → Stay st new → AllThereLost a st lost → AllThereLost a new lost
there_lost_stays a st new lost = all_in st new a lost

-- what is done leaves
pub static_did : (old mid done : State) (f new : ℕ) (i : Identity) (table : BTreeMap ℕ Entry) → IsSettled old mid → declared_at old f ≡ Some i → IsTableOf (settled old.declared i new old.given) table
    → done ≡ record (each (settling mid.active f new) mid) { given = places_of ADDRESSES table; listed = false } → DidStatic f new mid done
static_did old mid done f new i table same known is e =
    let given : places_of ADDRESSES table ≡ settled mid.declared i new mid.given = is.1 ∙ (λ k. settled (sym same.declared k) i new (sym same.given k)) in (
      i,
      ap (λ places. declared_in places f) same.declared ∙ known,
      e ∙ (λ t. record (each (settling mid.active f new) mid) { given = given t; listed = false }),
    )

pub new_did : (was mid done : State) (old new : ℕ) (table : BTreeMap ℕ Entry) → IsSettled was mid → IsTableOf (moved old new was.given) table
    → done ≡ record (each (moving mid old new) mid) { given = places_of ADDRESSES table; listed = false } → DidNew old new mid done
new_did was mid done old new table same is e =
    let given : places_of ADDRESSES table ≡ moved old new mid.given = is.1 ∙ (λ k. moved old new (sym same.given k)) in
    e ∙ (λ t. record (each (moving mid old new) mid) { given = given t; listed = false })
