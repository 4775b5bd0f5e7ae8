-- SETMWL and SETMRL: what each answer leaves, and that it follows the choice.
use Rattle.std.proofs.Common.{◌≡◌, ℕ, ◌+◌, ◌≤◌, Option, Some, None, sym, refl, ap, ◌∙◌, arith}
use Rattle.i3c_base.specs.declared.answers.Answer.{Answer}
use Rattle.i3c_base.specs.declared.datum.Direction.{Direction}
use Rattle.i3c_base.specs.declared.requests.Fixed.{Fixed}
use Rattle.i3c_base.specs.declared.requests.Served.{Served}
use Rattle.i3c_base.specs.Cutting.{CutList, Lost, lost_by}
use Rattle.i3c_base.specs.Frames.{SetsLength, length_bits, with_length}
use Rattle.i3c_base.specs.Serve.{Frame, IsWordBits, Serves, header_bits}
use Rattle.i3c_base.specs.State.{State}
use Rattle.i3c_step.specs.declared.replies.Reply.{Reply}
use Rattle.i3c_step.specs.Step.{Transfers}
use Rattle.i3c_model.specs.declared.plain.Choice.{Choice}
use Rattle.i3c_model.specs.declared.plain.Choice.TheVariants.{Heard, Silent}
use Rattle.i3c_model.specs.Choosing.{AnswersAsChosen, Follows, MayStandFor, ServesAsChosen, of_answer, of_own_part}
use Rattle.i3c_model.specs.Meaning.{MayAnswer}
use Rattle.i3c_model.proofs.SettingLaws.{AllThereLost, AnyThere, EndsWithHeader, answers_left, answers_none, sets_follow, sets_of, there_lost_stays, there_stays}
use Rattle.i3c_model.proofs.Taking.{heard≢lost, heard≢silent, taken_heard}
use Rattle.i3c_model.proofs.Transfers.{Stay, bytes≢done, done≢no_answer, no_end≢done, transfer_follows}

-- the bits of each answer of a command to an address
length_most : (a : ℕ) (answer : Answer) → length_bits (Some a) answer ≤ 36
length_most a Answer.Done = omega arith
length_most a (Answer.NoAnswer b) = omega arith
length_most a (Answer.Bytes bytes) = omega arith
length_most a Answer.NoEnd = omega arith

length_header : (a : ℕ) → EndsWithHeader (length_bits (Some a))
length_header a = (λ b. refl, length_most a)

-- what is left where it is done
abbrev DidLength : ℕ → Direction → ℕ → State → State → Type 0
DidLength a way most mid done = done ≡ with_length (Some a) way most mid

-- a possible answer is an effect of the frame's own part, after serving
pub lengths_of : (to : Option ℕ) (way : Direction) (most : ℕ) (old mid done : State) (cuts : CutList) (begin : ℕ) (answer : Answer) → Stay old mid → MayAnswer old to (lost_by cuts (begin + 18)) answer
    → (answer ≡ Answer.Done → done ≡ with_length to way most mid) → (¬ (answer ≡ Answer.Done) → done ≡ mid) → SetsLength to way most answer (lost_by cuts (begin + length_bits to answer)) mid done
lengths_of None way most old mid done cuts begin answer stay may did did_not = (may, did may)
lengths_of (Some a) way most old mid done cuts begin answer stay may did did_not =
    sets_of a (length_bits (Some a)) (length_header a) (AnyThere a) (AllThereLost a) (DidLength a way most) (there_stays a) (there_lost_stays a) old mid done cuts begin answer stay may did did_not

-- an answer `Done` means the choice `Heard`
done_heard : (answer : Answer) (c : Choice) → answer ≡ Answer.Done → of_answer answer ≡ Some c → Heard ≡ c
done_heard answer c e stands = (let x : Some Heard ≡ Some c = sym (ap of_answer e) ∙ stands in cc)

-- the answer follows the choice
module _ (way : Direction) (limit : ℕ) (old : State) (policy : Fixed) (cuts : CutList) (choice : Choice) (served : Served) (word header : ℕ) (new : State)
    (word_sent : (lost : Lost) (other : Served) (mid : State) → Serves old policy lost other mid → IsWordBits old other word)
    (header_sent : (lost : Lost) (other : Served) (mid : State) → Serves old policy lost other mid → header ≡ header_bits other) where
  -- the possible results of a command to all
  abbrev ToAll : Reply → State → Type 0
  ToAll = Transfers old (length_bits None) (SetsLength None way limit) policy cuts

  to_all_follows : (answer : Answer) → ServesAsChosen old policy (lost_by cuts (word + header + 27)) choice served → Frame old policy cuts served (header_bits served + 27) (SetsLength None way limit answer) new
      → Follows (Transfers old (length_bits None) (SetsLength None way limit) policy cuts) choice (Reply.Framed (record { served = served; answer = answer }))
  to_all_follows Answer.Done served_as frame = transfer_follows old (length_bits None) (SetsLength None way limit) policy cuts choice served Answer.Done word header new served_as word_sent header_sent frame
      (λ e other lost mid done stay own. omega arith)
      (λ other_of. taken_heard (MayStandFor ToAll of_own_part) choice
      (λ c l. let o = other_of Choice.Lost l in heard≢lost (done_heard o.answer Choice.Lost o.own.0 o.stands))
      (λ c l. let o = other_of Silent l in heard≢silent (done_heard o.answer Silent o.own.0 o.stands)))
  to_all_follows (Answer.NoAnswer b) served_as frame = absurd (done≢no_answer b (sym frame.own.0))
  to_all_follows (Answer.Bytes bytes) served_as frame = absurd (bytes≢done bytes frame.own.0)
  to_all_follows Answer.NoEnd served_as frame = absurd (no_end≢done frame.own.0)

  pub lengths_follow : (to : Option ℕ) (answer : Answer) → ServesAsChosen old policy (lost_by cuts (word + header + length_bits to answer)) choice served
      → Frame old policy cuts served (header_bits served + length_bits to answer) (SetsLength to way limit answer) new → AnswersAsChosen old to (lost_by cuts (word + header + 18)) choice answer
      → Follows (Transfers old (length_bits to) (SetsLength to way limit) policy cuts) choice (Reply.Framed (record { served = served; answer = answer }))
  lengths_follow None answer served_as frame given = to_all_follows answer served_as frame
  lengths_follow (Some a) answer served_as frame given =
      sets_follow a (length_bits (Some a)) (length_header a) (AnyThere a) (AllThereLost a) (DidLength a way limit) (there_stays a) (there_lost_stays a) old policy cuts choice served word header new word_sent header_sent answer served_as
      frame (answers_left old a (lost_by cuts (word + header + 18)) choice answer given) (answers_none old a (lost_by cuts (word + header + 18)) choice answer given)
