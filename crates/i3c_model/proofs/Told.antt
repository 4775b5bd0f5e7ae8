-- The codes that ask for a datum: what may be told, and that the answer follows the choice.
use Rattle.std.proofs.Common.{◌≡◌, ℕ, ◌+◌, ◌*◌, ◌≤◌, ◌<◌, List, length, set, slice_index, take, Option, Some, sym, refl, ap, ◌∙◌, subst, inl, inr, arith}
use Rattle.std.specs.Prelude.{⊤}
use Rattle.std.proofs.lemmas.Bool.{cases_eq, false≢true}
use Rattle.std.proofs.lemmas.List.{get_or_default, get_or-set_other, get_or-set_same, get_or-take, length-set}
use Rattle.std.proofs.lemmas.Option.{same_Some}
use Rattle.i3c_base.specs.declared.answers.Answer.{Answer}
use Rattle.i3c_base.specs.declared.datum.Datum.{Datum}
use Rattle.i3c_base.specs.declared.requests.Fixed.{Fixed}
use Rattle.i3c_base.specs.declared.requests.Served.{Served}
use Rattle.i3c_base.specs.Cutting.{CutList, Lost, lost_by}
use Rattle.i3c_base.specs.Frames.{AllLostAt, AnyAt, DrivesTold, Gets, IsToldAt, SomeLeftAt, get_bits, told_bytes, told_length}
use Rattle.i3c_base.specs.Serve.{Frame, IsAnd, IsWordBits, Serves, header_bits}
use Rattle.i3c_base.specs.State.{Device, Entry, State, entry_at}
use Rattle.i3c_step.specs.declared.replies.Reply.{Reply}
use Rattle.i3c_step.specs.Step.{Transfers}
use Rattle.i3c_model.specs.declared.plain.Choice.{Choice}
use Rattle.i3c_model.specs.declared.plain.Choice.TheVariants.{Heard, Silent}
use Rattle.i3c_model.specs.Choosing.{AnswersAsChosen, Follows, MayStandFor, ServesAsChosen, of_answer, of_own_part}
use Rattle.i3c_model.specs.Meaning.{DrivesToldLeft, IsToldBy, MayAnswer, Tells}
use Rattle.i3c_model.proofs.SettingLaws.{answers_left, answers_none}
use Rattle.i3c_model.proofs.Taking.{lost≢silent, taken_heard, taken_lost, taken_silent}
use Rattle.i3c_model.proofs.Together.{and_alike}
use Rattle.i3c_model.proofs.Transfers.{Stay, Stay-back, all_in, all_later, any_in, device_low, done≢no_answer, itself, transfer_follows}

-- a device that is there tells byte k
pub told_driven : (st : State) (what : Datum) (a : ℕ) (lost : Lost) (s : ℕ) (bytes : List ℕ) (k : ℕ) → IsToldBy st what a lost s bytes → DrivesToldLeft st what a lost k s (slice_index bytes k)
told_driven st what a lost s bytes k h = ((h.device, h.there, ap (λ bs. slice_index bs k) h.value), h.left)

-- one device tells one byte k
pub one_told : (st : State) (what : Datum) (a : ℕ) (lost : Lost) (k s u v : ℕ) → DrivesToldLeft st what a lost k s u → DrivesToldLeft st what a lost k s v → u ≡ v
one_told st what a lost k s u v d e =
    let same : d.0.0 ≡ e.0.0 = same_Some d.0.0 e.0.0 (sym d.0.1.0 ∙ e.0.1.0) in
    d.0.2 ∙ (ap (λ (x : Device). slice_index (told_bytes what x) k) same ∙ sym e.0.2)

-- a device that tells a byte is in a slot
pub told_low : (st : State) (what : Datum) (a : ℕ) (lost : Lost) (k s v : ℕ) → DrivesToldLeft st what a lost k s v → s < length st.devices
told_low st what a lost k s v d = device_low st s d.0.0 d.0.1.0

-- the first n of sixteen bytes are each the AND of those that are left
abbrev pub AreTold : State → Datum → ℕ → Lost → ℕ → List ℕ → Type 0
AreTold st what a lost n bytes = (length bytes ≡ 16) × ((k : ℕ) → k < n → IsAnd (slice_index bytes k) (DrivesToldLeft st what a lost k))

pub told_start : (st : State) (what : Datum) (a : ℕ) (lost : Lost) (bytes : List ℕ) → length bytes ≡ 16 → AreTold st what a lost 0 bytes
told_start st what a lost bytes long = (long, λ k l. absurd (omega (arith, l)))

pub told_more : (st : State) (what : Datum) (a : ℕ) (lost : Lost) (n : ℕ) (bytes : List ℕ) (byte : ℕ) → n < 16 → AreTold st what a lost n bytes → IsAnd byte (DrivesToldLeft st what a lost n)
    → AreTold st what a lost (n + 1) (set bytes n byte)
told_more st what a lost n bytes byte low h next = (
  length-set bytes n byte ∙ h.0,
  λ k l. elim (cases_eq k n) [
    | inl e ↦ subst (λ j. IsAnd (slice_index (set bytes n byte) j) (DrivesToldLeft st what a lost j)) (sym e)
        (subst (λ v. IsAnd v (DrivesToldLeft st what a lost n)) (sym (get_or-set_same bytes n byte 0 (omega (arith, low, h.0)))) next)
    | inr ne ↦ subst (λ v. IsAnd v (DrivesToldLeft st what a lost k)) (sym (get_or-set_other bytes n k byte 0 ne)) (h.1 k (omega (arith, l, ne)))
  ],
)

-- those first bytes alone
pub told_first : (st : State) (what : Datum) (a : ℕ) (lost : Lost) (n : ℕ) (bytes : List ℕ) → AreTold st what a lost n bytes → (k : ℕ) → k < n → IsAnd (slice_index (take n bytes) k) (DrivesToldLeft st what a lost k)
told_first st what a lost n bytes h k l = subst (λ v. IsAnd v (DrivesToldLeft st what a lost k)) (sym (get_or-take n bytes k 0 l)) (h.1 k l)

-- bytes that are each the AND of the devices left are what is told
pub told_left : (st : State) (what : Datum) (a : ℕ) (lost : Lost) (bytes : List ℕ) → SomeLeftAt st a lost → length bytes ≡ told_length what (entry_at st a)
    → ((k : ℕ) → k < length bytes → IsAnd (slice_index bytes k) (DrivesToldLeft st what a lost k)) → IsToldAt st what a lost bytes
told_left st what a lost bytes some long together = (
  some,
  long,
  λ k d l. subst (λ byte. byte < 256) (get_or_default bytes k 0 d l) (together k l).0,
  λ left k l. and_alike (DrivesToldLeft st what a lost k) (DrivesTold st what a k) (slice_index bytes k) (λ s v d. d.0) (λ s v d. (d, left s d.0 d.1)) (together k l),
)

-- the bits are those of the header's answer
pub told_bits : (st : State) (what : Datum) (a : ℕ) (lost : Lost) (entry : Option Entry) (header answer : Answer) → Tells st what a lost header answer → get_bits what entry header ≡ get_bits what entry answer
told_bits st what a lost entry Answer.Done (Answer.Bytes bytes) h = refl
told_bits st what a lost entry Answer.Done Answer.NoEnd h = refl
told_bits st what a lost entry Answer.Done Answer.Done h = absurd h
told_bits st what a lost entry Answer.Done (Answer.NoAnswer b) h = absurd h
told_bits st what a lost entry (Answer.NoAnswer b) answer h = ap (get_bits what entry) (sym h)
told_bits st what a lost entry (Answer.Bytes bytes) answer h = ap (get_bits what entry) (sym h)
told_bits st what a lost entry Answer.NoEnd answer h = ap (get_bits what entry) (sym h)

-- after an ACK, the own part tells or doesn't end
acked : (old mid : State) (what : Datum) (a : ℕ) (lost : Lost) (answer : Answer) → Stay old mid → AnyAt old a → Tells mid what a lost Answer.Done answer → Gets what a answer lost mid mid
acked old mid what a lost (Answer.Bytes bytes) stay any h = (h, refl)
acked old mid what a lost Answer.NoEnd stay any h = (h, any_in old mid a stay any, refl)
acked old mid what a lost Answer.Done stay any h = absurd h
acked old mid what a lost (Answer.NoAnswer b) stay any h = absurd h

-- what may be told is what the frame's own part does, after serving
pub gets_of : (old mid : State) (what : Datum) (a : ℕ) (entry : Option Entry) (cuts : CutList) (begin : ℕ) (header answer : Answer) → Stay old mid → MayAnswer old (Some a) (lost_by cuts (begin + 18)) header
    → Tells mid what a (lost_by cuts (begin + get_bits what entry answer)) header answer → Gets what a answer (lost_by cuts (begin + get_bits what entry answer)) mid mid
gets_of old mid what a entry cuts begin header answer stay may h =
    let lost : Lost = lost_by cuts (begin + get_bits what entry answer) in
    elim may [
      | inl x ↦ acked old mid what a lost answer stay x.1 (subst (λ y. Tells mid what a lost y answer) x.0 h)
      | inr x ↦
          let is : answer ≡ Answer.NoAnswer a = subst (λ y. Tells mid what a lost y answer) x.0 h in
          subst (λ y. Gets what a y (lost_by cuts (begin + get_bits what entry y)) mid mid) (sym is) (refl, all_in old mid a (lost_by cuts (begin + 18)) stay x.1, refl)
    ]

-- data doesn't end unless silence is chosen and may be; the header isn't acknowledged where nobody is there, or that is
-- chosen
abbrev pub TellsAsChosen : State → ℕ → Lost → Choice → Answer → Type 0
TellsAsChosen st a lost choice (Answer.Bytes bytes) = ⊤
TellsAsChosen st a lost choice Answer.NoEnd = choice ≡ Silent → ¬ AllLostAt st a lost
TellsAsChosen st a lost choice _ = ¬ (choice ≡ Silent) → ¬ AnyAt st a

acked_chosen : (old mid : State) (what : Datum) (a : ℕ) (by_header lost : Lost) (choice : Choice) (answer : Answer) → (choice ≡ Silent → ¬ AllLostAt old a by_header) → Tells mid what a lost Answer.Done answer
    → TellsAsChosen old a by_header choice answer
acked_chosen old mid what a by_header lost choice (Answer.Bytes bytes) left h = tt
acked_chosen old mid what a by_header lost choice Answer.NoEnd left h = left
acked_chosen old mid what a by_header lost choice Answer.Done left h = absurd h
acked_chosen old mid what a by_header lost choice (Answer.NoAnswer b) left h = absurd h

-- the answer is as chosen where the header's is
pub tells_chosen : (old mid : State) (what : Datum) (a : ℕ) (by_header lost : Lost) (choice : Choice) (header answer : Answer) → MayAnswer old (Some a) by_header header → AnswersAsChosen old (Some a) by_header choice header
    → Tells mid what a lost header answer → TellsAsChosen old a by_header choice answer
tells_chosen old mid what a by_header lost choice header answer may given h = elim may [
  | inl x ↦ acked_chosen old mid what a by_header lost choice answer (answers_left old a by_header choice header given x.0) (subst (λ y. Tells mid what a lost y answer) x.0 h)
  | inr x ↦
      let is : answer ≡ Answer.NoAnswer a = subst (λ y. Tells mid what a lost y answer) x.0 h in
      subst (TellsAsChosen old a by_header choice) (sym is) (answers_none old a by_header choice header given (λ e. done≢no_answer a (sym e ∙ x.0)))
]

-- a device that is left is left after serving
some_in : (st new : State) (a : ℕ) (lost : Lost) → Stay st new → SomeLeftAt st a lost → SomeLeftAt new a lost
some_in st new a lost h some = let t = h.to a some.0 some.1 some.2 in (some.0, t.0, t.1, some.3)

left_heard : (st : State) (a : ℕ) (lost : Lost) → SomeLeftAt st a lost → AllLostAt st a lost → ⊥
left_heard st a lost some all = false≢true (sym some.3 ∙ all some.0 some.1 some.2)

module _ (what : Datum) (entry : Option Entry) where
  -- the bits of a frame whose header is acknowledged
  abbrev most : ℕ
  most = 18 + 9 * told_length what entry

  get_most : (answer : Answer) → get_bits what entry answer ≤ 18 + 9 * told_length what entry
  get_most Answer.Done = omega arith
  get_most (Answer.Bytes bytes) = omega arith
  get_most Answer.NoEnd = omega arith
  get_most (Answer.NoAnswer b) = omega arith

  module _ (st mid done : State) (a : ℕ) (cuts : CutList) (begin : ℕ) where
    -- what an answer by another choice says of the bus before it
    silent_get : (answer : Answer) → of_answer answer ≡ Some Silent → Stay st mid → Gets what a answer (lost_by cuts (begin + get_bits what entry answer)) mid done → AllLostAt st a (lost_by cuts (begin + 18))
    silent_get (Answer.NoAnswer b) e h own = all_in mid st a (lost_by cuts (begin + 18)) (Stay-back st mid h) own.1
    silent_get (Answer.Bytes bytes) e h own = cc
    silent_get Answer.NoEnd e h own = cc
    silent_get Answer.Done e h own = absurd own

    lost_get : (answer : Answer) → of_answer answer ≡ Some Choice.Lost → Stay st mid → Gets what a answer (lost_by cuts (begin + get_bits what entry answer)) mid done
        → AllLostAt st a (lost_by cuts (begin + (18 + 9 * told_length what entry))) × AnyAt st a
    lost_get Answer.NoEnd e h own = (all_in mid st a (lost_by cuts (begin + most)) (Stay-back st mid h) own.0, any_in mid st a (Stay-back st mid h) own.1)
    lost_get (Answer.NoAnswer b) e h own = cc
    lost_get (Answer.Bytes bytes) e h own = cc
    lost_get Answer.Done e h own = absurd own

    heard_get : (answer : Answer) → of_answer answer ≡ Some Heard → Stay st mid → Gets what a answer (lost_by cuts (begin + get_bits what entry answer)) mid done
        → SomeLeftAt st a (lost_by cuts (begin + (18 + 9 * told_length what entry)))
    heard_get (Answer.Bytes bytes) e h own = some_in mid st a (lost_by cuts (begin + most)) (Stay-back st mid h) own.0.0
    heard_get (Answer.NoAnswer b) e h own = cc
    heard_get Answer.NoEnd e h own = cc
    heard_get Answer.Done e h own = absurd own

  -- where nobody is there, nothing is told
  get_absent : (old mid done : State) (a : ℕ) (other : Answer) (lost : Lost) → Stay old mid → ¬ AnyAt old a → Gets what a other lost mid done → get_bits what entry other ≤ 18
  get_absent old mid done a (Answer.NoAnswer b) lost h none own = omega arith
  get_absent old mid done a (Answer.Bytes bytes) lost h none own = (let some = own.0.0 in absurd (none (any_in mid old a (Stay-back old mid h) (some.0, some.1, some.2))))
  get_absent old mid done a Answer.NoEnd lost h none own = absurd (none (any_in mid old a (Stay-back old mid h) own.1))
  get_absent old mid done a Answer.Done lost h none own = absurd own

  -- a device that is lost by the header's end is lost by the last byte's
  get_later : (st : State) (a : ℕ) (cuts : CutList) (begin : ℕ) → AllLostAt st a (lost_by cuts (begin + 18)) → AllLostAt st a (lost_by cuts (begin + (18 + 9 * told_length what entry)))
  get_later st a cuts begin = all_later st a cuts (begin + 18) (begin + most) (omega arith)

-- the answer follows the choice; `at_mid` is after serving
module _ (old : State) (what : Datum) (a : ℕ) (policy : Fixed) (cuts : CutList) (choice : Choice) (served : Served) (word header : ℕ) (new : State)
    (word_sent : (lost : Lost) (other : Served) (mid : State) → Serves old policy lost other mid → IsWordBits old other word)
    (header_sent : (lost : Lost) (other : Served) (mid : State) → Serves old policy lost other mid → header ≡ header_bits other) where
  -- what the table has at the address
  abbrev entry : Option Entry
  entry = entry_at old a

  -- the bits of each answer
  abbrev bits : Answer → ℕ
  bits = get_bits what (entry_at old a)

  -- the possible results of it
  abbrev GetComes : Reply → State → Type 0
  GetComes = Transfers old (get_bits what (entry_at old a)) (Gets what a) policy cuts

  pub gets_follow : (answer : Answer) → ServesAsChosen old policy (lost_by cuts (word + header + get_bits what (entry_at old a) answer)) choice served
      → Frame old policy cuts served (header_bits served + get_bits what (entry_at old a) answer) (Gets what a answer) new
      → (at_mid : State) → Stay old at_mid → Gets what a answer (lost_by cuts (word + header + get_bits what (entry_at old a) answer)) at_mid at_mid
      → TellsAsChosen old a (lost_by cuts (word + header + 18)) choice answer
      → Follows (Transfers old (get_bits what (entry_at old a)) (Gets what a) policy cuts) choice (Reply.Framed (record { served = served; answer = answer }))
  gets_follow (Answer.Bytes bytes) served_as frame at_mid stays does given = transfer_follows old bits (Gets what a) policy cuts choice served (Answer.Bytes bytes) word header new served_as word_sent header_sent frame
      (λ e other lost mid done stay own. get_most what entry other)
      (λ other_of. taken_heard (MayStandFor GetComes of_own_part) choice
      (λ c l. let o = other_of Choice.Lost l in left_heard old a by_last some (lost_get what entry old o.mid o.done a cuts (word + header) o.answer o.stands o.stay o.own).0)
      (λ c l. let o = other_of Silent l in left_heard old a by_last some (get_later what entry old a cuts (word + header) (silent_get what entry old o.mid o.done a cuts (word + header) o.answer o.stands o.stay o.own))))
    where
      by_last : Lost
      by_last = lost_by cuts (word + header + (18 + 9 * told_length what (entry_at old a)))

      some : SomeLeftAt old a by_last
      some = heard_get what entry old at_mid at_mid a cuts (word + header) (Answer.Bytes bytes) refl stays does
  gets_follow Answer.NoEnd served_as frame at_mid stays does given = transfer_follows old bits (Gets what a) policy cuts choice served Answer.NoEnd word header new served_as word_sent header_sent frame
      (λ e other lost mid done stay own. get_most what entry other)
      (λ other_of. taken_lost (MayStandFor GetComes of_own_part) choice
      (itself old bits (Gets what a) policy cuts choice served Answer.NoEnd word header new served_as word_sent header_sent frame Choice.Lost refl)
      (λ ne l. let o = other_of Heard l in left_heard old a (lost_by cuts (word + header + (18 + 9 * told_length what (entry_at old a))))
      (heard_get what entry old o.mid o.done a cuts (word + header) o.answer o.stands o.stay o.own)
      (lost_get what entry old at_mid at_mid a cuts (word + header) Answer.NoEnd refl stays does).0)
      (λ e l. let o = other_of Silent l in given e (silent_get what entry old o.mid o.done a cuts (word + header) o.answer o.stands o.stay o.own)))
  gets_follow (Answer.NoAnswer b) served_as frame at_mid stays does given = transfer_follows old bits (Gets what a) policy cuts choice served (Answer.NoAnswer b) word header new served_as word_sent header_sent frame
      (λ e other lost mid done stay own. get_absent what entry old mid done a other lost stay (given (λ s. lost≢silent (sym e ∙ s))) own)
      (λ other_of. taken_silent (MayStandFor GetComes of_own_part) choice
      (itself old bits (Gets what a) policy cuts choice served (Answer.NoAnswer b) word header new served_as word_sent header_sent frame Silent refl)
      (λ ne. (
        (λ l. let o = other_of Heard l in let some = heard_get what entry old o.mid o.done a cuts (word + header) o.answer o.stands o.stay o.own in given ne (some.0, some.1, some.2)),
        (λ l. let o = other_of Choice.Lost l in given ne (lost_get what entry old o.mid o.done a cuts (word + header) o.answer o.stands o.stay o.own).1),
      )))
  gets_follow Answer.Done served_as frame at_mid stays does given = absurd does
