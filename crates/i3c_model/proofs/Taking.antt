-- A reply means the choice that is taken.
use Rattle.std.proofs.Common.{◌≡◌, ℕ, ◌+◌, ◌≤◌, true, Option, Some, None, Result, Ok, Err, IfOk, MatchOption, if◌then◌else◌, ◌⊎◌, inl, inr, sym, refl, ap, ◌∙◌, subst, arith}
use Rattle.std.specs.Prelude.{⊤, nat_le}
use Rattle.std.proofs.lemmas.Bool.{false≢true, leb-true}
use Rattle.std.proofs.lemmas.Option.{none-some}
use Rattle.i3c_base.specs.declared.answers.Answer.{Answer}
use Rattle.i3c_base.specs.declared.answers.RoundReply.{RoundReply}
use Rattle.i3c_base.specs.declared.identity.Identity.{Identity}
use Rattle.i3c_base.specs.declared.requests.Fixed.{Fixed}
use Rattle.i3c_base.specs.declared.requests.Request.TheVariants.{Interrupt}
use Rattle.i3c_base.specs.declared.requests.Served.{Served}
use Rattle.i3c_base.specs.Cutting.{CutList, Lost as LostDevices, cut_of, is_by, lost_by}
use Rattle.i3c_base.specs.Frames.{AllLostAt, AnyAt, Rekinds, kinds_bits}
use Rattle.i3c_base.specs.Numbers.{KindSet}
use Rattle.i3c_base.specs.Round.{AllHearersLost, AnyHears, IsBeatenByLost, Rounds}
use Rattle.i3c_base.specs.Serve.{Frame, IsWordBits, Serves, byte_due, header_bits}
use Rattle.i3c_base.specs.State.{State, entry_at}
use Rattle.i3c_step.specs.declared.events.Event.{Event}
use Rattle.i3c_step.specs.declared.replies.Framed.{Framed}
use Rattle.i3c_step.specs.declared.replies.Reply.{Reply}
use Rattle.i3c_step.specs.Step.{Acts, IsShort, Nothing, RekindsBy, Step, checks, first_refusal}
use Rattle.i3c_step.proofs.Uniqueness.{first_unique}
use Rattle.i3c_model.specs.declared.plain.Choice.{Choice}
use Rattle.i3c_model.specs.declared.plain.Choice.TheVariants.{Heard, Lost, Silent}
use Rattle.i3c_model.specs.Choosing.{AnswersAsChosen, Follows, IsTaken, MayStandFor, Question, ServesAsChosen, of_answer, of_own_part, of_request, of_round, of_served, order, stands_for}
use Rattle.i3c_model.proofs.Framing.{KeepsTargets, serves_keeps}
use Rattle.i3c_model.proofs.Stepping.{acts_there}

pub heard≢lost : Heard ≡ Lost → ⊥
heard≢lost e = cc

pub heard≢silent : Heard ≡ Silent → ⊥
heard≢silent e = cc

pub lost≢silent : Lost ≡ Silent → ⊥
lost≢silent e = cc

-- each of the three is taken
pub taken_heard : (L : Choice → Type 0) (choice : Choice) → (choice ≡ Lost → ¬ L Lost) → (choice ≡ Silent → ¬ L Silent) → IsTaken L choice Heard
taken_heard L Heard no_lost no_silent = record { chosen = λ h. refl; first = λ h other k. omega arith }
taken_heard L Lost no_lost no_silent = record { chosen = λ h. absurd (no_lost refl h); first = λ h other k. omega arith }
taken_heard L Silent no_lost no_silent = record { chosen = λ h. absurd (no_silent refl h); first = λ h other k. omega arith }

after_heard : (L : Choice → Type 0) (other : Choice) → ¬ L Heard → L other → 1 ≤ order other
after_heard L Heard unlawful h = absurd (unlawful h)
after_heard L Lost unlawful h = omega arith
after_heard L Silent unlawful h = omega arith

after_both : (L : Choice → Type 0) (other : Choice) → ¬ L Heard → ¬ L Lost → L other → 2 ≤ order other
after_both L Heard unlawful none h = absurd (unlawful h)
after_both L Lost unlawful none h = absurd (none h)
after_both L Silent unlawful none h = omega arith

pub taken_lost : (L : Choice → Type 0) (choice : Choice) → L Lost → (¬ (choice ≡ Lost) → ¬ L Heard) → (choice ≡ Silent → ¬ L Silent) → IsTaken L choice Lost
taken_lost L Heard own no_heard no_silent = record { chosen = λ h. absurd (no_heard heard≢lost h); first = λ h other k. after_heard L other (no_heard heard≢lost) k }
taken_lost L Lost own no_heard no_silent = record { chosen = λ h. refl; first = λ h. absurd (h own) }
taken_lost L Silent own no_heard no_silent =
    let other_choice : ¬ (Silent ≡ Lost) = λ e. lost≢silent (sym e) in
    record { chosen = λ h. absurd (no_silent refl h); first = λ h other k. after_heard L other (no_heard other_choice) k }

pub taken_silent : (L : Choice → Type 0) (choice : Choice) → L Silent → (¬ (choice ≡ Silent) → (¬ L Heard) × (¬ L Lost)) → IsTaken L choice Silent
taken_silent L Heard own none = let no = none heard≢silent in record { chosen = λ h. absurd (no.0 h); first = λ h other k. after_both L other no.0 no.1 k }
taken_silent L Lost own none = let no = none lost≢silent in record { chosen = λ h. absurd (no.1 h); first = λ h other k. after_both L other no.0 no.1 k }
taken_silent L Silent own none = record { chosen = λ h. refl; first = λ h. absurd (h own) }

-- the choice in both questions
pub follows : (Comes : Reply → State → Type 0) (choice : Choice) (reply : Reply) → MatchOption (stands_for of_request reply) ⊤ (IsTaken (MayStandFor Comes of_request) choice)
    → MatchOption (stands_for of_own_part reply) ⊤ (IsTaken (MayStandFor Comes of_own_part) choice) → Follows Comes choice reply
follows Comes choice reply h k of_request = h
follows Comes choice reply h k of_own_part = k

-- a possible result of an event that isn't refused is an effect of it
may_act : (old : State) (event : Event) (q : Question) (choice : Choice) → first_refusal (checks old event) ≡ None → MayStandFor (Step old event) q choice → MayStandFor (Acts old event) q choice
may_act old event q choice allowed m = (m.0, m.1, elim step [ inl short ↦ absurd (settled q short.1) | inr acts ↦ acts ], m.3)
  where
    step : IsShort old event m.0 m.1 ⊎ Acts old event m.0 m.1
    step = subst (λ o. MatchOption o (IsShort old event m.0 m.1 ⊎ Acts old event m.0 m.1) (λ why. (m.0 ≡ Reply.Refused why) × (m.1 ≡ old))) allowed m.2

    short_stands : (p : Question) → stands_for p Reply.OutOfMemory ≡ None
    short_stands of_request = refl
    short_stands of_own_part = refl

    settled : (p : Question) → m.0 ≡ Reply.OutOfMemory → ⊥
    settled p e = none-some choice (sym (ap (stands_for q) e ∙ short_stands q) ∙ m.3)

taken_alike : (L M : Choice → Type 0) (choice taken : Choice) → ((c : Choice) → L c → M c) → ((c : Choice) → M c → L c) → IsTaken L choice taken → IsTaken M choice taken
taken_alike L M choice taken to from h = record { chosen = λ m. h.chosen (from choice m); first = λ no other m. h.first (λ l. no (to choice l)) other (from other m) }

follows_acts : (old : State) (event : Event) (choice : Choice) (reply : Reply) → first_refusal (checks old event) ≡ None → Follows (Acts old event) choice reply → Follows (Step old event) choice reply
follows_acts old event choice reply allowed h q = go (stands_for q reply) (h q)
  where
    go : (o : Option Choice) → MatchOption o ⊤ (IsTaken (MayStandFor (Acts old event) q) choice) → MatchOption o ⊤ (IsTaken (MayStandFor (Step old event) q) choice)
    go None k = k
    go (Some taken) k = taken_alike (MayStandFor (Acts old event) q) (MayStandFor (Step old event) q) choice taken
        (λ c m. (m.0, m.1, acts_there old event m.0 m.1 allowed m.2, m.3)) (λ c m. may_act old event q c allowed m) k

pub follows_step : {E : Type 0} (old : State) (event : Event) (choice : Choice) (r : Result Reply E) → first_refusal (checks old event) ≡ None → IfOk r (Follows (Acts old event) choice) → IfOk r (Follows (Step old event) choice)
follows_step old event choice (Ok reply) allowed h = follows_acts old event choice reply allowed h
follows_step old event choice (Err e) allowed h = h

-- the choice that each reply means
pub torn_from : (served : Served) → of_served served ≡ Some Lost → served ≡ Served.Torn
torn_from Served.Torn e = refl
torn_from (Served.Recorded place) e = cc
torn_from Served.Quiet e = absurd (none-some Lost e)
torn_from Served.Refused e = absurd (none-some Lost e)
torn_from Served.Joining e = absurd (none-some Lost e)
torn_from (Served.WantsRole a) e = absurd (none-some Lost e)

pub never_silent : (served : Served) → of_served served ≡ Some Silent → ⊥
never_silent Served.Torn e = cc
never_silent (Served.Recorded place) e = cc
never_silent Served.Quiet e = none-some Silent e
never_silent Served.Refused e = none-some Silent e
never_silent Served.Joining e = none-some Silent e
never_silent (Served.WantsRole a) e = none-some Silent e

-- the request's part
pub request_taken : (L : Choice → Type 0) (old : State) (policy : Fixed) (lost : LostDevices) (choice : Choice) (served : Served) → ServesAsChosen old policy lost choice served
    → ((c : Choice) → of_served served ≡ Some c → L c) → ((place : ℕ) → served ≡ Served.Recorded place → choice ≡ Lost → L Lost → (mid : State) × Serves old policy lost Served.Torn mid) → ¬ L Silent
    → MatchOption (of_served served) ⊤ (IsTaken L choice)
request_taken L old policy lost choice Served.Quiet given own tear never = tt
request_taken L old policy lost choice Served.Refused given own tear never = tt
request_taken L old policy lost choice Served.Joining given own tear never = tt
request_taken L old policy lost choice (Served.WantsRole a) given own tear never = tt
request_taken L old policy lost choice (Served.Recorded place) given own tear never = taken_heard L choice (λ e l. let t = tear place refl e l in given e t.0 t.1) (λ e. never)
request_taken L old policy lost choice Served.Torn given own tear never = taken_lost L choice (own Lost refl) (λ ne. absurd (ne given)) (λ e. absurd (lost≢silent (sym given ∙ e)))

-- the mandatory word of a record is a torn one's if the interrupt has a mandatory byte
same_word : (old : State) (policy : Fixed) (lost : LostDevices) (place word torn : ℕ) (mid : State) → IsWordBits old (Served.Recorded place) word → IsWordBits old Served.Torn torn → Serves old policy lost Served.Torn mid → word ≡ torn
same_word old policy lost place word torn mid h k t =
    let e : Interrupt h.0 ≡ Interrupt t.at = first_unique old (Interrupt h.0) (Interrupt t.at) h.1 t.first in
    let same : h.0 ≡ t.at = cc in
    h.2 ∙ (ap (λ a. if byte_due (entry_at old a) then 9 else 0) same ∙ (ap (λ b. if b then 9 else 0) t.due ∙ sym k))

pub later_by : (m n : ℕ) (o : Option ℕ) → m ≤ n → is_by m o ≡ true → is_by n o ≡ true
later_by m n None l h = h
later_by m n (Some bit) l h = let b : bit ≤ m = leb-true bit m h in true-leb bit n (omega arith)
  where
    true-leb : (a b : ℕ) → a ≤ b → nat_le a b ≡ true
    true-leb a b l = grind (arith, l)

-- more bits lose more
torn_later : (old : State) (policy : Fixed) (cuts : CutList) (m n : ℕ) (mid : State) → m ≤ n → Serves old policy (lost_by cuts m) Served.Torn mid → Serves old policy (lost_by cuts n) Served.Torn mid
torn_later old policy cuts m n mid l t = record {
  at = t.at;
  first = t.first;
  accepted = t.accepted;
  due = t.due;
  gone = λ s d. later_by m n (cut_of cuts s) l (t.gone s d);
  left = t.left;
}

-- where a byte may be torn in a frame that sends no more bits, it may be torn in this one
pub torn_in : (old : State) (policy : Fixed) (cuts : CutList) (place word header bits other : ℕ) (lost : LostDevices) (served : Served) (mid : State) (Own : LostDevices → State → State → Type 0) (next : State)
    → ((by : LostDevices) (s : Served) (m : State) → Serves old policy by s m → IsWordBits old s word) → ((by : LostDevices) (s : Served) (m : State) → Serves old policy by s m → header ≡ header_bits s)
    → Serves old policy lost served mid → served ≡ Served.Recorded place → Frame old policy cuts Served.Torn (9 + other) Own next → other ≤ bits → (m : State) × Serves old policy (lost_by cuts (word + header + bits)) Served.Torn m
torn_in old policy cuts place word header bits other lost served mid Own next word_sent header_sent serves is ends few =
    let words : word ≡ ends.word = same_word old policy (lost_by cuts (ends.word + (9 + other))) place word ends.word ends.mid (subst (λ x. IsWordBits old x word) is (word_sent lost served mid serves)) ends.sent ends.serves in
    let headers : header ≡ 9 = header_sent lost served mid serves ∙ ap header_bits is in
    (ends.mid, torn_later old policy cuts (ends.word + (9 + other)) (word + header + bits) ends.mid (omega (arith, words, headers, few)) ends.serves)

-- serving alone follows the choice
pub serve_follows : (old : State) (policy : Fixed) (cuts : CutList) (choice : Choice) (served : Served) (last : ℕ) (new : State) → ServesAsChosen old policy (lost_by cuts last) choice served → IsWordBits old served last
    → Frame old policy cuts served 0 Nothing new → Follows (Acts old (Event.Serve policy cuts)) choice (Reply.Served served)
serve_follows old policy cuts choice served last new given sent frame = follows (Acts old (Event.Serve policy cuts)) choice (Reply.Served served)
    (request_taken (MayStandFor (Acts old (Event.Serve policy cuts)) of_request) old policy (lost_by cuts last) choice served given (λ c e. (Reply.Served served, new, (served, refl, frame), e)) tear
    (λ l. never_silent l.2.0 (sym (ap (stands_for of_request) l.2.1) ∙ l.3))) tt
  where
    tear : (place : ℕ) → served ≡ Served.Recorded place → choice ≡ Lost → MayStandFor (Acts old (Event.Serve policy cuts)) of_request Lost → (mid : State) × Serves old policy (lost_by cuts last) Served.Torn mid
    tear place is e l =
        let torn : l.2.0 ≡ Served.Torn = torn_from l.2.0 (sym (ap (stands_for of_request) l.2.1) ∙ l.3) in
        let frame : Frame old policy cuts Served.Torn 0 Nothing l.1 = subst (λ x. Frame old policy cuts x 0 Nothing l.1) torn l.2.2 in
        let word : last ≡ frame.word = same_word old policy (lost_by cuts (frame.word + 0)) place last frame.word frame.mid (subst (λ x. IsWordBits old x last) is sent) frame.sent frame.serves in
        (frame.mid, torn_later old policy cuts (frame.word + 0) last frame.mid (omega arith) frame.serves)

-- enabling and disabling
pub no_answer_from : (answer : Answer) → of_answer answer ≡ Some Silent → (a : ℕ) × (answer ≡ Answer.NoAnswer a)
no_answer_from (Answer.NoAnswer a) e = (a, refl)
no_answer_from Answer.Done e = cc
no_answer_from (Answer.Bytes bytes) e = cc
no_answer_from Answer.NoEnd e = cc

never_lost : (answer : Answer) → (answer ≡ Answer.Done) ⊎ ((a : ℕ) × (answer ≡ Answer.NoAnswer a)) → of_answer answer ≡ Some Lost → ⊥
never_lost answer known e = elim known [
  | inl h ↦ let x : Some Heard ≡ Some Lost = sym (ap of_answer h) ∙ e in cc
  | inr h ↦ let x : Some Silent ≡ Some Lost = sym (ap of_answer h.1) ∙ e in cc
]

rekinds_answers : (to : Option ℕ) (f : KindSet → KindSet) (answer : Answer) (lost : LostDevices) (mid done : State) → Rekinds to f answer lost mid done
    → (answer ≡ Answer.Done) ⊎ ((a : ℕ) × (answer ≡ Answer.NoAnswer a))
rekinds_answers None f answer lost mid done h = inl h.0
rekinds_answers (Some a) f answer lost mid done h = elim h [ inl x ↦ inl x.0 | inr x ↦ inr (a, x.0) ]

done≢no_answer : (a : ℕ) → Answer.Done ≡ Answer.NoAnswer a → ⊥
done≢no_answer a e = cc

bits_at_most : (a : ℕ) (answer : Answer) → kinds_bits (Some a) answer ≤ 27
bits_at_most a Answer.Done = omega arith
bits_at_most a (Answer.NoAnswer b) = omega arith
bits_at_most a (Answer.Bytes bytes) = omega arith
bits_at_most a Answer.NoEnd = omega arith

any_kept : (old mid : State) (a : ℕ) → KeepsTargets old mid → AnyAt mid a → AnyAt old a
any_kept old mid a keeps any = let t = keeps.1 a any.0 any.1 any.2 in (any.0, t.0, t.1)

-- unless silence is chosen, no answer takes more bits
bits_most : (old mid done : State) (to : Option ℕ) (f : KindSet → KindSet) (choice : Choice) (answer other : Answer) (lost other_lost : LostDevices) → ¬ (choice ≡ Silent) → AnswersAsChosen old to lost choice answer → KeepsTargets old mid
    → Rekinds to f other other_lost mid done → kinds_bits to other ≤ kinds_bits to answer
bits_most old mid done None f choice answer other lost other_lost ne given keeps own = omega arith
bits_most old mid done (Some a) f choice Answer.Done other lost other_lost ne given keeps own = bits_at_most a other
bits_most old mid done (Some a) f choice (Answer.Bytes bytes) other lost other_lost ne given keeps own = bits_at_most a other
bits_most old mid done (Some a) f choice Answer.NoEnd other lost other_lost ne given keeps own = bits_at_most a other
bits_most old mid done (Some a) f choice (Answer.NoAnswer b) other lost other_lost ne given keeps own = elim own [
  | inl h ↦ absurd (given ne (any_kept old mid a keeps h.1))
  | inr h ↦ subst (λ (x : Answer). kinds_bits (Some a) x ≤ 18) (sym h.0) (omega arith)
]

pub word_unique : (old : State) (served : Served) (m n : ℕ) → IsWordBits old served m → IsWordBits old served n → m ≡ n
word_unique old Served.Quiet m n h k = h ∙ sym k
word_unique old Served.Refused m n h k = h ∙ sym k
word_unique old Served.Joining m n h k = h ∙ sym k
word_unique old (Served.WantsRole a) m n h k = h ∙ sym k
word_unique old Served.Torn m n h k = h ∙ sym k
word_unique old (Served.Recorded place) m n h k =
    let e : Interrupt h.0 ≡ Interrupt k.0 = first_unique old (Interrupt h.0) (Interrupt k.0) h.1 k.1 in
    let same : h.0 ≡ k.0 = cc in
    h.2 ∙ (ap (λ a. if byte_due (entry_at old a) then 9 else 0) same ∙ sym k.2)

-- enabling and disabling follow the choice
module _ (old : State) (to : Option ℕ) (f : KindSet → KindSet) (policy : Fixed) (cuts : CutList) (choice : Choice) (served : Served) (answer : Answer) (word header : ℕ) (new : State)
    (served_as : ServesAsChosen old policy (lost_by cuts (word + header + kinds_bits to answer)) choice served) (answered_as : AnswersAsChosen old to (lost_by cuts (word + header + 18)) choice answer)
    (word_sent : (lost : LostDevices) (other : Served) (mid : State) → Serves old policy lost other mid → IsWordBits old other word)
    (header_sent : (lost : LostDevices) (other : Served) (mid : State) → Serves old policy lost other mid → header ≡ header_bits other)
    (frame : Frame old policy cuts served (header_bits served + kinds_bits to answer) (Rekinds to f answer) new) where
  abbrev Comes : Reply → State → Type 0
  Comes = RekindsBy old to f policy cuts

  tear : (place : ℕ) → served ≡ Served.Recorded place → choice ≡ Lost → MayStandFor Comes of_request Lost → (mid : State) × Serves old policy (lost_by cuts (word + header + kinds_bits to answer)) Served.Torn mid
  tear place is e l =
      let other : Answer = l.2.0.answer in
      let torn : l.2.0.served ≡ Served.Torn = torn_from l.2.0.served (sym (ap (stands_for of_request) l.2.1) ∙ l.3) in
      let ends : Frame old policy cuts Served.Torn (9 + kinds_bits to other) (Rekinds to f other) l.1 = subst (λ x. Frame old policy cuts x (header_bits x + kinds_bits to other) (Rekinds to f other) l.1) torn l.2.2 in
      let bits = bits_most old ends.mid ends.done to f choice answer other (lost_by cuts (word + header + 18)) (lost_by cuts (ends.word + (9 + kinds_bits to other))) (λ s. lost≢silent (sym e ∙ s)) answered_as
      (serves_keeps old policy (lost_by cuts (ends.word + (9 + kinds_bits to other))) Served.Torn ends.mid ends.serves) ends.own in
      torn_in old policy cuts place word header (kinds_bits to answer) (kinds_bits to other) (lost_by cuts (frame.word + (header_bits served + kinds_bits to answer))) served frame.mid (Rekinds to f other) l.1 word_sent header_sent frame.serves is ends bits

  silent_all : (a : ℕ) → to ≡ Some a → MayStandFor Comes of_own_part Silent → AllLostAt old a (lost_by cuts (word + header + 18))
  silent_all a is l =
      let no_answer = no_answer_from l.2.0.answer (sym (ap (stands_for of_own_part) l.2.1) ∙ l.3) in
      let ends = l.2.2 in
      let last = ends.word + (header_bits l.2.0.served + kinds_bits to l.2.0.answer) in
      let words : word ≡ ends.word = word_unique old l.2.0.served word ends.word (word_sent (lost_by cuts last) l.2.0.served ends.mid ends.serves) ends.sent in
      let headers : header ≡ header_bits l.2.0.served = header_sent (lost_by cuts last) l.2.0.served ends.mid ends.serves in
      let bits : kinds_bits to l.2.0.answer ≡ 18 = (λ t. kinds_bits (is t) (no_answer.1 t)) in
      let same : last ≡ word + header + 18 = omega (arith, words, headers, bits) in
      let keeps = serves_keeps old policy (lost_by cuts last) l.2.0.served ends.mid ends.serves in
      λ s d t. let m = keeps.0 a s d t in ap (λ n. lost_by cuts n s) (sym same) ∙ all ends.mid ends.done last (subst (λ x. Rekinds x f l.2.0.answer (lost_by cuts last) ends.mid ends.done) is ends.own) no_answer.0 no_answer.1 s m.0 m.1
    where
      all : (mid done : State) (last : ℕ) → Rekinds (Some a) f l.2.0.answer (lost_by cuts last) mid done → (b : ℕ) → l.2.0.answer ≡ Answer.NoAnswer b → AllLostAt mid a (lost_by cuts last)
      all mid done last own b e = elim own [ inl h ↦ absurd (done≢no_answer b (sym h.0 ∙ e)) | inr h ↦ h.1 ]

  never_none : to ≡ None → MayStandFor Comes of_own_part Silent → ⊥
  never_none is l =
      let no_answer = no_answer_from l.2.0.answer (sym (ap (stands_for of_own_part) l.2.1) ∙ l.3) in
      let own = subst (λ x. Rekinds x f l.2.0.answer (lost_by cuts (l.2.2.word + (header_bits l.2.0.served + kinds_bits to l.2.0.answer))) l.2.2.mid l.2.2.done) is l.2.2.own in
      done≢no_answer no_answer.0 (sym own.0 ∙ no_answer.1)

  heard_any : (a : ℕ) → to ≡ Some a → MayStandFor Comes of_own_part Heard → AnyAt old a
  heard_any a is l =
      let heard : of_answer l.2.0.answer ≡ Some Heard = sym (ap (stands_for of_own_part) l.2.1) ∙ l.3 in
      let ends = l.2.2 in
      let last = ends.word + (header_bits l.2.0.served + kinds_bits to l.2.0.answer) in
      let own = subst (λ x. Rekinds x f l.2.0.answer (lost_by cuts last) ends.mid ends.done) is ends.own in
      elim own [ inl h ↦ any_kept old ends.mid a (serves_keeps old policy (lost_by cuts last) l.2.0.served ends.mid ends.serves) h.1 | inr h ↦ absurd (let x : Some Silent ≡ Some Heard = sym (ap of_answer h.0) ∙ heard in heard≢silent cc) ]

  lost_never : MayStandFor Comes of_own_part Lost → ⊥
  lost_never l = never_lost l.2.0.answer (rekinds_answers to f l.2.0.answer _ l.2.2.mid l.2.2.done l.2.2.own) (sym (ap (stands_for of_own_part) l.2.1) ∙ l.3)

  own_taken : (x : Answer) → answer ≡ x → (o : Option ℕ) → to ≡ o → MatchOption (of_answer x) ⊤ (IsTaken (MayStandFor Comes of_own_part) choice)
  own_taken (Answer.Bytes bytes) e o is =
      absurd (elim (rekinds_answers to f answer _ frame.mid frame.done frame.own) [ inl h ↦ (let x : Answer.Bytes bytes ≡ Answer.Done = sym e ∙ h in cc) | inr h ↦ (let x : Answer.Bytes bytes ≡ Answer.NoAnswer h.0 = sym e ∙ h.1 in cc) ])
  own_taken Answer.NoEnd e o is =
      absurd (elim (rekinds_answers to f answer _ frame.mid frame.done frame.own) [ inl h ↦ (let x : Answer.NoEnd ≡ Answer.Done = sym e ∙ h in cc) | inr h ↦ (let x : Answer.NoEnd ≡ Answer.NoAnswer h.0 = sym e ∙ h.1 in cc) ])
  own_taken Answer.Done e None is = taken_heard (MayStandFor Comes of_own_part) choice (λ c. lost_never) (λ c. never_none is)
  own_taken Answer.Done e (Some a) is = taken_heard (MayStandFor Comes of_own_part) choice (λ c. lost_never)
      (λ c l. as_done c (silent_all a is l))
    where
      as_done : AnswersAsChosen old (Some a) (lost_by cuts (word + header + 18)) choice Answer.Done
      as_done = subst (λ x. AnswersAsChosen old (Some a) (lost_by cuts (word + header + 18)) choice x) e (subst (λ x. AnswersAsChosen old x (lost_by cuts (word + header + 18)) choice answer) is answered_as)
  own_taken (Answer.NoAnswer b) e None is = absurd (done≢no_answer b (sym (subst (λ x. Rekinds x f answer (lost_by cuts (frame.word + (header_bits served + kinds_bits to answer))) frame.mid frame.done) is frame.own).0 ∙ e))
  own_taken (Answer.NoAnswer b) e (Some a) is =
      taken_silent (MayStandFor Comes of_own_part) choice (Reply.Framed framed, new, (framed, refl, frame), ap of_answer e) (λ ne. ((λ l. none ne (heard_any a is l)), lost_never))
    where
      framed : Framed
      framed = record { served = served; answer = answer }

      none : AnswersAsChosen old (Some a) (lost_by cuts (word + header + 18)) choice (Answer.NoAnswer b)
      none = subst (λ x. AnswersAsChosen old (Some a) (lost_by cuts (word + header + 18)) choice x) e (subst (λ x. AnswersAsChosen old x (lost_by cuts (word + header + 18)) choice answer) is answered_as)

  pub rekind_follows : Follows (RekindsBy old to f policy cuts) choice (Reply.Framed (record { served = served; answer = answer }))
  rekind_follows = follows Comes choice (Reply.Framed (record { served = served; answer = answer }))
      (request_taken (MayStandFor Comes of_request) old policy (lost_by cuts (word + header + kinds_bits to answer)) choice served served_as
      (λ c e. (Reply.Framed (record { served = served; answer = answer }), new, (record { served = served; answer = answer }, refl, frame), e)) tear
      (λ l. never_silent l.2.0.served (sym (ap (stands_for of_request) l.2.1) ∙ l.3)))
      (own_taken answer refl to refl)

-- the choices of a round
heard_round : (old new : State) (cuts : CutList) (answer : RoundReply) → Rounds old cuts answer new → of_round answer ≡ Some Heard → AnyHears old × (¬ AllHearersLost old (lost_by cuts 73))
heard_round old new cuts (RoundReply.Assigned a i) h e =
    let c = h.1.0 in ((c.0, c.1, c.2), λ all. false≢true (sym c.3 ∙ all c.0 c.1 c.2))
heard_round old new cuts RoundReply.Nobody h e = cc
heard_round old new cuts RoundReply.Done h e = cc
heard_round old new cuts RoundReply.NoAddress h e = absurd (none-some Heard e)

lost_round : (old new : State) (cuts : CutList) (answer : RoundReply) → Rounds old cuts answer new → of_round answer ≡ Some Lost → AnyHears old × (AllHearersLost old (lost_by cuts 73) ⊎ IsBeatenByLost old (lost_by cuts 73))
lost_round old new cuts RoundReply.Nobody h e = (h.1, h.2)
lost_round old new cuts (RoundReply.Assigned a i) h e = cc
lost_round old new cuts RoundReply.Done h e = cc
lost_round old new cuts RoundReply.NoAddress h e = absurd (none-some Lost e)

silent_round : (old new : State) (cuts : CutList) (answer : RoundReply) → Rounds old cuts answer new → of_round answer ≡ Some Silent → AllHearersLost old (lost_by cuts 0)
silent_round old new cuts RoundReply.Done h e = h.1
silent_round old new cuts (RoundReply.Assigned a i) h e = cc
silent_round old new cuts RoundReply.Nobody h e = cc
silent_round old new cuts RoundReply.NoAddress h e = absurd (none-some Silent e)

-- a round follows the choice
module _ (old : State) (cuts : CutList) (choice : Choice) where
  abbrev Rounding : Reply → State → Type 0
  Rounding = Acts old (Event.Round cuts)

  stands : (c : Choice) (l : MayStandFor Rounding of_own_part c) → of_round l.2.0 ≡ Some c
  stands c l = sym (ap (stands_for of_own_part) l.2.1) ∙ l.3

  pub done_follows : (new : State) → Rounds old cuts RoundReply.Done new → (¬ (choice ≡ Silent) → ¬ AnyHears old) → Follows (Acts old (Event.Round cuts)) choice (Reply.Round RoundReply.Done)
  done_follows new rounds none = follows Rounding choice (Reply.Round RoundReply.Done) tt (taken_silent (MayStandFor Rounding of_own_part) choice (Reply.Round RoundReply.Done, new, (RoundReply.Done, refl, rounds), refl) (λ ne. (
    (λ l. none ne (heard_round old l.1 cuts l.2.0 l.2.2 (stands Heard l)).0),
    (λ l. none ne (lost_round old l.1 cuts l.2.0 l.2.2 (stands Lost l)).0),
  )))

  pub nobody_follows : (new : State) → Rounds old cuts RoundReply.Nobody new → (choice ≡ Silent → ¬ AllHearersLost old (lost_by cuts 0)) → (¬ (choice ≡ Lost) → AllHearersLost old (lost_by cuts 73))
      → Follows (Acts old (Event.Round cuts)) choice (Reply.Round RoundReply.Nobody)
  nobody_follows new rounds some all = follows Rounding choice (Reply.Round RoundReply.Nobody) tt (taken_lost (MayStandFor Rounding of_own_part) choice (Reply.Round RoundReply.Nobody, new, (RoundReply.Nobody, refl, rounds), refl)
      (λ ne l. (heard_round old l.1 cuts l.2.0 l.2.2 (stands Heard l)).1 (all ne)) (λ e l. some e (silent_round old l.1 cuts l.2.0 l.2.2 (stands Silent l))))

  pub assigned_follows : (a : ℕ) (i : Identity) → (choice ≡ Silent → ¬ AllHearersLost old (lost_by cuts 0)) → (choice ≡ Lost → ¬ (AllHearersLost old (lost_by cuts 73) ⊎ IsBeatenByLost old (lost_by cuts 73)))
      → Follows (Acts old (Event.Round cuts)) choice (Reply.Round (RoundReply.Assigned a i))
  assigned_follows a i some unbeaten = follows Rounding choice (Reply.Round (RoundReply.Assigned a i)) tt (taken_heard (MayStandFor Rounding of_own_part) choice
      (λ e l. unbeaten e (lost_round old l.1 cuts l.2.0 l.2.2 (stands Lost l)).1) (λ e l. some e (silent_round old l.1 cuts l.2.0 l.2.2 (stands Silent l))))
