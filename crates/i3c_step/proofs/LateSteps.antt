-- Steps with cuts that lose the same slots by each bit of the event's frame.
use Rattle.std.proofs.Common.{◌≡◌, ◌⊎◌, ◌∙◌, ◌+◌, ◌≤◌, ◌∷◌, [], ◌++◌, ℕ, Bool, true, false, List, Option, Some, None, MatchOption, option_map, if◌then◌else◌, not, ap, arith, inl, inr, refl, subst, sym}
use Rattle.std.specs.Prelude.{⊤}
use Rattle.i3c_base.specs.declared.answers.Answer.{Answer}
use Rattle.i3c_base.specs.declared.answers.RoundReply.{RoundReply}
use Rattle.i3c_base.specs.declared.datum.Datum.{Datum}
use Rattle.i3c_base.specs.declared.datum.Direction.{Direction}
use Rattle.i3c_base.specs.declared.kinds.Change.{Change}
use Rattle.i3c_base.specs.declared.requests.Fixed.{Fixed}
use Rattle.i3c_base.specs.declared.requests.Request.{Request}
use Rattle.i3c_base.specs.declared.requests.Served.{Served}
use Rattle.i3c_base.specs.declared.requests.Served.TheVariants.{Quiet, Recorded, Refused, Torn, Joining, WantsRole}
use Rattle.i3c_base.specs.State.{Entry, State, entry_at}
use Rattle.i3c_base.specs.Cutting.{CutList, Lost, lost_by}
use Rattle.i3c_base.specs.Serve.{Frame, IsWordBits, Serves, byte_due, emptied, header_bits, refuse_all}
use Rattle.i3c_base.specs.Frames.{Gets, IsRefusedBits, SetsLength, length_bits, transfer_length, Reads, Rekinds, SetsNew, SetsStatic, Writes, changed_kinds, get_bits, kinds_bits, list, list_bits, read_bits, reset, write_bits}
use Rattle.i3c_base.specs.Round.{AllHearersLost, AnyHears, AnyPickable, IsAddressFor, IsBeatenByLost, IsWinner, Rounds, assigned}
use Rattle.i3c_base.proofs.Verdicts.{refuses}
use Rattle.i3c_step.specs.declared.events.Event.{Event}
use Rattle.i3c_step.specs.declared.events.Event.TheVariants.{Attach, DropOff, Raise, AskJoin, AskRole, Serve, Enec, Disec, Reset, SendList, ReadFrom, WriteTo, SetStatic, SetNew, Get, SetLength, OpenDaa, Round, EndDaa, HandOver}
use Rattle.i3c_step.specs.declared.replies.Refusal.{Refusal}
use Rattle.i3c_step.specs.declared.replies.Reply.{Reply}
use Rattle.i3c_step.specs.Step.{Acts, Announces, Checks, Step, Transfers, checks, cuts_in, frame_checks, hand_checks, may_want_memory, new_checks, read_checks, static_checks, target_checks, write_checks}
use Rattle.i3c_step.proofs.Given.{step_like}
use Rattle.i3c_step.proofs.Uniqueness.{accept≢refuse}
use Rattle.i3c_step.specs.LateCuts.{bits_after_byte, bits_after_refusal, most_bits, recut}
use Rattle.i3c_step.proofs.LateCuts.{AreAlike}

-- the bits that a request takes on the way: of its byte, and of the header 7E/W
byte_most : (b : Bool) (bits : ℕ) → bits ≡ (if b then 9 else 0) → bits ≤ 9
byte_most true bits is = omega arith
byte_most false bits is = omega arith

word_most : (st : State) (served : Served) (bits : ℕ) → IsWordBits st served bits → bits ≤ 9
word_most st (Recorded place) bits h = byte_most (byte_due (entry_at st h.0)) bits h.2
word_most st Torn bits h = omega arith
word_most st Quiet bits h = omega arith
word_most st Refused bits h = omega arith
word_most st Joining bits h = omega arith
word_most st (WantsRole a) bits h = omega arith

header_most : (served : Served) → header_bits served ≤ 9
header_most Quiet = omega arith
header_most (Recorded place) = omega arith
header_most Refused = omega arith
header_most Torn = omega arith
header_most Joining = omega arith
header_most (WantsRole a) = omega arith

-- a frame that refuses each request reads no byte
no_word : (st : State) (lost : Lost) (served : Served) (mid : State) (bits : ℕ) → Serves st refuse_all lost served mid → IsWordBits st served bits → bits ≡ 0
no_word st lost (Recorded place) mid bits h sent = absurd (accept≢refuse (sym h.accepted ∙ refuses st (Request.Interrupt h.at)))
no_word st lost Torn mid bits h sent = absurd (accept≢refuse (sym h.accepted ∙ refuses st (Request.Interrupt h.at)))
no_word st lost Quiet mid bits h sent = sent
no_word st lost Refused mid bits h sent = sent
no_word st lost Joining mid bits h sent = sent
no_word st lost (WantsRole a) mid bits h sent = sent

-- a frame that ends by the last bit of the cuts
frame_alike : (old : State) (policy : Fixed) (cuts other : CutList) (served : Served) (rest last : ℕ) (Own : Lost → State → State → Type 0) (new : State)
    → AreAlike old last cuts other → (frame : Frame old policy cuts served rest Own new) → frame.word + rest ≤ last → Frame old policy other served rest Own new
frame_alike old policy cuts other served rest last Own new alike frame within =
    let same : lost_by cuts (frame.word + rest) ≡ lost_by other (frame.word + rest) = alike.lost (frame.word + rest) within in record {
      word = frame.word;
      mid = frame.mid;
      done = frame.done;
      sent = frame.sent;
      serves = subst (λ (l : Lost). Serves old policy l served frame.mid) same frame.serves;
      own = subst (λ (l : Lost). Own l frame.mid frame.done) same frame.own;
      left = subst (λ (l : Lost). new ≡ emptied l frame.done) same frame.left;
    }

-- a frame with a header after its request, and at most `most` bits of its own
asking_alike : (old : State) (policy : Fixed) (cuts other : CutList) (served : Served) (bits most : ℕ) (Own : Lost → State → State → Type 0) (new : State)
    → AreAlike old (bits_after_byte most) cuts other → bits ≤ most → Frame old policy cuts served (header_bits served + bits) Own new
    → Frame old policy other served (header_bits served + bits) Own new
asking_alike old policy cuts other served bits most Own new alike within frame =
    let word : frame.word ≤ 9 = word_most old served frame.word frame.sent in
    let header : header_bits served ≤ 9 = header_most served in
    frame_alike old policy cuts other served (header_bits served + bits) (bits_after_byte most) Own new alike frame (omega arith)

-- the same of one that refuses each request
refusing_alike : (old : State) (cuts other : CutList) (served : Served) (bits most : ℕ) (Own : Lost → State → State → Type 0) (new : State)
    → AreAlike old (bits_after_refusal most) cuts other → bits ≤ most → Frame old refuse_all cuts served (header_bits served + bits) Own new
    → Frame old refuse_all other served (header_bits served + bits) Own new
refusing_alike old cuts other served bits most Own new alike within frame =
    let word : frame.word ≡ 0 = no_word old (lost_by cuts (frame.word + (header_bits served + bits))) served frame.mid frame.word frame.serves frame.sent in
    let header : header_bits served ≤ 9 = header_most served in
    frame_alike old refuse_all cuts other served (header_bits served + bits) (bits_after_refusal most) Own new alike frame (omega arith)

-- the most bits of a frame's own part
kinds_most : (to : Option ℕ) (answer : Answer) → kinds_bits to answer ≤ kinds_bits to Answer.Done
kinds_most None answer = omega arith
kinds_most (Some a) (Answer.NoAnswer b) = omega arith
kinds_most (Some a) Answer.Done = omega arith
kinds_most (Some a) Answer.NoEnd = omega arith
kinds_most (Some a) (Answer.Bytes bytes) = omega arith

read_most : (count : ℕ) (answer : Answer) → read_bits count answer ≤ read_bits count Answer.NoEnd
read_most count (Answer.NoAnswer b) = omega arith
read_most count Answer.Done = omega arith
read_most count Answer.NoEnd = omega arith
read_most count (Answer.Bytes bytes) = omega arith

length_most : (to : Option ℕ) (answer : Answer) → length_bits to answer ≤ length_bits to Answer.Done
length_most None answer = omega arith
length_most (Some a) (Answer.NoAnswer b) = omega arith
length_most (Some a) Answer.Done = omega arith
length_most (Some a) Answer.NoEnd = omega arith
length_most (Some a) (Answer.Bytes bytes) = omega arith

write_most : (bytes : List ℕ) (answer : Answer) → write_bits bytes answer ≤ write_bits bytes Answer.Done
write_most bytes (Answer.NoAnswer b) = omega arith
write_most bytes Answer.Done = omega arith
write_most bytes Answer.NoEnd = omega arith
write_most bytes (Answer.Bytes read) = omega arith

get_most : (what : Datum) (entry : Option Entry) (answer : Answer) → get_bits what entry answer ≤ get_bits what entry Answer.NoEnd
get_most what entry (Answer.NoAnswer b) = omega arith
get_most what entry Answer.Done = omega arith
get_most what entry Answer.NoEnd = omega arith
get_most what entry (Answer.Bytes bytes) = omega arith

declined_most : (st : State) (a bits : ℕ) → IsRefusedBits st a bits → bits ≤ 27
declined_most st a bits h = elim h [ inl is ↦ omega arith | inr (is, _) ↦ omega arith ]

-- each form of a frame
announces_alike : (old : State) (bits : ℕ) (f : State → State) (policy : Fixed) (cuts other : CutList) (reply : Reply) (new : State)
    → AreAlike old (bits_after_byte bits) cuts other → Announces old bits f policy cuts reply new → Announces old bits f policy other reply new
announces_alike old bits f policy cuts other reply new alike h = (h.0, h.1, asking_alike old policy cuts other h.0 bits bits _ new alike (omega arith) h.2)

transfers_alike : (old : State) (bits : Answer → ℕ) (most : ℕ) (Own : Answer → Lost → State → State → Type 0) (policy : Fixed) (cuts other : CutList) (reply : Reply) (new : State)
    → AreAlike old (bits_after_byte most) cuts other → ((answer : Answer) → bits answer ≤ most)
    → Transfers old bits Own policy cuts reply new → Transfers old bits Own policy other reply new
transfers_alike old bits most Own policy cuts other reply new alike within h =
    (h.0, h.1, asking_alike old policy cuts other h.0.served (bits h.0.answer) most (Own h.0.answer) new alike (within h.0.answer) h.2)

rounds_alike : (old : State) (cuts other : CutList) (answer : RoundReply) (new : State) → AreAlike old 73 cuts other → Rounds old cuts answer new → Rounds old other answer new
rounds_alike old cuts other RoundReply.NoAddress new alike h = h
rounds_alike old cuts other RoundReply.Done new alike h =
    subst (λ (l : Lost). AnyPickable old × AllHearersLost old l × (new ≡ emptied l old)) (alike.lost 0 (omega arith)) h
rounds_alike old cuts other RoundReply.Nobody new alike h =
    subst (λ (l : Lost). AnyPickable old × AnyHears old × (AllHearersLost old l ⊎ IsBeatenByLost old l) × (new ≡ emptied l old)) (alike.lost 73 (omega arith)) h
rounds_alike old cuts other (RoundReply.Assigned a i) new alike h =
    subst (λ (l : Lost). AnyPickable old × IsWinner old l i × IsAddressFor old i a × (new ≡ emptied l (assigned l i a old))) (alike.lost 73 (omega arith)) h

-- cuts of an event that are alike when changed by f and by g
abbrev pub AlikeIn : State → Event → (CutList → CutList) → (CutList → CutList) → Type 0
AlikeIn old event f g = MatchOption (cuts_in event) ⊤ (λ cuts. AreAlike old (most_bits old event) (f cuts) (g cuts))

-- what an event that isn't refused does
acts_alike : (old : State) (event : Event) (f g : CutList → CutList) (reply : Reply) (new : State) → AlikeIn old event f g → Acts old (recut f event) reply new → Acts old (recut g event) reply new
acts_alike old (Serve policy cuts) f g reply new alike h =
    let word : h.2.word ≤ 9 = word_most old h.0 h.2.word h.2.sent in
    (h.0, h.1, frame_alike old policy (f cuts) (g cuts) h.0 0 9 _ new alike h.2 (omega arith))
acts_alike old (Enec to kinds policy cuts) f g reply new alike h =
    transfers_alike old (kinds_bits to) (kinds_bits to Answer.Done) (Rekinds to (changed_kinds Change.Enable kinds)) policy (f cuts) (g cuts) reply new alike (kinds_most to) h
acts_alike old (Disec to kinds policy cuts) f g reply new alike h =
    transfers_alike old (kinds_bits to) (kinds_bits to Answer.Done) (Rekinds to (changed_kinds Change.Disable kinds)) policy (f cuts) (g cuts) reply new alike (kinds_most to) h
acts_alike old (Reset policy cuts) f g reply new alike h = announces_alike old 9 reset policy (f cuts) (g cuts) reply new alike h
acts_alike old (SendList policy cuts) f g reply new alike h = announces_alike old (list_bits old) list policy (f cuts) (g cuts) reply new alike h
acts_alike old (ReadFrom a policy cuts) f g reply new alike h =
    let count = transfer_length old Direction.Read a in
    transfers_alike old (read_bits count) (read_bits count Answer.NoEnd) (Reads a) policy (f cuts) (g cuts) reply new alike (read_most count) h
acts_alike old (WriteTo a bytes policy cuts) f g reply new alike h =
    transfers_alike old (write_bits bytes.items) (write_bits bytes.items Answer.Done) (Writes a bytes.items) policy (f cuts) (g cuts) reply new alike (write_most bytes.items) h
acts_alike old (SetStatic a to policy cuts) f g reply new alike h =
    transfers_alike old (kinds_bits (Some a)) (kinds_bits (Some a) Answer.Done) (SetsStatic a to) policy (f cuts) (g cuts) reply new alike (kinds_most (Some a)) h
acts_alike old (SetNew a to policy cuts) f g reply new alike h =
    transfers_alike old (kinds_bits (Some a)) (kinds_bits (Some a) Answer.Done) (SetsNew a to) policy (f cuts) (g cuts) reply new alike (kinds_most (Some a)) h
acts_alike old (Get what a policy cuts) f g reply new alike h =
    transfers_alike old (get_bits what (entry_at old a)) (get_bits what (entry_at old a) Answer.NoEnd) (Gets what a) policy (f cuts) (g cuts) reply new alike (get_most what (entry_at old a)) h
acts_alike old (SetLength way most to policy cuts) f g reply new alike h =
    transfers_alike old (length_bits to) (length_bits to Answer.Done) (SetsLength to way most) policy (f cuts) (g cuts) reply new alike (length_most to) h
acts_alike old (OpenDaa cuts) f g reply new alike h = (h.0, h.1, refusing_alike old (f cuts) (g cuts) h.0 9 9 _ new alike (omega arith) h.2)
acts_alike old (HandOver to cuts) f g reply new alike h = elim h [
  | inl x ↦ inl (x.0, x.1, refusing_alike old (f cuts) (g cuts) x.0 27 27 _ new alike (omega arith) x.2)
  | inr x ↦ inr (x.0, x.1, x.2, x.3, refusing_alike old (f cuts) (g cuts) x.0 x.1 27 _ new alike (declined_most old to x.1 x.3) x.4)
]
acts_alike old (Round cuts) f g reply new alike h = (h.0, h.1, rounds_alike old (f cuts) (g cuts) h.0 new alike h.2)
acts_alike old (Attach s setup) f g reply new alike h = h
acts_alike old (DropOff s) f g reply new alike h = h
acts_alike old (Raise s byte) f g reply new alike h = h
acts_alike old (AskJoin s) f g reply new alike h = h
acts_alike old (AskRole s) f g reply new alike h = h
acts_alike old EndDaa f g reply new alike h = h

-- the tests of an event ask of its cuts whether they name the active controller
frame_checks_alike : (old : State) (last : ℕ) (cuts other : CutList) → AreAlike old last cuts other → frame_checks old other ≡ frame_checks old cuts
frame_checks_alike old last cuts other alike = ap (λ (b : Bool). (old.in_session, Refusal.SessionOpen) ∷ (b, Refusal.ActiveStays) ∷ []) (sym alike.active)

more_checks_alike : (old : State) (last : ℕ) (cuts other : CutList) (more : Checks) → AreAlike old last cuts other → frame_checks old other ++ more ≡ frame_checks old cuts ++ more
more_checks_alike old last cuts other more alike = ap (λ (cs : Checks). cs ++ more) (frame_checks_alike old last cuts other alike)

checks_alike : (old : State) (event : Event) (f g : CutList → CutList) → AlikeIn old event f g → checks old (recut g event) ≡ checks old (recut f event)
checks_alike old (Serve policy cuts) f g alike = frame_checks_alike old _ (f cuts) (g cuts) alike
checks_alike old (Enec to kinds policy cuts) f g alike = more_checks_alike old _ (f cuts) (g cuts) (target_checks old to) alike
checks_alike old (Disec to kinds policy cuts) f g alike = more_checks_alike old _ (f cuts) (g cuts) (target_checks old to) alike
checks_alike old (Reset policy cuts) f g alike = frame_checks_alike old _ (f cuts) (g cuts) alike
checks_alike old (SendList policy cuts) f g alike = frame_checks_alike old _ (f cuts) (g cuts) alike
checks_alike old (ReadFrom a policy cuts) f g alike = more_checks_alike old _ (f cuts) (g cuts) (read_checks old a) alike
checks_alike old (WriteTo a bytes policy cuts) f g alike = more_checks_alike old _ (f cuts) (g cuts) (write_checks old a bytes.items) alike
checks_alike old (SetStatic a to policy cuts) f g alike = more_checks_alike old _ (f cuts) (g cuts) (static_checks old a to) alike
checks_alike old (SetNew a to policy cuts) f g alike = more_checks_alike old _ (f cuts) (g cuts) (new_checks old a to) alike
checks_alike old (Get what a policy cuts) f g alike = more_checks_alike old _ (f cuts) (g cuts) (target_checks old (Some a)) alike
checks_alike old (SetLength way most to policy cuts) f g alike = more_checks_alike old _ (f cuts) (g cuts) (target_checks old to) alike
checks_alike old (OpenDaa cuts) f g alike = frame_checks_alike old _ (f cuts) (g cuts) alike
checks_alike old (HandOver to cuts) f g alike = more_checks_alike old _ (f cuts) (g cuts) (hand_checks old to) alike
checks_alike old (Round cuts) f g alike = ap (λ (b : Bool). (not old.in_session, Refusal.NoSession) ∷ (b, Refusal.ActiveStays) ∷ []) (sym alike.active)
checks_alike old (Attach s setup) f g alike = refl
checks_alike old (DropOff s) f g alike = refl
checks_alike old (Raise s byte) f g alike = refl
checks_alike old (AskJoin s) f g alike = refl
checks_alike old (AskRole s) f g alike = refl
checks_alike old EndDaa f g alike = refl

-- cuts don't matter to memory
wants_alike : (event : Event) (f g : CutList → CutList) → may_want_memory (recut f event) ≡ true → may_want_memory (recut g event) ≡ true
wants_alike (Serve policy cuts) f g wants = wants
wants_alike (Enec to kinds policy cuts) f g wants = wants
wants_alike (Disec to kinds policy cuts) f g wants = wants
wants_alike (Reset policy cuts) f g wants = wants
wants_alike (SendList policy cuts) f g wants = wants
wants_alike (ReadFrom a policy cuts) f g wants = wants
wants_alike (WriteTo a bytes policy cuts) f g wants = wants
wants_alike (SetStatic a to policy cuts) f g wants = wants
wants_alike (SetNew a to policy cuts) f g wants = wants
wants_alike (Get what a policy cuts) f g wants = wants
wants_alike (SetLength way most to policy cuts) f g wants = wants
wants_alike (OpenDaa cuts) f g wants = wants
wants_alike (HandOver to cuts) f g wants = wants
wants_alike (Round cuts) f g wants = wants
wants_alike (Attach s setup) f g wants = wants
wants_alike (DropOff s) f g wants = wants
wants_alike (Raise s byte) f g wants = wants
wants_alike (AskJoin s) f g wants = wants
wants_alike (AskRole s) f g wants = wants
wants_alike EndDaa f g wants = wants

-- a step is one with other cuts that are alike
pub step_alike : (old : State) (event : Event) (f g : CutList → CutList) (reply : Reply) (new : State) → AlikeIn old event f g → Step old (recut f event) reply new → Step old (recut g event) reply new
step_alike old event f g reply new alike h =
    step_like old (recut f event) (recut g event) reply new (checks_alike old event f g alike) (λ short. (wants_alike event f g short.0, short.1, short.2)) (acts_alike old event f g reply new alike) h

-- an event whose cuts stay
pub recut_same : (event : Event) → recut (λ cuts. cuts) event ≡ event
recut_same (Serve policy cuts) = refl
recut_same (Enec to kinds policy cuts) = refl
recut_same (Disec to kinds policy cuts) = refl
recut_same (Reset policy cuts) = refl
recut_same (SendList policy cuts) = refl
recut_same (ReadFrom a policy cuts) = refl
recut_same (WriteTo a bytes policy cuts) = refl
recut_same (SetStatic a to policy cuts) = refl
recut_same (SetNew a to policy cuts) = refl
recut_same (Get what a policy cuts) = refl
recut_same (SetLength way most to policy cuts) = refl
recut_same (OpenDaa cuts) = refl
recut_same (HandOver to cuts) = refl
recut_same (Round cuts) = refl
recut_same (Attach s setup) = refl
recut_same (DropOff s) = refl
recut_same (Raise s byte) = refl
recut_same (AskJoin s) = refl
recut_same (AskRole s) = refl
recut_same EndDaa = refl

-- what holds of all cuts holds of an event's
pub each_alike : (old : State) (event : Event) (f g : CutList → CutList) → ((cuts : CutList) → AreAlike old (most_bits old event) (f cuts) (g cuts)) → AlikeIn old event f g
each_alike old event f g all = go (cuts_in event)
  where
    go : (o : Option CutList) → MatchOption o ⊤ (λ cuts. AreAlike old (most_bits old event) (f cuts) (g cuts))
    go None = tt
    go (Some cuts) = all cuts

-- for a function that changes the cuts of an event: it covers all events with cuts, and keeps their last bit
pub cuts_in-recut : (f : CutList → CutList) (event : Event) → cuts_in (recut f event) ≡ option_map f (cuts_in event)
cuts_in-recut f (Serve policy cuts) = refl
cuts_in-recut f (Enec to kinds policy cuts) = refl
cuts_in-recut f (Disec to kinds policy cuts) = refl
cuts_in-recut f (Reset policy cuts) = refl
cuts_in-recut f (SendList policy cuts) = refl
cuts_in-recut f (ReadFrom a policy cuts) = refl
cuts_in-recut f (WriteTo a bytes policy cuts) = refl
cuts_in-recut f (SetStatic a to policy cuts) = refl
cuts_in-recut f (SetNew a to policy cuts) = refl
cuts_in-recut f (Get what a policy cuts) = refl
cuts_in-recut f (SetLength way most to policy cuts) = refl
cuts_in-recut f (OpenDaa cuts) = refl
cuts_in-recut f (HandOver to cuts) = refl
cuts_in-recut f (Round cuts) = refl
cuts_in-recut f (Attach s setup) = refl
cuts_in-recut f (DropOff s) = refl
cuts_in-recut f (Raise s byte) = refl
cuts_in-recut f (AskJoin s) = refl
cuts_in-recut f (AskRole s) = refl
cuts_in-recut f EndDaa = refl

pub most_bits-recut : (st : State) (f : CutList → CutList) (event : Event) → most_bits st (recut f event) ≡ most_bits st event
most_bits-recut st f (Serve policy cuts) = refl
most_bits-recut st f (Enec to kinds policy cuts) = refl
most_bits-recut st f (Disec to kinds policy cuts) = refl
most_bits-recut st f (Reset policy cuts) = refl
most_bits-recut st f (SendList policy cuts) = refl
most_bits-recut st f (ReadFrom a policy cuts) = refl
most_bits-recut st f (WriteTo a bytes policy cuts) = refl
most_bits-recut st f (SetStatic a to policy cuts) = refl
most_bits-recut st f (SetNew a to policy cuts) = refl
most_bits-recut st f (Get what a policy cuts) = refl
most_bits-recut st f (SetLength way most to policy cuts) = refl
most_bits-recut st f (OpenDaa cuts) = refl
most_bits-recut st f (HandOver to cuts) = refl
most_bits-recut st f (Round cuts) = refl
most_bits-recut st f (Attach s setup) = refl
most_bits-recut st f (DropOff s) = refl
most_bits-recut st f (Raise s byte) = refl
most_bits-recut st f (AskJoin s) = refl
most_bits-recut st f (AskRole s) = refl
most_bits-recut st f EndDaa = refl
