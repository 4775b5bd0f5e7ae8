-- What private transfers may answer, and what they leave.
use Rattle.std.proofs.Common.{◌≡◌, ◌≢◌, ℕ, zero, suc, replicate, ◌+◌, ◌*◌, ◌≤◌, ◌<◌, Bool, true, false, List, length, take, slice_index, get_or, Some, None, MatchOption, option_map, if◌then◌else◌, ◌⊎◌, inl, inr, sym, refl, ap, ◌∙◌, subst, arith}
use Rattle.std.specs.Prelude.{⊤}
use Rattle.std.specs.Int.Bits.{bit_and}
use Rattle.std.proofs.lemmas.Bool.{cases_lt, false≢true}
use Rattle.std.proofs.lemmas.List.{get_or-take, get_or_default, get_or_past}
use Rattle.std.proofs.lemmas.Option.{none-some, same_Some}
use Rattle.i3c_base.specs.declared.answers.Answer.{Answer}
use Rattle.i3c_base.specs.declared.datum.Direction.{Direction}
use Rattle.i3c_base.specs.declared.device.LegacyTarget.{LegacyTarget}
use Rattle.i3c_base.specs.declared.requests.Fixed.{Fixed}
use Rattle.i3c_base.specs.declared.requests.Request.{Request}
use Rattle.i3c_base.specs.declared.requests.Request.TheVariants.{Join, Role, Interrupt}
use Rattle.i3c_base.specs.declared.requests.Served.{Served}
use Rattle.i3c_base.specs.declared.requests.Served.TheVariants.{Quiet, Recorded, Refused, Torn, Joining, WantsRole}
use Rattle.i3c_base.specs.Cutting.{CutList, Lost, cut_of, lost_by}
use Rattle.i3c_base.specs.Frames.{AllLostAt, AllUnaddressedLostAt, AnyAt, AnyUnaddressedAt, DrivesRegister, IsReadOf, IsUnaddressedAt, NobodyLeftAt, Reads, SomeLeftAt, Writes, length_of, read_bits, transfer_length, write_bits, written}
use Rattle.i3c_base.specs.Serve.{Frame, IsAnd, IsWordBits, Serves, drives, each_driver, header_bits, without}
use Rattle.i3c_base.specs.State.{Device, IsTargetAt, State, device_at, legacy_target_at}
use Rattle.i3c_base.proofs.Lookups.{each_at, each_from}
use Rattle.i3c_model.specs.Meaning.{DrivesLeft, IsGivenBy, MayRead, MayWrite, NoneGives, read_end}
use Rattle.i3c_step.specs.declared.replies.Framed.{Framed}
use Rattle.i3c_step.specs.declared.replies.Reply.{Reply}
use Rattle.i3c_step.specs.Step.{Transfers}
use Rattle.i3c_model.specs.declared.plain.Choice.{Choice}
use Rattle.i3c_model.specs.declared.plain.Choice.TheVariants.{Heard, Silent}
use Rattle.i3c_model.specs.Choosing.{Follows, IsTaken, MayStandFor, ReadsAsChosen, ServesAsChosen, WritesAsChosen, of_answer, of_own_part, of_request, stands_for}
use Rattle.i3c_model.proofs.Lengths.{transfer_kept}
use Rattle.i3c_model.proofs.Taking.{follows, later_by, lost≢silent, never_silent, request_taken, taken_heard, taken_lost, taken_silent, torn_from, torn_in, word_unique}
use Rattle.i3c_model.proofs.Together.{Below, and_alike, and_past, and_start, and_whole, and_with}

-- each target there is there in the other state, with the same registers
abbrev pub Finds : State → State → Type 0
Finds st new = (a s : ℕ) (d : Device) → IsTargetAt st a s d → (e : Device) × IsTargetAt new a s e × (e.registers ≡ d.registers)

-- each device that takes SETDASA there takes it in the other state
abbrev pub FindsBare : State → State → Type 0
FindsBare st new = (f s : ℕ) (d : Device) → IsUnaddressedAt st f s d → (e : Device) × IsUnaddressedAt new f s e

-- how many bytes a read of the address gives
abbrev pub read_count : State → ℕ → ℕ
read_count st a = transfer_length st Direction.Read a

-- all targets stay, with their registers and how many bytes are read of them, and all devices without addresses
pub record Stay (old new : State) : Type 0 where
  pub legacy : (a : ℕ) → legacy_target_at new a ≡ legacy_target_at old a
  pub reads : (a : ℕ) → read_count new a ≡ read_count old a
  pub to : Finds old new
  pub from : Finds new old
  pub bare_to : FindsBare old new
  pub bare_from : FindsBare new old

pub Stay-back : (old new : State) → Stay old new → Stay new old
Stay-back old new h = record { legacy = λ a. sym (h.legacy a); reads = λ a. sym (h.reads a); to = h.from; from = h.to; bare_to = h.bare_from; bare_from = h.bare_to }

Stay-same : (old new : State) → new ≡ old → Stay old new
Stay-same old new e =
    subst (Stay old) (sym e) (record { legacy = λ a. refl; reads = λ a. refl; to = λ a s d t. (d, t, refl); from = λ a s d t. (d, t, refl); bare_to = λ f s d t. (d, t); bare_from = λ f s d t. (d, t) })

address_without : (b : Bool) (r : Request) (d : Device) → (if b then without r d else d).address ≡ d.address
address_without true Join d = refl
address_without true (Role a) d = refl
address_without true (Interrupt a) d = refl
address_without false r d = refl

fixed_without : (b : Bool) (r : Request) (d : Device) → (if b then without r d else d).fixed ≡ d.fixed
fixed_without true Join d = refl
fixed_without true (Role a) d = refl
fixed_without true (Interrupt a) d = refl
fixed_without false r d = refl

registers_without : (b : Bool) (r : Request) (d : Device) → (if b then without r d else d).registers ≡ d.registers
registers_without true Join d = refl
registers_without true (Role a) d = refl
registers_without true (Interrupt a) d = refl
registers_without false r d = refl

length_without : (b : Bool) (r : Request) (d : Device) → length_of Direction.Read (if b then without r d else d) ≡ length_of Direction.Read d
length_without true Join d = refl
length_without true (Role a) d = refl
length_without true (Interrupt a) d = refl
length_without false r d = refl

-- the targets after each driver lost a wish or its front
Stay-driver : (r : Request) (st new : State) → new.devices ≡ (each_driver r (without r) st).devices → new.legacy ≡ st.legacy → new.active ≡ st.active → Stay st new
Stay-driver r st new devices legacy active = record {
  legacy = λ a. ap (λ places. get_or places a None) legacy;
  reads = λ a. transfer_kept Direction.Read a lose st new (λ s d. address_without (drives st r s) r d) (λ s d. length_without (drives st r s) r d) devices legacy active;
  to = λ a s d t. (
    lose s d,
    (at s ∙ (each_at lose st s ∙ ap (option_map (lose s)) t.0), address_without (drives st r s) r d ∙ t.1, λ e. t.2 (e ∙ active)),
    registers_without (drives st r s) r d,
  );
  from = λ a s d t.
      let x = each_from lose st s d (sym (at s) ∙ t.0) in (
        x.0,
        (x.1, sym (address_without (drives st r s) r x.0) ∙ (ap (λ (y : Device). y.address) x.2 ∙ t.1), λ e. t.2 (e ∙ sym active)),
        sym (registers_without (drives st r s) r x.0) ∙ ap (λ (y : Device). y.registers) x.2,
      );
  bare_to = λ f s d t. (
    lose s d,
    (
      at s ∙ (each_at lose st s ∙ ap (option_map (lose s)) t.0),
      address_without (drives st r s) r d ∙ t.1,
      fixed_without (drives st r s) r d ∙ t.2,
      λ e. t.3 (e ∙ active),
    ),
  );
  bare_from = λ f s d t.
      let x = each_from lose st s d (sym (at s) ∙ t.0) in (
        x.0,
        (
          x.1,
          sym (address_without (drives st r s) r x.0) ∙ (ap (λ (y : Device). y.address) x.2 ∙ t.1),
          sym (fixed_without (drives st r s) r x.0) ∙ (ap (λ (y : Device). y.fixed) x.2 ∙ t.2),
          λ e. t.3 (e ∙ sym active),
        ),
      );
}
  where
    lose : ℕ → Device → Device
    lose k x = if drives st r k then without r x else x

    at : (s : ℕ) → device_at new s ≡ device_at (each_driver r (without r) st) s
    at s = ap (λ places. get_or places s None) devices

-- serving leaves them
pub Stay-serves : (st : State) (policy : Fixed) (lost : Lost) (served : Served) (new : State) → Serves st policy lost served new → Stay st new
Stay-serves st policy lost Quiet new h = Stay-same st new h.1
Stay-serves st policy lost Refused new h = Stay-same st new h.1
Stay-serves st policy lost Joining new h = Stay-driver Join st new (ap (λ (x : State). x.devices) h.2) (ap (λ (x : State). x.legacy) h.2) (ap (λ (x : State). x.active) h.2)
Stay-serves st policy lost (WantsRole a) new h = Stay-driver (Role a) st new (ap (λ (x : State). x.devices) h.2) (ap (λ (x : State). x.legacy) h.2) (ap (λ (x : State). x.active) h.2)
Stay-serves st policy lost (Recorded place) new h = Stay-driver (Interrupt h.at) st new (ap (λ (x : State). x.devices) h.left) (ap (λ (x : State). x.legacy) h.left) (ap (λ (x : State). x.active) h.left)
Stay-serves st policy lost Torn new h = Stay-driver (Interrupt h.at) st new (ap (λ (x : State). x.devices) h.left) (ap (λ (x : State). x.legacy) h.left) (ap (λ (x : State). x.active) h.left)

-- what is said of targets in one state is so in the other
pub any_in : (st new : State) (a : ℕ) → Stay st new → AnyAt st a → AnyAt new a
any_in st new a h any = let t = h.to a any.0 any.1 any.2 in (any.0, t.0, t.1)

pub all_in : (st new : State) (a : ℕ) (lost : Lost) → Stay st new → AllLostAt st a lost → AllLostAt new a lost
all_in st new a lost h all s d t = let x = h.from a s d t in all s x.0 x.1

pub any_bare_in : (st new : State) (f : ℕ) → Stay st new → AnyUnaddressedAt st f → AnyUnaddressedAt new f
any_bare_in st new f h any = let t = h.bare_to f any.0 any.1 any.2 in (any.0, t.0, t.1)

pub all_bare_in : (st new : State) (f : ℕ) (lost : Lost) → Stay st new → AllUnaddressedLostAt st f lost → AllUnaddressedLostAt new f lost
all_bare_in st new f lost h all s d t = let x = h.bare_from f s d t in all s x.0 x.1

pub nobody_in : (st new : State) (a : ℕ) (lost : Lost) → Stay st new → NobodyLeftAt st a lost → NobodyLeftAt new a lost
nobody_in st new a lost h n = (h.legacy a ∙ n.0, all_in st new a lost h n.1)

drives_in : (st new : State) (a k : ℕ) → Stay st new → (s v : ℕ) → DrivesRegister st a k s v → DrivesRegister new a k s v
drives_in st new a k h s v d = let t = h.to a s d.0 d.1 in (t.0, t.1, d.2 ∙ ap (λ rs. slice_index rs k) (sym t.2))

pub read_in : (st new : State) (a : ℕ) (lost : Lost) (bytes : List ℕ) → Stay st new → IsReadOf st a lost bytes → IsReadOf new a lost bytes
read_in st new a lost bytes h r = elim r [
  | inl x ↦ inl (x.0, h.legacy a ∙ x.1, x.2)
  | inr x ↦ inr (
    h.legacy a ∙ x.0,
    (let t = h.to a x.1.0 x.1.1 x.1.2 in (x.1.0, t.0, t.1, x.1.3)),
    x.2 ∙ sym (h.reads a),
    x.3,
    λ left k l. and_alike (DrivesRegister st a k) (DrivesRegister new a k) (slice_index bytes k) (drives_in st new a k h) (drives_in new st a k (Stay-back st new h))
        (x.4 (λ s d t. let y = h.to a s d t in left s y.0 y.1) k l),
  )
]

-- more bits lose more
pub all_later : (st : State) (a : ℕ) (cuts : CutList) (m n : ℕ) → m ≤ n → AllLostAt st a (lost_by cuts m) → AllLostAt st a (lost_by cuts n)
all_later st a cuts m n l all s d t = later_by m n (cut_of cuts s) l (all s d t)

-- where something is read, somebody answers
pub read_heard : (st : State) (a : ℕ) (lost : Lost) (bytes : List ℕ) → IsReadOf st a lost bytes → NobodyLeftAt st a lost → ⊥
read_heard st a lost bytes r n = elim r [
  | inl x ↦ none-some x.0 (sym n.0 ∙ x.1)
  | inr x ↦ false≢true (sym x.1.3 ∙ n.1 x.1.0 x.1.1 x.1.2)
]

-- and somebody is there, unless a legacy target is
pub read_any : (st : State) (a : ℕ) (lost : Lost) (bytes : List ℕ) → IsReadOf st a lost bytes → legacy_target_at st a ≡ None → AnyAt st a
read_any st a lost bytes r none = elim r [
  | inl x ↦ absurd (none-some x.0 (sym none ∙ x.1))
  | inr x ↦ (x.1.0, x.1.1, x.1.2)
]

-- the registers of the devices in the slots below n that are left, together
abbrev pub AreTogether : State → ℕ → Lost → ℕ → List ℕ → Type 0
AreTogether st a lost n both = (length both ≡ 16) × ((k : ℕ) → k < 16 → IsAnd (slice_index both k) (Below (DrivesLeft st a lost k) n))

-- bytes that are all ones
pub all_ones : (n k : ℕ) → k < n → slice_index (replicate n 255) k ≡ 255
all_ones zero k l = absurd (omega arith)
all_ones (suc n) zero l = refl
all_ones (suc n) (suc k) l = all_ones n k (omega arith)

ones : (k : ℕ) (xs : List ℕ) → slice_index xs k ≡ 255 → (D : ℕ → ℕ → Type 0) → IsAnd (slice_index xs k) (Below D 0)
ones k xs e D = subst (λ v. IsAnd v (Below D 0)) (sym e) (and_start D)

pub together_start : (st : State) (a : ℕ) (lost : Lost) (both : List ℕ) → length both ≡ 16 → ((k : ℕ) → k < 16 → slice_index both k ≡ 255) → AreTogether st a lost 0 both
together_start st a lost both long ones_there = (long, λ k l. ones k both (ones_there k l) (DrivesLeft st a lost k))

-- one device drives one register so
one_register : (st : State) (a : ℕ) (lost : Lost) (k s u v : ℕ) → DrivesLeft st a lost k s u → DrivesLeft st a lost k s v → u ≡ v
one_register st a lost k s u v d e =
    let same : d.0.0 ≡ e.0.0 = same_Some d.0.0 e.0.0 (sym d.0.1.0 ∙ e.0.1.0) in
    d.0.2 ∙ (ap (λ (x : Device). slice_index x.registers k) same ∙ sym e.0.2)

pub together_past : (st : State) (a : ℕ) (lost : Lost) (n : ℕ) (both : List ℕ) → AreTogether st a lost n both → NoneGives st a lost n → AreTogether st a lost (n + 1) both
together_past st a lost n both h none = (h.0, λ k l. and_past (DrivesLeft st a lost k) n (slice_index both k) (h.1 k l) (λ v d. none d.0.0 d.0.1 d.1))

pub together_with : (st : State) (a : ℕ) (lost : Lost) (n : ℕ) (both registers new : List ℕ) → AreTogether st a lost n both → IsGivenBy st a lost n registers → length new ≡ 16
    → ((k : ℕ) → k < 16 → slice_index new k ≡ bit_and (slice_index both k) (slice_index registers k)) → AreTogether st a lost (n + 1) new
together_with st a lost n both registers new h given long each = (
  long,
  λ k l.
      let driven : DrivesLeft st a lost k n (slice_index registers k) = ((given.device, given.there, ap (λ rs. slice_index rs k) given.value), given.left) in
      subst (λ v. IsAnd v (Below (DrivesLeft st a lost k) (n + 1))) (sym (each k l))
      (and_with (DrivesLeft st a lost k) n (slice_index both k) (slice_index registers k) (h.1 k l) driven (λ v d. one_register st a lost k n (slice_index registers k) v driven d)),
)

pub device_low : (st : State) (s : ℕ) (d : Device) → device_at st s ≡ Some d → s < length st.devices
device_low st s d h = elim (cases_lt s (length st.devices)) [ inl l ↦ l | inr past ↦ absurd (none-some d (sym (get_or_past st.devices s None past) ∙ h)) ]

pub together_all : (st : State) (a : ℕ) (lost : Lost) (n : ℕ) (both : List ℕ) → length st.devices ≤ n → AreTogether st a lost n both → (k : ℕ) → k < 16 → IsAnd (slice_index both k) (DrivesLeft st a lost k)
together_all st a lost n both past h k l =
    and_whole (DrivesLeft st a lost k) n (slice_index both k) (λ s v d. let low = device_low st s d.0.0 d.0.1.0 in omega (arith, low, past)) (h.1 k l)

pub read_left : (st : State) (a : ℕ) (lost : Lost) (bytes : List ℕ) → legacy_target_at st a ≡ None → SomeLeftAt st a lost → length bytes ≡ read_count st a
    → ((k : ℕ) → k < length bytes → IsAnd (slice_index bytes k) (DrivesLeft st a lost k)) → IsReadOf st a lost bytes
read_left st a lost bytes none some long together = inr (
  none,
  some,
  long,
  λ k d l. subst (λ byte. byte < 256) (get_or_default bytes k 0 d l) (together k l).0,
  λ left k l. and_alike (DrivesLeft st a lost k) (DrivesRegister st a k) (slice_index bytes k) (λ s v d. d.0) (λ s v d. (d, left s d.0 d.1)) (together k l),
)

-- the first ones of registers that are together
pub first_together : (st : State) (a : ℕ) (lost : Lost) (n : ℕ) (registers : List ℕ) → ((k : ℕ) → k < 16 → IsAnd (slice_index registers k) (DrivesLeft st a lost k)) → n ≤ 16
    → (k : ℕ) → k < n → IsAnd (slice_index (take n registers) k) (DrivesLeft st a lost k)
first_together st a lost n registers together few k l = subst (λ v. IsAnd v (DrivesLeft st a lost k)) (sym (get_or-take n registers k 0 l)) (together k (omega (arith, l, few)))

-- what may be read, or written, is what the frame's own part does, after serving
pub reads_of : (st mid done : State) (a : ℕ) (cuts : CutList) (begin : ℕ) (answer : Answer) → Stay st mid → MayRead st a cuts begin answer → done ≡ mid → Reads a answer (lost_by cuts (begin + read_bits (read_count st a) answer)) mid done
reads_of st mid done a cuts begin (Answer.Bytes bytes) h may e = (read_in st mid a (lost_by cuts (begin + read_end st a)) bytes h may, e)
reads_of st mid done a cuts begin (Answer.NoAnswer b) h may e = (may.0, nobody_in st mid a (lost_by cuts (begin + 9)) h may.1, e)
reads_of st mid done a cuts begin Answer.NoEnd h may e = (nobody_in st mid a (lost_by cuts (begin + read_end st a)) h may.0, any_in st mid a h may.1, e)
reads_of st mid done a cuts begin Answer.Done h may e = absurd may

-- an answer that a write can't have
unwritten : (st : State) (a : ℕ) (lost : Lost) (answer : Answer) → answer ≢ Answer.Done → ((b : ℕ) → answer ≢ Answer.NoAnswer b) → MayWrite st a lost answer → ⊥
unwritten st a lost answer not_done answered may = elim may [ inl x ↦ not_done x.0 | inr x ↦ answered a x.0 ]

pub bytes≢done : (bytes : List ℕ) → Answer.Bytes bytes ≢ Answer.Done
bytes≢done bytes e = cc

pub bytes≢no_answer : (bytes : List ℕ) (b : ℕ) → Answer.Bytes bytes ≢ Answer.NoAnswer b
bytes≢no_answer bytes b e = cc

pub no_end≢done : Answer.NoEnd ≢ Answer.Done
no_end≢done e = cc

pub no_end≢no_answer : (b : ℕ) → Answer.NoEnd ≢ Answer.NoAnswer b
no_end≢no_answer b e = cc

pub done≢no_answer : (b : ℕ) → Answer.Done ≢ Answer.NoAnswer b
done≢no_answer b e = cc

-- a legacy target, or a device, is at the address
abbrev AnyParty : State → ℕ → Type 0
AnyParty st a = ((target : LegacyTarget) × (legacy_target_at st a ≡ Some target)) ⊎ AnyAt st a

party_in : (st new : State) (a : ℕ) → Stay st new → AnyParty st a → AnyParty new a
party_in st new a h party = elim party [ inl x ↦ inl (x.0, h.legacy a ∙ x.1) | inr x ↦ inr (any_in st new a h x) ]

may_done : (st : State) (a : ℕ) (lost : Lost) → MayWrite st a lost Answer.Done → AnyParty st a
may_done st a lost may = elim may [ inl x ↦ x.1 | inr x ↦ absurd (done≢no_answer a x.0) ]

may_silent : (st : State) (a b : ℕ) (lost : Lost) → MayWrite st a lost (Answer.NoAnswer b) → (b ≡ a) × NobodyLeftAt st a lost
may_silent st a b lost may = elim may [ inl x ↦ absurd (done≢no_answer b (sym x.0)) | inr x ↦ (let e : Answer.NoAnswer b ≡ Answer.NoAnswer a = x.0 in cc, x.1) ]

pub writes_of : (st mid done : State) (a : ℕ) (bytes : List ℕ) (cuts : CutList) (begin : ℕ) (answer : Answer) → Stay st mid → MayWrite st a (lost_by cuts (begin + 9)) answer
    → (answer ≡ Answer.Done → done ≡ written a bytes mid) → (answer ≢ Answer.Done → done ≡ mid) → Writes a bytes answer (lost_by cuts (begin + write_bits bytes answer)) mid done
writes_of st mid done a bytes cuts begin Answer.Done h may did not_did = (party_in st mid a h (may_done st a (lost_by cuts (begin + 9)) may), did refl)
writes_of st mid done a bytes cuts begin (Answer.NoAnswer b) h may did not_did =
    let m = may_silent st a b (lost_by cuts (begin + 9)) may in (m.0, nobody_in st mid a (lost_by cuts (begin + 9)) h m.1, not_did (λ e. done≢no_answer b (sym e)))
writes_of st mid done a bytes cuts begin (Answer.Bytes read) h may did not_did = absurd (unwritten st a (lost_by cuts (begin + 9)) (Answer.Bytes read) (bytes≢done read) (bytes≢no_answer read) may)
writes_of st mid done a bytes cuts begin Answer.NoEnd h may did not_did = absurd (unwritten st a (lost_by cuts (begin + 9)) Answer.NoEnd no_end≢done no_end≢no_answer may)

-- an answer that means a choice, and its own part, which begins behind this bit
pub record Other (old : State) (bits : Answer → ℕ) (Own : Answer → Lost → State → State → Type 0) (cuts : CutList) (begin : ℕ) (c : Choice) : Type 0 where
  pub answer : Answer
  pub stands : of_answer answer ≡ Some c
  pub mid : State
  pub done : State
  pub stay : Stay old mid
  pub own : Own answer (lost_by cuts (begin + bits answer)) mid done

-- a transfer follows the choice where its own part does
module _ (old : State) (bits : Answer → ℕ) (Own : Answer → Lost → State → State → Type 0) (policy : Fixed) (cuts : CutList) (choice : Choice) (served : Served) (answer : Answer) (word header : ℕ) (new : State)
    (served_as : ServesAsChosen old policy (lost_by cuts (word + header + bits answer)) choice served)
    (word_sent : (lost : Lost) (other : Served) (mid : State) → Serves old policy lost other mid → IsWordBits old other word)
    (header_sent : (lost : Lost) (other : Served) (mid : State) → Serves old policy lost other mid → header ≡ header_bits other)
    (frame : Frame old policy cuts served (header_bits served + bits answer) (Own answer) new) where
  abbrev Comes : Reply → State → Type 0
  Comes = Transfers old bits Own policy cuts

  abbrev framed : Framed
  framed = record { served = served; answer = answer }

  other_of : (c : Choice) → MayStandFor Comes of_own_part c → Other old bits Own cuts (word + header) c
  other_of c l =
      let ends = l.2.2 in
      let last = ends.word + (header_bits l.2.0.served + bits l.2.0.answer) in
      let words : word ≡ ends.word = word_unique old l.2.0.served word ends.word (word_sent (lost_by cuts last) l.2.0.served ends.mid ends.serves) ends.sent in
      let headers : header ≡ header_bits l.2.0.served = header_sent (lost_by cuts last) l.2.0.served ends.mid ends.serves in
      let same : last ≡ word + header + bits l.2.0.answer = omega (arith, words, headers) in
      record {
        answer = l.2.0.answer;
        stands = sym (ap (stands_for of_own_part) l.2.1) ∙ l.3;
        mid = ends.mid;
        done = ends.done;
        stay = Stay-serves old policy (lost_by cuts last) l.2.0.served ends.mid ends.serves;
        own = subst (λ n. Own l.2.0.answer (lost_by cuts n) ends.mid ends.done) same ends.own;
      }

  -- this answer means its choice
  pub itself : (c : Choice) → of_answer answer ≡ Some c → MayStandFor (Transfers old bits Own policy cuts) of_own_part c
  itself c e = (Reply.Framed framed, new, (framed, refl, frame), e)

  pub transfer_follows : (choice ≡ Choice.Lost → (other : Answer) (lost : Lost) (mid done : State) → Stay old mid → Own other lost mid done → bits other ≤ bits answer)
      → (((c : Choice) → MayStandFor (Transfers old bits Own policy cuts) of_own_part c → Other old bits Own cuts (word + header) c)
      → MatchOption (of_answer answer) ⊤ (IsTaken (MayStandFor (Transfers old bits Own policy cuts) of_own_part) choice)) → Follows (Transfers old bits Own policy cuts) choice (Reply.Framed (record { served = served; answer = answer }))
  transfer_follows most own_taken = follows Comes choice (Reply.Framed framed)
      (request_taken (MayStandFor Comes of_request) old policy (lost_by cuts (word + header + bits answer)) choice served served_as (λ c e. (Reply.Framed framed, new, (framed, refl, frame), e)) tear
      (λ l. never_silent l.2.0.served (sym (ap (stands_for of_request) l.2.1) ∙ l.3)))
      (own_taken other_of)
    where
      tear : (place : ℕ) → served ≡ Served.Recorded place → choice ≡ Choice.Lost → MayStandFor Comes of_request Choice.Lost → (mid : State) × Serves old policy (lost_by cuts (word + header + bits answer)) Served.Torn mid
      tear place is e l =
          let other : Answer = l.2.0.answer in
          let torn : l.2.0.served ≡ Served.Torn = torn_from l.2.0.served (sym (ap (stands_for of_request) l.2.1) ∙ l.3) in
          let ends : Frame old policy cuts Served.Torn (9 + bits other) (Own other) l.1 = subst (λ x. Frame old policy cuts x (header_bits x + bits other) (Own other) l.1) torn l.2.2 in
          let few = most e other (lost_by cuts (ends.word + (9 + bits other))) ends.mid ends.done (Stay-serves old policy (lost_by cuts (ends.word + (9 + bits other))) Served.Torn ends.mid ends.serves) ends.own in
          torn_in old policy cuts place word header (bits answer) (bits other) (lost_by cuts (frame.word + (header_bits served + bits answer))) served frame.mid (Own other) l.1 word_sent header_sent frame.serves is ends few

-- the bits of a read are no more than these
read_most : (count : ℕ) (answer : Answer) → read_bits count answer ≤ 9 + 9 * count
read_most count Answer.Done = omega arith
read_most count (Answer.Bytes bytes) = omega arith
read_most count Answer.NoEnd = omega arith
read_most count (Answer.NoAnswer b) = omega arith

-- where nobody is there, a read has no answer
read_absent : (count : ℕ) (old mid done : State) (a : ℕ) (other : Answer) (lost : Lost) → Stay old mid → ¬ AnyAt old a → legacy_target_at old a ≡ None → Reads a other lost mid done → read_bits count other ≤ 9
read_absent count old mid done a (Answer.NoAnswer b) lost h none bare own = omega arith
read_absent count old mid done a (Answer.Bytes bytes) lost h none bare own = absurd (none (any_in mid old a (Stay-back old mid h) (read_any mid a lost bytes own.0 (h.legacy a ∙ bare))))
read_absent count old mid done a Answer.NoEnd lost h none bare own = absurd (none (any_in mid old a (Stay-back old mid h) own.1))
read_absent count old mid done a Answer.Done lost h none bare own = absurd own

-- what a read by another choice says of the bus before it
silent_read : (st mid done : State) (a : ℕ) (answer : Answer) (cuts : CutList) (begin : ℕ) → of_answer answer ≡ Some Silent → Stay st mid → Reads a answer (lost_by cuts (begin + read_bits (read_count st a) answer)) mid done → NobodyLeftAt st a (lost_by cuts (begin + 9))
silent_read st mid done a (Answer.NoAnswer b) cuts begin e h own = nobody_in mid st a (lost_by cuts (begin + 9)) (Stay-back st mid h) own.1
silent_read st mid done a (Answer.Bytes bytes) cuts begin e h own = cc
silent_read st mid done a Answer.NoEnd cuts begin e h own = cc
silent_read st mid done a Answer.Done cuts begin e h own = absurd own

lost_read : (st mid done : State) (a : ℕ) (answer : Answer) (cuts : CutList) (begin : ℕ) → of_answer answer ≡ Some Choice.Lost → Stay st mid → Reads a answer (lost_by cuts (begin + read_bits (read_count st a) answer)) mid done
    → NobodyLeftAt st a (lost_by cuts (begin + read_end st a)) × AnyAt st a
lost_read st mid done a Answer.NoEnd cuts begin e h own = (nobody_in mid st a (lost_by cuts (begin + read_end st a)) (Stay-back st mid h) own.0, any_in mid st a (Stay-back st mid h) own.1)
lost_read st mid done a (Answer.NoAnswer b) cuts begin e h own = cc
lost_read st mid done a (Answer.Bytes bytes) cuts begin e h own = cc
lost_read st mid done a Answer.Done cuts begin e h own = absurd own

heard_read : (st mid done : State) (a : ℕ) (answer : Answer) (cuts : CutList) (begin : ℕ) → of_answer answer ≡ Some Heard → Stay st mid → Reads a answer (lost_by cuts (begin + read_bits (read_count st a) answer)) mid done
    → (bytes : List ℕ) × IsReadOf st a (lost_by cuts (begin + read_end st a)) bytes
heard_read st mid done a (Answer.Bytes bytes) cuts begin e h own = (bytes, read_in mid st a (lost_by cuts (begin + read_end st a)) bytes (Stay-back st mid h) own.0)
heard_read st mid done a (Answer.NoAnswer b) cuts begin e h own = cc
heard_read st mid done a Answer.NoEnd cuts begin e h own = cc
heard_read st mid done a Answer.Done cuts begin e h own = absurd own

nobody_later : (st : State) (a : ℕ) (cuts : CutList) (begin : ℕ) → NobodyLeftAt st a (lost_by cuts (begin + 9)) → NobodyLeftAt st a (lost_by cuts (begin + read_end st a))
nobody_later st a cuts begin n = (n.0, all_later st a cuts (begin + 9) (begin + read_end st a) (omega arith) n.1)

-- a read follows the choice
module _ (old : State) (a : ℕ) (policy : Fixed) (cuts : CutList) (choice : Choice) (served : Served) (word header : ℕ) (new : State)
    (word_sent : (lost : Lost) (other : Served) (mid : State) → Serves old policy lost other mid → IsWordBits old other word)
    (header_sent : (lost : Lost) (other : Served) (mid : State) → Serves old policy lost other mid → header ≡ header_bits other) where
  abbrev ReadComes : Reply → State → Type 0
  ReadComes = Transfers old (read_bits (read_count old a)) (Reads a) policy cuts

  pub read_follows : (answer : Answer) → ServesAsChosen old policy (lost_by cuts (word + header + read_bits (read_count old a) answer)) choice served
      → Frame old policy cuts served (header_bits served + read_bits (read_count old a) answer) (Reads a answer) new → MayRead old a cuts (word + header) answer → ReadsAsChosen old a cuts (word + header) choice answer
      → Follows (Transfers old (read_bits (read_count old a)) (Reads a) policy cuts) choice (Reply.Framed (record { served = served; answer = answer }))
  read_follows (Answer.Bytes bytes) served_as frame may given = transfer_follows old (read_bits (read_count old a)) (Reads a) policy cuts choice served (Answer.Bytes bytes) word header new served_as word_sent header_sent frame
      (λ e other lost mid done stay own. read_most (read_count old a) other)
      (λ other_of. taken_heard (MayStandFor ReadComes of_own_part) choice
      (λ c l. let o = other_of Choice.Lost l in read_heard old a (lost_by cuts (word + header + read_end old a)) bytes may (lost_read old o.mid o.done a o.answer cuts (word + header) o.stands o.stay o.own).0)
      (λ c l. let o = other_of Silent l in
      read_heard old a (lost_by cuts (word + header + read_end old a)) bytes may (nobody_later old a cuts (word + header) (silent_read old o.mid o.done a o.answer cuts (word + header) o.stands o.stay o.own))))
  read_follows Answer.NoEnd served_as frame may given = transfer_follows old (read_bits (read_count old a)) (Reads a) policy cuts choice served Answer.NoEnd word header new served_as word_sent header_sent frame
      (λ e other lost mid done stay own. read_most (read_count old a) other)
      (λ other_of. taken_lost (MayStandFor ReadComes of_own_part) choice
      (itself old (read_bits (read_count old a)) (Reads a) policy cuts choice served Answer.NoEnd word header new served_as word_sent header_sent frame Choice.Lost refl)
      (λ ne l. let o = other_of Heard l in let r = heard_read old o.mid o.done a o.answer cuts (word + header) o.stands o.stay o.own in read_heard old a (lost_by cuts (word + header + read_end old a)) r.0 r.1 may.0)
      (λ e l. let o = other_of Silent l in given e (silent_read old o.mid o.done a o.answer cuts (word + header) o.stands o.stay o.own).1))
  read_follows (Answer.NoAnswer b) served_as frame may given = transfer_follows old (read_bits (read_count old a)) (Reads a) policy cuts choice served (Answer.NoAnswer b) word header new served_as word_sent header_sent frame
      (λ e other lost mid done stay own. read_absent (read_count old a) old mid done a other lost stay (given (λ s. lost≢silent (sym e ∙ s))) may.1.0 own)
      (λ other_of. taken_silent (MayStandFor ReadComes of_own_part) choice
      (itself old (read_bits (read_count old a)) (Reads a) policy cuts choice served (Answer.NoAnswer b) word header new served_as word_sent header_sent frame Silent refl)
      (λ ne. (
        (λ l. let o = other_of Heard l in let r = heard_read old o.mid o.done a o.answer cuts (word + header) o.stands o.stay o.own in given ne (read_any old a (lost_by cuts (word + header + read_end old a)) r.0 r.1 may.1.0)),
        (λ l. let o = other_of Choice.Lost l in given ne (lost_read old o.mid o.done a o.answer cuts (word + header) o.stands o.stay o.own).1),
      )))
  read_follows Answer.Done served_as frame may given = absurd may

-- the bits of a write are no more than these
write_most : (bytes : List ℕ) (answer : Answer) → write_bits bytes answer ≤ 9 + 9 * length bytes
write_most bytes Answer.Done = omega arith
write_most bytes (Answer.Bytes read) = omega arith
write_most bytes Answer.NoEnd = omega arith
write_most bytes (Answer.NoAnswer b) = omega arith

-- nobody is there
abbrev NoParty : State → ℕ → Type 0
NoParty st a = ¬ AnyParty st a

write_absent : (old mid done : State) (a : ℕ) (bytes : List ℕ) (other : Answer) (lost : Lost) → Stay old mid → NoParty old a → Writes a bytes other lost mid done → write_bits bytes other ≤ 9
write_absent old mid done a bytes (Answer.NoAnswer b) lost h none own = omega arith
write_absent old mid done a bytes Answer.Done lost h none own = absurd (none (party_in mid old a (Stay-back old mid h) own.0))
write_absent old mid done a bytes (Answer.Bytes read) lost h none own = absurd own
write_absent old mid done a bytes Answer.NoEnd lost h none own = absurd own

silent_write : (st mid done : State) (a : ℕ) (bytes : List ℕ) (answer : Answer) (cuts : CutList) (begin : ℕ) → of_answer answer ≡ Some Silent → Stay st mid
    → Writes a bytes answer (lost_by cuts (begin + write_bits bytes answer)) mid done → NobodyLeftAt st a (lost_by cuts (begin + 9))
silent_write st mid done a bytes (Answer.NoAnswer b) cuts begin e h own = nobody_in mid st a (lost_by cuts (begin + 9)) (Stay-back st mid h) own.1
silent_write st mid done a bytes Answer.Done cuts begin e h own = cc
silent_write st mid done a bytes (Answer.Bytes read) cuts begin e h own = absurd own
silent_write st mid done a bytes Answer.NoEnd cuts begin e h own = absurd own

never_lost_write : (mid done : State) (a : ℕ) (bytes : List ℕ) (answer : Answer) (lost : Lost) → of_answer answer ≡ Some Choice.Lost → Writes a bytes answer lost mid done → ⊥
never_lost_write mid done a bytes Answer.NoEnd lost e own = own
never_lost_write mid done a bytes Answer.Done lost e own = cc
never_lost_write mid done a bytes (Answer.Bytes read) lost e own = cc
never_lost_write mid done a bytes (Answer.NoAnswer b) lost e own = cc

heard_write : (st mid done : State) (a : ℕ) (bytes : List ℕ) (answer : Answer) (lost : Lost) → of_answer answer ≡ Some Heard → Stay st mid → Writes a bytes answer lost mid done → AnyParty st a
heard_write st mid done a bytes Answer.Done lost e h own = party_in mid st a (Stay-back st mid h) own.0
heard_write st mid done a bytes Answer.NoEnd lost e h own = absurd own
heard_write st mid done a bytes (Answer.Bytes read) lost e h own = absurd own
heard_write st mid done a bytes (Answer.NoAnswer b) lost e h own = cc

-- a write follows the choice
module _ (old : State) (a : ℕ) (bytes : List ℕ) (policy : Fixed) (cuts : CutList) (choice : Choice) (served : Served) (word header : ℕ) (new : State)
    (word_sent : (lost : Lost) (other : Served) (mid : State) → Serves old policy lost other mid → IsWordBits old other word)
    (header_sent : (lost : Lost) (other : Served) (mid : State) → Serves old policy lost other mid → header ≡ header_bits other) where
  abbrev WriteComes : Reply → State → Type 0
  WriteComes = Transfers old (write_bits bytes) (Writes a bytes) policy cuts

  pub write_follows : (answer : Answer) → ServesAsChosen old policy (lost_by cuts (word + header + write_bits bytes answer)) choice served
      → Frame old policy cuts served (header_bits served + write_bits bytes answer) (Writes a bytes answer) new → MayWrite old a (lost_by cuts (word + header + 9)) answer
      → WritesAsChosen old a (lost_by cuts (word + header + 9)) choice answer → Follows (Transfers old (write_bits bytes) (Writes a bytes) policy cuts) choice (Reply.Framed (record { served = served; answer = answer }))
  write_follows Answer.Done served_as frame may given = transfer_follows old (write_bits bytes) (Writes a bytes) policy cuts choice served Answer.Done word header new served_as word_sent header_sent frame
      (λ e other lost mid done stay own. write_most bytes other)
      (λ other_of. taken_heard (MayStandFor WriteComes of_own_part) choice
      (λ c l. let o = other_of Choice.Lost l in never_lost_write o.mid o.done a bytes o.answer (lost_by cuts (word + header + write_bits bytes o.answer)) o.stands o.own)
      (λ c l. let o = other_of Silent l in let n = silent_write old o.mid o.done a bytes o.answer cuts (word + header) o.stands o.stay o.own in elim given [
        | inl legacy ↦ none-some legacy.0 (sym n.0 ∙ legacy.1)
        | inr as_chosen ↦ as_chosen c n.1
      ]))
  write_follows (Answer.NoAnswer b) served_as frame may given = transfer_follows old (write_bits bytes) (Writes a bytes) policy cuts choice served (Answer.NoAnswer b) word header new served_as word_sent header_sent frame
      (λ e other lost mid done stay own. write_absent old mid done a bytes other lost stay (nobody (λ s. lost≢silent (sym e ∙ s))) own)
      (λ other_of. taken_silent (MayStandFor WriteComes of_own_part) choice
      (itself old (write_bits bytes) (Writes a bytes) policy cuts choice served (Answer.NoAnswer b) word header new served_as word_sent header_sent frame Silent refl)
      (λ ne. (
        (λ l. let o = other_of Heard l in nobody ne (heard_write old o.mid o.done a bytes o.answer (lost_by cuts (word + header + write_bits bytes o.answer)) o.stands o.stay o.own)),
        (λ l. let o = other_of Choice.Lost l in never_lost_write o.mid o.done a bytes o.answer (lost_by cuts (word + header + write_bits bytes o.answer)) o.stands o.own),
      )))
    where
      nobody : ¬ (choice ≡ Silent) → NoParty old a
      nobody ne party =
          let left = (may_silent old a b (lost_by cuts (word + header + 9)) may).1 in
          elim party [
            | inl legacy ↦ none-some legacy.0 (sym left.0 ∙ legacy.1)
            | inr any ↦ elim given [ inl legacy ↦ none-some legacy.0 (sym left.0 ∙ legacy.1) | inr as_chosen ↦ as_chosen ne any ]
          ]
  write_follows (Answer.Bytes read) served_as frame may given = absurd (unwritten old a (lost_by cuts (word + header + 9)) (Answer.Bytes read) (bytes≢done read) (bytes≢no_answer read) may)
  write_follows Answer.NoEnd served_as frame may given = absurd (unwritten old a (lost_by cuts (word + header + 9)) Answer.NoEnd no_end≢done no_end≢no_answer may)
