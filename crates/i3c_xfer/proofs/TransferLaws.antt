-- The devices that answer at an address, and the bytes read there.
use Rattle.std.proofs.Common.{length-take-le}
use Rattle.std.proofs.lemmas.List.{get_or-take}
use Rattle.std.proofs.Common.{◌≡◌, ℕ, zero, suc, ◌+◌, ◌-◌, ◌*◌, ◌<◌, ◌≤◌, ◌↔◌, ◌⊎◌, true, false, if◌then◌else◌, List, length, take, get_or, set, Option, Some, None, is_some, inl, inr, refl, sym, ap, ◌∙◌, subst, arith}
use Rattle.std.proofs.lemmas.Bool.{both_ways, cases_Bool}
use Rattle.std.proofs.lemmas.Nat.Bits.{bit_at-lt}
use Rattle.std.specs.Int.{bit_at}
use Rattle.i3c_base.specs.declared.answers.Answer.{Answer}
use Rattle.i3c_base.specs.declared.datum.Direction.{Direction}
use Rattle.i3c_base.specs.declared.device.LegacyTarget.{LegacyTarget}
use Rattle.i3c_base.specs.declared.device.TheConstants.{REGISTERS}
use Rattle.i3c_base.specs.Cutting.{CutList, Lost, lost_by}
use Rattle.i3c_base.specs.Frames.{AllLostAt, AnyAt, SomeLeftAt, SomeLeftIn, Writes, least_length_from, legacy_written, transfer_length, write_bits, written, written_at}
use Rattle.i3c_base.specs.Serve.{IsAnd}
use Rattle.i3c_base.specs.State.{Device, HasDevices, IsTargetAt, State, each_in, legacy_target_at, population, with_active}
use Rattle.i3c_base.proofs.Lookups.{population_is}
use Rattle.i3c_base.proofs.LostLaws.{left_before}
use Rattle.i3c_device.specs.Reading.{AreBytesOf, Driving, PullsLow}
use Rattle.i3c_xfer.specs.Transfers.{AnyAnswers, AreDrivenBy, HasLegacy, IsWrittenBy, is_write_acknowledged, write_answer}
use Rattle.i3c_xfer.specs.declared.answers.Write.{Write}

-- some of those at the address are left among these devices, and on a bus that has them
pub left_there : (st : State) (a : ℕ) (lost : Lost) (devices : List (Option Device)) (active : ℕ) → HasDevices st devices active → SomeLeftIn (with_active devices active) a lost → SomeLeftAt st a lost
left_there st a lost devices active has some = subst (λ all. SomeLeftIn all a lost) (sym (population_is st devices active has)) some

-- no device is there
pub none_there : (st : State) (a : ℕ) (lost : Lost) (devices : List (Option Device)) (active : ℕ) → HasDevices st devices active → ¬ SomeLeftIn (with_active devices active) a lost → ¬ SomeLeftAt st a lost
none_there st a lost devices active has none some = none (subst (λ all. SomeLeftIn all a lost) (population_is st devices active has) some)

pub all_lost : (st : State) (a : ℕ) (lost : Lost) (devices : List (Option Device)) (active : ℕ) → HasDevices st devices active → ¬ SomeLeftIn (with_active devices active) a lost → AllLostAt st a lost
all_lost st a lost devices active has none s d is = elim (cases_Bool (lost s)) [ inl gone ↦ gone | inr left ↦ absurd (none_there st a lost devices active has none (s, d, is, left)) ]

pub any_there : (st : State) (a : ℕ) (lost : Lost) → SomeLeftAt st a lost → AnyAt st a
any_there st a lost some = (some.0, some.1, some.2)

-- the legacy target there
pub legacy_there : (st : State) (a : ℕ) (legacy : List (Option LegacyTarget)) (o : Option LegacyTarget) → st.legacy ≡ legacy → o ≡ get_or legacy a None → legacy_target_at st a ≡ o
legacy_there st a legacy o e is = ap (λ places. get_or places a None) e ∙ sym is

-- a target that is there
pub some_legacy : (st : State) (a : ℕ) (o : Option LegacyTarget) → legacy_target_at st a ≡ o → is_some o ≡ true → HasLegacy st a
some_legacy st a None e t = absurd (both_ways _ refl t)
some_legacy st a (Some target) e t = (target, e)

-- what the devices drive
pub driven_there : (own : Driving) (count : ℕ) (st : State) (a : ℕ) (cuts : CutList) (first : ℕ) (devices : List (Option Device)) (active : ℕ) (bytes : List ℕ) → HasDevices st devices active
    → AreBytesOf own count (with_active devices active) a cuts first bytes → AreDrivenBy own count st a cuts first bytes
driven_there own count st a cuts first devices active bytes has read = subst (λ all. AreBytesOf own count all a cuts first bytes) (sym (population_is st devices active has)) read

zero_or_one : (b : ℕ) → b < 2 → (b ≡ 0) ⊎ (b ≡ 1)
zero_or_one zero l = inl refl
zero_or_one (suc zero) l = inr refl
zero_or_one (suc (suc n)) l = absurd (omega arith)

not_both : (b : ℕ) → b ≡ 0 → b ≡ 1 → ⊥
not_both b z o = omega (arith, z, o)

-- slot s has the address, and v is byte k of what it drives
abbrev pub DrivesByte : Driving → State → ℕ → ℕ → ℕ → ℕ → Type 0
DrivesByte own st a k s v = (d : Device) × IsTargetAt st a s d × (v ≡ get_or (own d) k 0)

-- the AND of what they drive, if none of them is lost by the end
pub and_there : (own : Driving) (count : ℕ) (st : State) (a : ℕ) (cuts : CutList) (first last : ℕ) (bytes : List ℕ) → first + 9 * count ≤ suc last → AreDrivenBy own count st a cuts first bytes
    → ((k : ℕ) → k < count → get_or bytes k 0 < 256)
    → ((s : ℕ) (d : Device) → IsTargetAt st a s d → lost_by cuts last s ≡ false) → (k : ℕ) → k < count → IsAnd (get_or bytes k 0) (DrivesByte own st a k)
and_there own count st a cuts first last bytes late driven small left k l = (
  small k l,
  λ bit m.
      let j : ℕ = 7 - bit in
      let back : 7 - j ≡ bit = omega arith in
      let here = subst (λ b. (bit_at (get_or bytes k 0) b ≡ 0) ↔ PullsLow own (population st) a (lost_by cuts (first + 9 * k + j)) k b) back (driven k j l (omega arith)) in (
        λ one s v d. elim (zero_or_one (bit_at v bit) (bit_at-lt v bit)) [
          | inl z ↦ absurd (not_both (bit_at (get_or bytes k 0) bit)
              (here.1 (s, d.0, d.1, left_before cuts (first + 9 * k + j) last s (omega arith) (left s d.0 d.1), ap (λ x. bit_at x bit) (sym d.2) ∙ z)) one)
          | inr o ↦ o
        ],
        λ all. elim (zero_or_one (bit_at (get_or bytes k 0) bit) (bit_at-lt (get_or bytes k 0) bit)) [
          | inl z ↦ let low = here.0 z in absurd (not_both (bit_at (get_or (own low.1) k 0) bit) low.4 (all low.0 (get_or (own low.1) k 0) (low.1, low.2, refl)))
          | inr o ↦ o
        ],
      ),
)

-- a write as the bus's devices and legacy targets take it
pub written_there : (st : State) (a : ℕ) (bytes : List ℕ) (devices : List (Option Device)) (active : ℕ) (legacy : List (Option LegacyTarget)) → HasDevices st devices active → st.legacy ≡ legacy
    → ◌≡◌ {A = State} (record st { devices = each_in (written_at active a bytes) devices; legacy = set legacy a (legacy_written bytes (get_or legacy a None)) }) (written a bytes st)
written_there st a bytes devices active legacy has e = λ t. record st {
  devices = each_in (written_at (sym has.1 t) a bytes) (sym has.0 t);
  legacy = set (sym e t) a (legacy_written bytes (get_or (sym e t) a None));
}

-- and nothing is written
pub same_there : (st : State) (devices : List (Option Device)) (active : ℕ) (legacy : List (Option LegacyTarget)) → HasDevices st devices active → st.legacy ≡ legacy → ◌≡◌ {A = State} (record st { devices = devices; legacy = legacy }) st
same_there st devices active legacy has e = λ t. record st { devices = sym has.0 t; legacy = sym e t }

there : (st : State) (a : ℕ) (ack : Lost) → AnyAnswers st a ack → HasLegacy st a ⊎ AnyAt st a
there st a ack (inl target) = inl target
there st a ack (inr some) = inr (any_there st a ack some)

-- the answer of a write that was taken, and of one that wasn't
pub write_taken : (st new : State) (a : ℕ) (bytes : List ℕ) (w : Write) (ack : Lost) (lost : Answer → Lost) → is_write_acknowledged w ≡ true → AnyAnswers st a ack → new ≡ written a bytes st
    → Writes a bytes (write_answer a w) (lost (write_answer a w)) st new
write_taken st new a bytes Write.Nobody ack lost t any e = absurd (both_ways _ refl t)
write_taken st new a bytes Write.Legacy ack lost t any e = (there st a ack any, e)
write_taken st new a bytes Write.Devices ack lost t any e = (there st a ack any, e)

pub write_missed : (st new : State) (a : ℕ) (bytes : List ℕ) (w : Write) (cuts : CutList) (bits_before : ℕ) → is_write_acknowledged w ≡ false → ¬ AnyAnswers st a (lost_by cuts (bits_before + 9)) → IsWrittenBy st a w → new ≡ st
    → Writes a bytes (write_answer a w) (lost_by cuts (bits_before + write_bits bytes (write_answer a w))) st new
write_missed st new a bytes Write.Nobody cuts bits_before f none free e = (refl, (free, λ s d is. elim (cases_Bool (lost_by cuts (bits_before + 9) s)) [ inl gone ↦ gone | inr left ↦ absurd (none (inr (s, d, is, left))) ]), e)
write_missed st new a bytes Write.Legacy cuts bits_before f none free e = absurd (both_ways _ f refl)
write_missed st new a bytes Write.Devices cuts bits_before f none free e = absurd (both_ways _ f refl)

-- without a legacy target there it is the least of the devices
pub devices_length : (st : State) (way : Direction) (a : ℕ) (devices : List (Option Device)) (active : ℕ) → HasDevices st devices active → legacy_target_at st a ≡ None
    → transfer_length st way a ≡ least_length_from active way a 0 devices
devices_length st way a devices active has none =
    ap (λ o. if is_some o then REGISTERS else least_length_from st.active way a 0 st.devices) none ∙ (λ t. least_length_from (has.1 t) way a 0 (has.0 t))

-- the first ones of bytes that are driven
pub driven_first : (own : Driving) (most count : ℕ) (st : State) (a : ℕ) (cuts : CutList) (first : ℕ) (bytes : List ℕ) → count ≤ most → length bytes ≡ most
    → AreDrivenBy own most st a cuts first bytes → AreDrivenBy own (length (take count bytes)) st a cuts first (take count bytes)
driven_first own most count st a cuts first bytes few long h k j l m =
    let counted : length (take count bytes) ≡ count = length-take-le count bytes (omega (arith, few, long)) in
    let low : k < count = omega (arith, counted, l) in
    subst (λ b. (bit_at b (7 - j) ≡ 0) ↔ PullsLow own (population st) a (lost_by cuts (first + 9 * k + j)) k (7 - j)) (sym (get_or-take count bytes k 0 low)) (h k j (omega arith) m)
