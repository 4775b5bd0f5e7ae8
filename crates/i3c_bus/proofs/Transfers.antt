-- Private transfers, as steps and as what they tell.
use Rattle.std.proofs.Common.{◌≡◌, ℕ, zero, suc, ◌+◌, ◌-◌, ◌*◌, ◌≤◌, nat_lt, Bool, true, false, length, List, [], ◌∷◌, ◌++◌, map, set, get_or, Option, Some, None, option_map, if◌then◌else◌, inl, inr, ◌↔◌, arith, ap, refl, sym, subst, ◌∙◌}
use Rattle.std.proofs.lemmas.Bool.Decides.{nat_tests}
use Rattle.std.specs.Int.{bit_at}
use Rattle.std.specs.Prelude.{slice_index, slice_index_or}
use Rattle.i3c_base.specs.declared.answers.Answer.{Answer}
use Rattle.i3c_base.specs.declared.datum.Direction.{Direction}
use Rattle.i3c_base.specs.declared.device.LegacyTarget.{LegacyTarget}
use Rattle.i3c_base.specs.declared.requests.Fixed.{Fixed}
use Rattle.i3c_base.specs.declared.requests.Request.TheVariants.{Join, Role, Interrupt}
use Rattle.i3c_base.specs.declared.requests.Served.{Served}
use Rattle.i3c_base.specs.declared.requests.Served.TheVariants.{Quiet, Recorded, Refused, Torn, Joining, WantsRole}
use Rattle.i3c_base.specs.Covered.{Table, lvrs}
use Rattle.i3c_base.specs.Cutting.{CutList, Lost, lost_by}
use Rattle.i3c_base.specs.Frames.{Reads, SetsLength, Writes, legacy_written, length_of, overwritten, reaches, transfer_length, written}
use Rattle.i3c_base.specs.Serve.{Frame, Serves, drives, given_for, header_bits, without_front, without_join, without_role}
use Rattle.i3c_base.specs.State.{Device, Held, State, device_at, each, population}
use Rattle.i3c_base.proofs.Lookups.{each_at, each_from}
use Rattle.i3c_deftgts.specs.declared.entries.Entry.{Entry}
use Rattle.i3c_frame.specs.declared.symbols.Symbol.{Symbol}
use Rattle.i3c_frame.specs.Taps.{Tells}
use Rattle.i3c_device.specs.Reading.{registers_of, PullsLow}
use Rattle.i3c_xfer.specs.declared.answers.Read.{Read}
use Rattle.i3c_xfer.specs.declared.answers.Write.{Write}
use Rattle.i3c_xfer.specs.Transfers.{AnyAnswers, AreDriven, IsReadAs, IsWrittenBy}
use Rattle.i3c_step.specs.declared.events.Event.{Event}
use Rattle.i3c_step.specs.declared.replies.Refusal.{Refusal}
use Rattle.i3c_step.specs.declared.replies.Reply.{Reply}
use Rattle.i3c_step.specs.Serving.{place_of}
use Rattle.i3c_step.specs.Step.{Acts, checks, cuts_active, first_refusal, frame_checks, is_no_partner, is_too_long, read_checks, write_checks}
use Rattle.i3c_step.proofs.Acting.{acting}
use Rattle.i3c_step.proofs.Slots.{Stands}
use Rattle.i3c_step.proofs.Soundness.{sound_written}
use Rattle.i3c_step.proofs.Transfers.{lengths_keep, reads_keep, writes_keep}
use Rattle.i3c_bus.specs.declared.hand.Hand.{Hand}
use Rattle.i3c_bus.specs.Beginning.{Begins, IsWay, LeavesBy}
use Rattle.i3c_bus.specs.Calls.{Carries}
use Rattle.i3c_bus.specs.Hands.{HandFits}
use Rattle.i3c_bus.specs.Whole.{IsWhole}
use Rattle.i3c_bus.specs.Wire.{IsFrameWire, IsReadPart, IsWire, IsWritePart}
use Rattle.i3c_bus.proofs.Framing.{fits_left, frame_by, tells_frame}
use Rattle.i3c_bus.proofs.Lengths.{length_each, same_length}
use Rattle.i3c_bus.proofs.Owning.{copied_still, either_address, keeps_each}

-- the one state has the other's legacy targets, and devices with the same addresses, registers and lengths
pub record Alike (old new : State) : Type 0 where
  pub legacy : new.legacy ≡ old.legacy
  pub active : new.active ≡ old.active
  pub before : (s : ℕ) (d : Device) → device_at new s ≡ Some d → (x : Device) × (device_at old s ≡ Some x) × (x.address ≡ d.address) × (x.registers ≡ d.registers)
  pub after : (s : ℕ) (d : Device) → device_at old s ≡ Some d → (x : Device) × (device_at new s ≡ Some x) × (x.address ≡ d.address) × (x.registers ≡ d.registers)
  pub length : (way : Direction) (a : ℕ) → transfer_length new way a ≡ transfer_length old way a

alike_itself : (st : State) → Alike st st
alike_itself st = record { legacy = refl; active = refl; before = λ s d e. (d, e, refl, refl); after = λ s d e. (d, e, refl, refl); length = λ way a. refl }

-- a device has another's address, registers and lengths
abbrev IsLike : Device → Device → Type 0
IsLike e d = (e.address ≡ d.address) × (e.registers ≡ d.registers) × ((way : Direction) → length_of way e ≡ length_of way d)

alike_each : (f : ℕ → Device → Device) (st : State) → ((s : ℕ) (d : Device) → IsLike (f s d) d) → Alike st (each f st)
alike_each f st keeps = record {
  legacy = refl;
  active = refl;
  before = λ s d there. let x = each_from f st s d there in
      (x.0, x.1, sym (keeps s x.0).0 ∙ ap (λ (e : Device). e.address) x.2, sym (keeps s x.0).1 ∙ ap (λ (e : Device). e.registers) x.2);
  after = λ s d there. (f s d, each_at f st s ∙ ap (option_map (f s)) there, (keeps s d).0, (keeps s d).1);
  length = λ way a. length_each f st way a (λ s d. ((keeps s d).0, (keeps s d).2 way));
}

keeps_if : (b : Bool) (d e : Device) → e.address ≡ d.address → e.registers ≡ d.registers → e.most_written ≡ d.most_written → e.most_read ≡ d.most_read → IsLike (if b then e else d) d
keeps_if true d e h k w r = (h, k, λ way. same_length way e d w r)
keeps_if false d e h k w r = (refl, refl, λ way. refl)

-- serving leaves it so
pub alike_serves : (st : State) (policy : Fixed) (lost : Lost) (served : Served) (new : State) → Serves st policy lost served new → Alike st new
alike_serves st policy lost Quiet new h = subst (Alike st) (sym h.1) (alike_itself st)
alike_serves st policy lost Refused new h = subst (Alike st) (sym h.1) (alike_itself st)
alike_serves st policy lost Joining new h =
    subst (Alike st) (sym h.2) (alike_each (λ s d. if drives st Join s then without_join d else d) st (λ s d. keeps_if (drives st Join s) d (without_join d) refl refl refl refl))
alike_serves st policy lost (WantsRole a) new h =
    subst (Alike st) (sym h.2) (alike_each (λ s d. if drives st (Role a) s then without_role d else d) st (λ s d. keeps_if (drives st (Role a) s) d (without_role d) refl refl refl refl))
alike_serves st policy lost (Recorded place) new h =
    let f : ℕ → Device → Device = λ s d. if drives st (Interrupt h.at) s then without_front d else d in
    let alike = alike_each f st (λ s d. keeps_if (drives st (Interrupt h.at) s) d (without_front d) refl refl refl refl) in
    subst (Alike st) (sym h.left) (record { legacy = refl; active = refl; before = alike.before; after = alike.after; length = alike.length })
alike_serves st policy lost Torn new h =
    subst (Alike st) (sym h.left) (alike_each (λ s d. if drives st (Interrupt h.at) s then without_front d else d) st (λ s d. keeps_if (drives st (Interrupt h.at) s) d (without_front d) refl refl refl refl))

-- so the same devices pull the lines low, and the same answer
pulls_alike : (old new : State) (a : ℕ) (lost : Lost) (k bit : ℕ) → Alike old new → PullsLow registers_of (population new) a lost k bit ↔ PullsLow registers_of (population old) a lost k bit
pulls_alike old new a lost k bit alike = (
  λ p. let x = alike.before p.0 p.1 p.2.0 in
      (p.0, x.0, (x.1, x.2 ∙ p.2.1, λ e. p.2.2 (e ∙ sym alike.active)), p.3, ap (λ (r : List ℕ). bit_at (slice_index r k) bit) x.3 ∙ p.4),
  λ p. let x = alike.after p.0 p.1 p.2.0 in
      (p.0, x.0, (x.1, x.2 ∙ p.2.1, λ e. p.2.2 (e ∙ alike.active)), p.3, ap (λ (r : List ℕ). bit_at (slice_index r k) bit) x.3 ∙ p.4),
)

legacy_alike : (old new : State) (a : ℕ) (found : Option LegacyTarget) → Alike old new → slice_index_or new.legacy a None ≡ found → slice_index_or old.legacy a None ≡ found
legacy_alike old new a found alike h = ap (λ (l : List (Option LegacyTarget)). slice_index_or l a None) (sym alike.legacy) ∙ h

legacy_after : (old new : State) (a : ℕ) (found : Option LegacyTarget) → Alike old new → slice_index_or old.legacy a None ≡ found → slice_index_or new.legacy a None ≡ found
legacy_after old new a found alike h = ap (λ (l : List (Option LegacyTarget)). slice_index_or l a None) alike.legacy ∙ h

answers_alike : (old new : State) (a : ℕ) (lost : Lost) → Alike old new → AnyAnswers new a lost ↔ AnyAnswers old a lost
answers_alike old new a lost alike = (
  λ h. elim h [
    | inl t ↦ inl (t.0, legacy_alike old new a (Some t.0) alike t.1)
    | inr l ↦ let x = alike.before l.0 l.1 l.2.0 in inr (l.0, x.0, (x.1, x.2 ∙ l.2.1, λ e. l.2.2 (e ∙ sym alike.active)), l.3)
  ],
  λ h. elim h [
    | inl t ↦ inl (t.0, legacy_after old new a (Some t.0) alike t.1)
    | inr l ↦ let x = alike.after l.0 l.1 l.2.0 in inr (l.0, x.0, (x.1, x.2 ∙ l.2.1, λ e. l.2.2 (e ∙ alike.active)), l.3)
  ],
)

driven_alike : (old new : State) (a : ℕ) (cuts : CutList) (first : ℕ) (bytes : List ℕ) → Alike old new → AreDriven new a cuts first bytes → AreDriven old a cuts first bytes
driven_alike old new a cuts first bytes alike h = (
  λ k j l m. let same = pulls_alike old new a (lost_by cuts (first + 9 * k + j)) k (7 - j) alike in (λ e. same.0 ((h.0 k j l m).0 e), λ p. (h.0 k j l m).1 (same.1 p)),
  h.1 ∙ alike.length Direction.Read a,
  h.2,
)

read_alike : (old new : State) (a : ℕ) (cuts : CutList) (first : ℕ) (read : Read) → Alike old new → IsReadAs new a cuts first read → IsReadAs old a cuts first read
read_alike old new a cuts first Read.Nobody alike h = h
read_alike old new a cuts first (Read.Legacy bytes) alike h = (h.0, legacy_alike old new a (Some h.0) alike h.1, h.2)
read_alike old new a cuts first (Read.Ended bytes) alike h = (legacy_alike old new a None alike h.0, driven_alike old new a cuts first bytes alike h.1)
read_alike old new a cuts first (Read.Torn bytes) alike h = (legacy_alike old new a None alike h.0, driven_alike old new a cuts first bytes alike h.1)

written_alike : (old new : State) (a : ℕ) (write : Write) → Alike old new → IsWrittenBy new a write → IsWrittenBy old a write
written_alike old new a Write.Nobody alike h = legacy_alike old new a None alike h
written_alike old new a Write.Legacy alike h = (h.0, legacy_alike old new a (Some h.0) alike h.1)
written_alike old new a Write.Devices alike h = legacy_alike old new a None alike h

-- a transfer after serving is told as one before
pub read_before : (old mid : State) (cuts : CutList) (a : ℕ) (answer : Answer) (begun : ℕ) (wire : List Symbol) → Alike old mid → IsReadPart mid cuts a answer begun wire → IsReadPart old cuts a answer begun wire
read_before old mid cuts a answer begun wire alike h =
    let same = answers_alike old mid a (lost_by cuts (begun + 9)) alike in
    (h.0, h.1, (λ e. same.0 (h.2.0 e), λ l. h.2.1 (same.1 l)), read_alike old mid a cuts (begun + 10) h.0 alike h.3, h.4)

pub write_before : (old mid : State) (cuts : CutList) (a : ℕ) (bytes : List ℕ) (answer : Answer) (begun : ℕ) (wire : List Symbol) → Alike old mid → IsWritePart mid cuts a bytes answer begun wire
    → IsWritePart old cuts a bytes answer begun wire
write_before old mid cuts a bytes answer begun wire alike h =
    let same = answers_alike old mid a (lost_by cuts (begun + 9)) alike in
    (h.0, h.1, (λ e. same.0 (h.2.0 e), λ l. h.2.1 (same.1 l)), written_alike old mid a h.0 alike h.3, h.4)

not_less : (m n : ℕ) → n ≤ m → nat_lt m n ≡ false
not_less m n h = grind (arith, nat_tests)

-- no more bytes than a transfer may have
pub not_too_long : (st : State) (a : ℕ) (bytes : List ℕ) (most : ℕ) → most ≡ transfer_length st Direction.Write a → length bytes ≤ most → is_too_long st a bytes ≡ false
not_too_long st a bytes most is few = not_less (transfer_length st Direction.Write a) (length bytes) (subst (λ (n : ℕ). length bytes ≤ n) is few)

-- a transfer that isn't refused
pub read_free : (st : State) (cuts : CutList) (a : ℕ) → st.in_session ≡ false → cuts_active st cuts ≡ false → is_no_partner st a ≡ false → first_refusal (frame_checks st cuts ++ read_checks st a) ≡ None
read_free st cuts a closed left there =
    ap (λ b. first_refusal ((b, Refusal.SessionOpen) ∷ (cuts_active st cuts, Refusal.ActiveStays) ∷ (is_no_partner st a, Refusal.NoAnswer a) ∷ [])) closed
    ∙ (ap (λ b. first_refusal ((b, Refusal.ActiveStays) ∷ (is_no_partner st a, Refusal.NoAnswer a) ∷ [])) left
    ∙ ap (λ b. first_refusal ((b, Refusal.NoAnswer a) ∷ [])) there)

pub write_free : (st : State) (cuts : CutList) (a : ℕ) (bytes : List ℕ) → st.in_session ≡ false → cuts_active st cuts ≡ false → is_too_long st a bytes ≡ false → is_no_partner st a ≡ false
    → first_refusal (frame_checks st cuts ++ write_checks st a bytes) ≡ None
write_free st cuts a bytes closed left short there =
    ap (λ b. first_refusal ((b, Refusal.SessionOpen) ∷ (cuts_active st cuts, Refusal.ActiveStays) ∷ (is_too_long st a bytes, Refusal.TooLong) ∷ (is_no_partner st a, Refusal.NoAnswer a) ∷ [])) closed
    ∙ (ap (λ b. first_refusal ((b, Refusal.ActiveStays) ∷ (is_too_long st a bytes, Refusal.TooLong) ∷ (is_no_partner st a, Refusal.NoAnswer a) ∷ [])) left
    ∙ (ap (λ b. first_refusal ((b, Refusal.TooLong) ∷ (is_no_partner st a, Refusal.NoAnswer a) ∷ [])) short
    ∙ ap (λ b. first_refusal ((b, Refusal.NoAnswer a) ∷ [])) there))

-- what a transfer leaves
abbrev pub Leaves : State → State → Type 0
Leaves mid done = (done.records ≡ mid.records) × Stands mid done

pub reads_leave : (a : ℕ) (answer : Answer) (lost : Lost) (mid done : State) → Reads a answer lost mid done → Leaves mid done
reads_leave a answer lost mid done h = reads_keep Leaves (λ st. (refl, (refl, refl))) a answer lost mid done h

pub writes_leave : (a : ℕ) (bytes : List ℕ) (answer : Answer) (lost : Lost) (mid done : State) → Writes a bytes answer lost mid done → Leaves mid done
writes_leave a bytes answer lost mid done h = writes_keep Leaves a bytes (λ st. (refl, (refl, refl))) (λ st. (refl, (refl, refl))) answer lost mid done h

pub lengths_leave : (to : Option ℕ) (way : Direction) (most : ℕ) (answer : Answer) (lost : Lost) (mid done : State) → SetsLength to way most answer lost mid done → Leaves mid done
lengths_leave to way most answer lost mid done h = lengths_keep Leaves to way most (λ st. (refl, (refl, refl))) (λ st. (refl, (refl, refl))) answer lost mid done h

-- a frame with an own part that leaves records, active controller and session
pub transferred : {T : Type 0} (gives : T → Symbol → T → Type 0) (tap first last : T) (old mid new : Held) (event : Event) (cuts : CutList) (served : Served) (answer : Answer) (word begun bits holder : ℕ)
    (Own : Lost → State → State → Type 0) (IsOwn : ℕ → List Symbol → Type 0) → first_refusal (checks old.state event) ≡ None
    → (Frame old.state (given_for served) cuts served (header_bits served + bits) Own new.state → Acts old.state event (Reply.Framed (record { served = served; answer = answer })) new.state)
    → ((symbols : List Symbol) → IsFrameWire old.state cuts served new.state IsOwn symbols → IsWire old.state event (Reply.Framed (record { served = served; answer = answer })) new.state symbols)
    → ((lost : Lost) (done : State) → Own lost mid.state done → Leaves mid.state done) → HandFits (Hand.Role holder) old.state → Begins old.state cuts served word mid.state → begun ≡ word + header_bits served
    → Tells gives tap first (IsWay old.state cuts served word mid.state) → Tells gives first last (IsOwn begun) → LeavesBy cuts (begun + bits) Own mid.state new.state
    → (place_of served ≡ None → mid.room ≡ true) → new.room ≡ mid.room → Carries old new event (Reply.Framed (record { served = served; answer = answer })) (Hand.Role holder) (Tells gives tap last)
transferred gives tap first last old mid new event cuts served answer word begun bits holder Own IsOwn free acts wire keeps fits begins count way own leaves room same =
    let kept = keeps _ leaves.0 leaves.1 in
    let records : new.state.records ≡ mid.state.records = ap (λ (st : State). st.records) leaves.2 ∙ kept.0 in
    let told = tells_frame gives tap first last old.state mid.state new.state cuts served word IsOwn records begins way (subst (λ n. Tells gives first last (IsOwn n)) count own) in
    record {
      step = acting old.state event (Reply.Framed (record { served = served; answer = answer })) new.state free
          (acts (frame_by old.state cuts served word (header_bits served + bits) (begun + bits) Own mid.state new.state begins (omega (arith, count)) leaves));
      told = (told.0, told.1, wire told.0 told.2);
      fits = fits_left (Hand.Role holder) old.state cuts served word (begun + bits) Own mid.state new.state begins (λ lost done h. (keeps lost done h).1) leaves fits;
      room = record { enough = λ full short. cc; lasts = λ full none. same ∙ room none };
    }

lvr_written : (bytes : List ℕ) (place : Option LegacyTarget) → option_map (λ (t : LegacyTarget). t.lvr) (legacy_written bytes place) ≡ option_map (λ (t : LegacyTarget). t.lvr) place
lvr_written bytes None = refl
lvr_written bytes (Some target) = refl

lvrs_set : (bytes : List ℕ) (a : ℕ) (places : List (Option LegacyTarget))
    → map (option_map (λ (t : LegacyTarget). t.lvr)) (set places a (legacy_written bytes (get_or places a None))) ≡ map (option_map (λ (t : LegacyTarget). t.lvr)) places
lvrs_set bytes zero [] = refl
lvrs_set bytes (suc a) [] = refl
lvrs_set bytes zero (place ∷ places) = ap (λ x. x ∷ map (option_map (λ (t : LegacyTarget). t.lvr)) places) (lvr_written bytes place)
lvrs_set bytes (suc a) (place ∷ places) = ap (λ xs. option_map (λ (t : LegacyTarget). t.lvr) place ∷ xs) (lvrs_set bytes a places)

-- so a write leaves a bus whole
whole_written : (table : Table) (list : List Entry) (a : ℕ) (bytes : List ℕ) (st : State) → IsWhole st table list → IsWhole (written a bytes st) table list
whole_written table list a bytes st whole =
    let same : lvrs (written a bytes st) ≡ lvrs st = lvrs_set bytes a st.legacy in record {
      sound = sound_written a bytes st whole.sound;
      covered = (whole.covered.0, whole.covered.1 ∙ sym same, whole.covered.2, whole.covered.3);
      copied = copied_still st (written a bytes st) list (record {
        given = refl;
        legacy = same;
        listed = refl;
        own = (keeps_each (λ s d. if reaches st (Some a) s d then record d { registers = overwritten bytes d.registers } else d) st
            (λ s d. either_address (reaches st (Some a) s d) (record d { registers = overwritten bytes d.registers }) d refl)).own;
      }) whole.copied;
    }

pub whole_writes : (table : Table) (list : List Entry) (a : ℕ) (bytes : List ℕ) (answer : Answer) (lost : Lost) (mid done : State) → Writes a bytes answer lost mid done → IsWhole mid table list → IsWhole done table list
whole_writes table list a bytes answer lost mid done h whole =
    writes_keep (λ st next. IsWhole st table list → IsWhole next table list) a bytes (λ st w. w) (whole_written table list a bytes) answer lost mid done h whole
