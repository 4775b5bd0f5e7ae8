-- The beginning of a frame: what serving its first request does to a bus, and tells.
use Rattle.std.proofs.Common.{◌≡◌, ℕ, suc, Bool, true, false, ◌≤◌, List, ◌∷◌, length, Option, is_some, if◌then◌else◌, sym, refl, ap, subst, ◌∙◌, arith}
use Rattle.std.specs.List.{All}
use Rattle.std.proofs.lemmas.List.Elements.{All-head}
use Rattle.i3c_base.specs.declared.device.Waiting.{Waiting}
use Rattle.i3c_base.specs.declared.requests.Fixed.{Fixed}
use Rattle.i3c_base.specs.declared.requests.Record.{Record}
use Rattle.i3c_base.specs.declared.requests.Request.TheVariants.{Interrupt}
use Rattle.i3c_base.specs.declared.requests.Served.{Served}
use Rattle.i3c_base.specs.Numbers.{has_byte}
use Rattle.i3c_base.specs.Cutting.{CutList, Lost}
use Rattle.i3c_base.specs.State.{Device, State, entry_at}
use Rattle.i3c_base.specs.Serve.{IsFirst, IsTorn, IsWordBits, byte_due, drives}
use Rattle.i3c_ibi.specs.declared.serving.Reading.{Reading}
use Rattle.i3c_ibi.specs.declared.serving.Reading.TheVariants.{Quiet, Refused, Joined, WantsRole, Due, Torn}
use Rattle.i3c_ibi.specs.Serving.{FitsTable, IsServing, kept, served_as, word_bits}
use Rattle.i3c_bus.specs.Beginning.{Begins, kept_in}
use Rattle.i3c_step.specs.Sound.{IsSound}
use Rattle.i3c_ibi.specs.Wire.{begun}
use Rattle.i3c_bus.specs.Wire.{IsAck, IsBegun}
use Rattle.i3c_step.proofs.Drivers.{Drives-from}
use Rattle.i3c_step.proofs.Maps.{same_device}
use Rattle.i3c_step.proofs.Uniqueness.{first_unique}

-- on a sound bus each front has a mandatory byte exactly if the table says that there is one
pub fits_table : (st : State) → IsSound st → FitsTable st
fits_table st sound a s w driven front =
    let d = Drives-from st a s driven in
    let same : d.device ≡ front.0 = same_device st s d.device front.0 d.there front.2 in
    let used = sound.addresses.used s a d.device d.there d.address in
    let due : byte_due (entry_at st a) ≡ has_byte d.device.identity.bcr = ap byte_due used.1 ∙ ap has_byte used.2.bcr in
    let fits : All (λ (x : Waiting). is_some x.byte ≡ has_byte front.0.identity.bcr) (w ∷ front.1) =
    subst (All (λ (x : Waiting). is_some x.byte ≡ has_byte front.0.identity.bcr)) front.3 (sound.fitting s front.0 front.2) in
    All-head (λ (x : Waiting). is_some x.byte ≡ has_byte front.0.identity.bcr) w front.1 fits ∙ (ap (λ (e : Device). has_byte e.identity.bcr) (sym same) ∙ sym due)

-- the state after the devices gave way, and the records grew
pub kept_is : (reading : Reading) (st : State) (devices : List (Option Device)) (records : List Record) → records ≡ kept_in reading st.records
    → kept reading (record st { devices = devices }) ≡ record st { devices = devices; records = records }
kept_is Quiet st devices records e = ap (λ rs. record st { devices = devices; records = rs }) (sym e)
kept_is (Refused r) st devices records e = ap (λ rs. record st { devices = devices; records = rs }) (sym e)
kept_is Joined st devices records e = ap (λ rs. record st { devices = devices; records = rs }) (sym e)
kept_is (WantsRole a) st devices records e = ap (λ rs. record st { devices = devices; records = rs }) (sym e)
kept_is (Due r) st devices records e = ap (λ rs. record st { devices = devices; records = rs }) (sym e)
kept_is (Torn a byte) st devices records e = ap (λ rs. record st { devices = devices; records = rs }) (sym e)

few_if : (b : Bool) → (if b then 9 else 0) ≤ 9
few_if true = omega arith
few_if false = omega arith

few_bits : (reading : Reading) → word_bits reading ≤ 9
few_bits Quiet = omega arith
few_bits (Refused r) = omega arith
few_bits Joined = omega arith
few_bits (WantsRole a) = omega arith
few_bits (Due r) = few_if (is_some r.byte)
few_bits (Torn a byte) = omega arith

-- what was read is how the frame begins
pub begins_by : (st : State) (cuts : CutList) (reading : Reading) (devices : List (Option Device)) (records : List Record) (served : Served) → IsServing st cuts reading devices
    → served ≡ served_as (length st.records) reading → records ≡ kept_in reading st.records → Begins st cuts served (word_bits reading) (record st { devices = devices; records = records })
begins_by st cuts reading devices records served h e f =
    subst (λ s. Begins st cuts s (word_bits reading) (record st { devices = devices; records = records })) (sym e)
    (subst (λ new. Begins st cuts (served_as (length st.records) reading) (word_bits reading) new) (kept_is reading st devices records f)
    (record { sent = h.word; few = few_bits reading; serves = h.serves }))

-- the bits of a word where there is one
abbrev bits_if : Bool → ℕ
bits_if b = if b then 9 else 0

bits_alike : (b c : Bool) → bits_if b ≡ bits_if c → b ≡ c
bits_alike true true h = refl
bits_alike true false h = absurd (omega (arith, h))
bits_alike false true h = absurd (omega (arith, h))
bits_alike false false h = refl

-- the word of a recorded interrupt is sent if it has a mandatory byte
due_is : (st : State) (r : Record) (place : ℕ) → IsFirst st (Interrupt r.at) → IsWordBits st (Served.Recorded place) (if is_some r.byte then 9 else 0) → is_some r.byte ≡ byte_due (entry_at st r.at)
due_is st r place first word =
    let same : Interrupt word.0 ≡ Interrupt r.at = first_unique st (Interrupt word.0) (Interrupt r.at) word.1 first in
    let at : word.0 ≡ r.at = cc in
    bits_alike (is_some r.byte) (byte_due (entry_at st word.0)) word.2 ∙ ap (λ a. byte_due (entry_at st a)) at

-- each driver of a torn interrupt is lost
torn_gone : (st : State) (policy : Fixed) (lost : Lost) (a : ℕ) (new : State) → IsFirst st (Interrupt a) → IsTorn st policy lost new → (s : ℕ) → drives st (Interrupt a) s ≡ true → lost s ≡ true
torn_gone st policy lost a new first h s driven =
    let same : Interrupt h.at ≡ Interrupt a = first_unique st (Interrupt h.at) (Interrupt a) h.first first in
    h.gone s (subst (λ r. drives st r s ≡ true) (sym same) driven)

-- what was read of it is its first symbols
begun_as : (st : State) (cuts : CutList) (reading : Reading) (devices : List (Option Device)) (records : List Record) (ack : Bool) → IsServing st cuts reading devices
    → records ≡ kept_in reading st.records → IsAck st cuts 0 ack → IsBegun st cuts (served_as (length st.records) reading) (record st { devices = devices; records = records }) (begun reading ack)
begun_as st cuts Quiet devices records ack h e acked = (ack, acked, refl)
begun_as st cuts (Refused r) devices records ack h e acked = (r, h.first, refl)
begun_as st cuts Joined devices records ack h e acked = refl
begun_as st cuts (WantsRole a) devices records ack h e acked = refl
begun_as st cuts (Due r) devices records ack h e acked = (r, e, due_is st r (suc (length st.records)) h.first h.word, h.ended, h.read, refl)
begun_as st cuts (Torn a byte) devices records ack h e acked = (a, byte, h.first, torn_gone st _ _ a _ h.first (h.serves 0), h.read, refl)

pub begun_by : (st : State) (cuts : CutList) (reading : Reading) (devices : List (Option Device)) (records : List Record) (served : Served) (ack : Bool) → IsServing st cuts reading devices
    → served ≡ served_as (length st.records) reading → records ≡ kept_in reading st.records → IsAck st cuts 0 ack
    → IsBegun st cuts served (record st { devices = devices; records = records }) (begun reading ack)
begun_by st cuts reading devices records served ack h e f acked =
    subst (λ s. IsBegun st cuts s (record st { devices = devices; records = records }) (begun reading ack)) (sym e) (begun_as st cuts reading devices records ack h f acked)
