-- All registers of some slots as the lines give them where none of these slots is cut.
use Rattle.std.proofs.Common.{◌≡◌, ℕ, zero, suc, ◌+◌, ◌-◌, ◌*◌, ◌<◌, ◌≤◌, ◌==◌, if◌then◌else◌, true, List, All, length, replicate, get_or, Option, Some, None, refl, sym, subst, arith}
use Rattle.std.proofs.lemmas.List.{get_or-replicate, get_or_default}
use Rattle.std.proofs.lemmas.Nat.{and_le_l}
use Rattle.std.proofs.lemmas.Nat.Bits.{bit_at-lt}
use Rattle.std.specs.Int.{bit_at}
use lib.Bits.{bit_and}
use Rattle.i3c_base.specs.declared.range.TheConstants.{SLOTS}
use Rattle.i3c_base.specs.declared.device.TheConstants.{REGISTERS}
use Rattle.i3c_base.specs.Cutting.{CutList, cut_of}
use Rattle.i3c_base.specs.State.{Device, Population}
use Rattle.i3c_device.specs.declared.slot_set.SlotSet.{SlotSet}
use Rattle.i3c_device.specs.Reading.{AreBytesOf, IsByteFrom, IsByteOf, registers_of}
use Rattle.i3c_device.specs.Sets.{AreUncut, has}
use Rattle.i3c_device.specs.Walks.{AreReached}
use Rattle.i3c_device.proofs.FindLaws.{TakesOut}
use Rattle.i3c_device.proofs.ReadLaws.{ByteSoFar, byte_more, byte_none, byte_read, byte_same}

-- a device that isn't cut drives its register
bit_itself : (b : ℕ) → b < 2 → b ≡ (if b == 0 then 0 else 1)
bit_itself zero l = refl
bit_itself (suc zero) l = refl
bit_itself (suc (suc b)) l = absurd (omega arith)

uncut_byte : (d : Device) (k start : ℕ) (cut : Option ℕ) → cut ≡ None → IsByteFrom registers_of (Some d) k cut start (get_or d.registers k 0)
uncut_byte d k start cut none = subst (λ c. IsByteFrom registers_of (Some d) k c start (get_or d.registers k 0)) (sym none)
    (λ j l. bit_itself (bit_at (get_or d.registers k 0) (7 - j)) (bit_at-lt (get_or d.registers k 0) (7 - j)))

-- all registers of the slots that aren't left, where none of all is cut
pub record RegistersSoFar (among left : SlotSet) (devices : List (Option Device)) (bytes : List ℕ) : Type 0 where
  pub long : length bytes ≡ REGISTERS
  pub small : (k : ℕ) → k < REGISTERS → get_or bytes k 0 < 256
  pub each : (k start : ℕ) (cuts : CutList) → k < REGISTERS → AreUncut among cuts → ByteSoFar registers_of among left k cuts start devices (get_or bytes k 0)

pub registers_none : (among : SlotSet) (devices : List (Option Device)) → RegistersSoFar among among devices (replicate REGISTERS 255)
registers_none among devices = record {
  long = refl;
  small = λ k l. subst (λ b. b < 256) (sym (get_or-replicate REGISTERS k 255 0 l)) (omega arith);
  each = λ k start cuts l u. subst (ByteSoFar registers_of among among k cuts start devices) (sym (get_or-replicate REGISTERS k 255 0 l)) (byte_none registers_of among k cuts start devices);
}

pub registers_more : (among left next : SlotSet) (devices : List (Option Device)) (bytes more : List ℕ) (i : ℕ) (d : Device) → RegistersSoFar among left devices bytes → i < SLOTS → has left i ≡ true → TakesOut i left next
    → get_or devices i None ≡ Some d → length more ≡ REGISTERS → ((k : ℕ) → k < REGISTERS → get_or more k 0 ≡ bit_and (get_or bytes k 0) (get_or d.registers k 0)) → RegistersSoFar among next devices more
registers_more among left next devices bytes more i d h low there out stands long and = record {
  long = long;
  small = λ k l. let less : bit_and (get_or bytes k 0) (get_or d.registers k 0) ≤ get_or bytes k 0 = and_le_l (get_or bytes k 0) (get_or d.registers k 0) in omega (arith, and k l, less, h.small k l);
  each = λ k start cuts l u. subst (ByteSoFar registers_of among next k cuts start devices) (sym (and k l))
      (byte_more registers_of among left next k cuts start devices (get_or bytes k 0) i (get_or d.registers k 0) (h.each k start cuts l u) low there out
      (subst (λ (o : Option Device). IsByteFrom registers_of o k (cut_of cuts i) start (get_or d.registers k 0)) (sym stands) (uncut_byte d k start (cut_of cuts i) (u i low ((h.each k start cuts l u).among_them i low there)))));
}

pub registers_same : (among left next : SlotSet) (devices : List (Option Device)) (bytes : List ℕ) (i : ℕ) → RegistersSoFar among left devices bytes → TakesOut i left next → get_or devices i None ≡ None
    → RegistersSoFar among next devices bytes
registers_same among left next devices bytes i h out none = record {
  long = h.long;
  small = h.small;
  each = λ k start cuts l u. byte_same registers_of among left next k cuts start devices (get_or bytes k 0) i (h.each k start cuts l u) out none;
}

pub registers_small : (among left : SlotSet) (devices : List (Option Device)) (bytes : List ℕ) → RegistersSoFar among left devices bytes → All (λ byte. byte < 256) bytes
registers_small among left devices bytes h k d l = subst (λ v. v < 256) (get_or_default bytes k 0 d l) (h.small k (omega (arith, l, h.long)))

-- so all registers are read where none of the slots is cut
pub registers_read : (all : Population) (a : ℕ) (slots : SlotSet) (cuts : CutList) (first : ℕ) (bytes : List ℕ) → length all.devices ≡ SLOTS → AreReached all.active (Some a) slots all.devices → AreUncut slots cuts
    → ((k start : ℕ) (others : CutList) → k < REGISTERS → AreUncut slots others → IsByteOf registers_of slots k others start all.devices (get_or bytes k 0)) → AreBytesOf registers_of REGISTERS all a cuts first bytes
registers_read all a slots cuts first bytes long are uncut each k j l m = byte_read registers_of all a slots cuts (first + 9 * k) k (get_or bytes k 0) long are (each k (first + 9 * k) cuts l uncut) j m

-- the first registers are pulled low
pub record PulledSoFar (old registers : List ℕ) (n : ℕ) (bytes : List ℕ) : Type 0 where
  pub long : length bytes ≡ REGISTERS
  pub pulled : (k : ℕ) → k < n → get_or bytes k 0 ≡ bit_and (get_or old k 0) (get_or registers k 0)
  pub others : (k : ℕ) → n ≤ k → get_or bytes k 0 ≡ get_or old k 0
