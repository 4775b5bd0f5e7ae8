-- The list of the table is kept and told, and what is kept is a copy.
use Rattle.std.proofs.Common.{◌≡◌, ◌∙◌, ◌+◌, ℕ, Some, false, true, ap, arith, count_by, is_some, map, option_map, refl, subst, sym}
use Rattle.std.proofs.lemmas.Bool.{eq-eqb}
use Rattle.i3c_base.specs.declared.device.LegacyTarget.{LegacyTarget}
use Rattle.i3c_base.specs.Covered.{IsCopy, Table, lvrs}
use Rattle.i3c_base.specs.Frames.{active_has, list_bits}
use Rattle.i3c_base.specs.State.{Held, device_at, unkept}
use Rattle.i3c_deftgts.specs.Copies.{table_of}
use Rattle.i3c_deftgts.specs.Entries.{entries_of}
use Rattle.i3c_frame.specs.Taps.{Tells}
use Rattle.i3c_deftgts.specs.Layout.{list_bytes, Carry}
use Rattle.i3c_bus.specs.Parts.{state_of}
use Rattle.i3c_bus.specs.Whole.{the_table}
use Rattle.i3c_bus.specs.Wire.{IsListPart}
use Rattle.i3c_bus.specs.Readings.{address_of}
use Rattle.i3c_bus.proofs.Listing.{copy_written, count_mapped, tellable}
use Rattle.i3c_bus.proofs.Resetting.{has_own, own_address}
use Rattle.i3c_bus.proofs.Seen.{seen}
use Rattle.i3c_step.specs.Sound.{IsSound}
use Rattle.i3c_step.proofs.Soundness.{sound_list}
use Rattle.i3c_bus.proofs.bus.Bus.send_list.Goals as goal

pub rewrite-requires : goal.rewrite-requires
rewrite-requires g c =
    let slot : c.active.result ≡ c.self.inside.active = c.active.ensures ∙ ap (λ (h : Held). h.state.active) (sym c.self.view_is) in
    let own : address_of (device_at (seen c.self.inside) c.self.inside.active) ≡ Some c.in-Some.own =
    ap (λ (s : ℕ). address_of (device_at (seen c.self.inside) s)) (sym slot) ∙ (ap (λ (h : Held). address_of (device_at h.state c.active.result)) c.self.view_is ∙ (sym c.address.ensures ∙ c.in-Some.is)) in
    let d = own_address (seen c.self.inside) c.in-Some.own own in
    let used = c.self.invariant.sound.addresses.used c.self.inside.active c.in-Some.own d.0 d.1 d.2 in
    ap is_some used.1

pub invariant_of-self : goal.invariant_of-self
invariant_of-self g c = record {
  sound = subst IsSound (λ t. state_of c.self.inside.devices c.self.inside.raised c.self.inside.active (sym c.mark_listed.ensures t) c.self.inside.legacy c.self.inside.in_session c.self.inside.records.items) (sound_list (seen c.self.inside) c.self.invariant.sound);
  covered = (refl, ap (λ (t : Table). t.legacy) c.mark_listed.ensures ∙ c.self.invariant.covered.1, refl, refl);
  copied = λ listed.
      let slot : c.active.result ≡ c.self.inside.active = c.active.ensures ∙ ap (λ (h : Held). h.state.active) (sym c.self.view_is) in
      let own : address_of (device_at (seen c.self.inside) c.self.inside.active) ≡ Some c.in-Some.own =
      ap (λ (s : ℕ). address_of (device_at (seen c.self.inside) s)) (sym slot) ∙ (ap (λ (h : Held). address_of (device_at h.state c.active.result)) c.self.view_is ∙ (sym c.address.ensures ∙ c.in-Some.is)) in
      let owns : active_has (seen c.self.inside) c.in-Some.own ≡ true = has_own (seen c.self.inside) c.in-Some.own c.in-Some.own own ∙ eq-eqb c.in-Some.own c.in-Some.own refl in
      let copy : IsCopy (seen c.self.inside) (table_of c.rewrite.new.self) = copy_written (seen c.self.inside) c.self.inside.table c.rewrite.new.self c.self.invariant.covered c.rewrite.ensures.copied in
      let entries : entries_of c.self.inside.table c.in-Some.own ≡ entries_of (record { given = c.mark_listed.new.self.given; legacy = lvrs (seen c.self.inside); declared = c.self.inside.table.declared; listed = c.mark_listed.new.self.listed }) c.in-Some.own =
      λ t. entries_of (record { given = (sym c.mark_listed.ensures t).given; legacy = c.self.invariant.covered.1 t; declared = c.self.inside.table.declared; listed = false }) c.in-Some.own in
      ((copy.0 ∙ ap (λ (t : Table). map (option_map unkept) t.given) (sym c.mark_listed.ensures), copy.1), (c.in-Some.own, owns, c.rewrite.ensures.entries ∙ entries), c.rewrite.ensures.read (tellable (seen c.self.inside) c.self.inside.table c.in-Some.own c.self.invariant.sound.addresses refl));
}

pub returns-clause-told : goal.returns-clause-told
returns-clause-told g c =
    let slot : c.active.result ≡ c.self.inside.active = c.active.ensures ∙ ap (λ (h : Held). h.state.active) (sym c.self.view_is) in
    let own : address_of (device_at (seen c.self.inside) c.self.inside.active) ≡ Some c.in-Some.own =
    ap (λ (s : ℕ). address_of (device_at (seen c.self.inside) s)) (sym slot) ∙ (ap (λ (h : Held). address_of (device_at h.state c.active.result)) c.self.view_is ∙ (sym c.address.ensures ∙ c.in-Some.is)) in
    let owns : active_has (seen c.self.inside) c.in-Some.own ≡ true = has_own (seen c.self.inside) c.in-Some.own c.in-Some.own own ∙ eq-eqb c.in-Some.own c.in-Some.own refl in
    let wire = c.tell_list.ensures in
    let entries : c.rewrite.new.self ≡ entries_of (the_table (seen c.self.inside)) c.in-Some.own =
    c.rewrite.ensures.entries ∙ (λ t. entries_of (record { given = c.self.inside.table.given; legacy = c.self.invariant.covered.1 t; declared = c.self.inside.table.declared; listed = c.self.inside.table.listed }) c.in-Some.own) in
    subst (λ (h : Held). Tells g.T.Tap.note_gives c.args.tap.now c.tell_list.new.tap (IsListPart h.state)) c.self.view_is
    (wire.0, wire.1, (wire.2.0, (c.in-Some.own, owns, subst (λ es. Carry (list_bytes es) wire.2.0) entries wire.2.1), wire.2.2))

pub returns-clause-bits : goal.returns-clause-bits
returns-clause-bits g c =
    let legacy : count_by is_some c.self.inside.table.legacy ≡ count_by is_some c.self.inside.legacy =
    ap (count_by is_some) c.self.invariant.covered.1 ∙ count_mapped (λ (x : LegacyTarget). x.lvr) c.self.inside.legacy in
    let long : c.len.result ≡ count_by is_some c.self.inside.table.given + count_by is_some c.self.inside.legacy =
    omega (arith, c.len.ensures, c.rewrite.ensures.long, legacy) in
    let bits = ap (λ (h : Held). list_bits h.state) c.self.view_is in
    omega (arith, long, bits, c.len.ensures, c.rewrite.ensures.few)
