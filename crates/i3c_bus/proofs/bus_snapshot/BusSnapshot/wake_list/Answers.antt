-- A list that is current has the entries of the table, and gives a copy of it.
use Rattle.std.proofs.Common.{◌≡◌, ◌∙◌, IsSome, Some, true, ap, is_some, refl, subst, sym}
use Rattle.std.proofs.lemmas.Bool.{both_ways, eq-eqb}
use Rattle.i3c_base.specs.Frames.{active_has}
use Rattle.i3c_base.specs.State.{State, device_at, entry_in}
use Rattle.i3c_deftgts.specs.Entries.{entries_of}
use Rattle.i3c_bus.specs.Parts.{state_of}
use Rattle.i3c_bus.specs.Readings.{address_of}
use Rattle.i3c_bus.specs.Whole.{the_table}
use Rattle.i3c_bus.proofs.Listing.{copy_written, tellable}
use Rattle.i3c_bus.proofs.Resetting.{has_own, own_address}
use Rattle.i3c_bus.proofs.bus_snapshot.BusSnapshot.wake_list.Goals as goal

pub returns-then-not-list_current : goal.returns-then-not-list_current
returns-then-not-list_current c listed = absurd (both_ways _ (sym c.if-not-list_current.ensures) (c.requires.2 ∙ listed))

pub rewrite-requires : goal.rewrite-requires
rewrite-requires c =
    let i = c.self.inside in
    let st = state_of i.devices i.raised i.active i.table i.legacy i.in_session i.records.items in
    let own : address_of (device_at st i.active) ≡ Some c.in-Some.own = sym c.address.ensures ∙ c.in-Some.is in
    let d = own_address st c.in-Some.own own in
    let used = c.self.invariant.sound.addresses.used i.active c.in-Some.own d.0 d.1 d.2 in
    subst (λ g. IsSome (entry_in g c.in-Some.own)) (ap (λ (st : State). st.given) c.self.view_is ∙ sym c.requires.0) (ap is_some used.1)

pub returns : goal.returns
returns c listed =
    let i = c.self.inside in
    let st = state_of i.devices i.raised i.active i.table i.legacy i.in_session i.records.items in
    let own : address_of (device_at st i.active) ≡ Some c.in-Some.own = sym c.address.ensures ∙ c.in-Some.is in
    let owns : active_has st c.in-Some.own ≡ true = has_own st c.in-Some.own c.in-Some.own own ∙ eq-eqb c.in-Some.own c.in-Some.own refl in
    let entries : entries_of c.args.table.now c.in-Some.own ≡ entries_of (the_table c.args.self.now) c.in-Some.own =
    λ t. entries_of (record { given = c.requires.0 t; legacy = c.requires.1 t; declared = c.requires.3 t; listed = c.requires.2 t }) c.in-Some.own in (
      copy_written c.args.self.now c.args.table.now c.rewrite.new.self c.requires c.rewrite.ensures.copied,
      (c.in-Some.own, subst (λ (s : State). active_has s c.in-Some.own ≡ true) c.self.view_is owns, c.rewrite.ensures.entries ∙ entries),
      c.rewrite.ensures.read (tellable st c.args.table.now c.in-Some.own c.self.invariant.sound.addresses (c.requires.0 ∙ ap (λ (s : State). s.given) (sym c.self.view_is))),
    )
