-- The name that had the slot is gone, unless it is the one that is given.
use Rattle.std.proofs.Common.{sym, subst}
use Rattle.std.specs.Option.{IsSome}
use Rattle.i3c_lines.specs.Naming.{Empties, GivesAlone, place_named}
use Rattle.i3c_lines.specs.declared.names.Names.{Names}
use Rattle.i3c_lines.specs.declared.names.Place.{Place}
use Rattle.i3c_lines.proofs.NameLaws.{IsTested, given_after, given_again, known_after}
use Rattle.i3c_lines.proofs.names.Names.give_slot.Goals as goal
use Rattle.i3c_lines.proofs.names.Names.give_slot.Goals.{then-not-is_in+in_ok-leave_slot, else-not-is_in}

pub returns-clause-known : goal.returns-clause-known
returns-clause-known c = λ other known. elim c.if-not-is_in.branch [
  | then-not-is_in+in_ok-leave_slot w ↦
      known_after _ (Place.Slot c.args.slot) _ _ (c.in_ok-insert.ensures.updates.0 other) (subst (λ (names : Names). IsSome (place_named names other)) (sym w.self-is) (w.leave_slot.ensures.known other known))
  | else-not-is_in w ↦
      known_after _ (Place.Slot c.args.slot) _ _ (c.in_ok-insert.ensures.updates.0 other) (subst (λ (names : Names). IsSome (place_named names other)) (sym w.self-is) known)
]

pub returns-clause-given : goal.returns-clause-given
returns-clause-given c =
    let new : Names = record { places = c.insert.new.self; slots = c.if-not-is_in.self.slots; legacies = c.if-not-is_in.self.legacies } in
    elim c.if-not-is_in.branch [
      | then-not-is_in+in_ok-leave_slot w ↦
          let emptied : Empties c.args.self.now w.leave_slot.new.self c.args.slot (Place.Slot c.args.slot) =
          subst (λ place. Empties c.args.self.now w.leave_slot.new.self place (Place.Slot c.args.slot)) c.index-index.ensures.same w.in_ok-leave_slot.ensures.emptied in
          given_after c.args.self.now c.if-not-is_in.self new c.args.name.now c.args.slot (subst (λ (names : Names). Empties c.args.self.now names c.args.slot (Place.Slot c.args.slot)) (sym w.self-is) emptied)
          (λ other. c.in_ok-insert.ensures.updates.0 other)
      | else-not-is_in w ↦
          let tested : IsTested c.args.self.now c.args.slot c.args.name.now c.is_in.result =
          subst (λ place. IsTested c.args.self.now place c.args.name.now c.is_in.result) c.index-index.ensures.same c.is_in.ensures in
          given_again c.args.self.now new c.args.name.now c.args.slot c.is_in.result w.if-not-is_in.false tested
          (subst (λ (names : Names). GivesAlone names new c.args.name.now (Place.Slot c.args.slot)) w.self-is (λ other. c.in_ok-insert.ensures.updates.0 other))
    ]
