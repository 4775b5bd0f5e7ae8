use Rattle.std.proofs.Common.{◌≡◌, ap, sym, subst, ◌∙◌}
use Rattle.i3c_base.specs.declared.device.LegacyTarget.{LegacyTarget}
use Rattle.i3c_model.specs.Views.{IsWithinPlaces, state_of}
use Rattle.i3c_model.proofs.States.{target_absent, target_written, within_target}
use Rattle.i3c_model.proofs.plain.Plain.overwrite_target.Goals.{in-Some, in_default}
use Rattle.i3c_model.proofs.plain.Plain.overwrite_target.Goals as goal

pub invariant_of-self : goal.invariant_of-self
invariant_of-self c = elim c.match-get_mut.branch [
  | in-Some w ↦
      let new : LegacyTarget = record w.in-Some.target.now { registers = w.overwrite.new.registers } in
      subst IsWithinPlaces (sym w.self-inside-is)
      (within_target c.self.inside c.args.self.now c.self.view_is c.self.invariant (c.get_mut.follows.lender new) c.args.at w.in-Some.target.now new (c.get_mut.follows.holds new) w.in-Some.ensures.value)
  | in_default w ↦
      let same : c.match-get_mut.self-inside ≡ c.self.inside = w.self-inside-is ∙ ap (λ m. record c.self.inside { legacy = m }) c.get_mut.follows.holds-at-none in
      subst IsWithinPlaces (sym same) c.self.invariant
]

pub returns : goal.returns
returns c = elim c.match-get_mut.branch [
  | in-Some w ↦
      let new : LegacyTarget = record w.in-Some.target.now { registers = w.overwrite.new.registers } in
      ap state_of w.self-inside-is
      ∙ target_written c.self.inside c.args.self.now c.self.view_is c.self.invariant (c.get_mut.follows.lender new) c.args.at w.in-Some.target.now new c.args.bytes.now (c.get_mut.follows.holds new) w.in-Some.ensures.value
      (ap (λ rs. record w.in-Some.target.now { registers = rs }) w.overwrite.ensures)
  | in_default w ↦
      let same : c.match-get_mut.self-inside ≡ c.self.inside = w.self-inside-is ∙ ap (λ m. record c.self.inside { legacy = m }) c.get_mut.follows.holds-at-none in
      ap state_of same ∙ (c.self.view_is ∙ target_absent c.self.inside c.args.self.now c.self.view_is c.self.invariant c.args.at c.args.bytes.now (sym w.in_default.ensures.value))
]
