-- The mask's bit is set, and the earlier bit is in the slot's place.
use Rattle.std.proofs.Common.{◌≡◌, ◌∙◌, ap, arith}
use Rattle.i3c_base.specs.declared.range.TheConstants.{SLOTS}
use Rattle.i3c_base.specs.Cutting.{cut_of, earlier}
use Rattle.i3c_base.proofs.CutLaws.{set_fits, written_set}
use Rattle.i3c_base.proofs.cuts.Cuts.add.Goals as goal
use Rattle.i3c_base.proofs.cuts.Cuts.add.Goals.{in-Some, in-None}

pub returns : goal.returns
returns c =
    let first : c.match-at.first ≡ earlier (cut_of c.args.self.now c.args.slot) c.args.bit =
    elim c.match-at.branch [
      | in-Some w ↦ w.first-is ∙ (w.min-first.ensures ∙ ap (λ o. earlier o c.args.bit) w.in-Some.ensures)
      | in-None w ↦ w.first-is ∙ ap (λ o. earlier o c.args.bit) w.in-None.ensures
    ] in
    written_set c.self.inside.cut c.self.inside.bits c.args.self.now c.index-index.result c.args.slot c.match-at.first _ c.self.view_is c.index-index.ensures.same (omega arith) (omega arith) first

pub invariant_of-self : goal.invariant_of-self
invariant_of-self c = set_fits SLOTS c.self.inside.cut c.index-index.result c.self.invariant (omega arith) (omega arith)
