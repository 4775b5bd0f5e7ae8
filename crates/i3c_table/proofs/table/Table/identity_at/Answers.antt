use Rattle.std.proofs.Common.{◌∙◌, ap, sym, Some, None}
use Rattle.std.proofs.lemmas.Bool.{cond-false, cond-true}
use Rattle.i3c_base.specs.State.{entry_in, kept_of}
use Rattle.i3c_base.specs.Sets.{is_in}
use Rattle.i3c_table.proofs.StoredLaws.{identity_is, kept_stored, small_whole}
use Rattle.i3c_table.proofs.table.Table.identity_at.Goals as goal

pub returns-then-not-has : goal.returns-then-not-has
returns-then-not-has c =
    let inside = c.self.inside in
    let kept = kept_stored inside.held.0 inside.kept.0 inside.registers inside.numbers c.args.address (small_whole _ _ _ c.self.invariant.0) c.self.invariant.0.among in
    let out = sym c.if-not-has.ensures in
    sym (ap (λ t. kept_of (entry_in t.given c.args.address)) (sym c.self.view_is) ∙ (kept ∙ cond-false (is_in inside.kept.0 c.args.address) _ None out))

pub returns : goal.returns
returns c =
    let inside = c.self.inside in
    let kept = kept_stored inside.held.0 inside.kept.0 inside.registers inside.numbers c.args.address (small_whole _ _ _ c.self.invariant.0) c.self.invariant.0.among in
    let has = sym c.if-not-has.ensures in
    sym (ap (λ t. kept_of (entry_in t.given c.args.address)) (sym c.self.view_is) ∙ (kept ∙ (cond-true (is_in inside.kept.0 c.args.address) _ None has
    ∙ sym (ap Some (identity_is c.from_number.result _ c.from_number.ensures.in_range (rw c.get.ensures.same at c.from_number.ensures.same))))))
