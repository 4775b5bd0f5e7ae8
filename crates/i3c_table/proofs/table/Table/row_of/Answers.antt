use Rattle.std.proofs.Common.{◌≡◌, ◌∙◌, Some, ap, arith, get_or, subst, length, refl, sym}
use Rattle.i3c_table.specs.Stored.{no_registers}
use Rattle.std.proofs.lemmas.List.{get_or_default}
use Rattle.i3c_table.specs.declared.registers.Registers.{Registers}
use Rattle.i3c_base.specs.State.{entry_in, kept_of}
use Rattle.i3c_table.proofs.StoredLaws.{entry_stored, length-stored, out_of, row_stored, small_whole}
use Rattle.i3c_table.proofs.table.Table.row_of.Goals as goal

pub returns-then-not-has-clause-found : goal.returns-then-not-has-clause-found
returns-then-not-has-clause-found c =
    let inside = c.self.inside in
    let out = sym c.if-not-has.ensures in
    ap (λ t. entry_in t.given c.args.address) (sym c.self.view_is) ∙ (entry_stored inside.held.0 inside.kept.0 inside.registers inside.numbers c.args.address (small_whole _ _ _ c.self.invariant.0)
    ∙ out_of inside.held.0 inside.kept.0 inside.registers inside.numbers c.args.address out)

pub returns-then-not-has-clause-all_places : goal.returns-then-not-has-clause-all_places
returns-then-not-has-clause-all_places c = ap (λ t. length t.given) (sym c.self.view_is) ∙ length-stored _ _ _ _

pub returns-clause-found : goal.returns-clause-found
returns-clause-found c =
    let inside = c.self.inside in
    let a = c.args.address in
    let has = sym c.if-not-has.ensures in
    let read : get_or inside.registers a no_registers ≡ get_or inside.registers a c.index-self-get.result = get_or_default inside.registers a no_registers c.index-self-get.result (omega arith) in
    let its : c.address.result ≡ (get_or inside.registers a c.index-self-get.result).fixed = c.address.ensures ∙ ap (λ i. (get_or inside.registers i c.index-self-get.result).fixed) c.get.ensures.same in
    rw c.get.ensures.same (
      refl,
      ap (λ t. entry_in t.given a) (sym c.self.view_is)
          ∙ (row_stored inside.held.0 inside.kept.0 inside.registers inside.numbers a c.identity_at.result (small_whole _ _ _ c.self.invariant.0) c.self.invariant.0.among has
          (c.identity_at.ensures ∙ ap (λ t. kept_of (entry_in t.given a)) (sym c.self.view_is))
          ∙ (ap (λ (r : Registers). Some (record { bcr = r.bcr; dcr = r.dcr; kept = c.identity_at.result; fixed = r.fixed })) read
          ∙ ap (λ f. Some (record { bcr = (get_or inside.registers a c.index-self-get.result).bcr; dcr = (get_or inside.registers a c.index-self-get.result).dcr; kept = c.identity_at.result; fixed = f })) (sym its))),
    )

pub returns-clause-all_places : goal.returns-clause-all_places
returns-clause-all_places c = ap (λ t. length t.given) (sym c.self.view_is) ∙ length-stored _ _ _ _
