use Rattle.std.proofs.Common.{◌≡◌, Some, subst, ◌∙◌}
use Rattle.std.specs.BTreeMap.{Updates}
use Rattle.std.specs.Ordering.{nat_cmp}
use Rattle.i3c_base.specs.Frames.{released_at}
use Rattle.i3c_base.specs.State.{Entry, kept_entry_of}
use Rattle.i3c_model.specs.Views.{IsTableOf}
use Rattle.i3c_model.proofs.TableLaws.{table_put}
use Rattle.i3c_model.proofs.plain.Plain.settled.Goals as goal

pub returns : goal.returns
returns c =
    let st = c.args.self.now in
    let identity = c.args.identity.now in
    let before = subst (λ o. IsTableOf (released_at o st.given) c.in_ok-table.table) c.address_kept.ensures.known c.in_ok-table.ensures in
    let entry : c.kept-entry.result ≡ kept_entry_of st.declared identity = c.kept-entry.ensures ∙ (λ t. record (kept_entry_of st.declared identity) { fixed = c.fixed_of.ensures t }) in
    let put = subst (λ (e : Entry). Updates nat_cmp c.in_ok-table.table c.insert.new.self c.args.new (Some e)) entry c.in_ok-insert.ensures.updates in
    table_put _ c.in_ok-table.table c.insert.new.self c.args.new (kept_entry_of st.declared identity) before c.get.ensures.in_range put
