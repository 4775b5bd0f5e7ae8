-- Two lists of records are the same where their slices are.
use Rattle.std.proofs.Common.{◌≡◌, ◌∙◌, Decides, rules}
use Rattle.std.specs.Cmp.Lexicographic.{pointwise}
use Rattle.std.proofs.lemmas.Slice.Eq.{slice_eq-Decides}
use Rattle.i3c_base.specs.declared.requests.Record.{Record}
use Rattle.i3c_base.specs.contracts.requests.RecordPartialEq.TheImpl.{eq-value}
use Rattle.i3c_bus.proofs.bus_snapshot.are_same.Goals as goal

same_record : (a b : Record) → Decides (eq-value.it a b) (a ≡ b)
same_record a b = search rules

pub returns : goal.returns
returns c =
    slice_eq-Decides same_record c.args.records.now.items c.args.others.now.items c.eq.result
    (c.eq.ensures ∙ (λ t. pointwise eq-value.it (c.as_slice.ensures.value t) (c.as_slice-2.ensures.value t)))
