-- What neither part marks is quiet.
use Rattle.std.proofs.Common.{ap, inl, inr, option_copied, subst, sym, ◌-◌, suc}
use Rattle.std.specs.List.{All}
use Rattle.i3c_base.specs.Cutting.{CutList}
use Rattle.i3c_base.proofs.CutLaws.{none_uncut}
use Rattle.i3c_wires.specs.Contest.{cuts_in}
use Rattle.i3c_wires.specs.Masks.{is_at}
use Rattle.i3c_wires.specs.Turns.{IsQuiet}
use Rattle.i3c_wires.proofs.TurnLaws.{either, neither}
use Rattle.i3c_wires.proofs.turns.turns_of.Goals as goal

pub returns-in-Some-clause-quiet : goal.returns-in-Some-clause-quiet
returns-in-Some-clause-quiet c left low none =
    let parts = neither c.differing-differing.result c.cut_bits.result left none in
    let alike = c.differing-differing.ensures.alike left parts.0 in
    let uncut = c.cut_bits.ensures.uncut left low parts.1 in
    let Quiet : CutList → Type 0 = λ cuts. All (IsQuiet cuts c.args.width left c.args.first) c.args.keys.now in
    subst Quiet (sym (ap (λ o. cuts_in (option_copied o)) c.in-Some.is)) (λ k d m. record { uncut = uncut k d m; alike = alike k d m })

pub returns-in-Some-clause-within : goal.returns-in-Some-clause-within
returns-in-Some-clause-within c left one = elim (either c.differing-differing.result c.cut_bits.result left one) [ inl differs ↦ c.differing-differing.ensures.within left differs | inr is_cut ↦ c.cut_bits.ensures.within left is_cut ]

pub returns-in-None-clause-quiet : goal.returns-in-None-clause-quiet
returns-in-None-clause-quiet c left low none =
    let alike = c.differing-differing.ensures.alike left none in
    let Quiet : CutList → Type 0 = λ cuts. All (IsQuiet cuts c.args.width left c.args.first) c.args.keys.now in
    subst Quiet (sym (ap (λ o. cuts_in (option_copied o)) c.in-None.is)) (λ k d m. record { uncut = ap (is_at (c.args.width - suc left)) (none_uncut _); alike = alike k d m })
