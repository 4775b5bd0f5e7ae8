use Rattle.std.proofs.Common.{ap, inl, inr, sym, ◌∙◌, is_lt}
use Rattle.std.proofs.lemmas.Bool.{false≢true}
use Rattle.i3c_base.specs.Cutting.{lost_by}
use Rattle.i3c_model.proofs.Hearing.{identity_cmp, left_wins, less_from, lost_beats, none_beaten, not_beaten, some_left}
use Rattle.i3c_model.proofs.Stepping.{lost_is}
use Rattle.i3c_model.proofs.plain.Plain.winner.Goals as goal
use Rattle.i3c_model.proofs.plain.Plain.winner.Goals.{in_default-via-in-Some+then-eq+else-is_lt, in_default-via-in-Some+else-eq, in_default-via-in_default}

pub returns-in-Some-clause-lawful : goal.returns-in-Some-clause-lawful
returns-in-Some-clause-lawful c =
    let lost = lost_by c.args.cuts.now 73 in
    let less = less_from (identity_cmp c.in-Some.lost c.in_ok-left.left) (sym (c.is_lt.ensures ∙ ap is_lt c.cmp.ensures) ∙ c.if-is_lt.true) in
    inr (lost_beats c.args.self.now lost c.in-Some.lost c.in_ok-left.left c.in-Some.ensures c.in_ok-left.ensures less)

pub returns-in_default-clause-lawful : goal.returns-in_default-clause-lawful
returns-in_default-clause-lawful c = left_wins c.args.self.now (lost_by c.args.cuts.now 73) c.in_ok-left.left c.in_ok-left.ensures

pub returns-in_default-clause-chosen : goal.returns-in_default-clause-chosen
returns-in_default-clause-chosen c =
    let st = c.args.self.now in
    let lost = lost_by c.args.cuts.now 73 in
    let left = c.in_ok-left.left in
    λ is h. elim h [
      | inl all ↦ some_left st lost left c.in_ok-left.ensures all
      | inr beaten ↦ elim c.in_default.branch [
        | in_default-via-in-Some+then-eq+else-is_lt w ↦ not_beaten st lost w.in-Some.lost left w.in-Some.ensures c.in_ok-left.ensures (sym (w.is_lt.ensures ∙ ap is_lt w.cmp.ensures) ∙ w.if-is_lt.false) beaten
        | in_default-via-in-Some+else-eq w ↦ false≢true (sym (sym w.eq.ensures ∙ w.if-eq.false) ∙ lost_is c.args.choice is)
        | in_default-via-in_default w ↦ none_beaten st lost w.in_default.ensures beaten
      ]
    ]
