-- What the contest says of the hearers.
use Rattle.std.proofs.Common.{◌≡◌, ◌==◌, ℕ, not, false, ◌∙◌, ap, sym}
use Rattle.std.specs.List.{list_all, list_any}
use Rattle.i3c_base.specs.Cutting.{lost_by}
use Rattle.i3c_entdaa.proofs.ContestLaws.{contest_of, ranged_of, takers_of}
use Rattle.i3c_entdaa.proofs.identities.read_contest.Goals as goal

pub returns-clause-contest : goal.returns-clause-contest
returns-clause-contest c st same =
    let keys = c.contend.ensures in
    let contest = c.contest-outcome.ensures in
    let some_left : list_all (λ (e : ℕ × ℕ). lost_by c.args.cuts.now 0 e.0) c.contend.new.keys.items ≡ false =
    ap (list_all (λ (e : ℕ × ℕ). lost_by c.args.cuts.now 0 e.0)) (sym c.deref.ensures.0) ∙ (sym c.are_lost.ensures ∙ c.if-are_lost.false) in
    contest_of st c.args.devices.now c.args.cuts.now c.counted_from.result c.contend.new.keys.items c.contest-outcome.result.winners.items c.contest-outcome.result.bits c.is_left.result same c.counted_from.ensures
    keys.exact keys.sound keys.complete some_left contest.winners contest.least contest.none contest.each_bit contest.in_width
    (c.is_left.ensures ∙ ap (list_any (λ s. not (lost_by c.args.cuts.now 73 s))) c.deref-2.ensures.0)

pub returns-clause-takers : goal.returns-clause-takers
returns-clause-takers c =
    let keys = c.contend.ensures in
    takers_of c.args.devices.now c.args.cuts.now c.counted_from.result c.contend.new.keys.items c.contest-outcome.result.winners.items c.contest-outcome.result.bits c.of.result c.left.result c.counted_from.ensures
    keys.sound keys.complete c.contest-outcome.ensures.winners (λ s l. c.of.ensures s l ∙ ap (list_any (λ t. t == s)) c.deref-3.ensures.0) c.left.ensures

pub returns-clause-ranged : goal.returns-clause-ranged
returns-clause-ranged c = let keys = c.contend.ensures in ranged_of c.args.devices.now c.contend.new.keys.items keys.sound keys.complete
