use Rattle.std.proofs.Common.{◌≡◌, ◌∙◌, ◌-◌, ap, arith, inl, inr, length, refl, subst, sym}
use Rattle.i3c_orders.specs.Shares.{IsShare}
use Rattle.i3c_program.specs.Choosing.{run_in, ways_in}
use Rattle.i3c_program.proofs.Newest.{no_line, some_ways}
use Rattle.i3c_program.proofs.selection.Sharing.choose.Goals.{then-ways-eq0-via-then-ways-eq0, then-ways-eq0-via-else-ways-eq0+then-is_whole}
use Rattle.i3c_program.proofs.selection.Sharing.choose.Goals as goal

pub returns-then-ways-eq0 : goal.returns-then-ways-eq0
returns-then-ways-eq0 g c = elim c.then-ways-eq0.branch [
  | then-ways-eq0-via-then-ways-eq0 w ↦ inl (inl (sym c.choices.ensures ∙ no_line c.choices.result.now (sym c.ways_in-ways.ensures ∙ w.if-ways-eq0.true)), refl, refl, refl)
  | then-ways-eq0-via-else-ways-eq0+then-is_whole w ↦ inl (inr (w.is_whole.ensures.0 w.if-is_whole.true), refl, refl, refl)
]

pub returns : goal.returns
returns g c =
    let run = run_in c.args.orders.now in
    let ways : c.ways_in-ways.result ≡ ways_in run = c.ways_in-ways.ensures ∙ ap ways_in c.choices.ensures in
    let (count, long) = some_ways run (λ none. c.if-ways-eq0.false (ways ∙ none)) in
    inr (record {
      share = c.share-share.result;
      is = subst (λ n. IsShare c.args.self.now.behind n c.share-share.result) ways c.share-share.ensures;
      takes = c.choose.ensures;
      behind = refl;
      parted = record { place = length c.choices-2.result.now - 1; least = c.share-share.result.least };
      last = refl;
      place = omega (arith, ap length c.choices-2.ensures, long);
      least = refl;
    })
