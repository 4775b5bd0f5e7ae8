use Rattle.std.proofs.Common.{◌≡◌, ◌+◌, ◌<◌, ◌++◌, ◌∙◌, ap, append-nil, append_assoc, arith, subst, sym, if◌then◌else◌, false, ◌==◌, ℕ}
use Rattle.std.proofs.lemmas.Grind.{common_steps}
use Rattle.i3c_base.specs.declared.range.TheConstants.{SLOTS}
use Rattle.i3c_device.specs.Sets.{IsLowestOf, has}
use Rattle.i3c_script.specs.Pieces.{asker_of, askers_below}
use Rattle.i3c_script.proofs.Asked.{AreLeft, all_left, asker_more, next_asks, next_is_silent, none_asked, silent_more}
use Rattle.i3c_script.proofs.show.push_names.Goals.{then-is_lowest+in_ok-push_name, else-is_lowest}
use Rattle.i3c_script.proofs.show.push_names.Goals as goal

pub loop-number-init : goal.loop-number-init
loop-number-init g c =
    let st = c.args.bus.now.state in
    let r = c.args.request.now in
    (sym (ap (λ l. c.args.askers.now.items ++ l) (none_asked st (g.N.Naming.kept.in_slot c.args.names.now) r) ∙ append-nil c.args.askers.now.items), all_left st r c.args.slots c.requires)

pub loop-number-preserved : goal.loop-number-preserved
loop-number-preserved g c =
    let st = c.args.bus.now.state in
    let names = g.N.Naming.kept.in_slot c.args.names.now in
    let r = c.args.request.now in
    let n = c.loop-number.number in
    let left = c.loop-number.left in
    let old = c.args.askers.now.items in
    let (text, are) = c.loop-number.invariant in
    let same : c.unwrap-slot.result ≡ n = grind (arith, common_steps) in
    let within : n < SLOTS = grind (arith, common_steps) in
    let asker = asker_of (names n) in
    elim c.if-is_lowest.branch [
      | then-is_lowest+in_ok-push_name w ↦ (
          let lowest = subst (λ k. IsLowestOf left k) same (c.is_lowest.ensures.lowest w.if-is_lowest.true) in
          let others = w.but-left.result in
          let but : (s : ℕ) → s < SLOTS → has others s ≡ (if s == n then false else has left s) = subst (λ k. (s : ℕ) → s < SLOTS → has others s ≡ (if s == k then false else has left s)) same w.but-left.ensures in
          let asks = next_asks st r n left others within are lowest but in
          let told : w.push_name.new.askers.items ≡ c.loop-number.askers.items ++ asker = subst (λ k. w.push_name.new.askers.items ≡ c.loop-number.askers.items ++ asker_of (names k)) same w.in_ok-push_name.ensures in (
            ap (λ v. v.items) w.askers-is ∙ told ∙ ap (λ t. t ++ asker) text ∙ append_assoc old (askers_below st names r n) asker ∙ ap (λ l. old ++ l) (sym (asker_more st names r n asks.0)),
            subst (AreLeft st r (n + 1)) (sym w.left-is) asks.1,
          ))
      | else-is_lowest w ↦ (
          let silent = next_is_silent st r n left within are (λ low. c.is_lowest.ensures.other w.if-is_lowest.false (subst (λ k. IsLowestOf left k) (sym same) low)) in (
            ap (λ v. v.items) w.askers-is ∙ text ∙ ap (λ l. old ++ l) (sym (silent_more st names r n silent.0)),
            subst (AreLeft st r (n + 1)) (sym w.left-is) silent.1,
          ))
    ]
