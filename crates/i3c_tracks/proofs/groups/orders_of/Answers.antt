-- The orders of the ends so far and of those that are left are those of all.
use Rattle.std.proofs.Common.{◌≡◌, ◌∙◌, ◌<◌, ◌≤◌, ◌+◌, ◌^◌, ℕ, List, None, Option, Some, ap, arith, drop, length, rules, subst, sym}
use Rattle.std.proofs.lemmas.List.{drop_all}
use Rattle.std.proofs.lemmas.Grind.{common_steps}
use Rattle.i3c_explore.specs.declared.node.Node.{Node}
use Rattle.i3c_scene.specs.Scenes.{Seen}
use Rattle.i3c_tracks.specs.Groups.{LeadTo, group_of}
use Rattle.i3c_tracks.proofs.GroupLaws.{alike_more, lead_by_total, next_is, none_told, over_told, total, total_nil, unlike_more}
use Rattle.i3c_tracks.proofs.KeyLaws.{Tells, none_left, plus, plus_none}
use Rattle.i3c_tracks.proofs.groups.orders_of.Goals as goal
use Rattle.i3c_tracks.proofs.groups.orders_of.Goals.{then-eq+in_ok-ends+in_ok-orders, else-eq}

pub loop-index-init : goal.loop-index-init
loop-index-init c questions same = plus_none (total (group_of questions c.args.key.now c.args.ends.now))

pub returns : goal.returns
returns c questions same =
    let key = c.args.key.now in
    let ends = c.args.ends.now in
    let none = ap (λ (es : List (Node Seen)). total (group_of questions key es)) (drop_all c.loop-index.index ends c.loop-index-test.false) ∙ total_nil in
    let all = sym (c.loop-index.invariant questions same) ∙ ap (λ (rest : Option ℕ). plus (Some c.loop-index.orders) rest) none ∙ none_left c.loop-index.orders in
    lead_by_total (group_of questions key ends) (Some c.loop-index.orders) (subst (λ (t : Option ℕ). Tells t (Some c.loop-index.orders)) (sym all) (λ n is. is))

pub returns-in_err-ends : goal.returns-in_err-ends
returns-in_err-ends c questions same =
    let i = c.loop-index.index in
    let lt : i < length c.args.ends.now = c.loop-index-test.true in
    let within : i < length c.args.keys.now = omega (arith, c.requires) in
    let next = next_is c.args.keys.now questions c.args.ends.now i c.index-keys-index.result c.index-ends-index.result c.as_slice.result.now c.args.key.now c.loop-index.orders same within c.index-keys-index.is lt c.index-ends-index.is c.as_slice.ensures.value c.if-eq.ensures (c.loop-index.invariant questions same) in
    let none : c.index-ends-index.result.orders ≡ None = first_of (cc, search rules, grind (arith, common_steps)) in
    let told : c.from_residual.result ≡ None = first_of (search rules, grind (arith, common_steps)) in
    subst (λ (t : Option ℕ). LeadTo (group_of questions c.args.key.now c.args.ends.now) t) (sym told) (none_told questions c.args.ends.now c.args.key.now i c.index-ends-index.result c.loop-index.orders next none)

pub returns-in_err-orders : goal.returns-in_err-orders
returns-in_err-orders c questions same =
    let i = c.loop-index.index in
    let lt : i < length c.args.ends.now = c.loop-index-test.true in
    let within : i < length c.args.keys.now = omega (arith, c.requires) in
    let next = next_is c.args.keys.now questions c.args.ends.now i c.index-keys-index.result c.index-ends-index.result c.as_slice.result.now c.args.key.now c.loop-index.orders same within c.index-keys-index.is lt c.index-ends-index.is c.as_slice.ensures.value c.if-eq.ensures (c.loop-index.invariant questions same) in
    let own : c.index-ends-index.result.orders ≡ Some c.in_ok-ends.field-0 = first_of (cc, search rules, grind (arith, common_steps)) in
    let large : 2 ^ 64 ≤ c.loop-index.orders + c.in_ok-ends.field-0 = first_of (omega (arith, c.in_err-orders.ensures), grind (arith, common_steps)) in
    let told : c.from_residual-in_err-orders.result ≡ None = first_of (search rules, grind (arith, common_steps)) in
    subst (λ (t : Option ℕ). LeadTo (group_of questions c.args.key.now c.args.ends.now) t) (sym told) (over_told questions c.args.ends.now c.args.key.now i c.index-ends-index.result c.loop-index.orders c.in_ok-ends.field-0 next own large)

pub loop-index-preserved : goal.loop-index-preserved
loop-index-preserved c questions same =
    let i = c.loop-index.index in
    let lt : i < length c.args.ends.now = c.loop-index-test.true in
    let within : i < length c.args.keys.now = omega (arith, c.requires) in
    elim c.if-eq.branch [
      | then-eq+in_ok-ends+in_ok-orders w ↦
          let next = next_is c.args.keys.now questions c.args.ends.now i c.index-keys-index.result w.index-ends-index.result c.as_slice.result.now c.args.key.now c.loop-index.orders same within c.index-keys-index.is lt w.index-ends-index.is c.as_slice.ensures.value w.if-eq.ensures (c.loop-index.invariant questions same) in
          let own : w.index-ends-index.result.orders ≡ Some w.in_ok-ends.field-0 = first_of (cc, search rules, grind (arith, common_steps)) in
          let more : c.if-eq.orders ≡ c.loop-index.orders + w.in_ok-ends.field-0 = first_of (cc, search rules, grind (arith, common_steps)) in
          alike_more questions c.args.ends.now c.args.key.now i w.index-ends-index.result c.loop-index.orders w.in_ok-ends.field-0 c.if-eq.orders next own more
      | else-eq w ↦
          ap (λ (n : ℕ). plus (Some n) (total (group_of questions c.args.key.now (drop (i + 1) c.args.ends.now)))) w.orders-is
          ∙ unlike_more c.args.keys.now questions c.args.ends.now i c.index-keys-index.result c.as_slice.result.now c.args.key.now c.loop-index.orders same within c.index-keys-index.is lt c.as_slice.ensures.value w.if-eq.ensures (c.loop-index.invariant questions same)
    ]
