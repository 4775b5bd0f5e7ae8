use Rattle.std.proofs.Common.{◌≡◌, ◌∙◌, ◌<◌, ◌≤◌, All, Some, length, true≢false, ap, sym, subst, refl, arith}
use Rattle.std.proofs.lemmas.List.{take_all}
use Rattle.std.proofs.lemmas.List.Elements.{All-more}
use Rattle.clap.specs.Words.{subcommand_name_of}
use Rattle.i3c_task.specs.Commands.{name_of}
use Rattle.i3c_task.specs.declared.verb.Usage.{Usage}
use Rattle.i3c_task.proofs.Tables.{each_verb, given_as, named_so}
use Rattle.i3c_task.proofs.task.verb_given.Goals as goal

pub returns : goal.returns
returns c =
    let usages = c.usages-usage-items.result.now in
    let end : length usages ≤ c.loop-usage.usage-index = omega arith in
    each_verb (λ verb. subcommand_name_of c.args.matches.now ≡ Some (name_of verb) → ⊥) usages c.usages-usage-items.ensures.verbs
    (subst (All (λ (usage : Usage). subcommand_name_of c.args.matches.now ≡ Some (name_of usage.verb) → ⊥)) (take_all c.loop-usage.usage-index usages end) c.loop-usage.invariant)

pub returns-in-Some : goal.returns-in-Some
returns-in-Some c =
    let usages = c.usages-usage-items.result.now in
    let i = c.loop-usage.usage-index in
    let below : i < length usages = omega arith in
    let names = named_so usages c.usages-usage-items.ensures.verbs c.usages-usage-items.ensures.names in
    given_as c.args.matches.now _ _ (c.in-Some.ensures.found.0 refl ∙ ap Some (names i _ below)) c.in-Some.ensures.rows

pub loop-usage-preserved : goal.loop-usage-preserved
loop-usage-preserved c =
    let usages = c.usages-usage-items.result.now in
    let i = c.loop-usage.usage-index in
    let below : i < length usages = omega arith in
    let names = named_so usages c.usages-usage-items.ensures.verbs c.usages-usage-items.ensures.names in
    All-more (λ (usage : Usage). subcommand_name_of c.args.matches.now ≡ Some (name_of usage.verb) → ⊥) usages i _ below c.loop-usage.invariant
    (λ named. absurd (true≢false (sym (c.in_default.ensures.found.1 (named ∙ sym (ap Some (names i _ below)))))))
