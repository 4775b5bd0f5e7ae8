use Rattle.std.proofs.Common.{◌∙◌, Ok, ap, subst, sym}
use Rattle.i3c_wave.specs.declared.dump_word.Lead.{Lead}
use Rattle.i3c_wave.specs.Dumps.{Says, at_place, command_said, nothing, time_said}
use Rattle.i3c_wave.proofs.WordLaws.{led_by, no_word}
use Rattle.i3c_wave.proofs.dump.Dump.begin.Goals as goal

pub returns-in_default : goal.returns-in_default
returns-in_default c = no_word c.args.self.now c.args.at c.args.word.now c.in_default.len_below

pub returns-in-Command : goal.returns-in-Command
returns-in-Command c =
    let said = led_by c.args.self.now c.args.at c.args.word.now Lead.Command c.in-len1-up.len_at_least (sym c.in-Command.is ∙ c.lead_of.ensures) ∙ ap (λ command. command_said c.args.self.now command) (sym c.command_of.ensures) in
    subst (λ said. Says said c.begin_command.new.self c.begin_command.result) (sym said) c.begin_command.ensures

pub returns-in-Some : goal.returns-in-Some
returns-in-Some c =
    led_by c.args.self.now c.args.at c.args.word.now Lead.Time c.in-len1-up.len_at_least (sym c.in-Time.is ∙ c.lead_of.ensures)
    ∙ ap (λ time. time_said c.args.self.now c.args.at time) (sym c.number_of.ensures ∙ c.in-Some.is)

pub returns-in-None : goal.returns-in-None
returns-in-None c =
    led_by c.args.self.now c.args.at c.args.word.now Lead.Time c.in-len1-up.len_at_least (sym c.in-Time.is ∙ c.lead_of.ensures)
    ∙ ap (λ time. time_said c.args.self.now c.args.at time) (sym c.number_of.ensures ∙ c.in-None.is)

pub returns-in-Low : goal.returns-in-Low
returns-in-Low c =
    let said = led_by c.args.self.now c.args.at c.args.word.now Lead.Low c.in-len1-up.len_at_least (sym c.in-Low.is ∙ c.lead_of.ensures) in
    subst (λ said. Says said c.args.self.now c.coded.result) (sym said) c.coded.ensures

pub returns-in-High : goal.returns-in-High
returns-in-High c =
    let said = led_by c.args.self.now c.args.at c.args.word.now Lead.High c.in-len1-up.len_at_least (sym c.in-High.is ∙ c.lead_of.ensures) in
    subst (λ said. Says said c.args.self.now c.coded-in-High.result) (sym said) c.coded-in-High.ensures

pub returns-in-NoLevel : goal.returns-in-NoLevel
returns-in-NoLevel c =
    let said = led_by c.args.self.now c.args.at c.args.word.now Lead.NoLevel c.in-len1-up.len_at_least (sym c.in-NoLevel.is ∙ c.lead_of.ensures) in
    subst (λ said. Says said c.args.self.now c.coded-in-NoLevel.result) (sym said) c.coded-in-NoLevel.ensures

pub returns-in-Vector : goal.returns-in-Vector
returns-in-Vector c =
    led_by c.args.self.now c.args.at c.args.word.now Lead.Vector c.in-len1-up.len_at_least (sym c.in-Vector.is ∙ c.lead_of.ensures)
    ∙ ap (λ place. Ok (nothing (at_place c.args.self.now place))) (sym c.vector_place-self.ensures)

pub returns-in-Number : goal.returns-in-Number
returns-in-Number c = led_by c.args.self.now c.args.at c.args.word.now Lead.Number c.in-len1-up.len_at_least (sym c.in-Number.is ∙ c.lead_of.ensures)

pub returns-in-Other : goal.returns-in-Other
returns-in-Other c = led_by c.args.self.now c.args.at c.args.word.now Lead.Other c.in-len1-up.len_at_least (sym c.in-Other.is ∙ c.lead_of.ensures)
