-- A line without a form says what the same says in capitals.
use Rattle.std.proofs.Common.{◌∙◌, ◌++◌, ap, inl, inr, refl, subst, sym}
use Rattle.i3c_lines.specs.Capitals.{in_capitals}
use Rattle.i3c_lines.specs.declared.command.Command.{Command}
use Rattle.i3c_lines.specs.Forms.{IsCommand, IsForm, tokens_of}
use Rattle.i3c_lines.proofs.CapitalLaws.{command_in_capitals, no_capitals}
use Rattle.i3c_program.specs.Words.{IsSaid, IsWord}
use Rattle.i3c_program.proofs.Said.{skipped_form}
use Rattle.i3c_program.proofs.Written.{if_ok}
use Rattle.i3c_program.proofs.word.read_in_capitals.Goals as goal

pub read_command-requires : goal.read_command-requires
read_command-requires c =
    let line = c.args.line.now in
    let capitals = c.in_ok-push_capitals.ensures ∙ ap (λ t. t ++ in_capitals line) c.new-capitals.ensures in
    subst (λ t. IsCommand t c.in-Some.command) (sym (c.as_bytes-in-Some.ensures ∙ capitals)) (command_in_capitals line c.in-Some.command c.requires.short (subst (λ t. IsForm (tokens_of t) c.in-Some.command) (c.as_bytes.ensures ∙ capitals) c.in-Some.ensures))

pub returns-in-Some : goal.returns-in-Some
returns-in-Some c =
    let line = c.args.line.now in
    let capitals = c.as_bytes-in-Some.ensures ∙ c.in_ok-push_capitals.ensures ∙ ap (λ t. t ++ in_capitals line) c.new-capitals.ensures in
    if_ok (IsSaid c.as_bytes-in-Some.result.now) (IsWord line) c.read_command.result (λ word said. inr (inr (in_capitals line, inr (c.requires.formless, refl), inl (subst (λ t. IsSaid t word) capitals said)))) c.read_command.ensures

pub returns : goal.returns
returns c =
    let line = c.args.line.now in
    let capitals = c.as_bytes.ensures ∙ c.in_ok-push_capitals.ensures ∙ ap (λ t. t ++ in_capitals line) c.new-capitals.ensures in
    let none = subst (λ t. (command : Command) → IsForm (tokens_of t) command → ⊥) capitals c.in-None.ensures in
    inr (inr (in_capitals line, inr (c.requires.formless, refl), inr (no_capitals line c.requires.short (λ skipped. skipped_form line skipped c.requires.formless) none, refl)))
