use Rattle.std.proofs.Common.{◌∙◌, subst, sym}
use Rattle.i3c_lines.specs.Forms.{NameEach}
use Rattle.i3c_lines.specs.Parsing.{left_tokens}
use Rattle.i3c_lines.proofs.Exceptions.{none_excepted}
use Rattle.i3c_lines.proofs.policies.excepted.Goals as goal

pub returns-in-0 : goal.returns-in-0
returns-in-0 c =
    let none = subst (λ old. NameEach (left_tokens c.args.tokens.now) old c.push_names.new.names.items) c.new-names.ensures c.in_ok-push_names.ensures in
    λ names is. none_excepted (left_tokens c.args.tokens.now) c.push_names.new.names.items (sym c.len.ensures.value ∙ c.in-0.is) none names.items is
