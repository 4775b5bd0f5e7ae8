use Rattle.std.proofs.Common.{[], refl}
use Rattle.i3c_lines.specs.Parsing.{left_tokens}
use Rattle.i3c_lines.proofs.FaultLaws.{among_behind, next_among}
use Rattle.i3c_facts.proofs.MarkFaultLaws.{one_passed}
use Rattle.i3c_facts.proofs.mark_faults.facts_fault.Goals as goal

pub loop-token-init : goal.loop-token-init
loop-token-init c = ([], refl)

pub loop-token-preserved : goal.loop-token-preserved
loop-token-preserved c = one_passed c.in-Some.token.now (left_tokens c.args.tokens.now) (left_tokens c.loop-token.tokens) (left_tokens c.next.new.self) c.loop-token.invariant c.in-Some.ensures

pub loop-token-preserved-then-is_token : goal.loop-token-preserved-then-is_token
loop-token-preserved-then-is_token c = one_passed c.in-Some.token.now (left_tokens c.args.tokens.now) (left_tokens c.loop-token.tokens) (left_tokens c.next.new.self) c.loop-token.invariant c.in-Some.ensures

pub loop-token-preserved-then-not-negated : goal.loop-token-preserved-then-not-negated
loop-token-preserved-then-not-negated c = one_passed c.in-Some.token.now (left_tokens c.args.tokens.now) (left_tokens c.loop-token.tokens) (left_tokens c.next.new.self) c.loop-token.invariant c.in-Some.ensures

pub returns-then-not-is_begun : goal.returns-then-not-is_begun
returns-then-not-is_begun c =
    let all = left_tokens c.args.tokens.now in
    let ahead = left_tokens c.loop-token.tokens in
    let token = c.in-Some.token.now in
    c.wrong_word.ensures c.args.first.now all c.requires (among_behind token c.loop-token.invariant.0 all ahead c.loop-token.invariant.1 (next_among token ahead (left_tokens c.next.new.self) c.in-Some.ensures))
