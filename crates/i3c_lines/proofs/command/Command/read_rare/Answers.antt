use Rattle.std.proofs.Common.{◌∷◌, ap, codes, refl}
use Rattle.std.proofs.lemmas.Bool.{false≢true}
use Rattle.i3c_lines.specs.Parsing.{left_tokens}
use Rattle.i3c_lines.proofs.OtherCommands.{as_other, no_other, policy_is_other}
use Rattle.i3c_lines.proofs.command.Command.read_rare.Goals as goal

pub returns-then-is_token : goal.returns-then-is_token
returns-then-is_token c = as_other _ (codes "policy" ∷ left_tokens c.args.tokens.now) _ _ _ (ap (λ first. first ∷ left_tokens c.args.tokens.now) (c.if-is_token.ensures.0 refl)) (policy_is_other (left_tokens c.args.tokens.now)) c.read_policy.ensures

pub returns-then-is_token-2 : goal.returns-then-is_token-2
returns-then-is_token-2 c = as_other _ (codes "legacy" ∷ left_tokens c.args.tokens.now) _ _ _ (ap (λ first. first ∷ left_tokens c.args.tokens.now) (c.if-is_token-2.ensures.0 refl)) tt c.read_legacy.ensures

pub returns-then-is_token-3 : goal.returns-then-is_token-3
returns-then-is_token-3 c = as_other _ (codes "declare" ∷ left_tokens c.args.tokens.now) _ _ _ (ap (λ first. first ∷ left_tokens c.args.tokens.now) (c.if-is_token-3.ensures.0 refl)) tt c.read_declare.ensures

pub returns-then-is_token-4 : goal.returns-then-is_token-4
returns-then-is_token-4 c = as_other _ (codes "main" ∷ left_tokens c.args.tokens.now) _ _ _ (ap (λ first. first ∷ left_tokens c.args.tokens.now) (c.if-is_token-4.ensures.0 refl)) tt c.read_main.ensures

pub returns-then-is_token-5 : goal.returns-then-is_token-5
returns-then-is_token-5 c = as_other _ (codes "frames" ∷ left_tokens c.args.tokens.now) _ _ _ (ap (λ first. first ∷ left_tokens c.args.tokens.now) (c.if-is_token-5.ensures.0 refl)) tt c.read_frames.ensures

pub returns-then-is_token-6 : goal.returns-then-is_token-6
returns-then-is_token-6 c = as_other _ (codes "forget" ∷ left_tokens c.args.tokens.now) _ _ _ (ap (λ first. first ∷ left_tokens c.args.tokens.now) (c.if-is_token-6.ensures.0 refl)) tt c.read_forget.ensures

pub returns : goal.returns
returns c = (
  no_other _ _ c.requires.drops c.requires.attaches c.requires.joins c.requires.roles c.requires.offers c.requires.cuts
      (λ is. false≢true (c.if-is_token.ensures.1 is))
      (λ is. false≢true (c.if-is_token-2.ensures.1 is))
      (λ is. false≢true (c.if-is_token-3.ensures.1 is))
      (λ is. false≢true (c.if-is_token-4.ensures.1 is))
      (λ is. false≢true (c.if-is_token-5.ensures.1 is))
      (λ is. false≢true (c.if-is_token-6.ensures.1 is)),
  refl,
)
