use Rattle.std.proofs.Common.{◌∙◌, ◌∷◌, ap, codes, refl, subst, sym}
use Rattle.std.proofs.lemmas.Bool.{false≢true}
use Rattle.i3c_lines.specs.Parsing.{BecomesOther, left_tokens}
use Rattle.i3c_lines.proofs.OtherCommands.{as_other}
use Rattle.i3c_lines.proofs.command.Command.read_tokens.Goals as goal

pub returns-then-is_token : goal.returns-then-is_token
returns-then-is_token c =
    as_other _ (codes "drop" ∷ left_tokens c.next.new.self) _ _ _ (c.in_ok-token.ensures ∙ ap (λ first. first ∷ left_tokens c.next.new.self) (c.if-is_token.ensures.0 refl)) tt c.read_drop.ensures

pub returns-then-is_token-2 : goal.returns-then-is_token-2
returns-then-is_token-2 c =
    as_other _ (codes "attach" ∷ left_tokens c.next.new.self) _ _ _ (c.in_ok-token.ensures ∙ ap (λ first. first ∷ left_tokens c.next.new.self) (c.if-is_token-2.ensures.0 refl)) tt c.read_attach.ensures

pub returns-then-is_token-3 : goal.returns-then-is_token-3
returns-then-is_token-3 c =
    as_other _ (codes "ask-join" ∷ left_tokens c.next.new.self) _ _ _ (c.in_ok-token.ensures ∙ ap (λ first. first ∷ left_tokens c.next.new.self) (c.if-is_token-3.ensures.0 refl)) tt c.read_ask_join.ensures

pub returns-then-is_token-4 : goal.returns-then-is_token-4
returns-then-is_token-4 c =
    as_other _ (codes "ask-role" ∷ left_tokens c.next.new.self) _ _ _ (c.in_ok-token.ensures ∙ ap (λ first. first ∷ left_tokens c.next.new.self) (c.if-is_token-4.ensures.0 refl)) tt c.read_ask_role.ensures

pub returns-then-is_token-5 : goal.returns-then-is_token-5
returns-then-is_token-5 c =
    as_other _ (codes "handover" ∷ left_tokens c.next.new.self) _ _ _ (c.in_ok-token.ensures ∙ ap (λ first. first ∷ left_tokens c.next.new.self) (c.if-is_token-5.ensures.0 refl)) tt c.read_handover.ensures

pub returns-then-is_token-6 : goal.returns-then-is_token-6
returns-then-is_token-6 c =
    as_other _ (codes "cut" ∷ left_tokens c.next.new.self) _ _ _ (c.in_ok-token.ensures ∙ ap (λ first. first ∷ left_tokens c.next.new.self) (c.if-is_token-6.ensures.0 refl)) tt c.read_cut.ensures

pub read_rare-requires-clause-drops : goal.read_rare-requires-clause-drops
read_rare-requires-clause-drops c = λ is. false≢true (c.if-is_token.ensures.1 is)

pub read_rare-requires-clause-attaches : goal.read_rare-requires-clause-attaches
read_rare-requires-clause-attaches c = λ is. false≢true (c.if-is_token-2.ensures.1 is)

pub read_rare-requires-clause-joins : goal.read_rare-requires-clause-joins
read_rare-requires-clause-joins c = λ is. false≢true (c.if-is_token-3.ensures.1 is)

pub read_rare-requires-clause-roles : goal.read_rare-requires-clause-roles
read_rare-requires-clause-roles c = λ is. false≢true (c.if-is_token-4.ensures.1 is)

pub read_rare-requires-clause-offers : goal.read_rare-requires-clause-offers
read_rare-requires-clause-offers c = λ is. false≢true (c.if-is_token-5.ensures.1 is)

pub read_rare-requires-clause-cuts : goal.read_rare-requires-clause-cuts
read_rare-requires-clause-cuts c = λ is. false≢true (c.if-is_token-6.ensures.1 is)

pub returns : goal.returns
returns c = subst (λ ws. BecomesOther ws c.read_rare.result c.args.self.now c.read_rare.new.self) (sym c.in_ok-token.ensures) c.read_rare.ensures
