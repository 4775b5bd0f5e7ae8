-- SETDASA and SETNEWDA as frames: the answer is known before serving, and the result is a whole bus.
use Rattle.std.proofs.Common.{◌≡◌, ℕ, ◌+◌, ◌++◌, ◌&&◌, ◌||◌, Bool, true, false, not, List, [], ◌∷◌, Option, Some, None, Result, Ok, Err, IsOk, MatchResult, is_none, is_some, option_map, if◌then◌else◌, ◌↔◌, inl, inr, sym, ap, ◌∙◌, subst, refl, get_or}
use Rattle.std.proofs.lemmas.Bool.{false≢true}
use Rattle.i3c_base.specs.declared.answers.Answer.{Answer}
use Rattle.i3c_base.specs.declared.identity.Identity.{Identity}
use Rattle.i3c_base.specs.declared.requests.Fixed.{Fixed}
use Rattle.i3c_base.specs.declared.requests.Request.TheVariants.{Join, Role, Interrupt}
use Rattle.i3c_base.specs.declared.requests.Served.{Served}
use Rattle.i3c_base.specs.declared.requests.Served.TheVariants.{Quiet, Recorded, Refused, Torn, Joining, WantsRole}
use Rattle.i3c_base.specs.Cutting.{CutList, Lost, lost_by}
use Rattle.i3c_base.specs.Frames.{AllLostAt, AllUnaddressedLostAt, AnyAt, AnyUnaddressedAt, SetsNew, SetsStatic, SomeUnaddressedLeftAt, active_has, kinds_bits, with_new, with_static}
use Rattle.i3c_base.specs.Serve.{Serves, drives, without_front, without_join, without_role}
use Rattle.i3c_base.specs.State.{Device, Entry, State, declared_at, declared_in, each, entry_at, entry_in, is_the, is_usable, known_in}
use Rattle.i3c_base.proofs.Lookups.{each_at, each_from}
use Rattle.i3c_events.specs.Hearing.{answer_of}
use Rattle.i3c_events.specs.declared.hearing.NoAnswer.{NoAnswer}
use Rattle.i3c_frame.specs.declared.symbols.Symbol.{Symbol}
use Rattle.i3c_step.specs.declared.replies.Refusal.{Refusal}
use Rattle.i3c_step.specs.Step.{cuts_active, first_refusal, frame_checks, is_kept_for, is_no_target, is_pickable, new_checks, static_checks}
use Rattle.i3c_step.proofs.Addresses.{IsSettled}
use Rattle.i3c_step.proofs.Transfers.{news_keep, statics_keep}
use Rattle.i3c_bus.specs.Wire.{IsNewPart, IsStaticPart}
use Rattle.i3c_bus.proofs.Heard.{answered_before}
use Rattle.i3c_bus.proofs.Transfers.{Leaves}

-- a change that keeps both addresses leaves the devices at a static one
same_if : (b : Bool) (d e : Device) → e.address ≡ d.address → e.fixed ≡ d.fixed → ((if b then e else d).address ≡ d.address) × ((if b then e else d).fixed ≡ d.fixed)
same_if true d e h k = (h, k)
same_if false d e h k = (refl, refl)

unaddressed_each : (f : ℕ → Device → Device) (st : State) (a : ℕ) (lost : Lost) → ((s : ℕ) (d : Device) → ((f s d).address ≡ d.address) × ((f s d).fixed ≡ d.fixed))
    → SomeUnaddressedLeftAt (each f st) a lost ↔ SomeUnaddressedLeftAt st a lost
unaddressed_each f st a lost keeps = (
  λ l. let x = each_from f st l.0 l.1 l.2.0 in let k = keeps l.0 x.0 in
      (l.0, x.0, (x.1, sym k.0 ∙ (ap (λ (d : Device). d.address) x.2 ∙ l.2.1), sym k.1 ∙ (ap (λ (d : Device). d.fixed) x.2 ∙ l.2.2), l.2.3), l.3),
  λ l. let k = keeps l.0 l.1 in (l.0, f l.0 l.1, (each_at f st l.0 ∙ ap (option_map (f l.0)) l.2.0, k.0 ∙ l.2.1, k.1 ∙ l.2.2, l.2.3), l.3),
)

-- serving leaves the devices at a static address
unaddressed_serves : (st : State) (policy : Fixed) (gone lost : Lost) (a : ℕ) (served : Served) (new : State) → Serves st policy gone served new → SomeUnaddressedLeftAt new a lost ↔ SomeUnaddressedLeftAt st a lost
unaddressed_serves st policy gone lost a Quiet new h = subst (λ (x : State). SomeUnaddressedLeftAt x a lost ↔ SomeUnaddressedLeftAt st a lost) (sym h.1) (λ l. l, λ l. l)
unaddressed_serves st policy gone lost a Refused new h = subst (λ (x : State). SomeUnaddressedLeftAt x a lost ↔ SomeUnaddressedLeftAt st a lost) (sym h.1) (λ l. l, λ l. l)
unaddressed_serves st policy gone lost a Joining new h = subst (λ (x : State). SomeUnaddressedLeftAt x a lost ↔ SomeUnaddressedLeftAt st a lost) (sym h.2)
    (unaddressed_each (λ s d. if drives st Join s then without_join d else d) st a lost (λ s d. same_if (drives st Join s) d (without_join d) refl refl))
unaddressed_serves st policy gone lost a (WantsRole b) new h = subst (λ (x : State). SomeUnaddressedLeftAt x a lost ↔ SomeUnaddressedLeftAt st a lost) (sym h.2)
    (unaddressed_each (λ s d. if drives st (Role b) s then without_role d else d) st a lost (λ s d. same_if (drives st (Role b) s) d (without_role d) refl refl))
unaddressed_serves st policy gone lost a (Recorded place) new h = subst (λ (x : State). SomeUnaddressedLeftAt x a lost ↔ SomeUnaddressedLeftAt st a lost) (sym h.left)
    (unaddressed_each (λ s d. if drives st (Interrupt h.at) s then without_front d else d) st a lost (λ s d. same_if (drives st (Interrupt h.at) s) d (without_front d) refl refl))
unaddressed_serves st policy gone lost a Torn new h = subst (λ (x : State). SomeUnaddressedLeftAt x a lost ↔ SomeUnaddressedLeftAt st a lost) (sym h.left)
    (unaddressed_each (λ s d. if drives st (Interrupt h.at) s then without_front d else d) st a lost (λ s d. same_if (drives st (Interrupt h.at) s) d (without_front d) refl refl))

-- the own part after serving is told as one before
pub static_before : (st : State) (policy : Fixed) (gone : Lost) (served : Served) (mid : State) (cuts : CutList) (f to : ℕ) (answer : Answer) (begun : ℕ) (wire : List Symbol) → Serves st policy gone served mid
    → IsStaticPart mid cuts f to answer begun wire → IsStaticPart st cuts f to answer begun wire
static_before st policy gone served mid cuts f to answer begun wire h w =
    let same = unaddressed_serves st policy gone (lost_by cuts (begun + 18)) f served mid h in
    (w.0, (λ e. same.0 (w.1.0 e), λ l. w.1.1 (same.1 l)))

pub new_before : (st : State) (policy : Fixed) (gone : Lost) (served : Served) (mid : State) (cuts : CutList) (a to : ℕ) (answer : Answer) (begun : ℕ) (wire : List Symbol) → Serves st policy gone served mid
    → IsNewPart mid cuts a to answer begun wire → IsNewPart st cuts a to answer begun wire
new_before st policy gone served mid cuts a to answer begun wire h w = (w.0, answered_before st policy gone served mid cuts (Some a) begun answer h w.1)

-- what may be given before serving may be given after it
pub pickable_same : (old mid : State) (a : ℕ) → IsSettled old mid → is_pickable mid a ≡ is_pickable old a
pickable_same old mid a s =
    λ t. is_usable a && (is_none (entry_in (s.given t) a) && (is_none (get_or (s.legacy t) a None) && is_none (declared_in (s.declared t) a)))

pub kept_same : (old mid : State) (i : Identity) (a : ℕ) → IsSettled old mid → is_kept_for mid (Some i) a ≡ is_kept_for old (Some i) a
kept_same old mid i a s = ap (λ (es : List (Option Entry)). is_the a (known_in es i)) s.given

pub given_same : (old mid : State) (i : Identity) (a : ℕ) → IsSettled old mid → (is_pickable old a || is_kept_for old (Some i) a) ≡ true → (is_pickable mid a || is_kept_for mid (Some i) a) ≡ true
given_same old mid i a s h = (λ t. pickable_same old mid a s t || kept_same old mid i a s t) ∙ h

pub no_target_or : (st : State) (a : ℕ) → is_no_target st a ≡ false → (is_none (entry_at st a) ≡ false) × (active_has st a ≡ false)
no_target_or st a h = go (is_none (entry_at st a)) refl h
  where
    go : (b : Bool) → is_none (entry_at st a) ≡ b → (b || active_has st a) ≡ false → (is_none (entry_at st a) ≡ false) × (active_has st a ≡ false)
    go true e k = absurd (false≢true (sym k))
    go false e k = (e, k)

-- a target before serving is a target after it
pub target_same : (old mid : State) (a : ℕ) → IsSettled old mid → is_no_target old a ≡ false → is_no_target mid a ≡ false
target_same old mid a s h =
    let parts = no_target_or old a h in
    (λ t. is_none (entry_in (s.given t) a) || active_has mid a) ∙ (ap (λ (b : Bool). b || active_has mid a) parts.0 ∙ s.active a parts.1)

-- a frame that isn't refused
pub static_free : (st : State) (cuts : CutList) (f a : ℕ) (i : Identity) → st.in_session ≡ false → cuts_active st cuts ≡ false → declared_at st f ≡ Some i → (is_pickable st a || is_kept_for st (Some i) a) ≡ true
    → first_refusal (frame_checks st cuts ++ static_checks st f a) ≡ None
static_free st cuts f a i closed left declared given =
    ap (λ b. first_refusal ((b, Refusal.SessionOpen) ∷ (cuts_active st cuts, Refusal.ActiveStays) ∷ static_checks st f a)) closed
    ∙ (ap (λ b. first_refusal ((b, Refusal.ActiveStays) ∷ static_checks st f a)) left
    ∙ (ap (λ o. first_refusal ((is_none o, Refusal.NoAnswer f) ∷ (not (is_pickable st a || is_kept_for st o a), Refusal.BadAddress a) ∷ [])) declared
    ∙ ap (λ b. first_refusal ((not b, Refusal.BadAddress a) ∷ [])) given))

pub new_free : (st : State) (cuts : CutList) (a to : ℕ) → st.in_session ≡ false → cuts_active st cuts ≡ false → is_no_target st a ≡ false → is_pickable st to ≡ true
    → first_refusal (frame_checks st cuts ++ new_checks st a to) ≡ None
new_free st cuts a to closed left there given =
    ap (λ b. first_refusal ((b, Refusal.SessionOpen) ∷ (cuts_active st cuts, Refusal.ActiveStays) ∷ new_checks st a to)) closed
    ∙ (ap (λ b. first_refusal ((b, Refusal.ActiveStays) ∷ new_checks st a to)) left
    ∙ (ap (λ b. first_refusal ((b, Refusal.NoAnswer a) ∷ (not (is_pickable st to), Refusal.BadAddress to) ∷ [])) there
    ∙ ap (λ b. first_refusal ((not b, Refusal.BadAddress to) ∷ [])) given))

-- records, active controller and session stay
pub statics_leave : (f a : ℕ) (answer : Answer) (lost : Lost) (mid done : State) → SetsStatic f a answer lost mid done → Leaves mid done
statics_leave f a answer lost mid done h = statics_keep Leaves f a (λ st. (refl, (refl, refl))) (λ i st. (refl, (refl, refl))) answer lost mid done h

pub news_leave : (old a : ℕ) (answer : Answer) (lost : Lost) (mid done : State) → SetsNew old a answer lost mid done → Leaves mid done
news_leave old a answer lost mid done h = news_keep Leaves old a (λ st. (refl, (refl, refl))) (λ st. (refl, (refl, refl))) answer lost mid done h

-- what was heard is the frame's own part
pub static_sets : (st done : State) (f a : ℕ) (i : Identity) (cuts : CutList) (begun : ℕ) (heard : Result (Unit {0}) NoAnswer) → declared_at st f ≡ Some i
    → MatchResult heard (λ u. AnyUnaddressedAt st f × (done ≡ with_static f i a st)) (λ none. (none.0 ≡ f) × AllUnaddressedLostAt st f (lost_by cuts (begun + 18)) × (done ≡ st))
    → SetsStatic f a (answer_of heard) (lost_by cuts (begun + kinds_bits (Some f) (answer_of heard))) st done
static_sets st done f a i cuts begun (Ok u) declared h = inl (refl, h.0, (i, declared, h.1))
static_sets st done f a i cuts begun (Err none) declared h = inr (ap Answer.NoAnswer h.0, h.1, h.2)

pub new_sets : (st done : State) (old a : ℕ) (cuts : CutList) (begun : ℕ) (heard : Result (Unit {0}) NoAnswer)
    → MatchResult heard (λ u. AnyAt st old × (done ≡ with_new old a st)) (λ none. (none.0 ≡ old) × AllLostAt st old (lost_by cuts (begun + 18)) × (done ≡ st))
    → SetsNew old a (answer_of heard) (lost_by cuts (begun + kinds_bits (Some old) (answer_of heard))) st done
new_sets st done old a cuts begun (Ok u) h = inl (refl, h.0, h.1)
new_sets st done old a cuts begun (Err none) h = inr (ap Answer.NoAnswer h.0, h.1, h.2)

-- the answer says whether somebody was left
pub done_where : {P : Type 0} (heard : Result (Unit {0}) NoAnswer) → IsOk heard ↔ P → (answer_of heard ≡ Answer.Done) ↔ P
done_where (Ok u) h = (λ e. h.0 refl, λ p. refl)
done_where (Err none) h = (λ e. cc, λ p. absurd (false≢true (h.1 p)))

-- a state is as it was
pub itself : (st : State) → IsSettled st st
itself st = record { given = refl; legacy = refl; declared = refl; active = λ a e. e }

-- what isn't none is some
pub is_some_there : {A : Type 0} (o : Option A) → is_none o ≡ false → is_some o ≡ true
is_some_there None h = absurd (false≢true (sym h))
is_some_there (Some x) h = refl
