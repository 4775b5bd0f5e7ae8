-- Words in which clap finds no fault name a command.
use Rattle.std.proofs.Common.{◌≡◌, ◌∙◌, ◌∷◌, [], ◌⊎◌, inl, inr, ℕ, List, Bool, true, false, true≢false, not, ap, sym, subst, refl, codes, cond, length, Option, Some, None, is_some, option_map, unwrap_or, arith}
use Rattle.std.proofs.lemmas.Slice.Eq.{bytes_eq-Decides}
use Rattle.std.specs.Prelude.{if◌then◌else◌, ◌&&◌, ◌||◌}
use Rattle.std.specs.List.{find, fold, list_any}
use Rattle.std.specs.Str.{bytes_eq}
use Rattle.clap.specs.Words.{App, Row, Rule, Shape, Text, fault_of, is_simple, is_simple_and_free, subcommand_of}
use Rattle.clap.specs.Faults.{check_fault, defaults_fault, entered_fault, other_fault, settle_fault, step_fault, turn_fault, walk_fault, word_fault}
use Rattle.clap.specs.Kinds.{Kinds, check_kinds, or_else}
use Rattle.clap.specs.Simple.{built, entered, label_of, names_of, rows_at}
use Rattle.clap.specs.Takes.{is_given}
use Rattle.clap.specs.Lexer.{long_of, short_of}
use Rattle.i3c_task.specs.Commands.{name_of, program}
use Rattle.i3c_task.specs.declared.verb.Verb.{Verb}
use Rattle.clap.specs.Walk.{Held, Names, Outcome, Step, Waiting, Walk, after_flag, after_step, answers_to, arg_by_index, done, finished, idle, long_or_other, next, nothing_held, option, plain, plain_word, positional, refused, settled, short_or_plain, subcommand, subcommand_met, subcommand_or_other, to_positional, trailing, value, waits, walk, walk_from, walked, walked_from, word_met}

-- both lists of kinds are empty where the first that isn't would stand for them
neither : (a b : Kinds) → or_else a b ≡ [] → (a ≡ []) × (b ≡ [])
neither [] b none = (refl, none)
neither (x ∷ xs) b none = absurd (omega (arith, ap length none))

-- a step is into another command than `help`
Passes : Step → Type 0
Passes (next w) = Unit {0}
Passes (trailing p) = Unit {0}
Passes (subcommand name) = name ≡ codes "help" → ⊥
Passes value = Unit {0}

-- a walk goes on, or has stopped at another command than `help`
Goes : Option (Text × List Text) → Type 0
Goes None = Unit {0}
Goes (Some p) = p.0 ≡ codes "help" → ⊥

plain_passes : (c : List Rule) (waiting : Waiting) (word : Text) (h : Held) → Passes (plain_word c waiting word h).1
unfolding Passes
plain_passes c idle word h = tt
plain_passes c (option id) word h = tt
plain_passes c positional word h = tt

flag_passes : (c : List Rule) (waiting : Waiting) (word : Text) (h : Held) (o : Outcome) → Passes (after_flag c waiting word h o).1
unfolding Passes
flag_passes c waiting word h done = tt
flag_passes c waiting word h (waits id) = tt
flag_passes c waiting word h plain = plain_passes c waiting word h
flag_passes c waiting word h refused = plain_passes c waiting word h

short_passes : (c : List Rule) (waiting : Waiting) (word : Text) (o : Option Text) (h : Held) → Passes (short_or_plain c waiting word o h).1
short_passes c waiting word None h = plain_passes c waiting word h
short_passes c waiting word (Some flags) h = flag_passes c waiting word _ _

long_passes : (c : List Rule) (waiting : Waiting) (word : Text) (o : Option (Text × Option Text)) (h : Held) → Passes (long_or_other c waiting word o h).1
long_passes c waiting word None h = short_passes c waiting word (short_of word) h
long_passes c waiting word (Some p) h = flag_passes c waiting word _ _

other_passes : (s : Shape) (met : Option Text) (waiting : Waiting) (position : ℕ) (word : Text) (h : Held) → s.disable_help_subcommand ≡ false
    → other_fault s met word h ≡ [] → Passes (subcommand_or_other s.rules met waiting position word h).1
unfolding Passes
other_passes s (Some name) waiting position word h on none =
    λ is.
    let same : other_fault s (Some name) word h ≡ other_fault (record s { disable_help_subcommand = false }) (Some (codes "help")) word h =
    ap (λ (b : Bool). other_fault (record s { disable_help_subcommand = b }) (Some name) word h) on
    ∙ ap (λ (n : Text). other_fault (record s { disable_help_subcommand = false }) (Some n) word h) is in
    absurd (omega (arith, ap length (sym same ∙ none)))
other_passes s None waiting position word h on none = go (bytes_eq word (45 ∷ 45 ∷ []))
  where
    go : (b : Bool) → Passes (if b then (h, trailing position) else long_or_other s.rules waiting word (long_of word) h).1
    go true = tt
    go false = long_passes s.rules waiting word (long_of word) h

word_passes : (s : Shape) (names : Names) (is_trailing : Bool) (waiting : Waiting) (position : ℕ) (word : Text) (h : Held) → s.disable_help_subcommand ≡ false
    → word_fault s names is_trailing waiting word h ≡ [] → Passes (word_met s.rules names is_trailing waiting position word h).1
unfolding Passes
word_passes s names true waiting position word h on none = tt
word_passes s names false waiting position word h on none = other_passes s (subcommand_met names waiting word) waiting position word h on none

step_goes : (c : List Rule) (word : Text) (w : Walk) (h : Held) (step : Step) → Goes w.stopped → Passes step → Goes (after_step c word w h step).stopped
unfolding Goes Passes
step_goes c word w h (next waiting) goes passes = goes
step_goes c word w h (trailing position) goes passes = goes
step_goes c word w h (subcommand name) goes passes = passes
step_goes c word w h value goes passes = go (arg_by_index c w.position)
  where
    go : (a : Option Rule) → Goes (to_positional c a word w h).stopped
    go None = goes
    go (Some a) = tt

turn_goes : (s : Shape) (names : Names) (w : Walk) (word : Text) → s.disable_help_subcommand ≡ false → turn_fault s names w word ≡ [] → Goes w.stopped
    → Goes (walked s.rules names w word).stopped
unfolding walked Goes
turn_goes s names w word on none goes = go w.stopped refl
  where
    go : (o : Option (Text × List Text)) → w.stopped ≡ o → Goes (walked_from s.rules names o w word).stopped
    go (Some p) is = subst Goes is goes
    go None is =
        let met = word_met s.rules names w.is_trailing w.waiting w.position word w.held in
        let still : turn_fault s names (record w { stopped = None }) word ≡ [] = ap (λ o. turn_fault s names (record w { stopped = o }) word) (sym is) ∙ none in
        let passed = neither (word_fault s names w.is_trailing w.waiting word w.held) (step_fault s w.position met.0 met.1) still in
        step_goes s.rules word w met.0 met.1 goes (word_passes s names w.is_trailing w.waiting w.position word w.held on passed.0)

-- a walk without a fault doesn't stop at `help`
walk_goes : (s : Shape) (names : Names) (words : List Text) (w : Walk) → s.disable_help_subcommand ≡ false → walk_fault s names w words ≡ [] → Goes w.stopped
    → Goes (fold (walked s.rules names) w words).stopped
unfolding walk_fault
walk_goes s names [] w on none goes = goes
walk_goes s names (word ∷ rest) w on none goes =
    let passed = neither (turn_fault s names w word) (walk_fault s names (walked s.rules names w word) rest) none in
    walk_goes s names rest (walked s.rules names w word) on passed.1 (turn_goes s names w word on passed.0 goes)

-- ---- the command at which it stops

-- a command is one of the program's verbs, or `help`, and has no other name
abbrev IsVerbOrHelp : Shape → Type 0
IsVerbOrHelp s = (((v : Verb) × (s.name ≡ name_of v)) ⊎ (s.name ≡ codes "help")) × (s.aliases ≡ [])

-- P holds of each
Each : {X : Type 0} → (X → Type 0) → List X → Type 0
Each P [] = Unit {0}
Each P (x ∷ xs) = P x × Each P xs

-- what is found passes the test, and is as all are
found : {X : Type 0} (P : X → Type 0) (test : X → Bool) (xs : List X) (x : X) → Each P xs → find test xs ≡ Some x → P x × (test x ≡ true)
unfolding Each
found P test [] x all is = absurd (true≢false (sym (ap is_some is)))
found P test (y ∷ ys) x all is = go (test y) refl (found P test ys x all.1)
  where
    go : (b : Bool) → test y ≡ b → (find test ys ≡ Some x → P x × (test x ≡ true)) → P x × (test x ≡ true)
    go true is-so later =
        let same : y ≡ x = ap (λ o. unwrap_or o y) (ap (λ b. cond b (Some y) (find test ys)) (sym is-so) ∙ is) in
        (subst P same all.0, subst (λ z. test z ≡ true) same is-so)
    go false fails later = later (ap (λ b. cond b (Some y) (find test ys)) (sym fails) ∙ is)

-- a program that wants a command has a fault without one
wants_one : (a b : Bool) → check_kinds a true b ≡ [] → ⊥
wants_one true b none = omega (arith, ap length none)
wants_one false b none = omega (arith, ap length none)

-- it has one without a fault
missing : (s : Shape) (rows : List Row) → s.subcommand_required ≡ true → check_fault s rows false ≡ [] → ⊥
missing s rows wants none = wants_one _ (not (s.subcommand_negates_reqs && false) && list_any (λ (a : Rule). a.required && not (is_given a.id rows)) s.rules) (ap (λ (b : Bool). check_fault (record s { subcommand_required = b }) rows false) (sym wants) ∙ none)

-- the first name of a command whose only name it is
only_name : (s : Shape) (word : Text) → s.aliases ≡ [] → answers_to word (label_of s) ≡ true → s.name ≡ word
only_name s word no_more is =
    let alone : (bytes_eq s.name word || false) ≡ true = ap (λ (names : List Text). answers_to word (s.name, names)) (sym no_more) ∙ is in
    go (bytes_eq s.name word) refl alone
  where
    go : (b : Bool) → bytes_eq s.name word ≡ b → (b || false) ≡ true → s.name ≡ word
    go true is-so alone = (bytes_eq-Decides s.name word).0 is-so
    go false other alone = absurd (true≢false (sym alone))

-- the verb that a walk without a fault has entered
verb_entered : (app : App) (rows : List Row) (stop : Option (Text × List Text)) → app.top.subcommand_required ≡ true → Each IsVerbOrHelp app.subs → Goes stop
    → check_fault app.top rows (is_some (entered app stop)) ≡ [] → (v : Verb) × (found : List Row) × (entered app stop ≡ Some (name_of v, found))
unfolding Goes
verb_entered app rows None wants all goes none = absurd (missing app.top rows wants none)
verb_entered app rows (Some p) wants all goes none = go (find (λ s. answers_to p.0 (label_of s)) app.subs) refl
  where
    verb : (s : Shape) → ((v : Verb) × (s.name ≡ name_of v)) ⊎ (s.name ≡ codes "help") → s.name ≡ p.0 → (v : Verb) × (s.name ≡ name_of v)
    verb s (inl is) met = is
    verb s (inr is) met = absurd (goes (sym met ∙ is))

    go : (o : Option Shape) → find (λ s. answers_to p.0 (label_of s)) app.subs ≡ o → (v : Verb) × (found : List Row) × (entered app (Some p) ≡ Some (name_of v, found))
    go None is = absurd (missing app.top rows wants (ap (λ (o : Option Shape). check_fault app.top rows (is_some (option_map (λ s. rows_at s p.1) o))) (sym is) ∙ none))
    go (Some s) is =
        let here = found IsVerbOrHelp (λ s. answers_to p.0 (label_of s)) app.subs s all is in
        let named = verb s here.0.0 (only_name s p.0 here.0.1 here.1) in
        (named.0, (rows_at s p.1).1, ap (λ (o : Option Shape). option_map (λ s. rows_at s p.1) o) is ∙ ap (λ (n : Text). Some (n, (rows_at s p.1).1)) named.1)

-- words without a fault name a verb
pub verb_named : (words : List Text) → fault_of program words ≡ [] → (v : Verb) × (found : List Row) × (subcommand_of program words ≡ Some (name_of v, found))
unfolding Each Goes
verb_named words none =
    let app = built program in
    let names = names_of app in
    let end = (walk app.top.rules names nothing_held words).held in
    let stop = (walk app.top.rules names nothing_held words).stopped in
    let rows = finished app.top.rules end in
    let below = entered_fault app stop in
    let check = check_fault app.top rows (is_some (entered app stop)) in
    let defaults = defaults_fault (settled app.top.rules end).rows app.top.rules in
    let settle = settle_fault app.top.rules app.top.args_override_self end in
    let last = or_else defaults check in
    let walk_passed = neither (walk_fault app.top names (walk_from nothing_held) words) (or_else below (or_else settle last)) none in
    let below_passed = neither below (or_else settle last) walk_passed.1 in
    let settle_passed = neither settle last below_passed.1 in
    let check_passed = neither defaults check settle_passed.1 in
    verb_entered app rows stop refl
    ((inl (Verb.Run, refl), refl), ((inl (Verb.Drive, refl), refl), ((inl (Verb.Check, refl), refl), ((inl (Verb.Draw, refl), refl), ((inl (Verb.Explore, refl), refl), ((inl (Verb.Trace, refl), refl), ((inl (Verb.Wave, refl), refl), ((inl (Verb.Stress, refl), refl), ((inr refl, refl), tt)))))))))
    (walk_goes app.top names words (walk_from nothing_held) refl walk_passed.0 tt)
    check_passed.1

-- ---- the program as clap reads it

-- no argument has a rule on another, and clap says which matches the program has
pub free : is_simple_and_free program ≡ true
free = refl

pub simple : is_simple program ≡ true
simple = refl
