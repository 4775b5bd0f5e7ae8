-- The parser as it is made of the table, command by command and argument by argument.
use Rattle.std.proofs.Common.{◌≡◌, ◌∙◌, ◌<◌, ◌≤◌, ◌+◌, ◌∷◌, [], ℕ, zero, suc, List, All, Option, Some, None, is_some, option_map, unwrap_or, true≢false, length, map, ap, sym, subst, refl, drop, get_or, arith}
use Rattle.std.proofs.Math.ListN.{take}
use Rattle.std.proofs.lemmas.List.{map_more, take_all}
use Rattle.std.proofs.lemmas.List.Sums.{fold-append}
use Rattle.std.proofs.lemmas.List.Elements.{All-map}
use Rattle.std.proofs.lemmas.Simd.{map-map}
use Rattle.std.specs.Box.{box_value}
use Rattle.std.specs.List.{fold}
use Rattle.clap.specs.Words.{App, Row, Rule, Shape, Text, found_of, rows_of, subcommand_name_of, subcommand_rows_of, with_subcommand}
use Rattle.clap.specs.declared.parser.matches.ArgMatches.{ArgMatches}
use Rattle.clap.specs.declared.parser.matches.ArgMatches.TheViews.{out-ArgMatches, out-SubCommand}
use Rattle.clap.specs.Simple.{new_shape}
use Rattle.i3c_task.specs.Commands.{bare, command_of, name_of, program, verbs}
use Rattle.i3c_task.specs.Table.{shape_of_usage}
use Rattle.i3c_task.specs.declared.verb.Usage.{Usage}
use Rattle.i3c_task.specs.declared.verb.Verb.{Verb}

-- a command with these arguments
abbrev pub with_rules : Text → List Rule → App
with_rules name rules = record { top = record (new_shape name) { rules = rules }; subs = [] }

-- the program without commands
abbrev pub without : App
without = record { top = bare; subs = [] }

-- the program with the first commands of a table
abbrev pub with_first : ℕ → List Usage → App
with_first i usages = fold with_subcommand without (map shape_of_usage (take i usages))

-- it with the next of them
pub first_more : (usages : List Usage) (i : ℕ) (d : Usage) (app : App) (shape : Shape) → i < length usages
    → app ≡ with_first i usages → shape ≡ shape_of_usage (get_or usages i d) → with_subcommand app shape ≡ with_first (i + 1) usages
first_more usages i d app shape below is-app is-shape =
    ap (λ a. with_subcommand a shape) is-app ∙ ap (with_subcommand (with_first i usages)) is-shape
    ∙ sym (ap (fold with_subcommand without) (map_more shape_of_usage usages i d below)
    ∙ fold-append with_subcommand without (map shape_of_usage (take i usages)) (shape_of_usage (get_or usages i d) ∷ []))

-- what holds of each verb of the table holds of each verb
pub each_verb : (P : Verb → Type 0) (usages : List Usage) → map (λ usage. usage.verb) usages ≡ verbs → All (λ usage. P usage.verb) usages → (verb : Verb) → P verb
each_verb P usages are held = go
  where
    all : All P verbs
    all = subst (All P) are (All-map P (λ usage. usage.verb) usages held)

    go : (verb : Verb) → P verb
    go Verb.Run = all 0 Verb.Run (omega arith)
    go Verb.Drive = all 1 Verb.Run (omega arith)
    go Verb.Check = all 2 Verb.Run (omega arith)
    go Verb.Draw = all 3 Verb.Run (omega arith)
    go Verb.Explore = all 4 Verb.Run (omega arith)
    go Verb.Trace = all 5 Verb.Run (omega arith)
    go Verb.Wave = all 6 Verb.Run (omega arith)
    go Verb.Stress = all 7 Verb.Run (omega arith)

-- lists that are alike are so at each place
alike : (usages : List Usage) (f g : Usage → Text) → map f usages ≡ map g usages → All (λ usage. f usage ≡ g usage) usages
alike [] f g same k d below = absurd (omega arith)
alike (x ∷ xs) f g same zero d below = ap (λ (l : List Text). get_or l 0 (f x)) same
alike (x ∷ xs) f g same (suc k) d below = alike xs f g (ap (λ (l : List Text). drop 1 l) same) k d (omega arith)

-- the table gives each verb its name
pub named_so : (usages : List Usage) → map (λ usage. usage.verb) usages ≡ verbs → map (λ usage. usage.name.now) usages ≡ map name_of verbs
    → All (λ usage. usage.name.now ≡ name_of usage.verb) usages
named_so usages are names = alike usages (λ usage. usage.name.now) (λ usage. name_of usage.verb) (names ∙ ap (map name_of) (sym are) ∙ map-map name_of (λ usage. usage.verb) usages)

-- the first parts of pairs
firsts : {X : Type 0} (f : X → Text) (g : X → List Row) (o : Option X) → option_map (λ (p : Text × List Row). p.0) (option_map (λ x. (f x, g x)) o) ≡ option_map f o
firsts f g None = refl
firsts f g (Some x) = refl

-- the name of what was given, and what was found of it
pub given_as : (matches : ArgMatches) (name : Text) (rows : List Row) → subcommand_name_of matches ≡ Some name
    → option_map (λ (p : Text × List Row). p.1) (subcommand_rows_of matches) ≡ Some rows → subcommand_rows_of matches ≡ Some (name, rows)
given_as matches name rows named found =
    go (subcommand_rows_of matches)
    (firsts (λ b. (out-SubCommand (box_value b)).name.now) (λ b. rows_of (found_of (out-SubCommand (box_value b)).matches)) (out-ArgMatches matches).subcommand ∙ named) found
  where
    go : (o : Option (Text × List Row)) → option_map (λ (p : Text × List Row). p.0) o ≡ Some name → option_map (λ (p : Text × List Row). p.1) o ≡ Some rows → o ≡ Some (name, rows)
    go None named found = absurd (true≢false (sym (ap is_some named)))
    go (Some p) named found = λ i. Some (unwrap_or (named i) name, unwrap_or (found i) rows)

-- the name in the matches is that of their rows
pub name_of_rows : (matches : ArgMatches) (name : Text) (rows : List Row) → subcommand_rows_of matches ≡ Some (name, rows) → subcommand_name_of matches ≡ Some name
name_of_rows matches name rows is =
    sym (firsts (λ b. (out-SubCommand (box_value b)).name.now) (λ b. rows_of (found_of (out-SubCommand (box_value b)).matches)) (out-ArgMatches matches).subcommand)
    ∙ ap (option_map (λ (p : Text × List Row). p.0)) is

-- it with all of them
pub with_all : (usages : List Usage) (i : ℕ) → length usages ≤ i → map shape_of_usage usages ≡ map command_of verbs → with_first i usages ≡ program
with_all usages i end shapes = ap (fold with_subcommand without) (ap (map shape_of_usage) (take_all i usages end) ∙ shapes)
