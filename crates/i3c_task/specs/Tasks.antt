-- Which options of a command give which task.
use Rattle.std.specs.Prelude.{◌≡◌, ◌⊎◌, ℕ, true, false, List, [], ◌∷◌, codes, map, Some, None}
use Rattle.clap.specs.Words.{Text, fault_of, first_value, found_of, rows_of, subcommand_of}
use Rattle.clap.specs.declared.parser.matches.ArgMatches.{ArgMatches}
use Rattle.clap.specs.declared.parser.matches.Found.{Found}
use Rattle.i3c_ccc.specs.declared.codes.CodeSet.{CodeSet}
use Rattle.i3c_explore.specs.declared.limits.Limits.{Limits}
use Rattle.i3c_streams.specs.declared.form.Form.{Form}
use Rattle.i3c_streams.specs.declared.watching.Watching.{Watching}
use Rattle.i3c_streams.specs.Watching.{is_plain}
use Rattle.i3c_task.specs.declared.task.Capturing.{Capturing}
use Rattle.i3c_task.specs.declared.task.Stress.{Stress}
use Rattle.i3c_task.specs.declared.task.Task.{Task}
use Rattle.i3c_task.specs.declared.task.Telling.{Telling}
use Rattle.i3c_task.specs.declared.task.Waveform.{Waveform}
use Rattle.i3c_task.specs.declared.task.Work.{Work}
use Rattle.i3c_task.specs.declared.verb.Verb.{Verb}
use Rattle.i3c_task.specs.Commands.{name_of, program}
use Rattle.i3c_task.specs.Options.{AreLegacies, IsFlag, IsNumberOf, IsPartOf, IsWhich, devices, jobs, legacy_texts, most_lines, most_marks, most_orders, posts, text_or, texts_of}
use Rattle.i3c_task.specs.Words.{RunsInput}

-- the file of a command: standard input without one
abbrev pub file_of : Found → List ℕ
file_of found = text_or found (codes "FILE") (codes "-")

-- what `run` shows of a script
abbrev pub IsWatching : Found → Watching → Type 0
IsWatching found watching =
    IsFlag found (codes "numbers") watching.numbers × IsFlag found (codes "echo") watching.echo × IsFlag found (codes "explain") watching.explain
    × IsFlag found (codes "strict") watching.strict × IsFlag found (codes "test") watching.test

-- how a script is run: plainly, unless one of these is asked for
abbrev pub IsRun : Found → Work → Type 0
IsRun found Work.Run = IsWatching found (record { numbers = false; echo = false; explain = false; strict = false; test = false })
IsRun found (Work.Watch watching) = IsWatching found watching × (is_plain watching ≡ false)
IsRun found work = ⊥

-- the form in which lines are answered
abbrev pub IsForm : Found → Form → Type 0
IsForm found Form.Json = IsFlag found (codes "json") true
IsForm found Form.Lines = IsFlag found (codes "json") false

-- what is run, and kept, before each line of a program that meets every order
abbrev pub limits_between : Limits
limits_between = record { steps = 10000000; states = 16384 }

-- the task of `drive`: with `--every` its text is the scene's file
abbrev pub IsDrive : Found → Task → Type 0
IsDrive found (Task.File (Work.Drive form) file) = IsForm found form × (file.now ≡ codes "-") × (first_value found (codes "every") ≡ None)
IsDrive found (Task.Meet meeting scene) =
    IsForm found meeting.form × (meeting.limits ≡ limits_between) × IsNumberOf most_orders found meeting.most × IsNumberOf most_marks found meeting.states × IsWhich found meeting.which × (first_value found (codes "every") ≡ Some scene.now)
IsDrive found task = ⊥

-- the codes that a trace knows by name
abbrev pub HasCodes : Found → CodeSet → Type 0
HasCodes found CodeSet.Extended = IsFlag found (codes "all") true
HasCodes found CodeSet.Table = IsFlag found (codes "all") false

-- how a trace is told, where legacy targets have this set of addresses
abbrev pub IsTelling : Found → ℕ → Telling → Type 0
IsTelling found set (Telling.Plain known) = IsFlag found (codes "explain") false × IsFlag found (codes "lint") false × HasCodes found known
IsTelling found set (Telling.Lint legacies) = IsFlag found (codes "explain") false × IsFlag found (codes "lint") true × (legacies.0 ≡ set)
IsTelling found set (Telling.Explain known None) = IsFlag found (codes "explain") true × IsFlag found (codes "lint") false × HasCodes found known
IsTelling found set (Telling.Explain known (Some legacies)) =
    IsFlag found (codes "explain") true × IsFlag found (codes "lint") true × HasCodes found known × (legacies.0 ≡ set)

-- how a capture is read, where legacy targets have this set of addresses
abbrev pub IsCapturing : Found → ℕ → Capturing → Type 0
IsCapturing found set capturing =
    (capturing.scl.now ≡ text_or found (codes "scl") (codes "scl")) × (capturing.sda.now ≡ text_or found (codes "sda") (codes "sda"))
    × (capturing.legacies.0 ≡ set) × IsFlag found (codes "numbers") capturing.numbers

-- the task of `trace`, where legacy targets have this set of addresses: a capture with `--vcd`, and otherwise a trace
abbrev pub IsTraceWith : Found → ℕ → Task → Type 0
IsTraceWith found set (Task.Capture capturing telling file) =
    IsFlag found (codes "vcd") true × IsCapturing found set capturing × IsTelling found set telling × (file.now ≡ file_of found)
IsTraceWith found set (Task.File (Work.Tell telling) file) =
    IsFlag found (codes "vcd") false × IsTelling found set telling × (file.now ≡ file_of found)
IsTraceWith found set task = ⊥

-- the task of `trace`
abbrev pub IsTrace : Found → Task → Type 0
IsTrace found task = (set : ℕ) × AreLegacies (legacy_texts found) set × IsTraceWith found set task

-- how a waveform is printed
abbrev pub IsWaveform : Found → Waveform → Type 0
IsWaveform found waveform = AreLegacies (legacy_texts found) waveform.legacies.0 × IsFlag found (codes "plain") waveform.plain

-- the waveform of a trace with `--trace`, and otherwise of a script
abbrev pub IsWave : Found → Task → Type 0
IsWave found (Task.File (Work.Wave waveform) file) = IsFlag found (codes "trace") true × IsWaveform found waveform × (file.now ≡ file_of found)
IsWave found (Task.File (Work.WaveScript waveform) file) = IsFlag found (codes "trace") false × IsWaveform found waveform × (file.now ≡ file_of found)
IsWave found task = ⊥

-- the task of `explore`
abbrev pub IsExplore : Found → Task → Type 0
IsExplore found (Task.Explore exploring file) =
    IsNumberOf most_lines found exploring.limits.steps × (exploring.limits.states ≡ 16384) × IsPartOf (first_value found (codes "part")) exploring.part
    × IsNumberOf jobs found exploring.jobs × IsFlag found (codes "quiet") exploring.quiet × (map (λ text. text.now) exploring.by.items ≡ texts_of found (codes "by")) × (file.now ≡ file_of found)
IsExplore found task = ⊥

-- the task of `stress`
abbrev pub IsStress : Found → Stress → Type 0
IsStress found asked = IsNumberOf devices found asked.devices × IsNumberOf posts found asked.posts × IsFlag found (codes "totals") asked.totals

-- the task of a command with these options
abbrev pub IsTaskOf : Verb → Found → Task → Type 0
IsTaskOf Verb.Run found (Task.File work file) = IsRun found work × (file.now ≡ file_of found)
IsTaskOf Verb.Drive found task = IsDrive found task
IsTaskOf Verb.Check found (Task.File work file) = (work ≡ Work.Check) × (file.now ≡ file_of found)
IsTaskOf Verb.Draw found (Task.File work file) = (work ≡ Work.Draw) × (file.now ≡ file_of found)
IsTaskOf Verb.Explore found task = IsExplore found task
IsTaskOf Verb.Trace found task = IsTrace found task
IsTaskOf Verb.Wave found task = IsWave found task
IsTaskOf Verb.Stress found (Task.Stress asked) = IsStress found asked
IsTaskOf verb found task = ⊥

-- the task that words ask for: clap finds a command with its options in them, and no fault, and the task is that command's with these options
pub record IsAskedFor (words : List Text) (task : Task) : Type 0 where
  pub verb : Verb
  pub given : ArgMatches
  pub named : subcommand_of program words ≡ Some (name_of verb, rows_of (found_of given))
  pub faultless : fault_of program words ≡ []
  pub same : IsTaskOf verb (found_of given) task

-- the task of a command line: without words it runs standard input, and `--version` alone prints which program this is
abbrev pub IsNamed : List Text → Task → Type 0
IsNamed words task =
    ((words ≡ []) × RunsInput task) ⊎ (((words ≡ codes "--version" ∷ []) × (task ≡ Task.Version)) ⊎ IsAskedFor words task)
