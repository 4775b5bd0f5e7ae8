-- Which requests a script's frames accept.
use Rattle.std.specs.Prelude.{◌≡◌, ◌⊎◌, ℕ, ◌+◌, ◌≤◌, true, List, [], ◌++◌, length}
use Rattle.std.specs.List.{list_any}
use Rattle.i3c_base.specs.declared.requests.Fixed.{Fixed}
use Rattle.i3c_base.specs.declared.requests.Record.{Record}
use Rattle.i3c_base.specs.declared.requests.Request.{Request}
use Rattle.i3c_base.specs.declared.requests.Verdict.{Verdict}
use Rattle.i3c_base.specs.Serve.{IsFirst, drives, refuse_all}
use Rattle.i3c_base.specs.State.{State}
use Rattle.i3c_lines.specs.Policies.{each_kind}
use Rattle.i3c_script.specs.declared.settings.Settings.{Settings}

-- at the start of a script each request is accepted, and no record has left the log
abbrev pub at_first : Settings
at_first = record { kinds = each_kind Verdict.Accept; but = record { items = [] }; forgotten = 0 }

-- the device of one of these slots drives the first request
abbrev pub IsExcepted : List ℕ → State → Type 0
IsExcepted slots st = (r : Request) × IsFirst st r × (list_any (λ slot. drives st r slot) slots ≡ true)

-- what the next frame accepts: nothing where an excepted device drives the first request, and these kinds otherwise
abbrev pub Accepts : Settings → State → Fixed → Type 0
Accepts settings st fixed = (IsExcepted settings.but.items st × (fixed ≡ refuse_all)) ⊎ ((IsExcepted settings.but.items st → ⊥) × (fixed ≡ settings.kinds))

-- a line sets which kinds are accepted, and the slots of excepted devices
pub record IsSet (accepted : Fixed) (slots : List ℕ) (old new : Settings) : Type 0 where
  pub kinds : new.kinds ≡ accepted
  pub but : new.but.items ≡ slots
  pub forgotten : new.forgotten ≡ old.forgotten

-- the records up to a number leave the log, which keeps the others, and are counted: the last of them has that number, if it
-- was in the log. The rest is unchanged
pub record Forgets (last : ℕ) (old : Settings) (before : State) (new : Settings) (after : State) : Type 0 where
  pub gone : List Record
  pub split : before.records ≡ gone ++ after.records
  pub counted : new.forgotten ≡ old.forgotten + length gone
  pub no_more : (gone ≡ []) ⊎ (new.forgotten ≤ last)
  pub all : (after.records ≡ []) ⊎ (last ≤ new.forgotten)
  pub log : after ≡ record before { records = after.records }
  pub count : new ≡ record old { forgotten = new.forgotten }
