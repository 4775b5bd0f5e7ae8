-- The raises of a port in a run.
use Rattle.std.specs.Prelude.{ℕ, ◌==◌, ◌&&◌, List, [], ◌∷◌, ◌++◌, Option, if◌then◌else◌}
use Rattle.i3c_step.specs.declared.events.Event.{Event}
use Rattle.i3c_step.specs.Stays.{is_attached, is_into}
use Rattle.i3c_recorder.specs.declared.entry.Entry.{Entry}

-- the byte that an event raises at the slot, if it is a raise there
abbrev pub raised_at : ℕ → Event → List (Option ℕ)
raised_at s (Event.Raise t byte) = if t == s then byte ∷ [] else []
raised_at s event = []

-- the bytes of the raises of a slot's port after one entry more: a port goes out by an accepted attachment
abbrev pub next_raises : ℕ → List (Option ℕ) → Entry → List (Option ℕ)
next_raises s bytes e = if is_attached e.reply && is_into s e.event then [] else bytes ++ raised_at s e.event

abbrev pub raises_from : ℕ → List (Option ℕ) → List Entry → List (Option ℕ)
raises_from s bytes [] = bytes
raises_from s bytes (e ∷ run) = raises_from s (next_raises s bytes e) run

-- the bytes of the raises of a slot's port, refused ones too: those since the attachment that gave it, or since the start
abbrev pub raises_of : ℕ → List Entry → List (Option ℕ)
raises_of s run = raises_from s [] run
