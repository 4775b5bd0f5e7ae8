-- What `show` prints of a scene.
use Rattle.std.specs.Prelude.{ℕ, List}
use Rattle.i3c_script.specs.Printed.{show_text}
use Rattle.i3c_scene.specs.Scenes.{Seen, known_kept}

-- the bus with the scene's names, where so many records have left the log
abbrev pub shown_text : Seen → List ℕ
shown_text scene = show_text known_kept scene.settings.forgotten scene.state scene.names
