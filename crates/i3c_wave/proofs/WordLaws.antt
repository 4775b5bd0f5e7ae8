-- A word between commands, by its first byte.
use Rattle.std.proofs.Common.{◌≡◌, ◌<◌, ◌≤◌, ◌-◌, ℕ, List, [], ◌∷◌, Err, arith, drop, get_or, length, refl, sym, take, take_all}
use Rattle.i3c_wave.specs.declared.capture_fault.CaptureFault.{CaptureFault}
use Rattle.i3c_wave.specs.declared.dump.Dump.{Dump}
use Rattle.i3c_wave.specs.declared.dump_word.Lead.{Lead}
use Rattle.i3c_wave.specs.DumpWords.{lead_of}
use Rattle.i3c_wave.specs.Dumps.{begun_word, led_word}

-- a word of no bytes is no word
pub no_word : (dump : Dump) (at : ℕ) (word : List ℕ) → length word < 1 → begun_word dump at word ≡ Err (CaptureFault.BadWord at)
no_word dump at [] none = refl
no_word dump at (first ∷ rest) none = absurd (omega arith)

-- the step at a word whose first byte says this
pub led_by : (dump : Dump) (at : ℕ) (word : List ℕ) (lead : Lead) → 1 ≤ length word → lead ≡ lead_of (get_or word 0 0) → begun_word dump at word ≡ led_word dump at lead word (take (length word - 1) (drop 1 word))
led_by dump at [] lead some is = absurd (omega arith)
led_by dump at (first ∷ rest) lead some is = λ i. led_word dump at (sym is i) (first ∷ rest) (sym (take_all (length (first ∷ rest) - 1) rest (omega arith)) i)
