-- Words that are told one after another.
use Rattle.std.proofs.Common.{◌≡◌, ℕ, Bool, true, List, [], ◌∷◌, ◌++◌, arith, length, map, refl, ap}
use Rattle.i3c_frame.specs.declared.symbols.Symbol.{Symbol}
use Rattle.i3c_xfer.specs.declared.wire.Side.{Side}
use Rattle.i3c_xfer.specs.Wire.{AreWritten, IsWrittenWord, read_words, word_of}

-- the words of a read are those of all bytes but the last, and that
pub read_all : (side : Side) (last : Bool) (bytes : List ℕ) (end : ℕ) → read_words side last (bytes ++ end ∷ []) ≡ map (word_of side true) bytes ++ word_of side last end ∷ []
read_all side last [] end = refl
read_all side last (byte ∷ []) end = refl
read_all side last (byte ∷ next ∷ bytes) end = ap (λ words. word_of side true byte ∷ words) (read_all side last (next ∷ bytes) end)

-- no bytes have no words
pub read_none : (side : Side) (last : Bool) (bytes : List ℕ) → length bytes ≡ 0 → read_words side last bytes ≡ []
read_none side last [] e = refl
read_none side last (byte ∷ bytes) e = absurd (omega (arith, e))

-- one more word of a write
pub written_more : (side : Side) (bytes : List ℕ) (words : List Symbol) (byte : ℕ) (word : Symbol) → AreWritten side bytes words → IsWrittenWord side byte word → AreWritten side (bytes ++ byte ∷ []) (words ++ word ∷ [])
written_more side [] [] byte word h is = (is, tt)
written_more side [] (w ∷ words) byte word h is = absurd h
written_more side (b ∷ bytes) [] byte word h is = absurd h
written_more side (b ∷ bytes) (w ∷ words) byte word h is = (h.0, written_more side bytes words byte word h.1 is)
