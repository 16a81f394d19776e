-- How much room an answer may need, and where the next one goes. From docs/SCRIPTS.md, "Answers" and "D".
use Rattle.std.specs.Prelude.{◌≡◌, cond, ℕ, ◌+◌, ◌*◌, List, length, leb}
use Rattle.peripheral_set.specs.Marks.{slots}
use Rattle.script_fields.specs.Write.{standing, written}

-- a field: a space, and a number of at most 20 digits
abbrev pub field_most : ℕ
field_most = 21

-- No answer is longer: a letter, a newline, the 123 fields of the longest H (number, count, 40 entries of three bytes, sum) and the 25
-- fields of each slot of a D. A D has 28 fields before its slots, and 300 bytes in hex take less than 29 fields: H leaves room for both.
abbrev pub longest : ℕ
longest = 2 + field_most * (123 + 25 * slots)

-- where the next answer goes in an output of len bytes of which `at` wait: behind them, or to the front once they are written out
abbrev pub next_at : ℕ → ℕ → ℕ
next_at len at = cond (leb (at + longest) len) at 0

-- no byte of the text is left out
abbrev pub Whole : List ℕ → ℕ → List ℕ → Type 0
Whole w at out = (written w (standing at out)).at ≡ at + length w
