-- A line, put together from the pieces in which it comes.
-- From docs/SCRIPTS.md, its first lines (a line ends with one byte 0x0A) and "Fields" (too long a line, an unfinished last line).
use Rattle.std.specs.Prelude.{◌≡◌, ℕ, zero, suc, ◌+◌, ◌-◌, Bool, true, cond, List, length, get_or, eqb, ltb}
use Rattle.parts.specs.Parts.{room_for, put_in}
use Rattle.script_driver.specs.declared.pieces.Partial.{Partial}

-- among n bytes from i on: where the first newline is, or behind them
unfoldable pub newline_in : ℕ → ℕ → List ℕ → ℕ
newline_in zero i s = i
newline_in (suc n) i s = cond (eqb (get_or s i 0) 10) i (newline_in n (i + 1) s)

-- a line ends at the first newline
abbrev pub line_end : ℕ → List ℕ → ℕ
line_end from s = newline_in (length s - from) from s

-- a piece goes behind what came of the line; what does not fit is left out, and the line is too long
pub record Appended (p : Partial) (piece line out : List ℕ) (r : Partial) : Type 0 where
  pub came : r
      ≡ cond (room_for p.filled (length piece) piece line) (record { filled = p.filled + length piece; long = p.long })
      (record { filled = p.filled; long = true })
  pub bytes : out ≡ put_in p.filled (length piece) piece line

-- something came of a line that did not end
abbrev pub is_unfinished : Partial → Bool
is_unfinished p = cond p.long true (ltb 0 p.filled)
