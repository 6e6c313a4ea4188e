-- The lines of the tape that a call was lent. Assumes nothing.
use Rattle.std.specs.Prelude.{◌≡◌, ℕ, ◌+◌, ◌≤◌, List, length, take, drop}
use Rattle.market.specs.declared.words.TapeLine.{TapeLine}
use Rattle.trading.specs.declared.board.tape.Tape.{Tape}

abbrev pub written : Tape → List TapeLine
written t = take t.used t.lines.now

-- n lines more fit
abbrev pub HasRoom : ℕ → Tape → Type 0
HasRoom n t = t.used + n ≤ length t.lines.now

-- lines were written behind those that stood there, into the same lent lines, and the free ones behind them are as they were
pub record Grew (t t' : Tape) : Type 0 where
  pub same : t'.lines.ghost_name ≡ t.lines.ghost_name
  pub long : length t'.lines.now ≡ length t.lines.now
  pub more : t.used ≤ t'.used
  pub others : drop t'.used t'.lines.now ≡ drop t'.used t.lines.now
