-- A text cut at a mark: lines end with byte 10, fields are parted by byte 9.
use Rattle.std.specs.Prelude.{ℕ, zero, suc, ◌+◌, ◌-◌, cond, List, [], ◌∷◌, length, ◌==◌}

-- the bytes before the first mark, or all of them
abbrev pub up_to : ℕ → List ℕ → List ℕ
up_to m [] = []
up_to m (c ∷ cs) = cond (c == m) [] (c ∷ up_to m cs)

-- the bytes behind the first mark, or none
abbrev pub past : ℕ → List ℕ → List ℕ
past m [] = []
past m (c ∷ cs) = cond (c == m) cs (past m cs)

-- how often the mark stands there
abbrev pub marks : ℕ → List ℕ → ℕ
marks m [] = 0
marks m (c ∷ cs) = cond (c == m) (1 + marks m cs) (marks m cs)

-- the first line of a text, without its end
abbrev pub line_of : List ℕ → List ℕ
line_of text = up_to 10 text

-- the unread rest behind the first line and its end
abbrev pub rest_of : List ℕ → List ℕ
rest_of text = past 10 text

-- where the next line begins
abbrev pub next_of : List ℕ → ℕ
next_of text = length text - length (rest_of text)

-- how many fields a line has
abbrev pub field_count : List ℕ → ℕ
field_count line = marks 9 line + 1

-- the fields of a line, counted from 0: the letter is field 0
abbrev pub field_at : ℕ → List ℕ → List ℕ
field_at zero line = up_to 9 line
field_at (suc k) line = field_at k (past 9 line)
