-- Lines of the tape.
use Rattle.std.proofs.Common.{◌≡◌, ℕ, ◌+◌, ◌-◌, ◌≤◌, List, [], ◌∷◌, ◌++◌, drop, sym, refl, ap, ◌∙◌, arith}
use Rattle.std.proofs.lemmas.List.{drop-drop}
use Rattle.market.specs.declared.words.TapeLine.{TapeLine}
use Rattle.replay.specs.Days.{Day, Phase}
use Rattle.trading.specs.declared.board.Board.{Board}
use Rattle.trading.specs.declared.board.tape.Tape.{Tape}
use Rattle.trading.specs.Tapes.{Grew}
use Rattle.trading.specs.Shows.{Shows}

-- one line more
pub wrote : {xs ys zs : List TapeLine} {line line' : TapeLine} → zs ≡ xs ++ line ∷ [] → line ≡ line' → xs ≡ ys → zs ≡ ys ++ (line' ∷ [])
wrote e l s = e ∙ (λ i. s i ++ l i ∷ [])

-- lines that two steps leave as they were
drop_later : {X : Type 0} (m k : ℕ) (xs ys : List X) → m ≤ k → drop m xs ≡ drop m ys → drop k xs ≡ drop k ys
drop_later m k xs ys le e =
    let s : m + (k - m) ≡ k = omega arith in
    ap (λ n. drop n xs) (sym s) ∙ sym (drop-drop (k - m) m xs) ∙ ap (drop (k - m)) e ∙ drop-drop (k - m) m ys ∙ ap (λ n. drop n ys) s

pub grew_none : (t : Tape) → Grew t t
grew_none t = record { same = refl; long = refl; more = omega arith; others = refl }

pub grew_more : {t u v : Tape} → Grew t u → Grew u v → Grew t v
grew_more {t} {u} {v} a b = record {
  same = b.same ∙ a.same;
  long = b.long ∙ a.long;
  more = omega (arith, a.more, b.more);
  others = b.others ∙ drop_later u.used v.used u.lines.now t.lines.now b.more a.others;
}

-- the same lines, by another name
pub with_lines : {f : Phase} {b : Board} {ls ls' : List TapeLine} {d : Day} → Shows f b ls d → ls' ≡ ls → Shows f b ls' d
with_lines s e = record { roll = s.roll; line = s.line; paused = s.paused; range = s.range; last = s.last; class = s.class; column = s.column; phase = s.phase; tape = e ∙ s.tape }
