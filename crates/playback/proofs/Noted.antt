-- What is seen of a list with one call more, and what is seen of two lists.
use Rattle.std.proofs.Common.{◌≡◌, ℕ, Bool, List, [], ◌∷◌, ◌++◌, take, Result, refl, sym, ap, ◌∙◌, subst}
use Rattle.std.specs.List.{AllZip}
use Rattle.market.specs.declared.words.Side.TheVariants.{Buy, Sell}
use Rattle.market.specs.declared.words.TapeLine.{TapeLine}
use Rattle.sharing.specs.Shares.{LawfulRule}
use Rattle.replay.specs.Days.{Day, Phase, Rule, Call, Answer, new_day, Loading}
use Rattle.replay.specs.Calls.{handed, step, after_calls, tapes}
use Rattle.replay.specs.Questions.{quote, totals}
use Rattle.replay.specs.History.{bare, joined, BareRun}
use Rattle.replay.specs.SharesAddUp.{Conserved, brought_in}
use Rattle.replay.specs.StopsUnseen.{AllSeen}
use Rattle.replay.proofs.History.{run_bare}
use Rattle.replay.proofs.Accepted.{shares_add_up}
use Rattle.trading.specs.declared.board.Board.{Board}
use Rattle.trading.specs.Boards.{day_of}
use Rattle.playback.specs.declared.call.Call as calls
use Rattle.playback.specs.declared.reply.Reply.{Reply}
use Rattle.playback.specs.declared.reply.CallRefusal.{CallRefusal}
use Rattle.playback.specs.declared.reply.View.{View}
use Rattle.playback.specs.declared.stage.Stage.{Stage}
use Rattle.playback.specs.declared.stage.Stage.TheVariants.{Load, Trade, Shut}
use Rattle.playback.specs.Alike.{Alike}
use Rattle.playback.specs.Lent.{over, lent}
use Rattle.playback.specs.Reached.{Reached, Went}
use Rattle.playback.specs.Replies.{answer_of, lines_of}
use Rattle.playback.specs.Seen.{Follows, seen, seen_of, lines_seen}
use Rattle.playback.specs.Stages.{call_of, day_in, board_in}
use Rattle.playback.specs.Sums.{AddsUp}
use Rattle.playback.specs.Views.{view_of}
use Rattle.playback.proofs.OneMore.{after_more, written, taken}

pub follows_more : {S A : Type 0} (P : S → A → S → Type 0) (s : S) {t u : S} (xs : List A) {x : A} → Follows P s xs t → P t x u → Follows P s (xs ++ x ∷ []) u
follows_more P s {t} {u} [] {x} e p = (u, subst (λ y. P y x u) e p, refl)
follows_more P s (y ∷ ys) h p = (h.0, h.1, follows_more P h.0 ys h.2 p)

pub seen_more : (gifts : Rule) (room : ℕ) (d : Day) (cs : List Call) (c : Call) → seen gifts room d (cs ++ c ∷ []) ≡ seen gifts room d cs ++ seen_of gifts room (after_calls gifts room d cs) c ∷ []
unfolding seen after_calls
seen_more gifts room d [] c = refl
seen_more gifts room d (x ∷ cs) c = ap (λ l. seen_of gifts room d x ∷ l) (seen_more gifts room (step gifts room d x).day cs c)

lent_from : (gifts : Rule) (room : ℕ) (d : Day) (cs : List Call) (c : Call) (ls : List TapeLine)
    → lent gifts room d (cs ++ c ∷ []) ls ≡ over (handed (after_calls gifts room d cs) (step gifts room (after_calls gifts room d cs) c).day) (lent gifts room d cs ls)
unfolding lent after_calls
lent_from gifts room d [] c ls = refl
lent_from gifts room d (x ∷ cs) c ls = lent_from gifts room (step gifts room d x).day cs c _

pub lent_more : (gifts : Rule) (room : ℕ) (cs : List Call) (c : Call) (ls : List TapeLine) → lent gifts room new_day (cs ++ c ∷ []) ls ≡ over (written gifts room cs c) (lent gifts room new_day cs ls)
lent_more gifts room cs c ls = lent_from gifts room new_day cs c ls

-- what is seen of a day does not look at its history
view_bare : (d : Day) → view_of (bare d) ≡ view_of d
unfolding quote
view_bare d = refl

-- what is seen of a board is seen of the day
view_in : {R F : Type 0} {g : _} (st : Stage R F g) → view_of (day_of Loading (board_in st)) ≡ view_of (day_in st)
unfolding quote
view_in (Load d) = refl
view_in (Trade d) = refl
view_in (Shut d) = refl

pub view_at : {R F : Type 0} {g : _} (st : Stage R F g) {v : View} {b : Board} → ((f : Phase) → v ≡ view_of (day_of f b)) → b ≡ board_in st → v ≡ view_of (day_in st)
view_at st e f = e Loading ∙ ap (λ (b : Board). view_of (day_of Loading b)) f ∙ view_in st

-- what is told of a call is what is seen of it
pub telling : {gifts : Rule} {room : ℕ} {cs : List Call} {c : Call} {e : Day} {ls ls' : List TapeLine} (r : Result Reply CallRefusal) → Went gifts room cs c (answer_of r) e ls ls'
    → (v : View) (n : ℕ) → n ≡ lines_of r → v ≡ view_of e → seen_of gifts room (after_calls gifts room new_day cs) c ≡ record { answer = answer_of r; view = v; lines = take n ls' }
telling {gifts} {room} {cs} {c} {ls' = ls'} r w v n e f =
    let l : take n ls' ≡ written gifts room cs c = ap (λ k. take k ls') e ∙ taken r w in
    let x : v ≡ view_of (step gifts room (after_calls gifts room new_day cs) c).day = f ∙ ap view_of w.reached ∙ view_bare _ ∙ ap view_of (after_more gifts room new_day cs c) in
    λ i. record { answer = (sym w.answer) i; view = (sym x) i; lines = (sym l) i }

-- the same by an equal rule, capacity and count of lines
pub went_by : {gifts gifts' : Rule} {room room' f f' : ℕ} {a : Answer} {d e : Day} {ls ls' : List TapeLine} (x : calls.Call) (cs : List Call) → gifts ≡ gifts' → room ≡ room' → f ≡ f'
    → ((cs : List Call) → Reached gifts room cs d → Went gifts room cs (call_of f x) a e ls ls') → Reached gifts' room' cs d → Went gifts' room' cs (call_of f' x) a e ls ls'
went_by {gifts} {gifts'} {room} {room'} {f} {f'} {a} {d} {e} {ls} {ls'} x cs p q r h =
    subst (λ y. Reached gifts' y cs d → Went gifts' y cs (call_of f' x) a e ls ls') q (subst (λ y. Reached y room cs d → Went y room cs (call_of f' x) a e ls ls') p (subst (λ y. Reached gifts room cs d → Went gifts room cs (call_of y x) a e ls ls') r (h cs)))

lines_are : (gifts : Rule) (room : ℕ) (d : Day) (cs : List Call) → tapes gifts room d cs ≡ lines_seen (seen gifts room d cs)
unfolding tapes seen
lines_are gifts room d [] = refl
lines_are gifts room d (c ∷ cs) = ap (λ l. handed d (step gifts room d c).day ∷ l) (lines_are gifts room (step gifts room d c).day cs)

-- all lines that were handed over are the tape
pub whole_tape : (gifts : Rule) (room : ℕ) (cs : List Call) → (after_calls gifts room new_day cs).tape ≡ joined (lines_seen (seen gifts room new_day cs))
unfolding new_day
whole_tape gifts room cs = let r : BareRun gifts room new_day cs = run_bare gifts room cs new_day in r.tape ∙ ap joined (sym r.lines ∙ lines_are gifts room new_day cs)

pub adds_up : {gifts : Rule} → LawfulRule gifts → (room : ℕ) (cs : List Call) {d : Day} → Reached gifts room cs d → AddsUp d (joined (lines_seen (seen gifts room new_day cs))) (brought_in gifts room new_day cs)
unfolding totals
adds_up {gifts} h room cs {d} r =
    let b : Day = after_calls gifts room new_day cs in
    let x = shares_add_up gifts h room cs in
    let k : Conserved b = x.0 in
    let q : ℕ = brought_in gifts room new_day cs in
    let a : AddsUp (bare b) b.tape q = record { accepted = x.1; printed = k.printed; cancelled = k.cancelled; sum = k.sum; each = k.each; bought = k.bought; sold = k.sold } in
    subst (λ y. AddsUp y (joined (lines_seen (seen gifts room new_day cs))) q) (sym r) (subst (λ l. AddsUp (bare b) l q) (whole_tape gifts room cs) a)

pub seen_alike : (gifts : Rule) (D : ℕ → Bool) (room : ℕ) (d e : Day) (cs cs' : List Call) → AllSeen gifts D room d e cs cs' → AllZip (Alike D) (seen gifts room d cs) (seen gifts room e cs')
unfolding seen
seen_alike gifts D room d e [] [] h = tt
seen_alike gifts D room d e [] (c' ∷ cs') h = absurd h
seen_alike gifts D room d e (c ∷ cs) [] h = absurd h
seen_alike gifts D room d e (c ∷ cs) (c' ∷ cs') h =
    (record { answer = h.0.answer; view = λ i. record { bid = h.0.quotes Buy i; offer = h.0.quotes Sell i; paused = h.0.pause i; range = h.0.range i }; lines = h.0.lines }, seen_alike gifts D room (step gifts room d c).day (step gifts room e c').day cs cs' h.1)
