-- What a call did, seen from the day that it was put to.
use Rattle.std.proofs.Common.{◌≡◌, ℕ, Bool, true, false, Some, refl, arith}
use Rattle.replay.specs.Days.{Loading, Trading, Closed}
use Rattle.replay.specs.Calls.{refusal, checks}
use Rattle.trading.specs.declared.board.Board.{Board}
use Rattle.trading.specs.Boards.{day_of}
use Rattle.playback.specs.declared.call.Call.{Call}
use Rattle.playback.specs.declared.call.Call.TheVariants.{Set, LoadLimit, LoadStop, Open, Enter, Cancel, FloorTrade, Resume, Close}
use Rattle.playback.specs.Stages.{call_of}

-- calls after which a loading day is still one
abbrev pub loads : Call → Bool
loads (Set k c p) = true
loads (LoadLimit o) = true
loads (LoadStop o) = true
loads Open = false
loads (Enter t) = false
loads (Cancel m n) = false
loads (FloorTrade p q) = false
loads Resume = false
loads Close = false

-- the same of a trading day
abbrev pub trades : Call → Bool
trades (Set k c p) = false
trades (LoadLimit o) = false
trades (LoadStop o) = false
trades Open = false
trades (Enter t) = true
trades (Cancel m n) = true
trades (FloorTrade p q) = true
trades Resume = true
trades Close = false

-- calls of another phase
pub not_loading : (room : ℕ) (b : Board) (f : ℕ) (c : Call) → loads c ≡ false → (c ≡ Open → ⊥) → refusal (checks room (day_of Loading b) (call_of f c)) ≡ Some 21
unfolding checks
not_loading room b f (Set k c p) e h = absurd (let z : ◌≡◌ {A = ℕ} 0 1 = cc in omega arith)
not_loading room b f (LoadLimit o) e h = absurd (let z : ◌≡◌ {A = ℕ} 0 1 = cc in omega arith)
not_loading room b f (LoadStop o) e h = absurd (let z : ◌≡◌ {A = ℕ} 0 1 = cc in omega arith)
not_loading room b f Open e h = absurd (h refl)
not_loading room b f (Enter t) e h = refl
not_loading room b f (Cancel m n) e h = refl
not_loading room b f (FloorTrade p q) e h = refl
not_loading room b f Resume e h = refl
not_loading room b f Close e h = refl

pub not_trading : (room : ℕ) (b : Board) (f : ℕ) (c : Call) → trades c ≡ false → (c ≡ Close → ⊥) → refusal (checks room (day_of Trading b) (call_of f c)) ≡ Some 21
unfolding checks
not_trading room b f (Set k c p) e h = refl
not_trading room b f (LoadLimit o) e h = refl
not_trading room b f (LoadStop o) e h = refl
not_trading room b f Open e h = refl
not_trading room b f (Enter t) e h = absurd (let z : ◌≡◌ {A = ℕ} 0 1 = cc in omega arith)
not_trading room b f (Cancel m n) e h = absurd (let z : ◌≡◌ {A = ℕ} 0 1 = cc in omega arith)
not_trading room b f (FloorTrade p q) e h = absurd (let z : ◌≡◌ {A = ℕ} 0 1 = cc in omega arith)
not_trading room b f Resume e h = absurd (let z : ◌≡◌ {A = ℕ} 0 1 = cc in omega arith)
not_trading room b f Close e h = absurd (h refl)

pub not_closed : (room : ℕ) (b : Board) (f : ℕ) (c : Call) → refusal (checks room (day_of Closed b) (call_of f c)) ≡ Some 21
unfolding checks
not_closed room b f (Set k c p) = refl
not_closed room b f (LoadLimit o) = refl
not_closed room b f (LoadStop o) = refl
not_closed room b f Open = refl
not_closed room b f (Enter t) = refl
not_closed room b f (Cancel m n) = refl
not_closed room b f (FloorTrade p q) = refl
not_closed room b f Resume = refl
not_closed room b f Close = refl
