-- Worked examples: days whose outcome was worked out by hand. Class 2, lower values and last sale 2010 unless said. Assumes nothing.
use Rattle.std.specs.Prelude.{◌≡◌, ℕ, true, false, List, [], ◌∷◌, ◌++◌, map, Some, None, Option}
use Rattle.market.specs.declared.words.Side.{Side}
use Rattle.market.specs.declared.words.Side.TheVariants.{Buy, Sell}
use Rattle.market.specs.declared.words.Kind.TheVariants.{Limit, Market, ImmediateOrCancel, Stop}
use Rattle.market.specs.declared.words.Column.TheVariants.{Lower, Higher}
use Rattle.market.specs.declared.words.Place.{Place}
use Rattle.market.specs.declared.words.Place.TheVariants.{Nowhere, Line, StopFile}
use Rattle.market.specs.declared.words.Order.{Order}
use Rattle.market.specs.declared.words.Range.{Range}
use Rattle.market.specs.declared.words.TapeLine.{TapeLine}
use Rattle.market.specs.declared.words.TapeLine.TheVariants.{Print, Cancel, Elect, Floor}
use Rattle.market.specs.Ranges.{range_around}
use Rattle.sharing.specs.Turns.{by_time, by_rotation}
use Rattle.replay.specs.Days.{Day, Fill, Rule, new_day, Call, Set, LoadLimit, LoadStop, Open, Enter, CancelOrder, FloorTrade, Resume, Close}
use Rattle.replay.specs.Days.{Answer, Done, Number, Lines, Entered, Refused}
use Rattle.replay.specs.Calls.{letter_l, letter_h, after_calls, answers, tapes}
use Rattle.replay.specs.Questions.{quote, is_paused, in_force, Found, Is, NoSuch, record_of, totals}

-- a day after calls, by time priority, with a stop file of 512
abbrev pub day_of : List Call → Day
day_of cs = after_calls by_time 512 new_day cs

abbrev pub tape_of : List Call → List TapeLine
tape_of cs = (day_of cs).tape

abbrev pub answers_of : List Call → List Answer
answers_of cs = answers by_time 512 new_day cs

abbrev pub between : ℕ → ℕ → Option Range
between l h = Some (record { low = l; high = h })

-- with free lines enough for any call
abbrev pub lines : ℕ
lines = 2049

abbrev pub usual : Call
usual = Set 2 letter_l 2010

-- a bid and four offers, one of them out of range
abbrev pub sweep_book : List Call
sweep_book = usual ∷ LoadLimit Buy 1 2008 200 ∷ LoadLimit Sell 2 2012 300 ∷ LoadLimit Sell 3 2013 500 ∷ LoadLimit Sell 4 2015 400 ∷ LoadLimit Sell 5 2030 1000 ∷ Open ∷ []

-- a market buy that the offers in range fill, and one that they do not
abbrev pub swept : List Call
swept = sweep_book ++ (Enter Market Buy 6 0 1000 lines ∷ [])

abbrev pub swept_out : List Call
swept_out = swept ++ (Enter Market Buy 7 0 500 lines ∷ [])

abbrev pub resumed_once : List Call
resumed_once = swept_out ++ (Resume lines ∷ [])

abbrev pub floor_refused : List Call
floor_refused = resumed_once ++ (FloorTrade 2031 100 lines ∷ [])

abbrev pub floor_trades : List Call
floor_trades = resumed_once ++ (FloorTrade 2031 100 lines ∷ FloorTrade 2028 100 lines ∷ [])

-- the same for a market sell
abbrev pub sell_swept : List Call
sell_swept = usual ∷ LoadLimit Sell 1 2012 200 ∷ LoadLimit Buy 2 2008 300 ∷ LoadLimit Buy 3 2007 500 ∷ LoadLimit Buy 4 2005 400 ∷ LoadLimit Buy 5 1990 1000 ∷ Open
    ∷ Enter Market Sell 6 0 1000 lines ∷ Enter Market Sell 7 0 500 lines ∷ []

-- stops on both sides at and next to the price of a print
abbrev pub stops_around : List Call
stops_around = usual ∷ LoadLimit Sell 1 2020 100 ∷ LoadStop Buy 2 2020 100 ∷ LoadStop Sell 2 2020 100 ∷ LoadStop Buy 2 2021 100 ∷ LoadStop Sell 2 2019 100 ∷ Open
    ∷ Enter Market Buy 6 0 100 lines ∷ []

-- an elected stop that finds an offer
abbrev pub stop_runs : List Call
stop_runs = usual ∷ LoadLimit Sell 7 2012 300 ∷ LoadLimit Sell 8 2015 900 ∷ LoadStop Buy 9 2015 200 ∷ Open ∷ Enter Market Buy 5 0 800 lines ∷ CancelOrder 6 2 lines ∷ Close ∷ []

-- two prints of a run, each of which elects a stop: that of the first has the higher number
abbrev pub two_prints : List Call
two_prints = usual ∷ LoadLimit Sell 1 2012 100 ∷ LoadLimit Sell 1 2014 100 ∷ LoadStop Buy 2 2014 300 ∷ LoadStop Buy 2 2012 200 ∷ Open ∷ Enter Market Buy 3 0 200 lines ∷ []

-- two prints of a run, of which only the first reaches the stop
abbrev pub first_reaches : List Call
first_reaches = usual ∷ LoadLimit Sell 1 2012 100 ∷ LoadLimit Sell 1 2014 100 ∷ LoadStop Sell 2 2013 300 ∷ Open ∷ Enter Market Buy 3 0 200 lines ∷ []

-- no last sale: no range is in force when the first order runs
abbrev pub no_sale : List Call
no_sale = Set 2 letter_l 0 ∷ LoadLimit Sell 1 2012 300 ∷ LoadLimit Sell 1 2500 300 ∷ Open ∷ Enter Market Buy 2 0 400 lines ∷ Enter Market Buy 2 0 100 lines ∷ []

-- immediate-or-cancel orders: a residual that meets an offer within its limit and out of range, and one entered in the pause; then a limit order
abbrev pub at_once : List Call
at_once = usual ∷ LoadLimit Sell 1 2012 100 ∷ LoadLimit Sell 1 2030 100 ∷ Open ∷ Enter ImmediateOrCancel Buy 2 2030 300 lines ∷ Enter ImmediateOrCancel Buy 2 2030 100 lines
    ∷ Enter Limit Buy 2 2001 400 lines ∷ []

-- a limit order takes what it can and rests
abbrev pub takes_and_rests : List Call
takes_and_rests = usual ∷ LoadLimit Sell 1 2012 100 ∷ LoadLimit Sell 1 2014 100 ∷ Open ∷ Enter Limit Buy 2 2013 300 lines ∷ []

-- Stops filed in a pause, though the last sale, 2012, already reaches both; then Resume, with nobody in line. The pause is that of an
-- immediate-or-cancel order, which leaves no residual.
abbrev pub filed_in_pause : List Call
filed_in_pause = usual ∷ LoadLimit Sell 1 2012 100 ∷ LoadLimit Sell 1 2030 100 ∷ Open ∷ Enter ImmediateOrCancel Buy 2 2030 200 lines
    ∷ Enter Stop Buy 3 2005 100 lines ∷ Enter Stop Sell 3 2015 100 lines ∷ Resume lines ∷ []

-- then an offer at the price of the sell stop, and an order that takes half of it
abbrev pub print_later : List Call
print_later = filed_in_pause ++ (Enter Limit Sell 1 2015 200 lines ∷ Enter Market Buy 2 0 100 lines ∷ [])

-- or a floor trade below the price of the buy stop, and one at it
abbrev pub floor_later : List Call
floor_later = filed_in_pause ++ (FloorTrade 2004 100 lines ∷ FloorTrade 2005 100 lines ∷ [])

-- the record of such a stop: all of it is open
abbrev pub stop_of_100 : ℕ → Side → ℕ → Place → Found
stop_of_100 n s p w = Is (record { number = n; member = 3; side = s; kind = Stop; price = p; accepted = 100; filled = 0; cancelled = 0; «open» = 100; place = w })

-- the shares of one order in one print
abbrev pub got : ℕ → ℕ → ℕ → ℕ → ℕ → Fill
got n p q l h = record { order = n; price = p; shares = q; low = l; high = h }

-- sells of three kinds, each entered in a pause, and each of which would trade at the bid
abbrev pub sells_in_pause : List Call
sells_in_pause = usual ∷ LoadLimit Buy 1 2010 200 ∷ LoadLimit Sell 2 2012 100 ∷ LoadLimit Sell 3 2030 300 ∷ Open ∷ Enter Market Buy 4 0 300 lines
    ∷ Enter Limit Sell 5 2010 100 lines ∷ Enter Market Sell 6 0 100 lines ∷ Enter ImmediateOrCancel Sell 7 2010 100 lines ∷ []

-- then Resume, which leaves the offer out of range
abbrev pub sells_resumed : List Call
sells_resumed = sells_in_pause ++ (Resume lines ∷ [])

-- or a cancellation of the residual and one more sell, then Resume
abbrev pub sells_first : List Call
sells_first = sells_in_pause ++ (CancelOrder 4 4 lines ∷ Enter Limit Sell 8 2010 100 lines ∷ [])

abbrev pub sells_first_resumed : List Call
sells_first_resumed = sells_first ++ (Resume lines ∷ [])

-- or a floor trade that brings the offer into range; the bid is at the range's other end
abbrev pub sells_run : List Call
sells_run = sells_in_pause ++ (FloorTrade 2020 100 lines ∷ [])

-- a market buy that finds too few shares, the buy stop that its print elects, and a market sell: these two find nobody
abbrev pub meets_nobody : List Call
meets_nobody = usual ∷ LoadLimit Sell 1 2012 100 ∷ LoadStop Buy 4 2012 100 ∷ Open ∷ Enter Market Buy 2 0 300 lines ∷ Enter Market Sell 3 0 200 lines ∷ []

-- Stops on both sides that the print of a market buy elects, whose residual pauses trading. The sell stop has the price of the offer left,
-- and a lower number.
abbrev pub stops_wait : List Call
stops_wait = usual ∷ LoadLimit Buy 1 2010 200 ∷ LoadStop Sell 4 2030 100 ∷ LoadStop Buy 4 2012 100 ∷ LoadLimit Sell 2 2012 100 ∷ LoadLimit Sell 3 2030 300 ∷ Open
    ∷ Enter Market Buy 5 0 300 lines ∷ []

abbrev pub stops_waited : List Call
stops_waited = stops_wait ++ (FloorTrade 2020 100 lines ∷ [])

-- three offers at one price, and a market buy of fewer shares
abbrev pub one_row : List Call
one_row = usual ∷ LoadLimit Sell 1 2012 300 ∷ LoadLimit Sell 1 2012 100 ∷ LoadLimit Sell 1 2012 500 ∷ Open ∷ Enter Market Buy 2 0 500 lines ∷ []

-- the open shares of every order
abbrev pub opens : Rule → List Call → List ℕ
opens gifts cs = map (λ (o : Order). o.«open») (after_calls gifts 512 new_day cs).roll

-- the record of the market buy of 500 after the sweep, with what is filled of it, what is open, and where
abbrev pub buy_of_500 : ℕ → ℕ → Place → Found
buy_of_500 f n w = Is (record { number = 7; member = 7; side = Buy; kind = Market; price = 0; accepted = 500; filled = f; cancelled = 0; «open» = n; place = w })

-- calls that are refused, between some that are not
abbrev pub faults : List Call
faults = Set 4 65 100001 ∷ Set 3 65 100001 ∷ Set 3 letter_h 100001 ∷ Set 3 letter_h 100000
    ∷ LoadLimit Buy 1 100 50 ∷ LoadLimit Buy 1 100 1000100 ∷ LoadLimit Buy 1 100 100 ∷ LoadLimit Sell 1 100 1000000 ∷ LoadLimit Sell 1 101 1000000
    ∷ LoadLimit Sell 0 0 0 ∷ LoadLimit Sell 0 1 0 ∷ LoadLimit Sell 0 1 100 ∷ Resume 0 ∷ Open ∷ Resume 0
    ∷ Enter Limit Buy 1 5 100 3 ∷ Enter Limit Buy 1 5 100 4 ∷ CancelOrder 1 9 0 ∷ CancelOrder 2 1 0 ∷ CancelOrder 1 1 0 ∷ CancelOrder 1 1 1 ∷ CancelOrder 1 1 1
    ∷ Set 1 letter_l 0 ∷ Close ∷ Close ∷ []

pub record Examples : Type 0 where
  -- ranges
  pub range : range_around 2 Lower 2010 ≡ between 2000 2020
  pub class1 : range_around 1 Lower 499 ≡ between 494 504
  pub next_band : range_around 1 Lower 2500 ≡ between 2485 2515
  pub at_least_1 : range_around 2 Higher 4 ≡ between 1 14
  -- a row of 300, 100 and 500, and 500 to share out
  pub rotation : by_rotation (300 ∷ 100 ∷ 500 ∷ []) 500 ≡ 200 ∷ 100 ∷ 200 ∷ []
  pub time : by_time (300 ∷ 100 ∷ 500 ∷ []) 500 ≡ 300 ∷ 100 ∷ 100 ∷ []
  -- the same row on the book: the rule of the day shares out
  pub row_by_rotation : opens by_rotation one_row ≡ 100 ∷ 0 ∷ 300 ∷ 0 ∷ []
  pub row_by_time : opens by_time one_row ≡ 0 ∷ 0 ∷ 400 ∷ 0 ∷ []
  -- before the sweep: the range set at the opening, and the quotes
  pub sweep_opening : (tape_of sweep_book ≡ []) × (is_paused (day_of sweep_book) ≡ false) × (in_force (day_of sweep_book) ≡ between 2000 2020)
      × (quote Buy (day_of sweep_book) ≡ Some (2008, 200)) × (quote Sell (day_of sweep_book) ≡ Some (2012, 300))
  -- A sweep: the best offers, then all others needed at one price. Trading goes on, in the range set at the opening.
  pub sweep : tape_of swept ≡ Print 6 2012 300 2000 2020 ∷ Print 6 2015 700 2000 2020 ∷ []
  pub sweep_after : (is_paused (day_of swept) ≡ false) × (in_force (day_of swept) ≡ between 2000 2020) × (quote Sell (day_of swept) ≡ Some (2015, 200))
  -- then what the range allows; 300 wait, paused
  pub out_of_range : tape_of swept_out ≡ Print 6 2012 300 2000 2020 ∷ Print 6 2015 700 2000 2020 ∷ Print 7 2015 200 2000 2020 ∷ []
  pub out_of_range_after : (is_paused (day_of swept_out) ≡ true) × ((day_of swept_out).line ≡ 7 ∷ []) × (in_force (day_of swept_out) ≡ between 2000 2020)
      × (quote Buy (day_of swept_out) ≡ Some (2008, 200)) × (quote Sell (day_of swept_out) ≡ Some (2030, 1000)) × (record_of 8 (day_of swept_out) ≡ NoSuch 51)
  -- of the 500 shares 200 are filled, and 300 wait
  pub out_of_range_order : (record_of 7 (day_of swept_out) ≡ buy_of_500 200 300 Line)
      × (totals (day_of swept_out) ≡ record { accepted = 3900; printed = 1200; cancelled = 0; «open» = 1500 })
  -- Resume sets the range; nobody can trade, and trading is paused again
  pub resumed : (answers_of resumed_once ≡ Done ∷ Number 1 ∷ Number 2 ∷ Number 3 ∷ Number 4 ∷ Number 5 ∷ Done ∷ Entered 6 2 ∷ Entered 7 1 ∷ Lines 0 ∷ []) × (is_paused (day_of resumed_once) ≡ true) × (in_force (day_of resumed_once) ≡ between 2005 2025)
  -- it writes no line, and the order waits as before
  pub resumed_order : (tape_of resumed_once ≡ Print 6 2012 300 2000 2020 ∷ Print 6 2015 700 2000 2020 ∷ Print 7 2015 200 2000 2020 ∷ []) × ((day_of resumed_once).line ≡ 7 ∷ []) × (record_of 7 (day_of resumed_once) ≡ buy_of_500 200 300 Line)
      × (quote Buy (day_of resumed_once) ≡ Some (2008, 200)) × (quote Sell (day_of resumed_once) ≡ Some (2030, 1000))
  -- a floor trade that is refused ends no pause and sets no range
  pub floor_refused_after : (is_paused (day_of floor_refused) ≡ true) × (in_force (day_of floor_refused) ≡ between 2005 2025) × ((day_of floor_refused).line ≡ 7 ∷ [])
      × (record_of 7 (day_of floor_refused) ≡ buy_of_500 200 300 Line) × (quote Sell (day_of floor_refused) ≡ Some (2030, 1000))
  -- a floor trade above the best offer is refused; one below it sets the range, and the order in line runs
  pub floor : tapes by_time 512 new_day floor_trades
      ≡ [] ∷ [] ∷ [] ∷ [] ∷ [] ∷ [] ∷ [] ∷ (Print 6 2012 300 2000 2020 ∷ Print 6 2015 700 2000 2020 ∷ []) ∷ (Print 7 2015 200 2000 2020 ∷ []) ∷ [] ∷ []
      ∷ (Floor 2028 100 ∷ Print 7 2030 300 2018 2038 ∷ []) ∷ []
  pub floor_answers : answers_of floor_trades
      ≡ Done ∷ Number 1 ∷ Number 2 ∷ Number 3 ∷ Number 4 ∷ Number 5 ∷ Done ∷ Entered 6 2 ∷ Entered 7 1 ∷ Lines 0 ∷ Refused 61 ∷ Lines 2 ∷ []
  pub floor_after : (is_paused (day_of floor_trades) ≡ false) × (in_force (day_of floor_trades) ≡ between 2018 2038) × (quote Sell (day_of floor_trades) ≡ Some (2030, 700))
  -- then the order is filled whole: nothing of it is open, and nobody is in line
  pub floor_order : (record_of 7 (day_of floor_trades) ≡ buy_of_500 500 0 Nowhere) × ((day_of floor_trades).line ≡ [])
      × (totals (day_of floor_trades) ≡ record { accepted = 3900; printed = 1500; cancelled = 0; «open» = 900 })
  -- sells mirror buys
  pub sell : tape_of sell_swept ≡ Print 6 2008 300 2000 2020 ∷ Print 6 2005 700 2000 2020 ∷ Print 7 2005 200 2000 2020 ∷ []
  pub sell_after : (is_paused (day_of sell_swept) ≡ true) × (quote Buy (day_of sell_swept) ≡ Some (1990, 1000))
  -- a print at 2020 elects a buy stop and a sell stop at 2020, not a buy stop at 2021 or a sell stop at 2019
  pub elections : tape_of stops_around ≡ Print 6 2020 100 2000 2020 ∷ Elect 2 ∷ Elect 3 ∷ Cancel 2 100 ∷ Cancel 3 100 ∷ []
  -- an elected stop runs in the same call
  pub stop_runs_tape : tape_of stop_runs ≡ Print 4 2012 300 2000 2020 ∷ Print 4 2015 500 2000 2020 ∷ Elect 3 ∷ Print 3 2015 200 2000 2020 ∷ []
  pub stop_answers : answers_of stop_runs ≡ Done ∷ Number 1 ∷ Number 2 ∷ Number 3 ∷ Done ∷ Entered 4 4 ∷ Refused 52 ∷ Done ∷ []
  pub stop_totals : totals (day_of stop_runs) ≡ record { accepted = 2200; printed = 1000; cancelled = 0; «open» = 200 }
  -- every print elects, the first before the second
  pub each_elects : tape_of two_prints ≡ Print 5 2012 100 2000 2020 ∷ Print 5 2014 100 2000 2020 ∷ Elect 4 ∷ Elect 3 ∷ Cancel 4 200 ∷ Cancel 3 300 ∷ []
  pub first_elects : tape_of first_reaches ≡ Print 4 2012 100 2000 2020 ∷ Print 4 2014 100 2000 2020 ∷ Elect 3 ∷ Cancel 3 300 ∷ []
  -- without a range every price is within range for the first order that prints; then the range stands round its last print
  pub no_range : tape_of no_sale ≡ Print 3 2012 300 0 0 ∷ Print 3 2500 100 0 0 ∷ Print 4 2500 100 2490 2510 ∷ []
  pub no_range_new : (in_force new_day ≡ None) × (quote Buy new_day ≡ None)
  -- the residual is cancelled and trading pauses; in the pause the next is cancelled at once, and a limit order that meets nobody rests
  pub at_once_shown : tape_of at_once ≡ Print 3 2012 100 2000 2020 ∷ Cancel 3 200 ∷ Cancel 4 100 ∷ []
  pub at_once_after : (is_paused (day_of at_once) ≡ true) × (quote Buy (day_of at_once) ≡ Some (2001, 400))
      × (totals (day_of at_once) ≡ record { accepted = 1000; printed = 100; cancelled = 300; «open» = 500 })
  pub rests : tape_of takes_and_rests ≡ Print 3 2012 100 2000 2020 ∷ []
  pub rests_after : (is_paused (day_of takes_and_rests) ≡ false) × (quote Buy (day_of takes_and_rests) ≡ Some (2013, 200)) × (quote Sell (day_of takes_and_rests) ≡ Some (2014, 100))
  -- Resume prints nothing and so elects nobody: both stops stay filed. The range is set round 2012.
  pub resume_elects_nobody : (tape_of filed_in_pause ≡ Print 3 2012 100 2000 2020 ∷ Cancel 3 100 ∷ [])
      × (answers_of filed_in_pause ≡ Done ∷ Number 1 ∷ Number 2 ∷ Done ∷ Entered 3 2 ∷ Entered 4 0 ∷ Entered 5 0 ∷ Lines 0 ∷ [])
  pub still_filed : (is_paused (day_of filed_in_pause) ≡ false) × (in_force (day_of filed_in_pause) ≡ between 2002 2022) × ((day_of filed_in_pause).line ≡ [])
      × (record_of 4 (day_of filed_in_pause) ≡ stop_of_100 4 Buy 2005 StopFile) × (record_of 5 (day_of filed_in_pause) ≡ stop_of_100 5 Sell 2015 StopFile)
  -- the next print, at 2015, elects both: the buy stop takes the other half of the offer, the sell stop meets nobody
  pub print_elects_later : tape_of print_later
      ≡ Print 3 2012 100 2000 2020 ∷ Cancel 3 100 ∷ Print 7 2015 100 2002 2022 ∷ Elect 4 ∷ Elect 5 ∷ Print 4 2015 100 2002 2022 ∷ Cancel 5 100 ∷ []
  -- Each print's fills: who ran, then who gave. The sell stop, with its lower number, is filed at the first print at 2015 and in line at the
  -- second, so it gives to neither.
  pub offer_gives : (day_of print_later).fills
      ≡ got 3 2012 100 2000 2020 ∷ got 1 2012 100 2000 2020 ∷ got 7 2015 100 2002 2022 ∷ got 6 2015 100 2002 2022 ∷ got 4 2015 100 2002 2022 ∷ got 6 2015 100 2002 2022 ∷ []
  -- A floor trade at 2004 elects the sell stop alone. One at 2005 elects the buy stop too; the range is then 1995 to 2015, the offer at 2030
  -- lies outside, and the buy stop waits in a new pause.
  pub floor_elects_later : (tape_of floor_later ≡ Print 3 2012 100 2000 2020 ∷ Cancel 3 100 ∷ Floor 2004 100 ∷ Elect 5 ∷ Cancel 5 100 ∷ Floor 2005 100 ∷ Elect 4 ∷ [])
      × (is_paused (day_of floor_later) ≡ true) × (in_force (day_of floor_later) ≡ between 1995 2015) × ((day_of floor_later).line ≡ 4 ∷ [])
      × (record_of 4 (day_of floor_later) ≡ stop_of_100 4 Buy 2005 Line)
  -- In a pause nobody runs: limit and market order join the line behind the residual of 200, the immediate-or-cancel order is cancelled at
  -- once, and the bid keeps its 200.
  pub nobody_runs : (tape_of sells_in_pause ≡ Print 4 2012 100 2000 2020 ∷ Cancel 7 100 ∷ [])
      × (answers_of sells_in_pause ≡ Done ∷ Number 1 ∷ Number 2 ∷ Number 3 ∷ Done ∷ Entered 4 1 ∷ Entered 5 0 ∷ Entered 6 0 ∷ Entered 7 1 ∷ [])
  pub nobody_runs_after : (is_paused (day_of sells_in_pause) ≡ true) × ((day_of sells_in_pause).line ≡ 4 ∷ 5 ∷ 6 ∷ [])
      × (quote Buy (day_of sells_in_pause) ≡ Some (2010, 200)) × (quote Sell (day_of sells_in_pause) ≡ Some (2030, 300))
      × (opens by_time sells_in_pause ≡ 200 ∷ 0 ∷ 300 ∷ 200 ∷ 100 ∷ 100 ∷ 0 ∷ [])
  -- it runs again, in vain, and stays first in line
  pub residual_first : (tape_of sells_resumed ≡ Print 4 2012 100 2000 2020 ∷ Cancel 7 100 ∷ []) × (is_paused (day_of sells_resumed) ≡ true)
      × (in_force (day_of sells_resumed) ≡ between 2002 2022) × ((day_of sells_resumed).line ≡ 4 ∷ 5 ∷ 6 ∷ [])
  -- with the residual cancelled a sell is first in line, and the bid in range; still nobody runs
  pub cancel_runs_nobody : (tape_of sells_first ≡ Print 4 2012 100 2000 2020 ∷ Cancel 7 100 ∷ Cancel 4 200 ∷ []) × (is_paused (day_of sells_first) ≡ true)
      × ((day_of sells_first).line ≡ 5 ∷ 6 ∷ 8 ∷ []) × (quote Buy (day_of sells_first) ≡ Some (2010, 200))
  -- Resume runs them; the last finds no bid and rests
  pub resume_runs : (tape_of sells_first_resumed
      ≡ Print 4 2012 100 2000 2020 ∷ Cancel 7 100 ∷ Cancel 4 200 ∷ Print 5 2010 100 2002 2022 ∷ Print 6 2010 100 2002 2022 ∷ [])
      × (is_paused (day_of sells_first_resumed) ≡ false) × ((day_of sells_first_resumed).line ≡ []) × (quote Sell (day_of sells_first_resumed) ≡ Some (2010, 100))
  -- Who waits gives nothing, though both sells are priced better than the offer at 2030: that is the best offer, so the floor trade at 2020 is
  -- between the quotes, and the residual trades with the offer alone (300 - 200 = 100 are left). Then the sells run, for the bid's 200.
  pub resting_give : tape_of sells_run
      ≡ Print 4 2012 100 2000 2020 ∷ Cancel 7 100 ∷ Floor 2020 100 ∷ Print 4 2030 200 2010 2030 ∷ Print 5 2010 100 2010 2030 ∷ Print 6 2010 100 2010 2030 ∷ []
  pub resting_give_after : (is_paused (day_of sells_run) ≡ false) × ((day_of sells_run).line ≡ []) × (quote Buy (day_of sells_run) ≡ None)
      × (quote Sell (day_of sells_run) ≡ Some (2030, 100)) × (opens by_time sells_run ≡ 0 ∷ 0 ∷ 100 ∷ 0 ∷ 0 ∷ 0 ∷ 0 ∷ [])
  -- the fills in turn
  pub resting_give_fills : (day_of sells_run).fills
      ≡ got 4 2012 100 2000 2020 ∷ got 2 2012 100 2000 2020 ∷ got 4 2030 200 2010 2030 ∷ got 3 2030 200 2010 2030
      ∷ got 5 2010 100 2010 2030 ∷ got 1 2010 100 2010 2030 ∷ got 6 2010 100 2010 2030 ∷ got 1 2010 100 2010 2030 ∷ []
  -- a market order never rests: 300 - 100 = 200 are cancelled, before the election, and the market sell finds no bid
  pub market_cancelled : tape_of meets_nobody ≡ Print 3 2012 100 2000 2020 ∷ Cancel 3 200 ∷ Elect 2 ∷ Cancel 2 100 ∷ Cancel 4 200 ∷ []
  pub market_cancelled_after : (is_paused (day_of meets_nobody) ≡ false) × (quote Buy (day_of meets_nobody) ≡ None) × (quote Sell (day_of meets_nobody) ≡ None)
      × (totals (day_of meets_nobody) ≡ record { accepted = 700; printed = 100; cancelled = 500; «open» = 0 })
  -- stops elected by the run that pauses trading get their lines, and wait behind its residual
  pub elected_wait : (tape_of stops_wait ≡ Print 6 2012 100 2000 2020 ∷ Elect 2 ∷ Elect 3 ∷ []) × (is_paused (day_of stops_wait) ≡ true)
      × ((day_of stops_wait).line ≡ 6 ∷ 2 ∷ 3 ∷ []) × (opens by_time stops_wait ≡ 200 ∷ 100 ∷ 100 ∷ 0 ∷ 300 ∷ 200 ∷ [])
  -- After the floor trade they run in that order. The residual takes 200 of the offer's 300 and nothing of the sell stop, which then takes
  -- 100 of the bid's 200; the buy stop takes the last 100 of the offer.
  pub elected_run : tape_of stops_waited
      ≡ Print 6 2012 100 2000 2020 ∷ Elect 2 ∷ Elect 3 ∷ Floor 2020 100 ∷ Print 6 2030 200 2010 2030 ∷ Print 2 2010 100 2010 2030 ∷ Print 3 2030 100 2010 2030 ∷ []
  pub elected_run_after : (is_paused (day_of stops_waited) ≡ false) × ((day_of stops_waited).line ≡ []) × (quote Buy (day_of stops_waited) ≡ Some (2010, 100))
      × (quote Sell (day_of stops_waited) ≡ None) × (opens by_time stops_waited ≡ 100 ∷ 0 ∷ 0 ∷ 0 ∷ 0 ∷ 0 ∷ [])
  -- an order in line is cancelled in the pause, which Resume then ends
  pub cancelled_in_line : answers_of (swept_out ++ (CancelOrder 7 7 1 ∷ Resume 0 ∷ Resume 0 ∷ []))
      ≡ Done ∷ Number 1 ∷ Number 2 ∷ Number 3 ∷ Number 4 ∷ Number 5 ∷ Done ∷ Entered 6 2 ∷ Entered 7 1 ∷ Lines 1 ∷ Lines 0 ∷ Refused 71 ∷ []
  -- refusals, the first that applies
  pub refusals : answers_of faults
      ≡ Refused 31 ∷ Refused 32 ∷ Refused 33 ∷ Done ∷ Refused 42 ∷ Refused 42 ∷ Number 1 ∷ Refused 45 ∷ Number 2 ∷ Refused 41 ∷ Refused 42 ∷ Refused 47 ∷ Refused 21 ∷ Done
      ∷ Refused 71 ∷ Refused 44 ∷ Entered 3 0 ∷ Refused 51 ∷ Refused 52 ∷ Refused 44 ∷ Lines 1 ∷ Refused 53 ∷ Refused 21 ∷ Done ∷ Refused 21 ∷ []
  -- a stop file of one place
  pub file_full_answers : answers by_time 1 new_day (LoadStop Buy 1 100 100 ∷ LoadStop Buy 1 100 100 ∷ Open ∷ Enter Stop Sell 1 100 100 8 ∷ Enter Limit Sell 1 100 100 8 ∷ [])
      ≡ Number 1 ∷ Refused 46 ∷ Done ∷ Refused 46 ∷ Entered 2 0 ∷ []
