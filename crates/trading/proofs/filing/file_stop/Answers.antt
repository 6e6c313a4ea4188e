use Rattle.std.proofs.Common.{suc, length, ap, ◌∙◌, arith}
use Rattle.market.specs.declared.words.Stop.{Stop}
use Rattle.orderbook.specs.Trades.{next}
use Rattle.replay.specs.Rolls.{is_stop}
use Rattle.stops.specs.Stops.{above_all, adding}
use Rattle.trading.specs.Boards.{orders_of}
use Rattle.trading.proofs.Adding.{file_above, listed, added}
use Rattle.trading.proofs.Admitting.{next_number}
use Rattle.trading.proofs.Taking.{numbered_of}
use Rattle.trading.proofs.filing.file_stop.Goals as goal

pub returns-in-Stop : goal.returns-in-Stop
returns-in-Stop g c =
    let b = c.args.board.now in
    let t = c.args.ticket.now in
    let os = orders_of b in
    let o = next t os in
    let ss = g.F.StopFile.stops c.args.file.now in
    let room = g.F.StopFile.room c.args.file.now in
    let s = c.next_stop.result in
    record {
      listed = listed t.kind o ss (g.F.StopFile.stops c.add_stop.new.file) s (adding room s ss) c.add_stop.result c.in-Stop.is c.next_stop.ensures c.add_stop.ensures.value c.add_stop.ensures.listed;
      added = λ fl fits.
          added (suc (length os)) room ss s c.add_stop.result (ap (λ (x : Stop). x.number) c.next_stop.ensures ∙ next_number t os)
          (ap (above_all (suc (length os))) fl ∙ file_above (suc (length os)) 1 os (numbered_of b.ruled) (omega arith)) (fits (ap is_stop c.in-Stop.is)) c.add_stop.ensures.value;
      keeps = c.add_stop.ensures.keeps;
    }
