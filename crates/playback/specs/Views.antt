-- What is seen of a day. Assumes nothing.
use Rattle.market.specs.declared.words.Side.TheVariants.{Buy, Sell}
use Rattle.replay.specs.Days.{Day}
use Rattle.replay.specs.Questions.{quote, is_paused, in_force}
use Rattle.playback.specs.declared.reply.View.{View}

abbrev pub view_of : Day → View
view_of d = record { bid = quote Buy d; offer = quote Sell d; paused = is_paused d; range = in_force d }
