use Rattle.playback.proofs.reply.View.of.Goals as goal

pub returns : goal.returns
returns c = λ f i. record { bid = c.quote.ensures f i; offer = c.quote-2.ensures f i; paused = c.is_paused.ensures f i; range = c.range.ensures f i }
