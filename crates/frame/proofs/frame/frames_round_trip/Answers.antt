use Rattle.frame.proofs.Framing.{back_written, forth}
use Rattle.frame.proofs.frame.frames_round_trip.Goals as goal

pub returns : goal.returns
returns c = record { back = back_written; only = forth }
