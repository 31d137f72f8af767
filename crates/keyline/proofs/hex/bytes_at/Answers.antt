use Rattle.std.proofs.Common.{◌+◌, ◌*◌, rules}
use Rattle.keyline.specs.Hex.{byte_at, bytes_at}
use Rattle.keyline.proofs.Calls.{from_fn_same}
use Rattle.keyline.proofs.hex.bytes_at.Goals as goal

pub returns : goal.returns
unfolding bytes_at
returns g c = from_fn_same (λ k. byte_at c.args.text.now (c.args.at + 2 * k)) c.from_fn.ensures.items (λ i y q call. search rules)
