use Rattle.std.proofs.Common.{rules, ◌<◌}
use Rattle.frame.proofs.Framing.{crc_decides}
use Rattle.frame.proofs.frame.take_packet.Goals as goal

pub returns-then-ne : goal.returns-then-ne
returns-then-ne c =
    let f : c.frame_crc.result < 65536 = search rules in
    let d = crc_decides c.args.bytes.now c.in_ok-after_opening.field-0.now c.frame_crc.result c.in_ok-after_opening.ensures c.in-len3-up.len_at_least (search rules) (search rules) c.frame_crc.ensures f in
    search rules

pub returns : goal.returns
returns c =
    let f : c.frame_crc.result < 65536 = search rules in
    let d = crc_decides c.args.bytes.now c.in_ok-after_opening.field-0.now c.frame_crc.result c.in_ok-after_opening.ensures c.in-len3-up.len_at_least (search rules) (search rules) c.frame_crc.ensures f in
    search rules
