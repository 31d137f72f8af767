-- A part that is there ends within the bytes, and overwriting it is a put; past the last part a put changes nothing.
use Rattle.std.proofs.Common.{length, refl, arith}
use Rattle.memory.specs.PartLaws.{put_past, overwritten_is_put, part_ends}
use Rattle.memory.proofs.parts.put_part.Goals as goal

pub returns-then-n-bytes-clause-after : goal.returns-then-n-bytes-clause-after
returns-then-n-bytes-clause-after c = grind (arith, put_past)

pub overflow_mul-start : goal.overflow_mul-start
overflow_mul-start c = grind (arith, part_ends)

pub overflow_add-start : goal.overflow_add-start
overflow_add-start c = grind (arith, part_ends)

pub returns-clause-after : goal.returns-clause-after
returns-clause-after c =
    overwritten_is_put (length c.args.part.now) c.args.bytes.now c.args.n c.args.part.now _ _ _ refl (omega arith) c.copy_from_slice.ensures.after c.if-n-bytes.false
