use Rattle.std.proofs.Common.{◌≡◌, ◌+◌, length}
use Rattle.std.specs.Iterator.Adapters.{take_source, take_count}
use Rattle.blocklist.specs.Lists.{list_read}
use Rattle.blocklist.proofs.block_list.read_list.Given as goal

-- what is read of the rest completes the answer
abbrev pub invariant-loop-width : goal.invariant-loop-width
invariant-loop-width l =
    (l.read + take_count l.width-iterator ≡ l.count)
    × (l.taken + length (take_source l.width-iterator).rest.now ≡ length l.bytes)
    × (l.read + (list_read (take_count l.width-iterator) (take_source l.width-iterator).rest.now).0 ≡ (list_read l.count l.bytes).0)
    × (l.taken + (list_read (take_count l.width-iterator) (take_source l.width-iterator).rest.now).1 ≡ (list_read l.count l.bytes).1)
