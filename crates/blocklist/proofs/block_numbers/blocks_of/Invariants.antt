use Rattle.std.proofs.Common.{◌≡◌, ◌-◌, ◌≤◌, length}
use Rattle.std.specs.Iterator.Adapters.{zip_first, zip_second}
use Rattle.blocklist.specs.Elements.{elements, all_named, blocks_named}
use Rattle.blocklist.proofs.Naming.{after_known}
use Rattle.blocklist.proofs.block_numbers.blocks_of.Given as goal

-- the numbers known, before those that what is left of the list names
abbrev pub invariant-loop-index : goal.invariant-loop-index
invariant-loop-index l =
    ((zip_first l.index-iterator).end ≡ 4)
    × ((zip_first l.index-iterator).start ≤ 4)
    × (length l.found.items ≡ (zip_first l.index-iterator).start)
    × (after_known l.found.items (all_named (zip_first l.index-iterator).start (elements (4 - (zip_first l.index-iterator).start) (zip_second l.index-iterator).rest.now))
    ≡ blocks_named l.list)
