use Rattle.std.proofs.Common.{◌≡◌, [], take, drop}
use Rattle.blocklist.specs.Elements.{numbers_in}
use Rattle.decision.specs.Reads.{blocks_tested}
use Rattle.decision.specs.Services.{is_read_write}
use Rattle.decision.proofs.view.View.check_blocks.Given as goal

-- the blocks that are left decide
abbrev pub invariant-loop-index : goal.invariant-loop-index
invariant-loop-index l =
    blocks_tested l.self (is_read_write l.service) (take l.index l.numbers) (drop l.index l.numbers)
    ≡ blocks_tested l.self (is_read_write l.service) [] (numbers_in l.blocks)
