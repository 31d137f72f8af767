-- What an accepted write stores, and what it is answered with.
use Rattle.std.specs.Prelude.{ℕ, Bool, cond, ◌&&◌, ◌||◌, List, Some, None, Option, ◌==◌, nat_le, nat_lt}
use Rattle.blocklist.specs.declared.fault.Flags.{Flags}
use Rattle.blocks.specs.Configs.{merged, state_signed}
use Rattle.blocks.specs.Counters.{counter_after, counter_block, goes_up, raising, warned}
use Rattle.decision.specs.declared.view.View.{View}
use Rattle.hopper.specs.declared.store.BlockWrite.{BlockWrite}

-- the counter after an accepted write to a block
abbrev pub next_counter : View → ℕ → ℕ
next_counter x b = counter_after b x.stage x.config.bytes x.counter

-- the write raises the counter
abbrev pub raises : View → ℕ → Bool
raises x b = raising b x.config.bytes && goes_up x.stage x.counter

-- a write to one of these blocks reaches its cell
abbrev pub reaches_cell : ℕ → Bool
reaches_cell b = nat_lt b 0x0F || (b == 0x82 || (b == 0x84 || (nat_le 0x86 b && nat_le b 0x88)))

-- a write to STATE that counts
abbrev pub counts_state : View → ℕ → Bool
counts_state x b = b == 0x92 && state_signed x.config.bytes

-- the write for the journal: block, sixteen bytes, new counter
abbrev pub block_write : View → ℕ → ℕ → List ℕ → BlockWrite
block_write x b home bytes = record { block = home; bytes = bytes; counter = next_counter x b }

-- What is stored: the bytes sent, MC merged; of a STATE that counts, the counter alone; of anything else, nothing.
abbrev pub stored : View → ℕ → List ℕ → Option BlockWrite
stored x b sent =
    cond (reaches_cell b) (Some (block_write x b b (cond (b == 0x88) (merged x.stage x.config.bytes sent) sent)))
    (cond (counts_state x b) (Some (block_write x b 0x90 (counter_block (next_counter x b))))
    None)

-- the flags of the reply to an accepted write
abbrev pub accepted_flags : View → ℕ → Flags
accepted_flags x b =
    cond (warned b x.stage x.config.bytes x.counter) (record { sf1 = 0xFF; sf2 = 0x71 }) (record { sf1 = 0x00; sf2 = 0x00 })
