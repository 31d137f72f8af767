-- The cells of a hopper's blocks.
use Rattle.std.specs.Prelude.{ℕ, ◌+◌, ◌*◌, cond, Some, None, Option, ◌==◌, nat_lt}
use Rattle.std.specs.Option.{option_map}

-- the place of a block among its hopper's 22 cells, if it has one: the scratch blocks S_PAD0 to S_PAD13 and REG, then
-- ID, D_ID, SER_C, CKV, CK, MC and WCNT
abbrev pub cell_of : ℕ → Option ℕ
cell_of block =
    cond (nat_lt block 0x0F) (Some block)
    (cond (block == 0x82) (Some 15)
    (cond (block == 0x83) (Some 16)
    (cond (block == 0x84) (Some 17)
    (cond (block == 0x86) (Some 18)
    (cond (block == 0x87) (Some 19)
    (cond (block == 0x88) (Some 20)
    (cond (block == 0x90) (Some 21)
    None)))))))

-- where a hopper's cells begin in the memory: each has 22
abbrev pub first_cell : ℕ → ℕ
first_cell hopper = 22 * hopper

-- a cell of a hopper in the memory
abbrev pub hopper_cell : ℕ → ℕ → ℕ
hopper_cell hopper cell = first_cell hopper + cell

-- the cell of a hopper's block in the memory
abbrev pub cell_number : ℕ → ℕ → Option ℕ
cell_number hopper block = option_map (hopper_cell hopper) (cell_of block)
