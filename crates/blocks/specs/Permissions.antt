-- Whether a block may be written, and whether a write to it needs a MAC.
use Rattle.std.specs.Prelude.{ℕ, Bool, true, false, cond, not, ◌&&◌, ◌||◌, List, ◌==◌, nat_lt}
use Rattle.blocks.specs.declared.stage.Stage.{Stage}
use Rattle.blocks.specs.declared.permission.Permission.{Permission}
use Rattle.blocks.specs.declared.permission.Permission.TheVariants.{ReadOnly, ReadWrite, ReadWriteMac}
use Rattle.blocks.specs.Configs.{config_open, keys_open, scratch_open, scratch_signed, state_signed}
use Rattle.blocks.specs.Stages.{is_issued}

-- CKV and CK
abbrev pub is_key : ℕ → Bool
is_key block = block == 0x86 || block == 0x87

-- ID and SER_C
abbrev pub is_label : ℕ → Bool
is_label block = block == 0x82 || block == 0x84

-- a block may be written
abbrev pub writable : ℕ → Stage → List ℕ → Bool
writable block stage mc =
    (nat_lt block 0x0F && scratch_open mc block)
    || (block == 0x80
    || ((is_label block && not (is_issued stage))
    || ((is_key block && (not (is_issued stage) || keys_open mc))
    || ((block == 0x88 && (not (is_issued stage) || config_open mc))
    || block == 0x92))))

-- a write to a block needs a MAC
abbrev pub needs_mac : ℕ → Stage → List ℕ → Bool
needs_mac block stage mc =
    (nat_lt block 0x0F && scratch_signed mc block)
    || ((is_key block && is_issued stage)
    || (block == 0x92 && state_signed mc))

abbrev pub permission : ℕ → Stage → List ℕ → Permission
permission block stage mc =
    cond (writable block stage mc) (cond (needs_mac block stage mc) ReadWriteMac ReadWrite) ReadOnly

abbrev pub may_write : Permission → Bool
may_write ReadOnly = false
may_write ReadWrite = true
may_write ReadWriteMac = true

abbrev pub asks_mac : Permission → Bool
asks_mac ReadOnly = false
asks_mac ReadWrite = false
asks_mac ReadWriteMac = true
