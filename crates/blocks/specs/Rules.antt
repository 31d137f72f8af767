-- Permission, rule by rule: what the one definition comes to for each kind of block.
use Rattle.std.specs.Prelude.{◌≡◌, ℕ, ◌<◌, true, not, ◌||◌, ◌⊎◌, List}
use Rattle.blocks.specs.declared.stage.Stage.{Stage}
use Rattle.blocks.specs.declared.permission.Permission.{Permission}
use Rattle.blocks.specs.Configs.{config_open, keys_open, scratch_open, scratch_signed, state_signed}
use Rattle.blocks.specs.Permissions.{asks_mac, may_write}
use Rattle.blocks.specs.Stages.{is_issued}

pub record PermissionRules (block : ℕ) (stage : Stage) (mc : List ℕ) (p : Permission) : Type 0 where
  -- a scratch block is open by its bit of bytes 0 and 1
  pub scratch : block < 15 → may_write p ≡ scratch_open mc block
  -- RC and STATE are open
  pub always : (block ≡ 0x80) ⊎ (block ≡ 0x92) → may_write p ≡ true
  -- ID and SER_C are open while issuing
  pub labels : (block ≡ 0x82) ⊎ (block ≡ 0x84) → may_write p ≡ not (is_issued stage)
  -- CKV and CK are open while issuing, and when issued by byte 5
  pub keys : (block ≡ 0x86) ⊎ (block ≡ 0x87) → may_write p ≡ (not (is_issued stage) || keys_open mc)
  -- MC is open while issuing, and when issued by bit 7 of byte 1
  pub config : block ≡ 0x88 → may_write p ≡ (not (is_issued stage) || config_open mc)
  -- an open scratch block needs a MAC by its bit of bytes 10 and 11
  pub scratch_mac : block < 15 → may_write p ≡ true → asks_mac p ≡ scratch_signed mc block
  -- open keys need one when issued
  pub keys_mac : (block ≡ 0x86) ⊎ (block ≡ 0x87) → may_write p ≡ true → asks_mac p ≡ is_issued stage
  -- STATE needs one by byte 12
  pub state_mac : block ≡ 0x92 → asks_mac p ≡ state_signed mc
