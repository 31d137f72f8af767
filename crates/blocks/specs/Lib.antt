-- A hopper's blocks: stage, cells, configuration, permission, write counter.
pub mod Stages
pub mod Cells
pub mod Configs
pub mod Permissions
pub mod Rules
pub mod Counters
