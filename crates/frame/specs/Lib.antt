pub mod Memory
pub mod Frames
pub mod FrameLaws
