-- Replies: the texts of their tags, and their packets.
pub mod Texts
pub mod Packets
