-- The CRC and its laws.
pub mod Crc
pub mod Laws
