pub mod Xtea
