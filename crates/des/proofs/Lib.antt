pub mod Picks
pub mod Schedules
pub mod Tests
