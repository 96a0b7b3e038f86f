pub mod Older
pub mod Placements
pub mod Cursors
