pub mod Core
pub mod Does
pub mod Effects
pub mod Exec
pub mod Moves
pub mod Stack
pub mod Tests
