pub mod Entering
pub mod Hitting
pub mod Reporting
pub mod Standing
pub mod Writing
