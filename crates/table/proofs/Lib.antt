pub mod Deciding
pub mod Standing
pub mod Tracing
pub mod Verdicts
pub mod Planning
pub mod Answering
pub mod Computed
