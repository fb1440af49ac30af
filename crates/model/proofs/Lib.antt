pub mod Numbers
pub mod Everything
pub mod Replay
pub mod Marked
pub mod Worked
