pub mod FirstFailed
