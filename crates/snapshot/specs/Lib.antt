pub mod Snapshot
