pub mod Scans
