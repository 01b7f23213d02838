pub mod Wholes
pub mod Lines
pub mod Ranges
pub mod Places
pub mod Certificates
pub mod Events
pub mod Faults
pub mod Laws
