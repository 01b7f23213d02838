pub mod Words
pub mod Asking
pub mod Places
pub mod Shows
pub mod Law
