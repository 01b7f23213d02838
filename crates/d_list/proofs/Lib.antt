pub mod OrderLaws
pub mod Firsts
