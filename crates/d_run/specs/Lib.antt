pub mod Record
pub mod Text
pub mod RecordText
pub mod Answer
pub mod Runs
pub mod Replies
pub mod Law
pub mod Prepared
