pub mod Lists
pub mod Signed
pub mod Sixteen
pub mod Buffer
pub mod Replies
