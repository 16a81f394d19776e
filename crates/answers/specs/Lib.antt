pub mod Turn
pub mod ReplyAnswer
