pub mod RunLaws
pub mod CommentLaws
pub mod WordLaws
pub mod Walk
