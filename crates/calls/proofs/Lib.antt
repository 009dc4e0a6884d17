pub mod CallLaws
pub mod ModelLaws
