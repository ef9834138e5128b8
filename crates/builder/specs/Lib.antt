pub mod Build
pub mod Through
pub mod Reading
pub mod BuildLaws
pub mod Finishing
pub mod BeginningLaws
pub mod MsgTypeLaws
