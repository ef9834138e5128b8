pub mod FrameExact
pub mod VerdictLaws
