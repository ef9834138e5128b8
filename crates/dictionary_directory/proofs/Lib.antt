pub mod LayingFacts
pub mod KeptLaws
pub mod BlockLaws
pub mod FillingLaws
pub mod AloneLaws
pub mod DirectoryLaws
pub mod Examples
pub mod Arms
