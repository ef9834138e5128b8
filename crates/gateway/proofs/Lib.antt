pub mod Ensured
pub mod ExportedFramers
pub mod NoFreedom
