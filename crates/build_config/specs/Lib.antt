pub mod Settings
pub mod SettingsLaws
