pub mod Exports
pub mod LentWords
pub mod Numbers
pub mod CallLaws
pub mod ComesBack
pub mod Again
pub mod Dealer
pub mod Prepared
