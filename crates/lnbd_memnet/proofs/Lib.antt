pub mod Names
pub mod Telling
pub mod Numbered
pub mod Apart
pub mod Rules
pub mod Hosting
pub mod Lives
pub mod Wanted
