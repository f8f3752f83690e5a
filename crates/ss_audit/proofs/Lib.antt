pub mod Alike
pub mod Lists
pub mod Rising
pub mod Valid
pub mod GoingOn
pub mod Verdicts
pub mod Terms
pub mod OneVerdict
