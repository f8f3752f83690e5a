pub mod Lines
pub mod Apart
pub mod InParts
pub mod ToTheEnd
pub mod AtPlaces
pub mod Written
