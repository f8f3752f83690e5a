pub mod Ids
pub mod Kinds
pub mod Marks
pub mod Payloads
pub mod Items
pub mod Records
