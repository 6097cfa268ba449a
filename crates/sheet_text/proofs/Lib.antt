-- Laws of sheets and their texts.
pub mod Count
pub mod Letters
pub mod Texts
pub mod Parsing
pub mod Following
pub mod Emitting
pub mod Given
pub mod Turning
pub mod SheetTrials
