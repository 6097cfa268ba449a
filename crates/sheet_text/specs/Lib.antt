-- Sheets and their texts, what is made of a text, and how a text is read byte by byte.
pub mod Sheet
pub mod Made
pub mod Scan
pub mod Emit
pub mod Places
pub mod SheetTrials
