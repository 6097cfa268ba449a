-- What a list from the start leaves.
pub mod Lists
