pub mod Publications
pub mod Counting
pub mod Boards
pub mod Rule
pub mod Sights
